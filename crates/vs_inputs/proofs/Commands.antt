-- Words that are a command.
use Rattle.std.proofs.Common.{◌≡◌, ℕ, ◌≤◌, ◌-◌, Bool, true, List, [], ◌∷◌, length, take, drop, get_or, refl, sym, ◌∙◌, arith}
use Rattle.std.specs.Prelude.{String, string_bytes, codes, IsTrue, ◌&&◌}
use Rattle.std.specs.Global.{Global}
use Rattle.std.specs.List.{list_all}
use Rattle.std.proofs.lemmas.Bool.{and_parts}
use Rattle.std.proofs.lemmas.List.{length-map, take_all}
use Rattle.std.proofs.lemmas.List.Folds.{list_all-map}
use Rattle.vs_inputs.specs.declared.words.TheConstants.{MOST_SCRIPTS}
use Rattle.vs_inputs.specs.Words.{Names, texts, files, is_file_word, IsPlay, IsCommand}

-- names that were tested one after the other, the scripts last
pub play_by_test : (command config events : List ℕ) (scripts : List (String Global)) (last : Bool) → command ≡ codes "play" → length scripts ≤ MOST_SCRIPTS → is_file_word config ≡ true → is_file_word events ≡ true
    → last ≡ list_all (λ word. is_file_word (string_bytes word)) scripts → (IsTrue last → IsPlay command (files config events (texts scripts))) × (IsPlay command (files config events (texts scripts)) → IsTrue last)
play_by_test command config events scripts last command_is few config_is events_is last_is =
    let of_texts : last ≡ list_all is_file_word (texts scripts) = last_is ∙ sym (list_all-map is_file_word string_bytes scripts) in (
      λ yes. record {
        command_is = command_is;
        few = rw length-map few;
        file_words = rw (config_is, events_is, ← of_texts) yes;
      },
      λ play. of_texts ∙ (and_parts (is_file_word events) (list_all is_file_word (texts scripts)) (and_parts (is_file_word config) (is_file_word events && list_all is_file_word (texts scripts)) play.file_words).1).1,
    )

-- the names of a command are its words
pub only_names : (command config events : List ℕ) (scripts : List (List ℕ)) (names : Names) → IsCommand (command ∷ config ∷ events ∷ scripts) names → IsPlay command (files config events scripts)
only_names command config events scripts names is =
    let command_is : is.command ≡ command = cc (is.words_are) in
    let config_is : names.config ≡ config = cc (is.words_are) in
    let events_is : names.events ≡ events = cc (is.words_are) in
    let scripts_are : names.scripts ≡ scripts = cc (is.words_are) in
    record {
      command_is = sym command_is ∙ is.play.command_is;
      few = rw (← scripts_are) is.play.few;
      file_words = rw (← config_is, ← events_is, ← scripts_are) is.play.file_words;
    }

-- the texts of three words and those after them
pub three_words : (words : List (String Global)) (a b c : String Global) → 3 ≤ length words → a ≡ get_or words 0 a → b ≡ get_or words 1 b → c ≡ get_or words 2 c
    → texts words ≡ string_bytes a ∷ string_bytes b ∷ string_bytes c ∷ texts (take (length words - 3) (drop 3 words))
three_words (x ∷ y ∷ z ∷ more) a b c three first second third = rw (first, second, third, take_all (length (x ∷ y ∷ z ∷ more) - 3) more (omega arith)) refl
three_words [] a b c three first second third = absurd (omega arith)
three_words (x ∷ []) a b c three first second third = absurd (omega arith)
three_words (x ∷ y ∷ []) a b c three first second third = absurd (omega arith)
