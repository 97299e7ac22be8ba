-- How `play` ends, by the names of its files in place of its words.
use Rattle.std.proofs.Common.{◌≡◌, ◌≤◌, ℕ, true, List, [], ◌∷◌, length, codes, Some, refl, ap, ◌∙◌, subst, inl, inr, arith}
use Rattle.std.specs.Prelude.{nat_le}
use Rattle.std.specs.List.{list_all}
use Rattle.std.proofs.lemmas.Bool.{and_parts}
use Rattle.std.proofs.lemmas.Bool.Decides.{nat_tests}
use Rattle.vs_command.specs.Command.{command_in}
use Rattle.vs_command.specs.Command as command
use Rattle.vs_command.specs.Word.{Text, is_plain}
use Rattle.vs_command.specs.declared.command.TheConstants.{MOST_FILES}
use Rattle.vs_command.specs.declared.verbs.Verbs.{Verbs}
use Rattle.vs_inputs.specs.Words.{Names, IsCommand, files, is_file_word}
use Rattle.vs_top.proofs.Files.{same_names}
use Rattle.vs_top.specs.declared.fault.Fault.{Fault}
use Rattle.vs_top.specs.declared.fault.Fault.TheVariants as faults
use Rattle.vs_top.specs.Endings.{Outside, ByCommand, CanBePlayed, Ends, IsCause, IsFilesCause, IsGood, IsPlayed, MayEndWith}
use Rattle.vs_main.specs.Endings.{PlayEnds}
use Rattle.vs_main.specs.Good.{PlayEndsWell}
use Rattle.vs_main.proofs.Words.{spelled}

-- ---- the words

same_word : (w : Text) → is_file_word w ≡ is_plain w
same_word [] = refl
same_word (b ∷ bs) = refl

file_words : (ws : List Text) → list_all is_plain ws ≡ true → list_all is_file_word ws ≡ true
file_words [] plain = refl
file_words (w ∷ ws) plain =
    let p = and_parts (is_plain w) (list_all is_plain ws) plain in
    let first : is_file_word w ≡ true = same_word w ∙ p.0 in
    rw first (file_words ws p.1)

few : (n : ℕ) → nat_le n 80 ≡ true → n ≤ 80
few n is = grind (arith, nat_tests, is)

-- the words are the command of these names
pub is_command : (verbs : Verbs) (words : List Text) (config events : Text) (scripts : List Text) → command_in verbs words ≡ Some (command.Play config events scripts) → IsCommand words (files config events scripts)
is_command verbs words config events scripts is =
    let s = spelled verbs words (command.Play config events scripts) is in
    let rest : s.rest ≡ config ∷ events ∷ scripts = s.after.0 in
    let plain : list_all is_plain s.rest ≡ true = (and_parts (is_plain (codes "play")) (list_all is_plain s.rest) s.plain).1 in
    let all : list_all is_plain (config ∷ events ∷ scripts) ≡ true = subst (λ (r : List Text). list_all is_plain r ≡ true) rest plain in
    record {
      command = codes "play";
      words_are = s.words_are ∙ ap (λ (r : List Text). codes "play" ∷ r) rest;
      play = record {
        command_is = refl;
        few = few (length scripts) (and_parts (nat_le 0 (length scripts)) (nat_le (length scripts) MOST_FILES) s.after.1).1;
        file_words = file_words (config ∷ events ∷ scripts) all;
      };
    }

-- ---- how it ends

module _ {D : Type 0} (words : List Text) (names : Names) (o : Outside D) (command : IsCommand words names) where
  by_names : (Holds : Names → Type 0) → ByCommand words Holds → Holds names
  by_names Holds by = subst Holds (same_names words by.names names by.command command) by.holds

  -- the fault has its cause, of these names
  cause_is : (fault : Fault) → IsCause fault words o → IsFilesCause fault o names
  cause_is faults.Words cause = absurd (cause.none names command)
  cause_is (faults.Text k fault) cause = by_names (IsFilesCause (faults.Text k fault) o) cause
  cause_is (faults.Event number reason) cause = by_names (IsFilesCause (faults.Event number reason) o) cause
  cause_is (faults.Read k) cause = by_names (IsFilesCause (faults.Read k) o) cause
  cause_is faults.Write cause = by_names (IsFilesCause faults.Write o) cause
  cause_is (faults.Disk x) cause = by_names (IsFilesCause (faults.Disk x) o) cause
  cause_is (faults.Journal x fault wanted) cause = by_names (IsFilesCause (faults.Journal x fault wanted) o) cause
  cause_is (faults.Incoherent bucket entries) cause = by_names (IsFilesCause (faults.Incoherent bucket entries) o) cause
  cause_is (faults.Full x) cause = by_names (IsFilesCause (faults.Full x) o) cause
  cause_is faults.NoMemory cause = by_names (IsFilesCause faults.NoMemory o) cause

  pub play_ends : (status : ℕ) → Ends status words o → PlayEnds status names o
  play_ends status (inl played) = inl (played.0, by_names (IsPlayed o) played.1)
  play_ends status (inr (fault, is, by)) = inr (fault, record { status_is = is; cause = cause_is fault by.cause; logged = by.logged })

  pub play_ends_well : (status : ℕ) → MayEndWith (0 ∷ 4 ∷ 9 ∷ []) IsGood status words o → MayEndWith (0 ∷ 9 ∷ []) CanBePlayed status words o → PlayEndsWell status names o
  play_ends_well status good possible = (
    λ holds none. good (record { names = names; command = command; holds = holds }) none,
    λ holds none. possible (record { names = names; command = command; holds = holds }) none,
  )
