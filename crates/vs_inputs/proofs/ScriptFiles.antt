-- Scripts that are read one after the other.
use Rattle.std.proofs.Common.{◌≡◌, ℕ, ◌+◌, ◌<◌, List, [], ◌∷◌, ◌++◌, length, take, get_or, sym, ap, ◌∙◌, length-append, arith}
use Rattle.std.specs.Prelude.{All, Ok, IsTrue, zero, suc, String, string_bytes}
use Rattle.std.specs.Global.{Global}
use Rattle.std.proofs.lemmas.List.{get_or-map, take_more}
use Rattle.std.proofs.lemmas.List.Elements.{All-append}
use Rattle.vs_config.specs.Configuration.{Configuration}
use Rattle.vs_host.specs.Told.{Told}
use Rattle.vs_script.specs.Lawful.{IsLawfulScript}
use Rattle.vs_script.specs.Scripts.{Script}
use Rattle.vs_inputs.specs.declared.fault.InputFault.{InputFault}
use Rattle.vs_inputs.specs.Files.{HasText}
use Rattle.vs_inputs.specs.Gives.{GivesScript}
use Rattle.vs_inputs.specs.Inputs.{Each, HaveScripts, AreGoodScripts, IsScriptCause}
use Rattle.vs_inputs.specs.Reading.{OnlyReads, IsFileCause, IsGood}
use Rattle.vs_inputs.specs.Words.{texts}
use Rattle.vs_inputs.proofs.Causes.{reads_both, cause_before, text_before}

-- the first files were read, and gave these scripts
pub record ReadSoFar (config : Configuration) (names : List (List ℕ)) (old mid : Told) (i : ℕ) (given : List Script) : Type 0 where
  pub host : OnlyReads old mid
  pub count : length given ≡ i
  pub files : HaveScripts config old.file (take i names) given
  pub lawful : All (IsLawfulScript config.bucket_count (length config.sets)) given

each_more : (Holds : List ℕ → Script → Type 0) (names : List (List ℕ)) (given : List Script) (name : List ℕ) (one : Script) → Each Holds names given → Holds name one → Each Holds (names ++ name ∷ []) (given ++ one ∷ [])
each_more Holds [] [] name one each holds = (holds, tt)
each_more Holds [] (x ∷ xs) name one each holds = absurd each
each_more Holds (n ∷ ns) [] name one each holds = absurd each
each_more Holds (n ∷ ns) (x ∷ xs) name one each holds = (each.0, each_more Holds ns xs name one each.1 holds)

pub each_at : (Holds : List ℕ → Script → Type 0) (names : List (List ℕ)) (given : List Script) (i : ℕ) → i < length names → Each Holds names given → (one : Script) × Holds (get_or names i []) one
each_at Holds [] given i within each = absurd (omega arith)
each_at Holds (n ∷ ns) [] i within each = absurd each
each_at Holds (n ∷ ns) (x ∷ xs) zero within each = (x, each.0)
each_at Holds (n ∷ ns) (x ∷ xs) (suc i) within each = each_at Holds ns xs i (omega arith) each.1

-- the name of one of several files
pub name_at : (names : List (String Global)) (i : ℕ) (one : String Global) (name : List ℕ) → i < length names → one ≡ get_or names i one → name ≡ string_bytes one → get_or (texts names) i [] ≡ name
name_at names i one name within one_is name_is = get_or-map string_bytes names i one [] within ∙ (ap string_bytes (sym one_is) ∙ sym name_is)

one_is : (P : Script → Type 0) (one : Script) → P one → All P (one ∷ [])
one_is P one holds zero d below = holds
one_is P one holds (suc k) d below = absurd (omega arith)

pub may_read_next : (names : List (List ℕ)) (old mid : Told) (i : ℕ) (name : List ℕ) → OnlyReads old mid → All (λ n. IsTrue (old.may_read n)) names → i < length names → get_or names i [] ≡ name → IsTrue (mid.may_read name)
may_read_next names old mid i name reads may within name_is = rw (reads.files.may_read, ← name_is) (may i [] within)

pub goes_on : (config : Configuration) (names : List (List ℕ)) (old mid new : Told) (i : ℕ) (given : List Script) (name : List ℕ) (one : Script) → ReadSoFar config names old mid i given → i < length names → get_or names i [] ≡ name
    → OnlyReads mid new → HasText mid.file name (λ text. GivesScript config text (Ok one)) → IsLawfulScript config.bucket_count (length config.sets) one → ReadSoFar config names old new (i + 1) (given ++ one ∷ [])
goes_on config names old mid new i given name one so_far within name_is reads has lawful =
    let holds : HasText old.file (get_or names i []) (λ text. GivesScript config text (Ok one)) = rw name_is (text_before name (λ text. GivesScript config text (Ok one)) old mid so_far.host has) in
    record {
      host = reads_both old mid new so_far.host reads;
      count = length-append given (one ∷ []) ∙ ap (λ (n : ℕ). n + 1) so_far.count;
      files = rw (take_more names i [] within) (each_more (λ n s. HasText old.file n (λ text. GivesScript config text (Ok s))) (take i names) given (get_or names i []) one so_far.files holds);
      lawful = All-append (IsLawfulScript config.bucket_count (length config.sets)) given (one ∷ []) so_far.lawful (one_is (IsLawfulScript config.bucket_count (length config.sets)) one lawful);
    }

pub script_cause : (config : Configuration) (names : List (List ℕ)) (fault : InputFault) (old mid new : Told) (i : ℕ) (given : List Script) (name : List ℕ) (place first : ℕ) → ReadSoFar config names old mid i given → i < length names → get_or names i [] ≡ name → place ≡ first + i
    → IsFileCause fault place name (GivesScript config) mid new → IsScriptCause config first names fault old new
script_cause config names fault old mid new i given name place first so_far within name_is place_is cause = record {
  before = given;
  before_files = rw so_far.count so_far.files;
  there = rw so_far.count within;
  cause = rw (so_far.count, name_is, ← place_is) (cause_before fault place name (GivesScript config) old mid new so_far.host cause);
}

pub good_at : (config : Configuration) (names : List (List ℕ)) (scripts : List Script) (old : Told) (i : ℕ) (name : List ℕ) → i < length names → get_or names i [] ≡ name → AreGoodScripts config old.file names scripts
    → (one : Script) × IsGood old.file name (GivesScript config) one
good_at config names scripts old i name within name_is good =
    let at = each_at (λ n s. IsGood old.file n (GivesScript config) s) names scripts i within good in
    (at.0, rw name_is at at.1)
