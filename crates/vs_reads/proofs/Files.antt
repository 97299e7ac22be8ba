-- Files that are read one after the other.
use Rattle.std.proofs.Common.{◌≡◌, ◌<◌, ◌+◌, ℕ, zero, suc, List, [], ◌∷◌, ◌++◌, length, take, get_or, sym, ◌∙◌, subst, ap, refl, arith, Result, Ok, Err, length-append}
use Rattle.std.specs.Prelude.{All, IfOk, IfErr}
use Rattle.std.proofs.lemmas.List.{take_more}
use Rattle.std.proofs.lemmas.List.Elements.{All-append, All-cons, All-nil}
use Rattle.vs_base.specs.declared.numbers.Mode.{Mode}
use Rattle.vs_base.specs.declared.numbers.Mode.TheVariants.{Ro}
use Rattle.vs_config.specs.Configuration.{Configuration}
use Rattle.vs_host.specs.Told.{Told}
use Rattle.vs_inputs.specs.declared.fault.InputFault.{InputFault}
use Rattle.vs_inputs.specs.declared.fault.InputFault.TheVariants as input
use Rattle.vs_inputs.specs.Files.{Files}
use Rattle.vs_inputs.specs.Gives.{GivesConfig, GivesScript}
use Rattle.vs_inputs.specs.Reading.{OnlyReads, IsFileCause, IsOutside}
use Rattle.vs_inputs.proofs.Causes.{reads_both, cause_before}
use Rattle.vs_inputs.proofs.Good.{same_script}
use Rattle.vs_base.specs.Listed.{Listed}
use Rattle.vs_reads.specs.Endings.{IsOfOutside}
use Rattle.vs_script.specs.declared.call.Call as code
use Rattle.vs_script.specs.Calls.{Call, call, calls}
use Rattle.vs_script.specs.Lawful.{IsLawfulCall, IsLawfulScript}
use Rattle.vs_script.specs.Scripts.{Script, Client}
use Rattle.vs_reads.specs.declared.fault.ReadsFault.{ReadsFault}
use Rattle.vs_reads.specs.declared.fault.ReadsFault.TheVariants as faults
use Rattle.vs_reads.specs.Causes.{IsConfigCause, IsCallsCause, IsFilesCause, config_place, file_place}
use Rattle.vs_reads.specs.Faults.{from_input}
use Rattle.vs_reads.specs.Given.{HasCalls, HasScript, HaveCalls, IsGoodCalls, AreGoodCalls, IsClientOf}
use Rattle.vs_reads.specs.Names.{Names}

-- ---- the fault of an input, as one of the command

pub config_cause : (fault : InputFault) (names : Names) (old new : Told) → IsFileCause fault config_place names.config GivesConfig old new → IsConfigCause (from_input fault) names old new
config_cause (input.Text k fault) names old new cause = cause
config_cause (input.Read k) names old new cause = cause
config_cause input.NoMemory names old new cause = tt

pub script_cause : (fault : InputFault) (mode : Mode) (config : Configuration) (place : ℕ) (name : List ℕ) (old new : Told) → IsFileCause fault place name (GivesScript config) old new
    → IsCallsCause (from_input fault) mode config place name old new
script_cause (input.Text k fault) mode config place name old new cause = cause
script_cause (input.Read k) mode config place name old new cause = cause
script_cause input.NoMemory mode config place name old new cause = tt

-- ---- what was found after other files were read holds from the beginning on

pub calls_before : (fault : ReadsFault) (mode : Mode) (config : Configuration) (place : ℕ) (name : List ℕ) (old mid new : Told) → OnlyReads old mid → IsCallsCause fault mode config place name mid new
    → IsCallsCause fault mode config place name old new
calls_before (faults.Text k fault) mode config place name old mid new reads cause = cause_before (input.Text k fault) place name (GivesScript config) old mid new reads cause
calls_before (faults.NotReads k) mode config place name old mid new reads cause = (cause.0, (cause.1.0, subst (λ (files : Files). HasScript config files name cause.1.0) reads.files.file cause.1.1, cause.1.2))
calls_before (faults.Read k) mode config place name old mid new reads cause = cause_before (input.Read k) place name (GivesScript config) old mid new reads cause
calls_before faults.Write mode config place name old mid new reads cause = cause
calls_before faults.NoMemory mode config place name old mid new reads cause = tt

pub has_before : (mode : Mode) (config : Configuration) (name : List ℕ) (calls : List Call) (old mid : Told) → OnlyReads old mid → HasCalls mode config mid.file name calls → HasCalls mode config old.file name calls
has_before mode config name calls old mid reads has = subst (λ (files : Files). HasCalls mode config files name calls) reads.files.file has

pub good_after : (mode : Mode) (config : Configuration) (name : List ℕ) (calls : List Call) (old mid : Told) → OnlyReads old mid → IsGoodCalls mode config old.file name calls → IsGoodCalls mode config mid.file name calls
good_after mode config name calls old mid reads good = subst (λ (files : Files). IsGoodCalls mode config files name calls) (sym reads.files.file) good

-- ---- the files of reads

-- the first of them were read, and gave these calls
pub record ReadSoFar (config : Configuration) (names : List (List ℕ)) (old mid : Told) (i : ℕ) (clients : List (List Call)) : Type 0 where
  pub host : OnlyReads old mid
  pub count : length clients ≡ i
  pub files : HaveCalls config old.file (take i names) clients
  pub lawful : All (All (IsLawfulCall config.bucket_count)) clients

have_more : (config : Configuration) (files : Files) (names : List (List ℕ)) (clients : List (List Call)) (name : List ℕ) (calls : List Call) → HaveCalls config files names clients → HasCalls Ro config files name calls
    → HaveCalls config files (names ++ name ∷ []) (clients ++ calls ∷ [])
have_more config files [] [] name calls have has = (has, tt)
have_more config files [] (x ∷ xs) name calls have has = absurd have
have_more config files (n ∷ ns) [] name calls have has = absurd have
have_more config files (n ∷ ns) (x ∷ xs) name calls have has = (have.0, have_more config files ns xs name calls have.1 has)

one_is : (P : List Call → Type 0) (one : List Call) → P one → All P (one ∷ [])
one_is P one holds zero d below = holds
one_is P one holds (suc k) d below = absurd (omega arith)

pub goes_on : (config : Configuration) (names : List (List ℕ)) (old mid new : Told) (i : ℕ) (clients : List (List Call)) (name : List ℕ) (calls : List Call) → ReadSoFar config names old mid i clients → i < length names → get_or names i [] ≡ name
    → OnlyReads mid new → HasCalls Ro config mid.file name calls → All (IsLawfulCall config.bucket_count) calls → ReadSoFar config names old new (i + 1) (clients ++ calls ∷ [])
goes_on config names old mid new i clients name calls so_far within name_is reads has lawful =
    let holds : HasCalls Ro config old.file (get_or names i []) calls = rw name_is (has_before Ro config name calls old mid so_far.host has) in
    record {
      host = reads_both old mid new so_far.host reads;
      count = length-append clients (calls ∷ []) ∙ ap (λ (n : ℕ). n + 1) so_far.count;
      files = rw (take_more names i [] within) (have_more config old.file (take i names) clients (get_or names i []) calls so_far.files holds);
      lawful = All-append (All (IsLawfulCall config.bucket_count)) clients (calls ∷ []) so_far.lawful (one_is (All (IsLawfulCall config.bucket_count)) calls lawful);
    }

pub stops : (config : Configuration) (names : List (List ℕ)) (fault : ReadsFault) (old mid new : Told) (i : ℕ) (clients : List (List Call)) (name : List ℕ) (place : ℕ) → ReadSoFar config names old mid i clients → i < length names → get_or names i [] ≡ name
    → place ≡ file_place i → IsCallsCause fault Ro config place name mid new → IsFilesCause fault config names old new
stops config names fault old mid new i clients name place so_far within name_is place_is cause = record {
  before = clients;
  before_files = rw so_far.count so_far.files;
  there = rw so_far.count within;
  cause = rw (so_far.count, name_is, ← place_is) (calls_before fault Ro config place name old mid new so_far.host cause);
}

good_at : (config : Configuration) (files : Files) (names : List (List ℕ)) (clients : List (List Call)) (i : ℕ) → i < length names → AreGoodCalls config files names clients → (calls : List Call) × IsGoodCalls Ro config files (get_or names i []) calls
good_at config files [] clients i within good = absurd (omega arith)
good_at config files (n ∷ ns) [] i within good = absurd good
good_at config files (n ∷ ns) (x ∷ xs) zero within good = (x, good.0)
good_at config files (n ∷ ns) (x ∷ xs) (suc i) within good = good_at config files ns xs i (omega arith) good.1

pub good_next : (config : Configuration) (names : List (List ℕ)) (clients : List (List Call)) (old mid : Told) (i : ℕ) (name : List ℕ) → i < length names → get_or names i [] ≡ name → OnlyReads old mid → AreGoodCalls config old.file names clients
    → (calls : List Call) × IsGoodCalls Ro config mid.file name calls
good_next config names clients old mid i name within name_is reads good =
    let at = good_at config old.file names clients i within good in
    (at.0, good_after Ro config name at.0 old mid reads (rw name_is at at.1))

-- ---- the calls of one file

pub outside : (fault : InputFault) → IsOutside fault → IsOfOutside (from_input fault)
outside (input.Text k fault) w = absurd w
outside (input.Read k) is = tt
outside input.NoMemory is = tt

pub given_calls : (mode : Mode) (config : Configuration) (files : Files) (name : List ℕ) (s : Script) (r : Result (Listed code.Call) ReadsFault) → HasScript config files name s → IfOk r (λ c. s ≡ Client (calls c.items)) → IfOk r (λ _. IsClientOf mode s)
    → IfOk r (λ c. HasCalls mode config files name (calls c.items))
given_calls mode config files name s (Ok c) has is all = record { file = subst (λ (s : Script). HasScript config files name s) is has; all = subst (IsClientOf mode) is all }
given_calls mode config files name s (Err e) has is all = tt

pub lawful_calls : (m n : ℕ) (s : Script) (r : Result (Listed code.Call) ReadsFault) → IsLawfulScript m n s → IfOk r (λ c. s ≡ Client (calls c.items)) → IfOk r (λ c. All (IsLawfulCall m) (calls c.items))
lawful_calls m n s (Ok c) lawful is = subst (IsLawfulScript m n) is lawful
lawful_calls m n s (Err e) lawful is = tt

pub not_reads : (mode : Mode) (config : Configuration) (place : ℕ) (name : List ℕ) (old new : Told) (s : Script) (r : Result (Listed code.Call) ReadsFault) → HasScript config old.file name s → IfErr r (λ fault. (fault ≡ faults.NotReads place) × ¬ (IsClientOf mode s))
    → IfErr r (λ fault. IsCallsCause fault mode config place name old new)
not_reads mode config place name old new s (Ok c) has err = tt
not_reads mode config place name old new s (Err e) has err = rw err.0 (refl, (s, has, err.1))

pub good_reads : (mode : Mode) (config : Configuration) (files : Files) (name : List ℕ) (place : ℕ) (good : List Call) (s : Script) (r : Result (Listed code.Call) ReadsFault) → HasScript config files name s → IsGoodCalls mode config files name good
    → IfErr r (λ fault. (fault ≡ faults.NotReads place) × ¬ (IsClientOf mode s)) → IfErr r IsOfOutside
good_reads mode config files name place good s (Ok c) has is err = tt
good_reads mode config files name place good s (Err e) has is err =
    let same : s ≡ Client good = same_script config files name s (Client good) has is.file in
    absurd (err.1 (rw same is.all))

-- ---- the mode of calls

pub modes_of : (mode : Mode) (given : List code.Call) → All (λ (k : code.Call). k.mode ≡ mode) given → All (λ (k : Call). k.mode ≡ mode) (calls given)
modes_of mode [] all = All-nil _
modes_of mode (x ∷ xs) all = All-cons (λ (k : Call). k.mode ≡ mode) (call x) (calls xs) (all zero x (omega arith)) (modes_of mode xs (λ k d below. all (suc k) d (omega arith)))

pub of_modes : (mode : Mode) (given : List code.Call) → All (λ (k : Call). k.mode ≡ mode) (calls given) → All (λ (k : code.Call). k.mode ≡ mode) given
of_modes mode [] all = All-nil _
of_modes mode (x ∷ xs) all = All-cons (λ (k : code.Call). k.mode ≡ mode) x xs (all zero (call x) (omega arith)) (of_modes mode xs (λ k d below. all (suc k) d (omega arith)))
