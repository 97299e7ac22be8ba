-- All files are read, and gathered.
use Rattle.std.proofs.Common.{◌≡◌, ◌⊎◌, ℕ, List, [], ◌∷◌, length, take, get_or, refl, sym, subst, inl, inr}
use Rattle.vs_base.specs.declared.numbers.Mode.{Mode}
use Rattle.vs_base.specs.declared.numbers.Mode.TheVariants.{Ro, Rw}
use Rattle.vs_config.specs.Configuration.{Configuration}
use Rattle.vs_host.specs.Told.{Told}
use Rattle.vs_inputs.specs.declared.fault.TextFault.TheVariants as text
use Rattle.vs_inputs.specs.Files.{Files}
use Rattle.vs_inputs.specs.Reading.{OnlyReads}
use Rattle.vs_inputs.proofs.Good.{same_script}
use Rattle.vs_script.specs.Calls.{Call}
use Rattle.vs_script.specs.Scripts.{Client}
use Rattle.vs_reads.specs.declared.fault.ReadsFault.{ReadsFault}
use Rattle.vs_reads.specs.declared.fault.ReadsFault.TheVariants as faults
use Rattle.vs_reads.specs.Causes.{IsCallsCause, IsFilesCause, IsGatherCause, IsInputCause, file_place, rows_place}
use Rattle.vs_reads.specs.Endings.{IsOfOutside}
use Rattle.vs_reads.specs.Given.{AreGiven, AreGood, AreGoodCalls, HasCalls, HasConfig, HaveCalls, IsGoodCalls, MayGather}
use Rattle.vs_reads.specs.Names.{Names}
use Rattle.vs_reads.proofs.Files.{calls_before, good_after}

-- ---- what was found after other files were read holds from the beginning on

pub have_before : (config : Configuration) (names : List (List ℕ)) (clients : List (List Call)) (old mid : Told) → OnlyReads old mid → HaveCalls config mid.file names clients → HaveCalls config old.file names clients
have_before config names clients old mid reads have = subst (λ (files : Files). HaveCalls config files names clients) reads.files.file have

pub rows_cause : (fault : ReadsFault) (names : Names) (config : Configuration) (old mid new : Told) → HasConfig old.file names config → OnlyReads old mid → IsCallsCause fault Rw config rows_place names.rows mid new → IsInputCause fault names old new
rows_cause fault names config old mid new has reads cause =
    inr (inl (record { config = config; config_file = has; cause = calls_before fault Rw config rows_place names.rows old mid new reads cause }))

pub clients_cause : (fault : ReadsFault) (names : Names) (config : Configuration) (writes : List Call) (old mid new : Told) → HasConfig old.file names config → HasCalls Rw config old.file names.rows writes → OnlyReads old mid → IsFilesCause fault config names.files mid new
    → IsInputCause fault names old new
clients_cause fault names config writes old mid new has rows reads c =
    inr (inr (inl (record {
      config = config;
      config_file = has;
      writes = writes;
      rows_file = rows;
      files = record {
        before = c.before;
        before_files = have_before config (take (length c.before) names.files) c.before old mid reads c.before_files;
        there = c.there;
        cause = calls_before fault Ro config (file_place (length c.before)) (get_or names.files (length c.before) []) old mid new reads c.cause;
      };
    })))

pub together_cause : (fault : ReadsFault) (names : Names) (config : Configuration) (writes : List Call) (clients : List (List Call)) (old new : Told) → HasConfig old.file names config → HasCalls Rw config old.file names.rows writes → HaveCalls config old.file names.files clients
    → IsGatherCause fault 1 (writes ∷ []) ⊎ IsGatherCause fault 2 clients → IsInputCause fault names old new
together_cause fault names config writes clients old new has rows have refused =
    inr (inr (inr (record { config = config; config_file = has; writes = writes; rows_file = rows; clients = clients; client_files = have; refused = refused })))

-- ---- what was read and gathered

pub are_given : (files : Files) (names : Names) (config : Configuration) (read writes : List Call) (each clients : List (List Call)) → HasConfig files names config → HasCalls Rw config files names.rows read → HaveCalls config files names.files each → writes ≡ read → clients ≡ each
    → MayGather (read ∷ []) → MayGather each → AreGiven files names writes clients
are_given files names config read writes each clients has rows have same alike alone together = record {
  config = config;
  config_file = has;
  rows_file = subst (λ (w : List Call). HasCalls Rw config files names.rows w) (sym same) rows;
  client_files = subst (λ (l : List (List Call)). HaveCalls config files names.files l) (sym alike) have;
  rows_gather = subst (λ (w : List Call). MayGather (w ∷ [])) (sym same) alone;
  clients_gather = subst MayGather (sym alike) together;
}

-- ---- good files are good over the configuration that was read, and after other files were read

pub good_calls_as : (mode : Mode) (read good : Configuration) (name : List ℕ) (calls : List Call) (old mid : Told) → read ≡ good → OnlyReads old mid → IsGoodCalls mode good old.file name calls → IsGoodCalls mode read mid.file name calls
good_calls_as mode read good name calls old mid same reads is = good_after mode read name calls old mid reads (subst (λ (c : Configuration). IsGoodCalls mode c old.file name calls) (sym same) is)

pub good_files_as : (read good : Configuration) (names : List (List ℕ)) (clients : List (List Call)) (old mid : Told) → read ≡ good → OnlyReads old mid → AreGoodCalls good old.file names clients → AreGoodCalls read mid.file names clients
good_files_as read good names clients old mid same reads are =
    subst (λ (files : Files). AreGoodCalls read files names clients) (sym reads.files.file) (subst (λ (c : Configuration). AreGoodCalls c old.file names clients) (sym same) are)

-- ---- what was read of good files is what they give

same_calls : (mode : Mode) (config : Configuration) (files : Files) (name : List ℕ) (x y : List Call) → HasCalls mode config files name x → IsGoodCalls mode config files name y → x ≡ y
same_calls mode config files name x y has good =
    let same : Client x ≡ Client y = same_script config files name (Client x) (Client y) has.file good.file in
    cc

same_files : (config : Configuration) (files : Files) (names : List (List ℕ)) (xs ys : List (List Call)) → HaveCalls config files names xs → AreGoodCalls config files names ys → xs ≡ ys
same_files config files [] [] [] have good = refl
same_files config files [] (x ∷ xs) ys have good = absurd have
same_files config files [] [] (y ∷ ys) have good = absurd good
same_files config files (n ∷ ns) [] ys have good = absurd have
same_files config files (n ∷ ns) (x ∷ xs) [] have good = absurd good
same_files config files (n ∷ ns) (x ∷ xs) (y ∷ ys) have good =
    let first = same_calls Ro config files n x y have.0 good.0 in
    let others = same_files config files ns xs ys have.1 good.1 in
    cc

gathers : (fault : ReadsFault) (before : ℕ) (clients : List (List Call)) → MayGather clients → IsGatherCause fault before clients → IsOfOutside fault
gathers (faults.Text k (text.Gather kind item)) before clients may cause = let no : ⊥ = cc (may.1, cause.2) in absurd no
gathers (faults.Text k other) before clients may cause = absurd cause
gathers (faults.NotReads k) before clients may cause = absurd cause
gathers (faults.Read k) before clients may cause = absurd cause
gathers faults.Write before clients may cause = absurd cause
gathers faults.NoMemory before clients may cause = tt

pub good_writes : (fault : ReadsFault) (files : Files) (names : Names) (config : Configuration) (writes : List Call) (good : AreGood files names) → config ≡ good.config → HasCalls Rw config files names.rows writes → IsGatherCause fault 1 (writes ∷ []) → IsOfOutside fault
good_writes fault files names config writes good same rows cause =
    let is : IsGoodCalls Rw config files names.rows good.writes = subst (λ (c : Configuration). IsGoodCalls Rw c files names.rows good.writes) (sym same) good.rows_file in
    let all : writes ≡ good.writes = same_calls Rw config files names.rows writes good.writes rows is in
    gathers fault 1 (writes ∷ []) (subst (λ (w : List Call). MayGather (w ∷ [])) (sym all) good.rows_gather) cause

pub good_clients : (fault : ReadsFault) (files : Files) (names : Names) (config : Configuration) (clients : List (List Call)) (good : AreGood files names) → config ≡ good.config → HaveCalls config files names.files clients → IsGatherCause fault 2 clients → IsOfOutside fault
good_clients fault files names config clients good same have cause =
    let are : AreGoodCalls config files names.files good.clients = subst (λ (c : Configuration). AreGoodCalls c files names.files good.clients) (sym same) good.client_files in
    let all : clients ≡ good.clients = same_files config files names.files clients good.clients have are in
    gathers fault 2 clients (subst MayGather (sym all) good.clients_gather) cause
