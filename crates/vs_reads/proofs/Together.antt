-- Scripts of clients that were gathered.
use Rattle.std.proofs.Common.{◌≡◌, ℕ, ◌+◌, ◌≤◌, List, [], ◌∷◌, ◌++◌, length, map, Result, Ok, Err, ap, sym, ◌∙◌, refl, arith, length-append}
use Rattle.std.specs.Prelude.{All}
use Rattle.std.specs.List.{sum_by}
use Rattle.std.proofs.lemmas.List.{length-map}
use Rattle.std.proofs.lemmas.List.Elements.{All-cons, All-nil}
use Rattle.std.proofs.lemmas.List.Sums.{sum_by-cons}
use Rattle.vs_base.specs.Listed.{Listed}
use Rattle.vs_script.specs.Calls.{Call, call, calls}
use Rattle.vs_script.specs.declared.call.Call as code
use Rattle.vs_inputs.specs.declared.fault.TextFault.TheVariants as text
use Rattle.vs_script.specs.declared.gather_fault.GatherFault.{GatherFault}
use Rattle.vs_script.specs.declared.gather_fault.GatherFault.TheVariants.{Bad}
use Rattle.vs_script.specs.declared.gather_fault.GatherKind.{GatherKind}
use Rattle.vs_script.specs.Gathering.{clients_in, gathering_of, numbered, tested}
use Rattle.vs_script.specs.Lawful.{MayRunTogether}
use Rattle.vs_script.specs.Scripts.{Script, Client, Scripts}
use Rattle.vs_script.specs.Words.{◌>>◌}
use Rattle.vs_reads.specs.declared.fault.ReadsFault.TheVariants as faults
use Rattle.vs_reads.specs.Causes.{IsGatherCause}
use Rattle.vs_reads.specs.Given.{MayGather}
use Rattle.vs_reads.proofs.Numbered.{ClientList, plain}

when_tested : (r : Result (Unit {0}) GatherFault) (n s : Scripts) → (r >> Ok n) ≡ Ok s → s ≡ n
when_tested (Ok u) n s is = cc
when_tested (Err e) n s is = cc

numbered_as : (scripts : List Script) (s : Scripts) → gathering_of scripts ≡ Ok s → s ≡ numbered scripts
unfolding gathering_of
numbered_as scripts s is = when_tested (tested scripts) (numbered scripts) s is

all_clients : (clients : List (List Call)) → clients_in (map Client clients) ≡ clients
all_clients [] = refl
all_clients (c ∷ clients) = ap (λ (l : List (List Call)). c ∷ l) (all_clients clients)

-- scripts of clients alone come back as they are
pub same_clients : (scripts : List Script) (clients : List (List Call)) (s : Scripts) → scripts ≡ map Client clients → gathering_of scripts ≡ Ok s → s.clients ≡ clients
same_clients scripts clients s are is =
    ap (λ (s : Scripts). s.clients) (numbered_as scripts s is) ∙ (ap clients_in are ∙ all_clients clients)

-- where all have few calls together, each has few
pub few_each : (most : ℕ) (clients : ClientList) → sum_by length (plain clients) ≤ most → All (λ c. length c.items ≤ most) clients
few_each most [] few = All-nil _
few_each most (c ∷ clients) few =
    let sum = sum_by-cons (λ (ks : List Call). length ks) (calls c.items) (plain clients) in
    let len : length (calls c.items) ≡ length c.items = length-map c.items call in
    All-cons (λ (c : Listed code.Call). length c.items ≤ most) c clients (omega (arith, sum, len, few)) (few_each most clients (omega (arith, sum, few)))

pub few_clients : (s : Scripts) (clients : ClientList) → MayRunTogether s → s.clients ≡ plain clients → (length clients ≤ 64) × All (λ c. length c.items ≤ 200000) clients
few_clients s clients may are =
    let len : length (plain clients) ≡ length clients = length-map clients (λ (c : Listed code.Call). calls c.items) in
    let same : length s.clients ≡ length (plain clients) = ap length are in
    let sum : sum_by length s.clients ≡ sum_by length (plain clients) = ap (sum_by length) are in
    (omega (arith, len, same, may.clients), few_each 200000 clients (omega (arith, sum, may.few_calls)))

-- scripts of clients alone may be gathered, or not, as their clients may
pub may_gather : (scripts : List Script) (clients : List (List Call)) (s : Scripts) → scripts ≡ map Client clients → gathering_of scripts ≡ Ok s → MayGather clients
may_gather scripts clients s are is = (s, sym (ap gathering_of are) ∙ is)

pub gather_cause : (scripts : List Script) (clients : List (List Call)) (before n place item : ℕ) (kind : GatherKind) → place ≡ before + n → scripts ≡ map Client clients → gathering_of scripts ≡ Err (Bad kind n item) → IsGatherCause (faults.Text place (text.Gather kind item)) before clients
gather_cause scripts clients before n place item kind at are is = (n, at, sym (ap gathering_of are) ∙ is)

-- the last one of a single client is that one
pub popped : (before after : ClientList) (w : Listed code.Call) (ks : List Call) → plain before ≡ ks ∷ [] → before ≡ after ++ w ∷ [] → calls w.items ≡ ks
popped before [] w ks one is =
    let same : plain (w ∷ []) ≡ ks ∷ [] = sym (ap plain is) ∙ one in
    cc
popped before (a ∷ after) w ks one is =
    let both : length before ≡ length ((a ∷ after) ++ w ∷ []) = ap length is in
    let more = length-append (a ∷ after) (w ∷ []) in
    let len : length (plain before) ≡ length before = length-map before (λ (c : Listed code.Call). calls c.items) in
    let single : length (plain before) ≡ length (ks ∷ []) = ap length one in
    absurd (omega (arith, both, more, len, single))
