-- A cluster may be told the generated configurations, and may run the generated scripts.
use Rattle.std.proofs.Common.{◌≡◌, ℕ, ◌+◌, ◌*◌, ◌<◌, ◌≤◌, zero, suc, List, [], ◌∷◌, length, get_or, refl, ap, sym, ◌∙◌, arith, lit<, lit≤}
use Rattle.std.specs.Prelude.{All}
use Rattle.std.specs.List.{sum_by, count_by, range_with_len}
use Rattle.std.proofs.lemmas.List.Elements.{All-cons, All-nil, All-map}
use Rattle.std.proofs.lemmas.List.Sums.{sum_by-le}
use Rattle.vs_rows.specs.declared.op.Op.TheVariants as op
use Rattle.vs_config.specs.declared.config.SetConfig.{SetConfig}
use Rattle.vs_config.specs.Lawful.{IsLawful}
use Rattle.vs_script.specs.Calls.{Call}
use Rattle.vs_script.specs.Lawful.{IsAllowedIn, IsCutOf, IsLawfulCall, IsLawfulCommand, IsShortScan, MayRunTogether, is_scan, scans_in}
use Rattle.vs_script.specs.declared.command.Command.TheVariants.{Balance}
use Rattle.vs_gen.specs.Calls.{call_of, drawn_call, drawn_calls, drawn_clients, key_of, kind_of, mode_of, ops_of, value_of}
use Rattle.vs_gen.specs.Configurations.{configuration_of, set_of, uuid_of}
use Rattle.vs_gen.specs.Draws.{draw}
use Rattle.vs_gen.specs.Generated.{scripts_of}
use Rattle.vs_gen.specs.declared.kind.Kind.{Kind}
use Rattle.vs_gen.specs.declared.kind.Kind.TheVariants.{Get, Put, InsertAndCount, CountAndScan}
use Rattle.vs_gen.proofs.DrawnCalls.{length-drawn_calls, length-drawn_clients}

one : {X : Type 0} (P : X → Type 0) (x : X) → P x → All P (x ∷ [])
one P x h = All-cons P x [] h (All-nil P)

two : {X : Type 0} (P : X → Type 0) (x y : X) → P x → P y → All P (x ∷ y ∷ [])
two P x y h k = All-cons P x (y ∷ []) h (one P y k)

-- ---- the configurations

uuid_at : (weight i : ℕ) (d : SetConfig) → i < 4 → (get_or (configuration_of weight).sets i d).uuid ≡ uuid_of (i + 1)
uuid_at weight zero d h = refl
uuid_at weight (suc zero) d h = refl
uuid_at weight (suc (suc zero)) d h = refl
uuid_at weight (suc (suc (suc zero))) d h = refl
uuid_at weight (suc (suc (suc (suc i)))) d h = absurd (omega arith)

pub lawful_configuration : (weight : ℕ) → weight ≤ 1000000 → IsLawful (configuration_of weight)
lawful_configuration weight small =
    let IsWeight : SetConfig → Type 0 = λ set. set.weight ≤ 1000000 in
    record {
      bucket_count = (lit≤ tt, lit≤ tt);
      threshold = lit≤ tt;
      max_receiving = (lit≤ tt, lit≤ tt);
      max_sending = (lit≤ tt, lit≤ tt);
      number_of_sets = (lit≤ tt, lit≤ tt);
      weights = All-cons IsWeight (set_of 1 weight) (set_of 2 1 ∷ set_of 3 1 ∷ set_of 4 1 ∷ []) small
          (All-cons IsWeight (set_of 2 1) (set_of 3 1 ∷ set_of 4 1 ∷ []) (lit≤ tt) (two IsWeight (set_of 3 1) (set_of 4 1) (lit≤ tt) (lit≤ tt)));
      uuids = λ i j d before within same.
          let numbers : i + 1 ≡ j + 1 = ap (λ bytes. get_or bytes 15 0) (sym (uuid_at weight i d (omega arith)) ∙ same ∙ uuid_at weight j d within) in
          absurd (omega arith);
      some_weight = (1, set_of 2 1, lit< tt, refl, lit≤ tt);
    }

-- ---- a call

allowed : (kind : Kind) (key value : List ℕ) → All (IsAllowedIn (mode_of kind)) (ops_of kind key value)
allowed Get key value = one (IsAllowedIn (mode_of Get)) (op.Get key) tt
allowed Put key value = one (IsAllowedIn (mode_of Put)) (op.Put key value) tt
allowed InsertAndCount key value = two (IsAllowedIn (mode_of InsertAndCount)) (op.Insert key value) op.Count tt tt
allowed CountAndScan key value = two (IsAllowedIn (mode_of CountAndScan)) op.Count (op.Scan key 5) tt tt

short : (kind : Kind) (key value : List ℕ) → All IsShortScan (ops_of kind key value)
short Get key value = one IsShortScan (op.Get key) tt
short Put key value = one IsShortScan (op.Put key value) tt
short InsertAndCount key value = two IsShortScan (op.Insert key value) op.Count tt tt
short CountAndScan key value = two IsShortScan op.Count (op.Scan key 5) tt (lit≤ tt, lit≤ tt)

few : (kind : Kind) (key value : List ℕ) → (1 ≤ length (ops_of kind key value)) × (length (ops_of kind key value) ≤ 16)
few Get key value = (lit≤ tt, lit≤ tt)
few Put key value = (lit≤ tt, lit≤ tt)
few InsertAndCount key value = (lit≤ tt, lit≤ tt)
few CountAndScan key value = (lit≤ tt, lit≤ tt)

lawful_call : (p q r t : ℕ) → IsLawfulCall 3000 (call_of p q r t)
unfolding call_of
lawful_call p q r t = record {
  bucket = (omega arith, omega arith);
  count = few (kind_of r) (key_of q) (value_of t);
  allowed = allowed (kind_of r) (key_of q) (value_of t);
  scans = short (kind_of r) (key_of q) (value_of t);
}

scans_of : (kind : Kind) (key value : List ℕ) → count_by is_scan (ops_of kind key value) ≤ 1
scans_of Get key value = lit≤ tt
scans_of Put key value = lit≤ tt
scans_of InsertAndCount key value = lit≤ tt
scans_of CountAndScan key value = lit≤ tt

one_scan : (p q r t : ℕ) → count_by is_scan (call_of p q r t).ops ≤ 1
unfolding call_of
one_scan p q r t = scans_of (kind_of r) (key_of q) (value_of t)

-- ---- all calls

each_call : (P : Call → Type 0) → ((p q r t : ℕ) → P (call_of p q r t)) → (n first many : ℕ) → All P (drawn_calls n first many)
unfolding drawn_calls drawn_call
each_call P holds n first many =
    All-map P (drawn_call n) (range_with_len first many)
    (λ k d h. holds (draw n (4 * get_or (range_with_len first many) k d + 1)) (draw n (4 * get_or (range_with_len first many) k d + 2)) (draw n (4 * get_or (range_with_len first many) k d + 3)) (draw n (4 * get_or (range_with_len first many) k d + 4)))

each_client : (P : List Call → Type 0) (n clients each : ℕ) → ((first : ℕ) → P (drawn_calls n first each)) → All P (drawn_clients n clients each)
unfolding drawn_clients
each_client P n clients each holds =
    All-map P (λ c. drawn_calls n (each * c) each) (range_with_len 0 clients)
    (λ k d h. holds (each * get_or (range_with_len 0 clients) k d))

pub lawful_calls : (n clients each : ℕ) → All (All (IsLawfulCall 3000)) (drawn_clients n clients each)
lawful_calls n clients each =
    each_client (All (IsLawfulCall 3000)) n clients each (λ first. each_call (IsLawfulCall 3000) lawful_call n first each)

few_calls : (n clients each : ℕ) → sum_by length (drawn_clients n clients each) ≤ clients * each
few_calls n clients each =
    omega (
      arith,
      sum_by-le length each (drawn_clients n clients each)
          (each_client (λ calls. length calls ≤ each) n clients each (λ first. omega (arith, length-drawn_calls n first each))),
      ap (λ k. k * each) (length-drawn_clients n clients each),
    )

few_scans_of_one : (n first many : ℕ) → scans_in (drawn_calls n first many) ≤ many
few_scans_of_one n first many =
    omega (
      arith,
      sum_by-le (λ k. count_by is_scan k.ops) 1 (drawn_calls n first many)
          (each_call (λ k. count_by is_scan k.ops ≤ 1) one_scan n first many),
      length-drawn_calls n first many,
    )

few_scans : (n clients each : ℕ) → sum_by scans_in (drawn_clients n clients each) ≤ clients * each
few_scans n clients each =
    omega (
      arith,
      sum_by-le scans_in each (drawn_clients n clients each)
          (each_client (λ calls. scans_in calls ≤ each) n clients each (λ first. few_scans_of_one n first each)),
      ap (λ k. k * each) (length-drawn_clients n clients each),
    )

-- ---- the scripts

pub together : (n : ℕ) → MayRunTogether (scripts_of n)
together n =
    let clients = drawn_clients n 8 2500 in
    record {
      clients = omega (arith, length-drawn_clients n 8 2500);
      operators = lit≤ tt;
      few_calls = omega (arith, few_calls n 8 2500);
      few_scans = omega (arith, few_scans n 8 2500);
      few_commands = lit≤ tt;
      cuts = one (All (IsCutOf clients)) (Balance ∷ []) (one (IsCutOf clients) Balance tt);
    }

pub lawful_commands : (sets : ℕ) → All (All (IsLawfulCommand 3000 sets)) ((Balance ∷ []) ∷ [])
lawful_commands sets = one (All (IsLawfulCommand 3000 sets)) (Balance ∷ []) (one (IsLawfulCommand 3000 sets) Balance tt)
