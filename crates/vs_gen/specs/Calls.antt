-- The calls that are generated.
use Rattle.std.specs.Prelude.{ℕ, ◌+◌, ◌*◌, ◌%◌, nat_eq, if◌then◌else◌, List, [], ◌∷◌, ◌++◌, map, codes, decimal}
use Rattle.std.specs.List.{range_with_len}
use Rattle.vs_base.specs.declared.numbers.Mode.{Mode}
use Rattle.vs_base.specs.declared.numbers.Mode.TheVariants.{Ro, Rw}
use Rattle.vs_rows.specs.declared.op.Op.{Op}
use Rattle.vs_rows.specs.declared.op.Op.TheVariants as op
use Rattle.vs_script.specs.Calls.{Call}
use Rattle.vs_gen.specs.declared.kind.Kind.{Kind}
use Rattle.vs_gen.specs.declared.kind.Kind.TheVariants.{Get, Put, InsertAndCount, CountAndScan}
use Rattle.vs_gen.specs.Draws.{draw}

-- ---- what one draw decides

abbrev pub bucket_of : ℕ → ℕ
bucket_of p = 1 + p % 3000

abbrev pub key_of : ℕ → List ℕ
key_of q = codes "k" ++ decimal (q % 100)

abbrev pub value_of : ℕ → List ℕ
value_of t = codes "v" ++ decimal (t % 1000)

abbrev pub kind_of : ℕ → Kind
kind_of r =
    if nat_eq (r % 4) 0 then Get
    else (if nat_eq (r % 4) 1 then Put
    else (if nat_eq (r % 4) 2 then InsertAndCount else CountAndScan))

-- ---- a call

abbrev pub mode_of : Kind → Mode
mode_of Get = Ro
mode_of Put = Rw
mode_of InsertAndCount = Rw
mode_of CountAndScan = Ro

-- the operations of a kind, with a key and a value
abbrev pub ops_of : Kind → List ℕ → List ℕ → List Op
ops_of Get key value = op.Get key ∷ []
ops_of Put key value = op.Put key value ∷ []
ops_of InsertAndCount key value = op.Insert key value ∷ op.Count ∷ []
ops_of CountAndScan key value = op.Count ∷ op.Scan key 5 ∷ []

-- the call that four draws make
unfoldable pub call_of : ℕ → ℕ → ℕ → ℕ → Call
call_of p q r t = record {
  mode = mode_of (kind_of r);
  bucket = bucket_of p;
  ops = ops_of (kind_of r) (key_of q) (value_of t);
}

-- ---- calls one after the other

-- of all calls that are drawn from n, the one of this index, from 0
unfoldable pub drawn_call : ℕ → ℕ → Call
drawn_call n i =
    call_of (draw n (4 * i + 1)) (draw n (4 * i + 2)) (draw n (4 * i + 3)) (draw n (4 * i + 4))

-- so many of them, from this one on
unfoldable pub drawn_calls : ℕ → ℕ → ℕ → List Call
drawn_calls n first many = map (drawn_call n) (range_with_len first many)

-- the calls of so many clients, each with so many, those of the first client being drawn first
unfoldable pub drawn_clients : ℕ → ℕ → ℕ → List (List Call)
drawn_clients n clients each =
    map (λ c. drawn_calls n (each * c) each) (range_with_len 0 clients)
