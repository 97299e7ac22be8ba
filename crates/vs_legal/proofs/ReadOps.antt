-- Operations and answers are read from their words.
use Rattle.std.proofs.Common.{◌≡◌, ℕ, zero, suc, ◌<◌, ◌≤◌, ◌^◌, List, [], ◌∷◌, ◌++◌, length, Ok, refl, arith, append_assoc, lit<}
use Rattle.std.specs.Prelude.{codes}
use Rattle.std.specs.Fmt.{decimal}
use Rattle.std.specs.List.{AllByRecursion}
use Rattle.vs_rows.specs.Names.{IsKey, IsValue, key_limit, value_limit}
use Rattle.vs_rows.specs.declared.op.Op.{Op}
use Rattle.vs_rows.specs.declared.op.Op.TheVariants.{Get, Put, Insert, Delete, Swap, Count, Scan}
use Rattle.vs_audit.proofs.Names.{name_read}
use Rattle.vs_audit.proofs.Numbers.{number_read}
use Rattle.vs_audit.specs.Reading.{listed_at}
use Rattle.vs_audit.specs.Operations.{op_at, ops_at}
use Rattle.vs_audit.specs.Words.{Words, key_at, value_at, number_at}
use Rattle.vs_legal.specs.Named.{IsNamedOp}
use Rattle.vs_legal.proofs.Words.Operations.{op_words, more_ops, ops_words}

pub key_reads : (k : List ℕ) (rest : Words) → IsKey k → key_at (k ∷ rest) ≡ Ok (k, rest)
key_reads k rest is = name_read key_limit (k ∷ rest) rest k k refl refl is

pub value_reads : (v : List ℕ) (rest : Words) → IsValue v → value_at (v ∷ rest) ≡ Ok (v, rest)
value_reads v rest is = name_read value_limit (v ∷ rest) rest v v refl refl is

pub number_reads : (least most n : ℕ) (rest : Words) → most < 2 ^ 64 → least ≤ n → n ≤ most → number_at least most (decimal n ∷ rest) ≡ Ok (n, rest)
number_reads least most n rest fits low high = number_read least most (decimal n ∷ rest) rest (decimal n) n fits refl ((low, high), refl)

pub op_reads : (op : Op) (rest : Words) → IsNamedOp op → op_at (op_words op ++ rest) ≡ Ok (op, rest)
op_reads (Get k) rest is = rw (key_reads k rest is) refl
op_reads (Put k v) rest is = rw (key_reads k (v ∷ rest) is.0, value_reads v rest is.1) refl
op_reads (Insert k v) rest is = rw (key_reads k (v ∷ rest) is.0, value_reads v rest is.1) refl
op_reads (Delete k) rest is = rw (key_reads k rest is) refl
op_reads (Swap k old new) rest is = rw (key_reads k (old ∷ new ∷ rest) is.0, value_reads old (new ∷ rest) is.1, value_reads new rest is.2) refl
op_reads Count rest is = refl
op_reads (Scan k n) rest is = rw (key_reads k (decimal n ∷ rest) is.0, number_reads 1 100 n rest (lit< tt) is.1 is.2) refl

listed_ops : (more : ℕ) (op : Op) (ops : List Op) (rest : Words) → length ops ≤ more → IsNamedOp op → AllByRecursion IsNamedOp ops
    → ops_at (suc more) (op_words op ++ (more_ops ops ++ codes "=>" ∷ rest)) ≡ Ok (op ∷ ops, rest)
unfolding listed_at
listed_ops more op [] rest few is are = rw (op_reads op (codes "=>" ∷ rest) is) refl
listed_ops zero op (next ∷ ops) rest few is are = absurd (omega arith)
listed_ops (suc more) op (next ∷ ops) rest few is are =
    rw (
      op_reads op (codes ";" ∷ (op_words next ++ more_ops ops ++ codes "=>" ∷ rest)) is,
      append_assoc (op_words next) (more_ops ops) (codes "=>" ∷ rest),
      listed_ops more next ops rest (omega arith) are.0 are.1,
    ) refl

pub ops_read : (op : Op) (ops : List Op) (rest : Words) → length ops ≤ 15 → IsNamedOp op → AllByRecursion IsNamedOp ops
    → ops_at 16 (ops_words (op ∷ ops) ++ codes "=>" ∷ rest) ≡ Ok (op ∷ ops, rest)
ops_read op ops rest few is are = rw (append_assoc (op_words op) (more_ops ops) (codes "=>" ∷ rest)) (listed_ops 15 op ops rest few is are)
