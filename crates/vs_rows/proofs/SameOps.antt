-- Operations compared one by one.
use Rattle.std.proofs.Common.{◌≡◌, Bool, Decides, refl}
use Rattle.std.specs.Cmp.Lexicographic.{bytes_decides}
use Rattle.std.proofs.lemmas.Bool.{false≢true}
use Rattle.std.proofs.lemmas.Bool.Decides.{Decides-eqb, Decides-like, Decides-and}
use Rattle.vs_rows.specs.declared.op.Op.{Op}
use Rattle.vs_rows.specs.declared.op.Op.TheVariants.{Get, Put, Insert, Delete, Swap, Count, Scan}
use Rattle.vs_rows.specs.contracts.op.OpPartialEq.TheImpl.{eq-value}

abbrev pub same_op : Op → Op → Bool
same_op = eq-value.it

pub op_decides : (a b : Op) → Decides (same_op a b) (a ≡ b)
op_decides (Get k) (Get l) = Decides-like _ (λ p i. Get (p i)) (λ e. cc) (bytes_decides k l)
op_decides (Put k v) (Put l w) = Decides-like _ (λ p i. Put (p.0 i) (p.1 i)) (λ e. ((cc), (cc))) (Decides-and _ _ (bytes_decides k l) (bytes_decides v w))
op_decides (Insert k v) (Insert l w) = Decides-like _ (λ p i. Insert (p.0 i) (p.1 i)) (λ e. ((cc), (cc))) (Decides-and _ _ (bytes_decides k l) (bytes_decides v w))
op_decides (Delete k) (Delete l) = Decides-like _ (λ p i. Delete (p i)) (λ e. cc) (bytes_decides k l)
op_decides (Swap k u v) (Swap l w x) = Decides-like _ (λ p i. Swap (p.0 i) (p.1.0 i) (p.1.1 i)) (λ e. ((cc), ((cc), (cc)))) (Decides-and _ _ (bytes_decides k l) (Decides-and _ _ (bytes_decides u w) (bytes_decides v x)))
op_decides Count Count = (λ is. refl, λ same. refl)
op_decides (Scan k n) (Scan l m) = Decides-like _ (λ p i. Scan (p.0 i) (p.1 i)) (λ e. ((cc), (cc))) (Decides-and _ _ (bytes_decides k l) (Decides-eqb n m))
op_decides (Get _) _ = (λ is. absurd (false≢true is), λ same. cc)
op_decides (Put _ _) _ = (λ is. absurd (false≢true is), λ same. cc)
op_decides (Insert _ _) _ = (λ is. absurd (false≢true is), λ same. cc)
op_decides (Delete _) _ = (λ is. absurd (false≢true is), λ same. cc)
op_decides (Swap _ _ _) _ = (λ is. absurd (false≢true is), λ same. cc)
op_decides Count _ = (λ is. absurd (false≢true is), λ same. cc)
op_decides (Scan _ _) _ = (λ is. absurd (false≢true is), λ same. cc)
