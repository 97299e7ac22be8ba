-- What stands between the items of a line.
use Rattle.std.proofs.Common.{◌≡◌, ℕ, true, false, List, [], ◌∷◌, Ok, Err, refl}
use Rattle.std.specs.Prelude.{codes}
use Rattle.std.specs.Str.{bytes_eq}
use Rattle.vs_rows.specs.Said.{Said}
use Rattle.vs_rows.specs.declared.op.Op.{Op}
use Rattle.vs_audit.specs.Operations.{after_op, after_answer}
use Rattle.vs_audit.specs.Words.{Words, Read, Bad}

pub op_ended : (f : Words → Read (List Op)) (s rest : Words) (mark : List ℕ) → s ≡ mark ∷ rest → bytes_eq mark (codes "=>") ≡ true → after_op f s ≡ Ok ([], rest)
op_ended f s rest mark is ended = rw (is, ended) refl

pub op_next : (f : Words → Read (List Op)) (s rest : Words) (mark : List ℕ) → s ≡ mark ∷ rest → bytes_eq mark (codes "=>") ≡ false → bytes_eq mark (codes ";") ≡ true → after_op f s ≡ f rest
op_next f s rest mark is ended next = rw (is, ended, next) refl

pub op_bad : (f : Words → Read (List Op)) (s rest : Words) (mark : List ℕ) → s ≡ mark ∷ rest → bytes_eq mark (codes "=>") ≡ false → bytes_eq mark (codes ";") ≡ false → after_op f s ≡ Err Bad
op_bad f s rest mark is ended next = rw (is, ended, next) refl

pub op_none : (f : Words → Read (List Op)) (s : Words) → s ≡ [] → after_op f s ≡ Err Bad
op_none f s is = rw is refl

pub answer_next : (f : Words → Read (List Said)) (s rest : Words) (mark : List ℕ) → s ≡ mark ∷ rest → bytes_eq mark (codes ";") ≡ true → after_answer f s ≡ f rest
answer_next f s rest mark is next = rw (is, next) refl

pub answer_bad : (f : Words → Read (List Said)) (s rest : Words) (mark : List ℕ) → s ≡ mark ∷ rest → bytes_eq mark (codes ";") ≡ false → after_answer f s ≡ Err Bad
answer_bad f s rest mark is next = rw (is, next) refl

pub answer_none : (f : Words → Read (List Said)) (s : Words) → s ≡ [] → after_answer f s ≡ Ok ([], [])
answer_none f s is = rw is refl
