-- Disks that several calls went over.
use Rattle.std.proofs.Common.{ℕ, List, refl, sym, ◌∙◌, subst, arith}
use Rattle.std.specs.Prelude.{IfOk, IfErr, Result, Ok, Err}
use Rattle.vs_disk.specs.Told.{Told, Reads, Leaves, IsSynced}
use Rattle.vs_disk.specs.Model.{Keeps, IsLawful, LeavesThrough}
use Rattle.vs_disk.proofs.Runs.{started, joined_through, weakened_through}
use Rattle.vs_frame.specs.Unwritten.{IsUnwritten}

pub keeps_then : (a b c : Told) → Keeps a b → Keeps b c → Keeps a c
keeps_then a b c p q = record {
  stays_open = λ h. q.stays_open (p.stays_open h);
  reads = q.reads ∙ p.reads;
  honest = q.honest ∙ p.honest;
  room = omega (arith, p.room, q.room);
  faults = omega (arith, p.faults, q.faults);
}

pub unwritten_then : (a b c : Told) → IsUnwritten a b → IsUnwritten b c → IsUnwritten a c
unwritten_then a b c p q = record {
  reads = λ h. q.reads (p.keeps.reads ∙ h) ∙ p.reads h;
  crash = λ h x left. p.crash h x (q.crash (p.keeps.honest ∙ h) x left);
  any_moment = λ h. joined_through a b c a.may_leave p.keeps p.any_moment (weakened_through b c b.may_leave a.may_leave (λ x left. p.crash h x left) q.any_moment) h;
  keeps = keeps_then a b c p.keeps q.keeps;
}

pub unwritten_same : (a : Told) → IsLawful a → IsUnwritten a a
unwritten_same a laws = record {
  reads = λ h. refl;
  crash = λ h x left. left;
  any_moment = λ h. started a a.may_leave (λ x left. laws.only_now h x left);
  keeps = record { stays_open = λ h. h; reads = refl; honest = refl; room = omega arith; faults = omega arith };
}

-- what every image has, it has at each moment of calls that write nothing
pub still_leaves : (a b : Told) (P : List ℕ → Type 0) → IsUnwritten a b → Leaves a P → LeavesThrough a b P
still_leaves a b P p leaves honest = weakened_through a b a.may_leave P (λ x left. leaves honest x left) p.any_moment honest

-- and where no call was
pub here_leaves : (a : Told) (P : List ℕ → Type 0) → IsLawful a → Leaves a P → LeavesThrough a a P
here_leaves a P laws leaves honest = started a P (λ x left. leaves honest x (laws.only_now honest x left))

pub leaves_less : (a : Told) (P Q : List ℕ → Type 0) → ((x : List ℕ) → P x → Q x) → Leaves a P → Leaves a Q
leaves_less a P Q so leaves honest x left = so x (leaves honest x left)

-- a synced disk leaves what it reads as
pub synced_leaves : (a : Told) (P : List ℕ → Type 0) → IsLawful a → IsSynced a → Reads a P → Leaves a P
synced_leaves a P laws synced reads honest x left = subst P (sym (synced honest x left)) (reads (laws.reads_too honest))

pub unwritten_leaves : (a b : Told) (P : List ℕ → Type 0) → IsUnwritten a b → Leaves a P → Leaves b P
unwritten_leaves a b P p leaves still x left = let honest = sym p.keeps.honest ∙ still in leaves honest x (p.crash honest x left)

pub unwritten_reads : (a b : Told) (P : List ℕ → Type 0) → IsUnwritten a b → Reads a P → Reads b P
unwritten_reads a b P p reads still = let tells = sym p.keeps.reads ∙ still in subst P (sym (p.reads tells)) (reads tells)

-- ---- what a clause says of a result, told otherwise

pub ok_so : {T E : Type 0} (P Q : T → Type 0) (r : Result T E) → IfOk r P → ((x : T) → P x → Q x) → IfOk r Q
ok_so P Q (Ok x) p so = so x p
ok_so P Q (Err e) p so = tt

pub err_so : {T E : Type 0} (P Q : E → Type 0) (r : Result T E) → IfErr r P → ((e : E) → P e → Q e) → IfErr r Q
err_so P Q (Ok x) p so = tt
err_so P Q (Err e) p so = so e p
