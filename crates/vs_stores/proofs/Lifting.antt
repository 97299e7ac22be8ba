-- What a call of one store makes of the list of all.
use Rattle.std.proofs.Common.{◌≡◌, ◌≢◌, ⊎_elim, ℕ, suc, ◌<◌, ◌≤◌, ◌+◌, Bool, true, false, ◌==◌, if◌then◌else◌, List, [], ◌∷◌, ◌++◌, length, Option, Some, None, Result, Ok, Err, get_or, refl, sym, ap, subst, ◌∙◌, arith}
use Rattle.std.specs.Prelude.{slice_get, slice_set, OnOk, OnErr}
use Rattle.std.specs.Option.{option_map_or}
use Rattle.std.proofs.lemmas.Bool.{cases_eq}
use Rattle.std.proofs.lemmas.Bool.Decides.{Decides-eqb}
use Rattle.std.proofs.lemmas.List.{length-set}
use Rattle.std.proofs.lemmas.Option.{slice_get_read}
use Rattle.vs_disk.specs.declared.disk.Disk.{Ghosts}
use Rattle.vs_record.specs.Durable.{put}
use Rattle.vs_disk.specs.Told.{Told}
use Rattle.vs_record.specs.Change.{Change}
use Rattle.vs_store.specs.Holding.{Holds}
use Rattle.vs_store.proofs.Holding.{calm_awaits}
use Rattle.vs_store.specs.Store.{disk_of, told_of, limit_of, length_of}
use Rattle.vs_store.specs.declared.store.Store.{Store}
use Rattle.vs_stores.specs.Due.{Due, HoldsDue, awaiting}
use Rattle.vs_stores.specs.Limits.{HaveLimit}
use Rattle.vs_stores.specs.Numbered.{at_number}
use Rattle.vs_stores.specs.Stores.{stores_of, AllHold, IsCalmAt}
use Rattle.vs_stores.specs.declared.stores.Stores.{Stores}
use Rattle.vs_stores.proofs.Lists.{some_is, set_same, each_set, at_number_other, pushed}

not_eq : (a b : ℕ) → (a ≡ b → ⊥) → (a == b) ≡ false
not_eq a b ne = by (a == b) refl
  where
    by : (r : Bool) → (a == b) ≡ r → (a == b) ≡ false
    by true e = absurd (ne ((Decides-eqb a b).0 e))
    by false e = e

put_at : {A : Type 0} (f : ℕ → A) (b : ℕ) (v : A) (q : ℕ) → q ≡ b → put f b v q ≡ v
put_at f b v q e = ap (λ (r : Bool). if r then v else f q) ((Decides-eqb q b).1 e)

put_away : {A : Type 0} (f : ℕ → A) (b : ℕ) (v : A) (q : ℕ) → (q ≡ b → ⊥) → put f b v q ≡ f q
put_away f b v q ne = ap (λ (r : Bool). if r then v else f q) (not_eq q b ne)

-- ---- the store of a set

-- it stands at this place
pub record IsAt {D : Type 0} {disk : Ghosts D} (stores : List (Store D disk)) (x i : ℕ) (was : Store D disk) : Type 0 where
  pub number : i + 1 ≡ x
  pub within : i < length stores
  pub here : slice_get stores i ≡ Some was

pub found : {D : Type 0} {disk : Ghosts D} (stores : List (Store D disk)) (x i : ℕ) (was : Store D disk) → i + 1 ≡ x → (1 ≤ x) × (x ≤ length stores) → was ≡ get_or stores i was → IsAt stores x i was
found stores x i was number has is =
    let within : i < length stores = omega (arith, number, has.1) in
    record { number = number; within = within; here = slice_get_read stores (length stores) i was refl within is }

module _ {D : Type 0} {disk : Ghosts D} (stores : List (Store D disk)) (x i : ℕ) (was : Store D disk) (at : IsAt stores x i was) where
  suc_is : suc i ≡ x
  suc_is = omega (arith, at.number)

  pub at_x : at_number stores x ≡ Some was
  at_x = subst (λ (n : ℕ). at_number stores n ≡ Some was) suc_is at.here

  pub held : (due : ℕ → Due) → ((k : ℕ) (it : Store D disk) → slice_get stores k ≡ Some it → HoldsDue it (due (suc k))) → HoldsDue was (due x)
  held due all = subst (λ (n : ℕ). HoldsDue was (due n)) suc_is (all i was at.here)

  pub length_was : option_map_or length_of (at_number stores x) 0 ≡ length_of was
  length_was = ap (λ (o : Option (Store D disk)). option_map_or length_of o 0) at_x

  pub faults_was : option_map_or (λ (it : Store D disk). (told_of it).faults) (at_number stores x) 0 ≡ (told_of was).faults
  faults_was = ap (λ (o : Option (Store D disk)). option_map_or (λ (it : Store D disk). (told_of it).faults) o 0) at_x

  pub limit_was : (limit : ℕ) → HaveLimit limit stores → limit_of was ≡ limit
  limit_was limit have = have i was at.here

  -- what is said of it as it was
  pub of_was : (P : Store D disk → Type 0) → P was → (it : Store D disk) → at_number stores x ≡ Some it → P it
  of_was P p it e = subst P (some_is was it (sym at_x ∙ e)) p

  -- ---- after a call of it
  module _ (is : Store D disk) where
    pub at_x_now : at_number (slice_set stores i is) x ≡ Some is
    at_x_now = subst (λ (n : ℕ). at_number (slice_set stores i is) n ≡ Some is) suc_is (set_same stores i is at.within)

    pub turned : (due : ℕ → Due) (o : Due) → ((k : ℕ) (it : Store D disk) → slice_get stores k ≡ Some it → HoldsDue it (due (suc k))) → HoldsDue is o
        → (k : ℕ) (it : Store D disk) → slice_get (slice_set stores i is) k ≡ Some it → HoldsDue it (put due x o (suc k))
    turned due o all one = each_set (λ (k : ℕ) (it : Store D disk). HoldsDue it (put due x o (suc k))) stores i is
        (λ k it ne here. subst (HoldsDue it) (sym (put_away due x o (suc k) (λ e. ne (omega (arith, e, at.number))))) (all k it here))
        (subst (HoldsDue is) (sym (put_at due x o (suc i) suc_is)) one)

    pub still : (due : ℕ → Due) → ((k : ℕ) (it : Store D disk) → slice_get stores k ≡ Some it → HoldsDue it (due (suc k))) → HoldsDue is (due x)
        → (k : ℕ) (it : Store D disk) → slice_get (slice_set stores i is) k ≡ Some it → HoldsDue it (due (suc k))
    still due all one = each_set (λ (k : ℕ) (it : Store D disk). HoldsDue it (due (suc k))) stores i is (λ k it ne here. all k it here) (subst (λ (n : ℕ). HoldsDue is (due n)) (sym suc_is) one)

    pub of_is : (P : Store D disk → Type 0) → P is → (it : Store D disk) → at_number (slice_set stores i is) x ≡ Some it → P it
    of_is P p it e = subst P (some_is is it (sym at_x_now ∙ e)) p

    pub of_both : (P : Store D disk → Store D disk → Type 0) → P was is → (a b : Store D disk) → at_number stores x ≡ Some a → at_number (slice_set stores i is) x ≡ Some b → P a b
    of_both P p a b e f = of_is (P a) (of_was (λ (it : Store D disk). P it is) p a e) b f

    pub length_now : option_map_or length_of (at_number (slice_set stores i is) x) 0 ≡ length_of is
    length_now = ap (λ (o : Option (Store D disk)). option_map_or length_of o 0) at_x_now

    pub limits_now : (limit : ℕ) → HaveLimit limit stores → limit_of is ≡ limit_of was → HaveLimit limit (slice_set stores i is)
    limits_now limit have same = each_set (λ (k : ℕ) (it : Store D disk). limit_of it ≡ limit) stores i is (λ k it ne here. have k it here) (same ∙ limit_was limit have)

    pub count_now : length (slice_set stores i is) ≡ length stores
    count_now = length-set stores i is

    pub others_now : (y : ℕ) → y ≢ x → at_number (slice_set stores i is) y ≡ at_number stores y
    others_now y ne = at_number_other stores i is y (λ e. ne (e ∙ suc_is))

-- a disk that is the same tells the same
pub same_told : {D : Type 0} {disk : Ghosts D} (old new : Store D disk) → disk_of new ≡ disk_of old → (P : Told → Type 0) → P (told_of old) → P (told_of new)
same_told {D = D} {disk = disk} old new same P p = subst (λ (d : D). P (disk.told d)) (sym same) p

-- where nothing is left to forget, a change may be pending that isn't there
pub all_await : {D : Type 0} {disk : Ghosts D} (all : Stores D disk) (due : ℕ → Due) (x : ℕ) (c : Change) → IsCalmAt all x → (due x).pending ≡ None → AllHold all due → AllHold all (put due x (awaiting (due x) c))
all_await {D = D} {disk = disk} all due x c calm none holds i it here = ⊎_elim same (λ ne. subst (HoldsDue it) (sym (put_away due x (awaiting (due x) c) (suc i) ne)) (holds i it here)) (cases_eq (suc i) x)
  where
    same : suc i ≡ x → HoldsDue it (put due x (awaiting (due x) c) (suc i))
    same e =
        let at : at_number (stores_of all) x ≡ Some it = subst (λ (n : ℕ). at_number (stores_of all) n ≡ Some it) e here in
        let bare : Holds it (due x).head (due x).state None = subst (Holds it (due x).head (due x).state) none (subst (λ (n : ℕ). HoldsDue it (due n)) e (holds i it here)) in
        subst (HoldsDue it) (sym (put_at due x (awaiting (due x) c) (suc i) e)) (calm_awaits it (due x).head (due x).state c (calm it at) bare)

-- one store more
pub limits_push : {D : Type 0} {disk : Ghosts D} (limit : ℕ) (stores stores' : List (Store D disk)) (it : Store D disk) → stores' ≡ stores ++ it ∷ [] → HaveLimit limit stores → limit_of it ≡ limit → HaveLimit limit stores'
limits_push {D = D} {disk = disk} limit stores stores' it is have same i other at = ⊎_elim (λ h. have i other h.1) (λ h. subst (λ (s : Store D disk). limit_of s ≡ limit) h.1 same) (pushed stores it i other (subst (λ (l : List (Store D disk)). slice_get l i ≡ Some other) is at))

-- ---- what is said of a result

pub on_ok : {T E : Type 0} (r : Result T E) (P Q : Type 0) → OnOk r P → (P → Q) → OnOk r Q
on_ok (Ok x) P Q p so = so p
on_ok (Err e) P Q p so = tt

pub on_err : {T E : Type 0} (r : Result T E) (P Q : Type 0) → OnErr r P → (P → Q) → OnErr r Q
on_err (Ok x) P Q p so = tt
on_err (Err e) P Q p so = so p
