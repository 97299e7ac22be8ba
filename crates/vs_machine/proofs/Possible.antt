-- What is known of an event that is possible: each guard holds.
use Rattle.std.proofs.Common.{◌≡◌, Bool, true, false, refl, Option, Some, None, Result, Ok, Err}
use Rattle.std.specs.Prelude.{◌&&◌, is_none, not}
use Rattle.vs_event.specs.declared.reason.Reason.{Reason}
use Rattle.vs_machine.specs.Check.{◌>>=◌, ◌>>◌, needs, wants, wants_none}

pub needs_ok : {B : Type 0} (t : Bool) (r : Reason) (rest : Result B Reason) (y : B) → (needs t r >> rest) ≡ Ok y → (t ≡ true) × (rest ≡ Ok y)
needs_ok true r rest y e = (refl, e)
needs_ok false r rest y e = absurd cc

pub wants_ok : {A B : Type 0} (o : Option A) (r : Reason) (f : A → Result B Reason) (y : B) → (wants o r >>= f) ≡ Ok y → (x : A) × (o ≡ Some x) × (f x ≡ Ok y)
wants_ok (Some x) r f y e = (x, refl, e)
wants_ok None r f y e = absurd cc

pub wants_none_ok : {A B : Type 0} (o : Option A) (r : A → Reason) (rest : Result B Reason) (y : B) → (wants_none o r >> rest) ≡ Ok y → (o ≡ None) × (rest ≡ Ok y)
wants_none_ok None r rest y e = (refl, e)
wants_none_ok (Some x) r rest y e = absurd cc

pub bind_ok : {A B : Type 0} (r : Result A Reason) (f : A → Result B Reason) (y : B) → (r >>= f) ≡ Ok y → (x : A) × (r ≡ Ok x) × (f x ≡ Ok y)
bind_ok (Ok x) f y e = (x, refl, e)
bind_ok (Err d) f y e = absurd cc

abbrev done : {A : Type 0} → A → Result A Reason
done x = Ok x

pub ok_is : {A : Type 0} (x y : A) → done x ≡ done y → x ≡ y
ok_is x y e = cc

pub none_is : {A : Type 0} (o : Option A) → is_none o ≡ true → o ≡ None
none_is None e = refl
none_is (Some x) e = absurd cc

pub both_are : (p q : Bool) → (p && q) ≡ true → (p ≡ true) × (q ≡ true)
both_are true q e = (refl, e)
both_are false q e = absurd cc

pub not_is : (p : Bool) → not p ≡ true → p ≡ false
not_is true e = absurd cc
not_is false e = refl
