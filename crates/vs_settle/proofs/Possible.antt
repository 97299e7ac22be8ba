-- Where the events of the service are possible, and what they give.
use Rattle.std.proofs.Common.{◌≡◌, ℕ, true, false, refl, sym, ap, subst, ◌∙◌, drop, length, List, [], ◌∷◌, Option, Some, None, Ok, Err}
use Rattle.std.specs.Prelude.{◌&&◌, not, min, is_some, IsOk}
use Rattle.vs_base.specs.declared.numbers.Mode.TheVariants.{Ro}
use Rattle.vs_rows.specs.RowMap.{RowMap}
use Rattle.vs_space.specs.declared.status.Status.TheVariants.{Sent, Garbage}
use Rattle.vs_collect.specs.Collect.{condemned, wiped, forgotten}
use Rattle.vs_collect.specs.declared.unmet.Unmet.{Unmet}
use Rattle.vs_event.specs.declared.event.Event.{Event}
use Rattle.vs_event.specs.declared.reason.Reason.{Reason}
use Rattle.vs_event.specs.declared.reason.Reason.TheVariants as reason
use Rattle.vs_link.specs.Connection as link
use Rattle.vs_link.specs.declared.message.Heard.{Heard}
use Rattle.vs_machine.specs.Check.{◌>>=◌, ◌>>◌, needs, wants}
use Rattle.vs_machine.specs.State.{State, has_set, has_bucket, references, put_bucket, with_entry, put_rows}
use Rattle.vs_machine.specs.Kinds.Connections.{first_call, first_reply, deliver, after_deliver, hear, after_hear, asked_set, is_null}
use Rattle.vs_machine.specs.Kinds.Recovery.{may_ask, is_live, ask, after_ask}
use Rattle.vs_machine.specs.Kinds.Collection.{allowed, condemn, wipe, forget}
use Rattle.vs_machine.specs.Actors.{IsPossible}
use Rattle.vs_machine.specs.Step.{step}
use Rattle.std.specs.Prelude.{Bool, Result}

pub needs_true : {B : Type 0} (t : Bool) (r : Reason) (rest : Result B Reason) → t ≡ true → (needs t r >> rest) ≡ rest
needs_true t r rest e = ap (λ u. needs u r >> rest) e

wants_some : {A B : Type 0} (o : Option A) (r : Reason) (f : A → Result B Reason) (x : A) → o ≡ Some x → (wants o r >>= f) ≡ f x
wants_some o r f x e = ap (λ u. wants u r >>= f) e

-- an event is possible where there is a state after it
pub possible : (s t : State) (e : Event) → step s e ≡ Ok t → IsPossible s e
possible s t e is = subst (λ (r : Result State Reason). IsOk r) (sym is) refl

pub next_of : {A : Type 0} (r : Result A Reason) → IsOk r → (t : A) × (r ≡ Ok t)
next_of (Ok t) h = (t, refl)
next_of (Err e) h = absurd (cc h)

allowed_ok : {A B : Type 0} (r : Result A Unmet) (rest : Result B Reason) (x : A) → r ≡ Ok x → (allowed r >> rest) ≡ rest
allowed_ok r rest x e = ap (λ u. allowed u >> rest) e

some_rows : (rows : RowMap) → is_null rows ≡ false → wiped (Some Garbage) rows ≡ Ok (min 1000 (length rows))
some_rows (row ∷ rows) h = refl
some_rows [] h = absurd cc

no_rows : {A : Type 0} (xs : List A) → is_null xs ≡ true → length xs ≡ 0
no_rows [] h = refl
no_rows (x ∷ xs) h = absurd cc

both : (p q : Bool) → p ≡ true → q ≡ true → (p && q) ≡ true
both p q a b = ap (λ t. t && q) a ∙ b

module _ (s : State) (x y : ℕ) (from : has_set s x ≡ true) (to : has_set s y ≡ true) where
  pub deliver_is : (m : link.Sent) → first_call s x y ≡ Some m → deliver s x y ≡ Ok (after_deliver s x y m m.message)
  deliver_is m head = needs_true (has_set s x && has_set s y) reason.Unknown _ (both _ _ from to) ∙ wants_some (first_call s x y) reason.Empty _ m head

  pub hear_is : (r : Heard) → first_reply s x y ≡ Some r → hear s x y ≡ Ok (after_hear s x y r)
  hear_is r head = needs_true (has_set s x && has_set s y) reason.Unknown _ (both _ _ from to) ∙ wants_some (first_reply s x y) reason.Empty _ r head

module _ (s : State) (x b : ℕ) (set : has_set s x ≡ true) (bucket : has_bucket s b ≡ true) (up : s.up x ≡ true) where
  pub ask_is : (y : ℕ) → asked_set ((s.bucket b).entry x) ≡ Some y → may_ask ((s.bucket b).entry x) ((s.bucket b).transfer x) ≡ true → s.up y ≡ true
      → is_live ((s.bucket b).ask x) (s.link x y).epoch ≡ false → ask s x b ≡ Ok (after_ask s x b y)
  ask_is y named may there fresh =
      needs_true (has_set s x && has_bucket s b) reason.Unknown _ (both _ _ set bucket)
      ∙ needs_true (s.up x) (reason.Down x) _ up
      ∙ wants_some (asked_set ((s.bucket b).entry x)) (reason.Unfit ((s.bucket b).entry x)) _ y named
      ∙ needs_true (may_ask ((s.bucket b).entry x) ((s.bucket b).transfer x)) reason.Live _ may
      ∙ needs_true (s.up y) (reason.Down y) _ there
      ∙ needs_true (not (is_live ((s.bucket b).ask x) (s.link x y).epoch)) reason.Live _ (ap not fresh)

  pub condemn_is : (d : ℕ) → (s.bucket b).entry x ≡ Some (Sent d) → (s.bucket b).transfer x ≡ None → references s Ro x b ≡ 0
      → condemn s x b ≡ Ok (put_bucket s b (with_entry (s.bucket b) x (Some Garbage)))
  condemn_is d sent free unheld =
      needs_true (has_set s x && has_bucket s b) reason.Unknown _ (both _ _ set bucket)
      ∙ needs_true (s.up x) (reason.Down x) _ up
      ∙ allowed_ok (condemned ((s.bucket b).entry x) (is_some ((s.bucket b).transfer x)) (references s Ro x b)) _ tt (λ i. condemned (sent i) (is_some (free i)) (unheld i))

  pub wipe_is : (s.bucket b).entry x ≡ Some Garbage → is_null ((s.bucket b).rows x) ≡ false
      → wipe s x b ≡ Ok (put_bucket s b (put_rows (s.bucket b) x (drop 1000 ((s.bucket b).rows x))))
  wipe_is garbage some =
      needs_true (has_set s x && has_bucket s b) reason.Unknown _ (both _ _ set bucket)
      ∙ needs_true (s.up x) (reason.Down x) _ up
      ∙ allowed_ok (wiped ((s.bucket b).entry x) ((s.bucket b).rows x)) _ (min 1000 (length ((s.bucket b).rows x))) (ap (λ e. wiped e ((s.bucket b).rows x)) garbage ∙ some_rows _ some)

  pub forget_is : (s.bucket b).entry x ≡ Some Garbage → is_null ((s.bucket b).rows x) ≡ true
      → forget s x b ≡ Ok (put_bucket s b (with_entry (s.bucket b) x None))
  forget_is garbage none =
      needs_true (has_set s x && has_bucket s b) reason.Unknown _ (both _ _ set bucket)
      ∙ needs_true (s.up x) (reason.Down x) _ up
      ∙ allowed_ok (forgotten ((s.bucket b).entry x) (length ((s.bucket b).rows x))) _ tt (λ i. forgotten (garbage i) (no_rows _ none i))
