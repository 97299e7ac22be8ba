-- The references that are to stand once a set went down: at that set none, and at the others what stood there.
use Rattle.std.proofs.Common.{◌≡◌, ℕ, zero, suc, ◌==◌, Bool, true, false, Option, Some, None, refl, sym, ap, ◌∙◌, arith}
use Rattle.std.specs.Prelude.{◌&&◌, if◌then◌else◌}
use Rattle.std.proofs.lemmas.Bool.{eqb-true}
use Rattle.std.proofs.lemmas.Bool.Decides.{nat_tests}
use Rattle.vs_base.specs.declared.numbers.Mode.{Mode}
use Rattle.vs_base.specs.declared.numbers.Mode.TheVariants.{Ro, Rw}
use Rattle.vs_calls.specs.declared.stage.Stage.{Stage}
use Rattle.vs_calls.specs.declared.stage.Stage.TheVariants as stage
use Rattle.vs_calls.specs.Progress.{is_at_set, is_held, lost}
use Rattle.vs_refs.specs.Counts.{no_counts}
use Rattle.vs_machine.specs.State as machine
use Rattle.vs_machine.specs.Tables.{count_to}
use Rattle.vs_machine.specs.Kinds.Collection.{is_garbage}
use Rattle.vs_machine.specs.Kinds.Rebalancing.{hauls_at, is_haul}
use Rattle.vs_machine.specs.Kinds.Stops.{gone_down, lost_at}
use Rattle.vs_state.specs.declared.state.State.{State}
use Rattle.vs_state.specs.Agrees.{Agrees, agreed}
use Rattle.vs_state.specs.Plain.{plain}
use Rattle.vs_core.specs.GoingDown.{ForgetsAt}

count_none : (n : ℕ) → count_to (λ k. false) n ≡ 0
count_none zero = refl
count_none (suc n) = let before : count_to (λ k. false) n ≡ 0 = count_none n in omega (arith, before)

and_false : (e : Bool) → (e && false) ≡ false
and_false true = refl
and_false false = refl

-- ---- a call that is lost where it is at set x

-- what isn't at a set holds nothing
held_at : (s : Stage) → is_at_set s ≡ false → is_held s ≡ false
held_at stage.Idle h = refl
held_at stage.Posted h = absurd (cc h)
held_at stage.Running h = absurd (cc h)
held_at stage.Acted h = absurd (cc h)
held_at stage.Refused h = refl
held_at stage.Ended h = refl
held_at stage.Lost h = refl

-- a call is at one set
elsewhere : (o : Option ℕ) (x y : ℕ) → machine.is_set o x ≡ true → (y == x) ≡ false → machine.is_set o y ≡ false
elsewhere None x y h ne = refl
elsewhere (Some z) x y h ne = grind (arith, nat_tests, h, ne)

none_there : (m : Mode) (y b : ℕ) (c : machine.Client) → (is_held c.present.stage && machine.is_set c.present.set y) ≡ false → machine.holds m y b c ≡ false
none_there m y b c h = ap (λ e. e && machine.is_call_of m b (machine.next_call c)) h

holds_left : (m : Mode) (x y b : ℕ) (c : machine.Client) → machine.holds m y b (lost_at x c) ≡ (if y == x then false else machine.holds m y b c)
holds_left m x y b c = by (is_at_set c.present.stage) refl (machine.is_set c.present.set x) refl (y == x) refl
  where
    by : (at : Bool) → is_at_set c.present.stage ≡ at → (here : Bool) → machine.is_set c.present.set x ≡ here → (e : Bool) → (y == x) ≡ e
        → machine.holds m y b (if at && here then machine.with_progress c (lost c.present) else c) ≡ (if e then false else machine.holds m y b c)
    by true at true here true e = refl
    by true at true here false e = sym (none_there m y b c (ap (λ v. is_held c.present.stage && v) (elsewhere c.present.set x y here e) ∙ and_false (is_held c.present.stage)))
    by true at false here true e = none_there m y b c (ap (λ v. is_held c.present.stage && v) (ap (machine.is_set c.present.set) (eqb-true y x e) ∙ here) ∙ and_false (is_held c.present.stage))
    by true at false here false e = refl
    by false at here is true e = none_there m y b c (ap (λ v. v && machine.is_set c.present.set y) (held_at c.present.stage at))
    by false at here is false e = refl

-- ---- what the references are to be

module _ (s : machine.State) (x : ℕ) where
  references_down : (m : Mode) (y b : ℕ) → machine.references (gone_down s x) m y b ≡ (if y == x then 0 else machine.references s m y b)
  references_down m y b = (λ i. count_to (λ c. holds_left m x y b (s.client c) i) s.clients) ∙ by (y == x)
    where
      by : (e : Bool) → count_to (λ c. if e then false else machine.holds m y b (s.client c)) s.clients ≡ (if e then 0 else machine.references s m y b)
      by true = count_none s.clients
      by false = refl

  agreed_down : (y q : ℕ) → agreed (gone_down s x) y q ≡ (if y == x then no_counts else agreed s y q)
  agreed_down y q = (λ i. record (agreed (gone_down s x) y q) { ro = references_down Ro y q i; rw = references_down Rw y q i }) ∙ by (y == x)
    where
      by : (e : Bool) → record {
        ro = if e then 0 else machine.references s Ro y q;
        rw = if e then 0 else machine.references s Rw y q;
        ro_lock = (if e then false else s.up y) && is_garbage ((s.bucket q).entry y);
        rw_lock = machine.is_draining (if e then None else (s.bucket q).transfer y);
      } ≡ (if e then no_counts else agreed s y q)
      by true = refl
      by false = refl

  hauls_down : (y : ℕ) → hauls_at (gone_down s x) y ≡ (if y == x then 0 else hauls_at s y)
  hauls_down y = by (y == x)
    where
      by : (e : Bool) → count_to (λ b. is_haul (if e then None else (s.bucket b).transfer y)) s.config.bucket_count ≡ (if e then 0 else hauls_at s y)
      by true = count_none s.config.bucket_count
      by false = refl

-- the tables agree, where no reference is left at the set
pub agrees_down : (s t : State) (x : ℕ) → plain t ≡ gone_down (plain s) x → ForgetsAt s t x → Agrees s → Agrees t
agrees_down s t x down forgets a = record {
  counts = λ y q. forgets.counts y q ∙ ap (λ v. if y == x then no_counts else v) (a.counts y q) ∙ sym (agreed_down (plain s) x y q) ∙ ap (λ m. agreed m y q) (sym down);
  hauls = λ y. forgets.hauls y ∙ ap (λ v. if y == x then 0 else v) (a.hauls y) ∙ sym (hauls_down (plain s) x y) ∙ ap (λ m. hauls_at m y) (sym down);
}
