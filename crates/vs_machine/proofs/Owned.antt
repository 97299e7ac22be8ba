-- The owners that the events of a run give are the owners for whom the whole holds, and the only ones.
use Rattle.std.proofs.Common.{◌≡◌, ℕ, zero, suc, inl, inr, ◌≤◌, arith, Bool, true, false, refl, sym, ap, subst, ◌∙◌, List, [], ◌∷◌, Option, Some, None, Ok, Err}
use Rattle.std.specs.Prelude.{◌≢◌, if◌then◌else◌, unwrap_or}
use Rattle.std.proofs.lemmas.Bool.{cases_eq}
use Rattle.std.proofs.lemmas.Bool.Decides.{nat_tests}
use Rattle.vs_space.specs.declared.status.Status.{Status}
use Rattle.vs_space.specs.declared.status.Status.TheVariants.{Active, Pinned, Sending, Receiving, Sent, Garbage}
use Rattle.vs_event.specs.declared.event.Event.{Event}
use Rattle.vs_event.specs.declared.event.Event.TheVariants.{Restart}
use Rattle.vs_event.specs.declared.event.RestartBy.TheVariants.{Service}
use Rattle.vs_record.specs.Change.{Change}
use Rattle.vs_machine.specs.State.{State, sets_of, has_set, has_bucket}
use Rattle.vs_machine.specs.Step.{step, run}
use Rattle.vs_machine.specs.Coherence.{owners, handed_by, owner_at}
use Rattle.vs_machine.specs.Kinds.Connections.{is_receiving}
use Rattle.vs_machine.specs.Kinds.Stops.{restarted}
use Rattle.vs_machine.specs.Laws.{OwnedRuns, SingleOwners, ChosenWhole, chosen_at, chosen, chosen_owners}
use Rattle.vs_machine.specs.Opening.{opening}
use Rattle.vs_machine.specs.Owners.{owners_at, owners_after, owners_of}
use Rattle.vs_machine.specs.Tables.{least_to, or_else}
use Rattle.vs_machine.specs.Runs.{IsReached}
use Rattle.vs_machine.specs.Whole.{Whole}
use Rattle.vs_machine.specs.Inner.Owner.{IsPlaced, Owns, Beside}
use Rattle.vs_machine.proofs.Choices.{may_restart, chosen_reached}
use Rattle.vs_machine.proofs.Opens.{one_passes, none_passes, has_it, opening_whole}
use Rattle.vs_machine.proofs.Possible.{bind_ok, ok_is}
use Rattle.vs_machine.proofs.Steps.{step_whole}

-- ---- along a run

pub run_owned : (own : ℕ → ℕ) (s t : State) (es : List Event) → Whole own s → run s es ≡ Ok t → Whole (owners_after own s es) t
run_owned own s t [] w h = subst (Whole own) (ok_is s t h) w
run_owned own s t (v ∷ es) w h =
    let next = bind_ok (step s v) (λ u. run u es) t h in
    subst (λ r. Whole (elim r [ Ok u ↦ owners_after (owners own s v) u es | Err reason ↦ own ]) t) (sym next.1)
    (run_owned (owners own s v) next.0 t es (step_whole own s next.0 v w next.1) next.2)

pub owned_runs : OwnedRuns
owned_runs s r = run_owned (owners_at (opening r.config r.scripts r.held)) _ s r.events (opening_whole r.config r.scripts r.held r.opens) r.runs

-- ---- no others

-- beside an owner no other set has the bucket, or receives it from elsewhere
others_havent : (o : ℕ) (has : Option Status) (y : ℕ) (e : Option Status) → Beside o has y e → has_it e ≡ false
others_havent o has y None h = refl
others_havent o has y (Some Garbage) h = refl
others_havent o has y (Some (Sent d)) h = refl
others_havent o has y (Some (Receiving x)) h = refl
others_havent o has y (Some Active) h = absurd h
others_havent o has y (Some Pinned) h = absurd h
others_havent o has y (Some (Sending d)) h = absurd h

others_leave : (o x y : ℕ) (e : Option Status) → Beside o (Some (Receiving x)) y e → is_receiving e ≡ false
others_leave o x y None h = refl
others_leave o x y (Some Garbage) h = refl
others_leave o x y (Some (Sent d)) h = refl
others_leave o x y (Some (Receiving z)) h = absurd (cc (h.1))
others_leave o x y (Some Active) h = refl
others_leave o x y (Some Pinned) h = refl
others_leave o x y (Some (Sending d)) h = refl

module _ (n o : ℕ) (entry : ℕ → Option Status) (within : entry o ≢ None → (1 ≤ o) × (o ≤ n)) (p : IsPlaced o entry) where
  -- a set that has the bucket is the one that the entries tell
  having : (e : Option Status) → entry o ≡ e → has_it e ≡ true → (e ≡ None → ⊥) → unwrap_or (owner_at entry n) 0 ≡ o
  having e is has there =
      let k = within (λ none. there (sym is ∙ none)) in
      ap (λ v. unwrap_or (or_else v (least_to (λ x. is_receiving (entry x)) n)) 0)
      (one_passes (λ x. has_it (entry x)) n o k.0 k.1 (ap has_it is ∙ has) (λ j ne. others_havent o (entry o) j (entry j) (p.beside j ne)))

  receives : (x : ℕ) → entry o ≡ Some (Receiving x) → unwrap_or (owner_at entry n) 0 ≡ o
  receives x is =
      let k = within (λ none. absurd (cc (is, none))) in
      let nobody : least_to (λ z. has_it (entry z)) n ≡ None = none_passes (λ z. has_it (entry z)) n hasnt in
      ap (λ v. unwrap_or (or_else v (least_to (λ z. is_receiving (entry z)) n)) 0) nobody
      ∙ ap (λ v. unwrap_or v 0) (one_passes (λ z. is_receiving (entry z)) n o k.0 k.1 (ap is_receiving is) (λ j ne. others_leave o x j (entry j) (subst (λ h. Beside o h j (entry j)) is (p.beside j ne))))
    where
      hasnt : (j : ℕ) → has_it (entry j) ≡ false
      hasnt j = elim (cases_eq j o) [
        | inl same ↦ ap (λ z. has_it (entry z)) same ∙ ap has_it is
        | inr ne ↦ others_havent o (entry o) j (entry j) (p.beside j ne)
      ]

  -- where no set has an entry, nobody owns it
  nobody_owns : ((x : ℕ) → entry x ≡ None) → o ≡ 0 → unwrap_or (owner_at entry n) 0 ≡ o
  nobody_owns none zero_is =
      ap (λ v. unwrap_or (or_else v (least_to (λ z. is_receiving (entry z)) n)) 0) (none_passes (λ z. has_it (entry z)) n (λ z. ap has_it (none z)))
      ∙ ap (λ v. unwrap_or v 0) (none_passes (λ z. is_receiving (entry z)) n (λ z. ap is_receiving (none z))) ∙ sym zero_is

  owner_told : ((e : Option Status) → entry o ≡ None → (x : ℕ) → entry x ≡ None) → (e : Option Status) → entry o ≡ e → Owns o e → unwrap_or (owner_at entry n) 0 ≡ o
  owner_told none (Some Active) is h = having (Some Active) is refl (λ g. absurd (cc g))
  owner_told none (Some Pinned) is h = having (Some Pinned) is refl (λ g. absurd (cc g))
  owner_told none (Some (Sending d)) is h = having (Some (Sending d)) is refl (λ g. absurd (cc g))
  owner_told none (Some (Receiving x)) is h = receives x is
  owner_told none (Some (Sent d)) is h = absurd h
  owner_told none (Some Garbage) is h = absurd h
  owner_told none None is h = nobody_owns (none None is) h

pub single_owners : SingleOwners
single_owners own s w = λ i b. told b i
  where
    -- a bucket that its owner has no entry of isn't in the cluster, so no set has one
    none : (b : ℕ) → (s.bucket b).entry (own b) ≡ None → (x : ℕ) → (s.bucket b).entry x ≡ None
    none b is x = by (has_bucket s b) refl ((s.bucket b).entry x) refl
      where
        by : (known : Bool) → has_bucket s b ≡ known → (e : Option Status) → (s.bucket b).entry x ≡ e → e ≡ None
        by known there None at = refl
        by true there (Some st) at =
            let zero_is : own b ≡ 0 = subst (Owns (own b)) is (w.inner.buckets b).placed.owner in
            let real = w.inner.real b there in
            absurd (omega (arith, zero_is, real))
        by false out (Some st) at = absurd (cc (w.known b x (λ e. absurd (cc (e, at))), out))

    told : (b : ℕ) → own b ≡ owners_at s b
    told b = sym (owner_told (sets_of s) (own b) (s.bucket b).entry (w.bounds b (own b)) (w.inner.buckets b).placed (λ e is. none b is) ((s.bucket b).entry (own b)) refl (w.inner.buckets b).placed.owner)

-- ---- whatever is kept

-- a set that is up again, with its change or without it
again_whole : (own : ℕ → ℕ) (s : State) (x : ℕ) (keep : Bool) → IsReached s → has_set s x ≡ true → Whole own s → (pending : Option Change) → s.pending x ≡ pending
    → Whole (if keep then handed_by own pending else own) (chosen_at s x keep pending)
again_whole own s x true r there w None is = w
again_whole own s x false r there w None is = w
again_whole own s x false r there w (Some change) is = step_whole own s (restarted s x false (Some change)) (Restart x false Service) w (may_restart s x false change r there is)
again_whole own s x true r there w (Some change) is =
    let down = (w.pending x change is).0 in
    let now : (if s.up x then None else s.pending x) ≡ Some change = ap (λ t. if t then None else s.pending x) down ∙ is in
    subst (λ o. Whole (handed_by own o) (restarted s x true (Some change))) now (step_whole own s (restarted s x true (Some change)) (Restart x true Service) w (may_restart s x true change r there is))

choice_whole : (own : ℕ → ℕ) (s : State) (keep : ℕ → Bool) (n : ℕ) → IsReached s → n ≤ sets_of s → Whole own s → Whole (chosen_owners own s keep n) (chosen s keep n)
choice_whole own s keep zero r le w = w
choice_whole own s keep (suc n) r le w =
    let before = chosen_reached s keep n r (omega arith) in
    let u = chosen s keep n in
    again_whole (chosen_owners own s keep n) u (suc n) (keep (suc n)) before.0 (grind (arith, nat_tests, le, before.1)) (choice_whole own s keep n r (omega arith) w) (u.pending (suc n)) refl

pub chosen_whole : ChosenWhole
chosen_whole s r keep = ((chosen_reached s keep (sets_of s) r (omega arith)).0, choice_whole (owners_of s r) s keep (sets_of s) r (omega arith) (owned_runs s r))
