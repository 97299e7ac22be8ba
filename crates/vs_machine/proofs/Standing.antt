-- Where a present call stands.
use Rattle.std.proofs.Common.{◌≡◌, ℕ, zero, suc, inl, inr, ◌-◌, arith, refl, sym, ap, subst, ◌∙◌, List, [], ◌∷◌, length, Some}
use Rattle.std.specs.Prelude.{◌⊎◌, All, Contains, slice_get}
use Rattle.std.proofs.lemmas.Bool.{cases_eq}
use Rattle.std.proofs.lemmas.List.Elements.{All-nil, All-cons, All-weaker, Contains-append_left, Contains-append_right}
use Rattle.std.proofs.lemmas.Option.{slice_get_read}
use Rattle.vs_base.specs.declared.numbers.CallId.{CallId}
use Rattle.vs_base.specs.declared.numbers.Mode.{Mode}
use Rattle.vs_base.specs.declared.numbers.Mode.TheVariants.{Ro, Rw}
use Rattle.vs_calls.specs.declared.stage.Stage.{Stage}
use Rattle.vs_calls.specs.declared.stage.Stage.TheVariants as stage
use Rattle.vs_history.specs.History.{Entry, History}
use Rattle.vs_script.specs.Calls.{Call}
use Rattle.vs_machine.specs.State.{State, next_call, call_id}
use Rattle.vs_machine.specs.History.{StandsNowhere, entries_of}
use Rattle.vs_machine.specs.Laws.{PresentRuns}
use Rattle.vs_machine.specs.Runs.{IsReached}
use Rattle.vs_machine.specs.Standing.{StandsOnce, StandsBy}
use Rattle.vs_machine.specs.Inner.Answers.{HasStood, HasAnswers}
use Rattle.vs_machine.specs.Inner.Once.{HasActed, IsPast, all_entries}
use Rattle.vs_machine.proofs.Reached.{reached_whole}
use Rattle.vs_machine.proofs.Single.{at_place, IsCalled, all_called, one_call, single_runs}

-- ---- among entries

-- an entry of the call, and where
record Finds (es : List Entry) (id : CallId) : Type 0 where
  index : ℕ
  entry : Entry
  there : slice_get es index ≡ Some entry
  its : entry.id ≡ id

same_id : (a b : CallId) → a.client ≡ b.client → a.call ≡ b.call → a ≡ b
same_id a b p q = λ i. record { client = p i; call = q i }

id_cases : (a b : CallId) → (a ≡ b) ⊎ (a ≡ b → ⊥)
id_cases a b = elim (cases_eq a.client b.client) [
  | inl p ↦ elim (cases_eq a.call b.call) [ inl q ↦ inl (same_id a b p q) | inr ne ↦ inr (λ e. ne (ap (λ (v : CallId). v.call) e)) ]
  | inr ne ↦ inr (λ e. ne (ap (λ (v : CallId). v.client) e))
]

-- the call is among the entries, or it isn't
found : (es : List Entry) (id : CallId) → All (λ e. e.id ≡ id → ⊥) es ⊎ Finds es id
found [] id = inl (All-nil _)
found (e ∷ es) id = elim (id_cases e.id id) [
  | inl is ↦ inr (record { index = zero; entry = e; there = refl; its = is })
  | inr ne ↦ elim (found es id) [
    | inl none ↦ inl (All-cons (λ (f : Entry). f.id ≡ id → ⊥) e es ne none)
    | inr f ↦ inr (record { index = suc f.index; entry = f.entry; there = f.there; its = f.its })
  ]
]

-- where a call of this mode stands is among all entries
of_all : (h : History) (mode : Mode) (e : Entry) → Contains (entries_of h mode) e → Contains (all_entries h) e
of_all h Rw e there = Contains-append_left h.writes h.reads e there
of_all h Ro e there = Contains-append_right h.writes h.reads e there

at_index : (es : List Entry) (e : Entry) → Contains es e → (n : ℕ) × (slice_get es n ≡ Some e)
at_index es e h = (h.0, slice_get_read es (length es) h.0 e refl h.1 (sym h.2))

-- ---- the present call of a client

module _ (s : State) (r : IsReached s) (c : ℕ) (k : Call) (called : next_call (s.client c) ≡ Some k) where
  abbrev id : CallId
  id = call_id c (s.client c)

  abbrev scripts : ℕ → List Call
  scripts = λ d. (s.client d).script

  -- a call that hasn't acted stands nowhere
  nowhere : (HasActed (s.client c).present.stage → ⊥) → StandsNowhere s id
  nowhere unacted b =
      All-weaker (λ (e : Entry). IsPast (s.client e.id.client).present e.id.call) (λ (e : Entry). e.id ≡ id → ⊥)
      (λ e past is. before (subst (λ (v : CallId). IsPast (s.client v.client).present v.call) is past)) (all_entries (s.bucket b).history) ((reached_whole s r).1.once.entries b).past
    where
      before : IsPast (s.client c).present (s.client c).present.number → ⊥
      before (inl lt) = absurd (omega (arith, lt))
      before (inr h) = unacted h.1

  -- where it stands, that is its bucket's history
  its_bucket : (b : ℕ) → Finds (all_entries (s.bucket b).history) id → b ≡ k.bucket
  its_bucket b f =
      let w = (reached_whole s r).1 in
      let of = at_place (IsCalled scripts b) (all_entries (s.bucket b).history) f.index f.entry f.there (all_called s.client b (s.bucket b).history (w.once.entries b)) in
      let number = w.answers.numbered c in
      let before : (s.client c).present.number - 1 ≡ length (s.client c).answered = omega (arith, number) in
      let mine : slice_get (s.client c).script ((s.client c).present.number - 1) ≡ Some (record { mode = of.0; bucket = b; ops = f.entry.ops }) = subst (λ (v : CallId). slice_get (scripts v.client) (v.call - 1) ≡ Some (record { mode = of.0; bucket = b; ops = f.entry.ops })) f.its of.1.1 in
      let here : slice_get (s.client c).script (length (s.client c).answered) ≡ Some (record { mode = of.0; bucket = b; ops = f.entry.ops }) = subst (λ m. slice_get (s.client c).script m ≡ Some (record { mode = of.0; bucket = b; ops = f.entry.ops })) before mine in
      ap (λ (j : Call). j.bucket) (one_call _ k (sym here ∙ called))

  once : Finds (all_entries (s.bucket k.bucket).history) id → StandsOnce s id k
  once f = record {
    index = f.index;
    entry = f.entry;
    there = f.there;
    its = f.its;
    alone = λ b n e at is. single_runs s r b k.bucket n f.index e f.entry at f.there (is ∙ sym f.its);
  }

  lost : StandsNowhere s id ⊎ StandsOnce s id k
  lost = elim (found (all_entries (s.bucket k.bucket).history) id) [
    | inr f ↦ inr (once f)
    | inl none ↦ inl (λ b. elim (found (all_entries (s.bucket b).history) id) [
      | inl h ↦ h
      | inr f ↦ subst (λ q. All (λ (e : Entry). e.id ≡ id → ⊥) (all_entries (s.bucket q).history)) (sym (its_bucket b f)) none
    ])
  ]

  acted : HasStood s c k → HasStood s c k × StandsOnce s id k
  acted h =
      let e = h.stands.0 in
      let at = at_index (all_entries (s.bucket k.bucket).history) e (of_all (s.bucket k.bucket).history k.mode e h.stands.1) in
      (h, once (record { index = at.0; entry = e; there = at.1; its = h.stands.2 }))

  by_stage : (g : Stage) → (s.client c).present.stage ≡ g → StandsBy s c k g
  by_stage stage.Acted is = acted ((reached_whole s r).1.answers.present c k called (subst HasAnswers (sym is) tt))
  by_stage stage.Ended is = acted ((reached_whole s r).1.answers.present c k called (subst HasAnswers (sym is) tt))
  by_stage stage.Lost is = lost
  by_stage stage.Idle is = nowhere (λ h. subst HasActed is h)
  by_stage stage.Posted is = nowhere (λ h. subst HasActed is h)
  by_stage stage.Running is = nowhere (λ h. subst HasActed is h)
  by_stage stage.Refused is = nowhere (λ h. subst HasActed is h)

pub present_runs : PresentRuns
present_runs s r c k called = by_stage s r c k called (s.client c).present.stage refl
