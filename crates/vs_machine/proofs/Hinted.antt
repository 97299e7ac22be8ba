-- A client's last post that went for the hint alone.
use Rattle.std.proofs.Common.{◌≡◌, ℕ, inl, inr, ◌+◌, ◌<◌, arith, sym, ap, ◌∙◌, List, Some}
use Rattle.std.specs.Prelude.{◌≢◌, ◌⊎◌, slice_get}
use Rattle.std.proofs.lemmas.Bool.{cases_eq}
use Rattle.vs_event.specs.declared.event.Event.{Event}
use Rattle.vs_event.specs.declared.event.Event.TheVariants.{Post}
use Rattle.vs_machine.specs.State.{State}
use Rattle.vs_machine.specs.Actors.{IsByHintAlone, IsFurtherPost}

-- before the event of index n, in the call of this number
pub record HintedBefore (start : State) (events : List Event) (c number n : ℕ) : Type 0 where
  pub index : ℕ
  pub set : ℕ
  pub post : IsFurtherPost start events index c set
  pub alone : IsByHintAlone post.before c set post.call
  pub of_call : (post.before.client c).present.number ≡ number
  pub earlier : index < n
  pub since : (m y : ℕ) → index < m → m < n → slice_get events m ≢ Some (Post c y)

-- an event that is no post of the client leaves it
pub hinted_on : (start : State) (events : List Event) (c number n next : ℕ) (e : Event) → next ≡ n + 1 → slice_get events n ≡ Some e → ((y : ℕ) → e ≢ Post c y)
    → HintedBefore start events c number n → HintedBefore start events c number next
hinted_on start events c number n next e is there none h = record {
  index = h.index;
  set = h.set;
  post = h.post;
  alone = h.alone;
  of_call = h.of_call;
  earlier = let before = h.earlier in omega (arith, before, is);
  since = λ m y from to at. by m y from at (cases_eq m n) to;
}
  where
    by : (m y : ℕ) → h.index < m → slice_get events m ≡ Some (Post c y) → (m ≡ n) ⊎ (m ≢ n) → m < next → ⊥
    by m y from at (inl same) to = let one : Some e ≡ Some (Post c y) = sym there ∙ ap (slice_get events) (sym same) ∙ at in none y (cc one)
    by m y from at (inr ne) to = h.since m y from (omega (arith, ne, to, is)) at
