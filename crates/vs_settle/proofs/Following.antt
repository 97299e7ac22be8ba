-- One event of the service after another.
use Rattle.std.proofs.Common.{◌≡◌, ℕ, ◌+◌, refl, ap, ◌∙◌, arith, List, [], ◌∷◌, ◌++◌, length, append_assoc, sym}
use Rattle.std.proofs.lemmas.List.{append-nil, length-append}
use Rattle.std.proofs.lemmas.List.Elements.{All-append, All-nil, All-push}
use Rattle.vs_event.specs.declared.event.Event.{Event}
use Rattle.vs_world.specs.Played.{Played, IsAdvanced, state_of}
use Rattle.vs_settle.specs.Quiet.{QuietRuns}
use Rattle.vs_settle.specs.Service.{IsService, IsResting, Carries, Follows}
use Rattle.vs_settle.proofs.Frames.{service_same, still_resting}

-- where nothing was carried out
pub carries_none : (p : Played) (m : ℕ) → Carries p m p m
carries_none p m = record {
  serves = record { added = []; events = sym (append-nil p.events); services = All-nil IsService };
  ticks = omega arith;
  opening = refl;
  config = refl;
}

pub carries_one : (p q : Played) (m n : ℕ) (e : Event) → IsService e → IsAdvanced p q e → n ≡ m + 1 → Carries p m q n
carries_one p q m n e is h ticks = record {
  serves = record { added = e ∷ []; events = h.events; services = All-push IsService [] e (All-nil IsService) is };
  ticks = ticks;
  opening = h.opening;
  config = (service_same (state_of p) (state_of q) e is h.step).config;
}

pub carries_then : (p q r : Played) (m n k : ℕ) → Carries p m q n → Carries q n r k → Carries p m r k
carries_then p q r m n k f g =
    let a = f.serves.added in
    let b = g.serves.added in
    let both : length (a ++ b) ≡ length a + length b = length-append a b in
    record {
      serves = record {
        added = a ++ b;
        events = g.serves.events ∙ ap (λ (es : List Event). es ++ b) f.serves.events ∙ append_assoc p.events a b;
        services = All-append IsService a b f.serves.services g.serves.services;
      };
      ticks = omega (arith, f.ticks, g.ticks, both);
      opening = g.opening ∙ f.opening;
      config = g.config ∙ f.config;
    }

-- the number of events
pub carries_ticks : (p q : Played) (m n : ℕ) → (f : Carries p m q n) → length q.events ≡ length p.events + length f.serves.added
carries_ticks p q m n f = ap length f.serves.events ∙ length-append p.events f.serves.added

-- ---- the same, at rest

pub follows_none : (p : Played) (m : ℕ) → IsResting (state_of p) → Follows p m p m
follows_none p m r = record { carries = carries_none p m; rests = r }

pub follows_one : QuietRuns → (p q : Played) (m n : ℕ) (e : Event) → IsResting (state_of p) → IsService e → IsAdvanced p q e → n ≡ m + 1 → Follows p m q n
follows_one law p q m n e r is h ticks = record {
  carries = carries_one p q m n e is h ticks;
  rests = still_resting law (state_of p) (state_of q) e r is h.step;
}

pub follows_then : (p q r : Played) (m n k : ℕ) → Follows p m q n → Follows q n r k → Follows p m r k
follows_then p q r m n k f g = record { carries = carries_then p q r m n k f.carries g.carries; rests = g.rests }
