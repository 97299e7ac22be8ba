-- What holds inside of rounds, and what one change leaves of it.
use Rattle.std.proofs.Common.{◌≡◌, ℕ, refl, sym, subst, List, [], ◌∷◌, Option, Some, None}
use Rattle.vs_balance.specs.declared.route.Route.{Route}
use Rattle.vs_script.specs.declared.command.Command.{Command}
use Rattle.vs_script.specs.declared.command.Command.TheVariants as command
use Rattle.vs_send.specs.declared.transfer.By.{By}
use Rattle.vs_send.specs.declared.transfer.By.TheVariants as by
use Rattle.vs_send.specs.declared.transfer.Transfer.{Transfer}
use Rattle.vs_machine.specs.declared.outcome.CommandOutcome.{CommandOutcome}
use Rattle.vs_machine.specs.Tables.{put}
use Rattle.vs_machine.specs.State.{State, Bucket, Operator, next_command, answer}
use Rattle.vs_machine.specs.Kinds.Stops.{without_work}
use Rattle.vs_machine.proofs.Frame.{put_each}

-- ---- what holds inside

abbrev pub IsBalancing : Operator → Type 0
IsBalancing o = next_command o ≡ Some command.Balance

-- routes are there only while the next command is a balance
abbrev pub RoutesFit : List Route → Option Command → Type 0
RoutesFit [] next = Unit {0}
RoutesFit (r ∷ rs) next = next ≡ Some command.Balance

-- a transfer that a round began: its operator balances still
abbrev pub IsRoundOf : (ℕ → Operator) → By → Type 0
IsRoundOf os (by.Command o) = Unit {0}
IsRoundOf os (by.Haul o) = IsBalancing (os o)

abbrev pub HaulFits : (ℕ → Operator) → Option Transfer → Type 0
HaulFits os None = Unit {0}
HaulFits os (Some t) = IsRoundOf os t.by

pub record RoundsFit (os : ℕ → Operator) (bs : ℕ → Bucket) : Type 0 where
  pub routes : (o : ℕ) → RoutesFit (os o).routes (next_command (os o))
  pub hauls : (b x : ℕ) → HaulFits os ((bs b).transfer x)

abbrev pub Fits : State → Type 0
Fits s = RoundsFit s.operator s.bucket

-- ---- a bucket changes

pub bucket_fits : (os : ℕ → Operator) (bs : ℕ → Bucket) (b : ℕ) (new : Bucket) → RoundsFit os bs → ((x : ℕ) → HaulFits os (new.transfer x)) → RoundsFit os (put bs b new)
bucket_fits os bs b new i fits = record { routes = i.routes; hauls = put_each (λ q (u : Bucket). (x : ℕ) → HaulFits os (u.transfer x)) bs b new fits i.hauls }

-- its transfers stay
pub still_fits : (os : ℕ → Operator) (bs : ℕ → Bucket) (b : ℕ) (new : Bucket) → RoundsFit os bs → new.transfer ≡ (bs b).transfer → RoundsFit os (put bs b new)
still_fits os bs b new i is = bucket_fits os bs b new i (subst (λ (f : ℕ → Option Transfer). (x : ℕ) → HaulFits os (f x)) (sym is) (i.hauls b))

-- its transfer at one set changes
pub transfer_fits : (os : ℕ → Operator) (bs : ℕ → Bucket) (b x : ℕ) (new : Bucket) (v : Option Transfer) → RoundsFit os bs → new.transfer ≡ put (bs b).transfer x v → HaulFits os v → RoundsFit os (put bs b new)
transfer_fits os bs b x new v i is fits =
    bucket_fits os bs b new i (subst (λ (f : ℕ → Option Transfer). (y : ℕ) → HaulFits os (f y)) (sym is) (put_each (λ y. HaulFits os) (bs b).transfer x v fits (i.hauls b)))

-- that transfer goes on in another phase
pub phase_fits : (os : ℕ → Operator) (bs : ℕ → Bucket) (b x : ℕ) (u : Transfer) (new : Bucket) (v : Option Transfer) → RoundsFit os bs → (bs b).transfer x ≡ Some u → (HaulFits os (Some u) → HaulFits os v)
    → new.transfer ≡ put (bs b).transfer x v → RoundsFit os (put bs b new)
phase_fits os bs b x u new v i there on is = transfer_fits os bs b x new v i is (on (subst (HaulFits os) there (i.hauls b x)))

-- ---- an operator changes

-- where a round of it has a live transfer it still balances
pub operator_fits : (os : ℕ → Operator) (bs : ℕ → Bucket) (o : ℕ) (new : Operator) → RoundsFit os bs → RoutesFit new.routes (next_command new)
    → ((b x : ℕ) (t : Transfer) → (bs b).transfer x ≡ Some t → t.by ≡ by.Haul o → IsBalancing (os o) → IsBalancing new) → RoundsFit (put os o new) bs
operator_fits os bs o new i routes keeps = record {
  routes = put_each (λ q (u : Operator). RoutesFit u.routes (next_command u)) os o new routes i.routes;
  hauls = λ b x. kept b x ((bs b).transfer x) refl (i.hauls b x);
}
  where
    kept : (b x : ℕ) (v : Option Transfer) → (bs b).transfer x ≡ v → HaulFits os v → HaulFits (put os o new) v
    kept b x None is h = tt
    kept b x (Some t) is h = begun t.by refl h
      where
        begun : (w : By) → t.by ≡ w → IsRoundOf os w → IsRoundOf (put os o new) w
        begun (by.Command q) e g = tt
        begun (by.Haul q) e g = put_each (λ r (u : Operator). t.by ≡ by.Haul r → IsBalancing (os r) → IsBalancing u) os o new (keeps b x t is) (λ r f k. k) q e g

-- its next command is of another kind
pub other : {B : Type 0} (f : Option Command → B) (v : B) (o : Operator) → (f (Some command.Balance) ≡ v → ⊥) → f (next_command o) ≡ v → IsBalancing o → ⊥
other f v o none is balancing = none (subst (λ k. f k ≡ v) balancing is)

-- and is answered
pub answer_fits : (os : ℕ → Operator) (bs : ℕ → Bucket) (o : ℕ) (outcome : CommandOutcome) → RoundsFit os bs → (IsBalancing (os o) → ⊥) → RoundsFit (put os o (answer (os o) outcome)) bs
answer_fits os bs o outcome i not_balance = operator_fits os bs o (answer (os o) outcome) i tt (λ b x t at e balancing. absurd (not_balance balancing))

-- ---- a set goes down

-- an operator whose balance goes on
pub record GoesOn (old new : Operator) : Type 0 where
  pub routes : RoutesFit new.routes (next_command new)
  pub balancing : IsBalancing old → IsBalancing new

pub down_fits : (os news : ℕ → Operator) (bs : ℕ → Bucket) (x : ℕ) → RoundsFit os bs → ((o : ℕ) → GoesOn (os o) (news o)) → RoundsFit news (λ b. without_work x (bs b))
down_fits os news bs x i on = record {
  routes = λ o. (on o).routes;
  hauls = λ b. put_each (λ y. HaulFits news) (bs b).transfer x None tt (λ y. kept ((bs b).transfer y) (i.hauls b y));
}
  where
    begun : (w : By) → IsRoundOf os w → IsRoundOf news w
    begun (by.Command q) h = tt
    begun (by.Haul q) h = (on q).balancing h

    kept : (v : Option Transfer) → HaulFits os v → HaulFits news v
    kept None h = tt
    kept (Some t) h = begun t.by h
