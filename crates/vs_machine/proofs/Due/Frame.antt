-- What holds inside of those who are to be answered, and what one change leaves of it.
use Rattle.std.proofs.Common.{◌≡◌, ℕ, ◌≤◌, ◌<◌, arith, false, refl, sym, subst, length, Option, Some, None}
use Rattle.std.proofs.lemmas.List.{length_push}
use Rattle.std.proofs.lemmas.Option.{slice_get_within}
use Rattle.vs_calls.specs.Progress.{is_idle}
use Rattle.vs_link.specs.Connection.{Connection}
use Rattle.vs_script.specs.declared.command.Command.{Command}
use Rattle.vs_script.specs.declared.command.Command.TheVariants as command
use Rattle.vs_send.specs.declared.transfer.By.{By}
use Rattle.vs_send.specs.declared.transfer.By.TheVariants as by
use Rattle.vs_send.specs.declared.transfer.Transfer.{Transfer}
use Rattle.vs_machine.specs.declared.outcome.CommandOutcome.{CommandOutcome}
use Rattle.vs_machine.specs.Tables.{put}
use Rattle.vs_machine.specs.State.{State, Bucket, Client, Operator, sets_of, next_command, answer, put_client, put_operator}
use Rattle.vs_machine.specs.Laws.{IsPosted, IsMoving, IsBegunBy}
use Rattle.vs_machine.proofs.Frame.{put_each}

-- ---- what holds inside

-- of a client, in a cluster of n sets
pub record PresentFits (n : ℕ) (c : Client) : Type 0 where
  pub within : length c.answered ≤ length c.script
  pub present : is_idle c.present.stage ≡ false → IsPosted n c

abbrev pub MoveFits : ℕ → (ℕ → Operator) → ℕ → ℕ → Option Transfer → Type 0
MoveFits n os b x None = Unit {0}
MoveFits n os b x (Some t) = IsBegunBy n os b x t.dest t.by

abbrev pub IsAsked : Operator → Type 0
IsAsked o = length o.answered ≤ length o.script

pub record DueFits (s : State) : Type 0 where
  pub clients : (c : ℕ) → PresentFits (sets_of s) (s.client c)
  pub operators : (o : ℕ) → IsAsked (s.operator o)
  pub moves : (b x : ℕ) → MoveFits s.operators s.operator b x ((s.bucket b).transfer x)

-- ---- one thing changes

pub client_fits : (s : State) (c : ℕ) (new : Client) → DueFits s → PresentFits (sets_of s) new → DueFits (put_client s c new)
client_fits s c new i fits = record { clients = put_each (λ q. PresentFits (sets_of s)) s.client c new fits i.clients; operators = i.operators; moves = i.moves }

pub bucket_fits : (s : State) (b : ℕ) (new : Bucket) (ls : ℕ → ℕ → Connection) → DueFits s → ((x : ℕ) → MoveFits s.operators s.operator b x (new.transfer x)) → DueFits (record s { bucket = put s.bucket b new; link = ls })
bucket_fits s b new ls i fits = record {
  clients = i.clients;
  operators = i.operators;
  moves = put_each (λ q (u : Bucket). (x : ℕ) → MoveFits s.operators s.operator q x (u.transfer x)) s.bucket b new fits i.moves;
}

-- a bucket's transfers stay
pub still_fits : (s : State) (b : ℕ) (new : Bucket) (ls : ℕ → ℕ → Connection) → DueFits s → new.transfer ≡ (s.bucket b).transfer → DueFits (record s { bucket = put s.bucket b new; link = ls })
still_fits s b new ls i is = bucket_fits s b new ls i (subst (λ (f : ℕ → Option Transfer). (x : ℕ) → MoveFits s.operators s.operator b x (f x)) (sym is) (i.moves b))

pub link_fits : (s : State) (ls : ℕ → ℕ → Connection) → DueFits s → DueFits (record s { link = ls })
link_fits s ls i = record { clients = i.clients; operators = i.operators; moves = i.moves }

-- the transfer at one set changes
pub transfer_fits : (s : State) (b x : ℕ) (new : Bucket) (v : Option Transfer) (ls : ℕ → ℕ → Connection) → DueFits s → new.transfer ≡ put (s.bucket b).transfer x v → MoveFits s.operators s.operator b x v
    → DueFits (record s { bucket = put s.bucket b new; link = ls })
transfer_fits s b x new v ls i is fits = bucket_fits s b new ls i (λ y. subst (λ (f : ℕ → Option Transfer). MoveFits s.operators s.operator b y (f y)) (sym is) (put_each (MoveFits s.operators s.operator b) (s.bucket b).transfer x v fits (i.moves b) y))

-- an operator's changes, and goes on with the moves that there are
pub operator_fits : (s : State) (o : ℕ) (new : Operator) → DueFits s → IsAsked new → ((b x : ℕ) (t : Transfer) → (s.bucket b).transfer x ≡ Some t → IsMoving (s.operator o) b x t.dest → IsMoving new b x t.dest) → DueFits (put_operator s o new)
operator_fits s o new i asked keeps = record {
  clients = i.clients;
  operators = put_each (λ q. IsAsked) s.operator o new asked i.operators;
  moves = λ b x. moved b x ((s.bucket b).transfer x) refl (i.moves b x);
}
  where
    moved : (b x : ℕ) (v : Option Transfer) → (s.bucket b).transfer x ≡ v → MoveFits s.operators s.operator b x v → MoveFits s.operators (put s.operator o new) b x v
    moved b x None is h = tt
    moved b x (Some t) is h = begun_by t.by h
      where
        begun_by : (w : By) → IsBegunBy s.operators s.operator b x t.dest w → IsBegunBy s.operators (put s.operator o new) b x t.dest w
        begun_by (by.Haul q) h = h
        begun_by (by.Command q) h = (h.0, put_each (λ r (u : Operator). IsMoving (s.operator r) b x t.dest → IsMoving u b x t.dest) s.operator o new (keeps b x t is) (λ r g. g) q h.1)

-- ---- an operator's next command is answered

-- it has one, which moves no bucket now
pub record IsDue (o : Operator) : Type 0 where
  pub there : length o.answered < length o.script
  pub still : (b x d : ℕ) → IsMoving o b x d → ⊥

pub has_next : {B : Type 0} (f : Option Command → B) (v : B) (o : Operator) → (f None ≡ v → ⊥) → f (next_command o) ≡ v → length o.answered < length o.script
has_next f v o none is = at (next_command o) refl is
  where
    at : (k : Option Command) → next_command o ≡ k → f k ≡ v → length o.answered < length o.script
    at None e h = absurd (none h)
    at (Some k) e h = slice_get_within o.script (length o.answered) k e

-- a command of another kind
pub due : {B : Type 0} (f : Option Command → B) (v : B) (o : Operator) → (f None ≡ v → ⊥) → ((b x d : ℕ) → f (Some (command.Send b x d)) ≡ v → ⊥) → f (next_command o) ≡ v → IsDue o
due f v o none send is = record { there = has_next f v o none is; still = λ b x d h. send b x d (subst (λ k. f k ≡ v) h.named is) }

pub answered_asked : (o : Operator) (outcome : CommandOutcome) → length o.answered < length o.script → IsAsked (answer o outcome)
answered_asked o outcome lt = let one = length_push o.answered outcome in omega (arith, lt, one)

pub answer_fits : (s : State) (o : ℕ) (outcome : CommandOutcome) → DueFits s → IsDue (s.operator o) → DueFits (put_operator s o (answer (s.operator o) outcome))
answer_fits s o outcome i d = operator_fits s o (answer (s.operator o) outcome) i (answered_asked (s.operator o) outcome d.there) (λ b x t at h. absurd (d.still b x t.dest h))
