-- The clusters of the worked runs: two sets with four buckets, of which set 1 has three.
use Rattle.std.specs.Prelude.{ℕ, ◌==◌, nat_le, ◌&&◌, false, if◌then◌else◌, List, [], ◌∷◌, Option, Some, None, Result, Ok, Err}
use Rattle.vs_base.specs.declared.numbers.Mode.TheVariants.{Ro, Rw}
use Rattle.vs_rows.specs.declared.op.Op.TheVariants as op
use Rattle.vs_space.specs.declared.status.Status.TheVariants.{Active}
use Rattle.vs_event.specs.declared.event.Event.{Event}
use Rattle.vs_event.specs.declared.event.Event.TheVariants.{Post, Begin, Act, End, Take, Start, Freeze, Chunk, Seal, Last, EndMove, Deliver, Hear}
use Rattle.vs_event.specs.declared.reason.Reason.{Reason}
use Rattle.vs_config.specs.Configuration.{Configuration}
use Rattle.vs_script.specs.Calls.{Call}
use Rattle.vs_script.specs.declared.command.Command.{Command}
use Rattle.vs_machine.specs.State.{State}
use Rattle.vs_machine.specs.Opening.{Holdings, opening}
use Rattle.vs_machine.specs.Report.{report}

-- set 1 with weight 3 and set 2 with weight 1
abbrev pub two_sets : Configuration
two_sets = record {
  bucket_count = 4;
  threshold = 1;
  max_receiving = 100;
  max_sending = 1;
  sets = (record { uuid = 1 ∷ []; weight = 3; lock = false }) ∷ (record { uuid = 2 ∷ []; weight = 1; lock = false }) ∷ [];
}

-- buckets 1 to 3 at set 1 and bucket 4 at set 2, without rows
abbrev pub placed : Holdings
placed = record {
  entry = λ x b. if (x == 1) && (nat_le 1 b && nat_le b 3) then Some Active else if (x == 2) && (b == 4) then Some Active else None;
  rows = λ x b. [];
}

abbrev pub a : List ℕ
a = 97 ∷ []

abbrev pub one : List ℕ
one = 49 ∷ []

-- `rw 3 put a 1` and `ro 3 get a`
abbrev pub put_a : Call
put_a = record { mode = Rw; bucket = 3; ops = op.Put a one ∷ [] }

abbrev pub get_a : Call
get_a = record { mode = Ro; bucket = 3; ops = op.Get a ∷ [] }

abbrev pub start_with : List (List Call) → List (List Command) → State
start_with clients operators = opening two_sets (record { clients = clients; operators = operators }) placed

-- the client does its call at a set
abbrev pub does : ℕ → ℕ → List Event
does c x = Post c x ∷ Begin c ∷ Act c ∷ End c ∷ Take c ∷ []

-- bucket 3 is moved from set 1 to set 2
abbrev pub move_3 : List Event
move_3 = Start 1 ∷ Freeze 1 3 ∷ Chunk 1 3 ∷ Deliver 1 2 ∷ Hear 1 2 ∷ Seal 1 3 ∷ Last 1 3 ∷ Deliver 1 2 ∷ Hear 1 2 ∷ EndMove 1 3 ∷ []

abbrev pub report_of : Result State Reason → List ℕ
report_of (Ok s) = report s
report_of (Err r) = []

abbrev pub refusal_of : Result State Reason → Option Reason
refusal_of (Ok s) = None
refusal_of (Err r) = Some r
