-- Recovery: a set asks the other about a bucket whose transfer was interrupted.
use Rattle.std.specs.Prelude.{ℕ, ◌==◌, ◌&&◌, not, Bool, true, false, Option, Some, None, is_none, Result, Ok}
use Rattle.vs_space.specs.declared.status.Status.{Status}
use Rattle.vs_space.specs.declared.status.Status.TheVariants.{Sending}
use Rattle.vs_event.specs.declared.reason.Reason.{Reason}
use Rattle.vs_event.specs.declared.reason.Reason.TheVariants as reason
use Rattle.vs_link.specs.Connection.{Stat, with_message}
use Rattle.vs_send.specs.declared.transfer.Transfer.{Transfer}
use Rattle.vs_machine.specs.Check.{◌>>=◌, ◌>>◌, needs, wants}
use Rattle.vs_machine.specs.Tables.{put, put_at}
use Rattle.vs_machine.specs.State.{State, Ask, has_set, has_bucket, with_ask}
use Rattle.vs_machine.specs.Kinds.Connections.{asked_set}

-- a bucket that is sending is asked about once its transfer is gone
abbrev pub may_ask : Option Status → Option Transfer → Bool
may_ask (Some (Sending d)) t = is_none t
may_ask entry t = true

-- an ask is live while its epoch is the connection's
abbrev pub is_live : Option Ask → ℕ → Bool
is_live None epoch = false
is_live (Some a) epoch = a.epoch == epoch

abbrev pub after_ask : State → ℕ → ℕ → ℕ → State
after_ask s x b y =
    let l = s.link x y in
    record s {
      bucket = put s.bucket b (with_ask (s.bucket b) x (Some (record { epoch = l.epoch; sync = l.next })));
      link = put_at s.link x y (with_message l (Stat b));
    }

abbrev pub ask : State → ℕ → ℕ → Result State Reason
ask s x b = do
  needs (has_set s x && has_bucket s b) reason.Unknown
  needs (s.up x) (reason.Down x)
  y ← wants (asked_set ((s.bucket b).entry x)) (reason.Unfit ((s.bucket b).entry x))
  needs (may_ask ((s.bucket b).entry x) ((s.bucket b).transfer x)) reason.Live
  needs (s.up y) (reason.Down y)
  needs (not (is_live ((s.bucket b).ask x) (s.link x y).epoch)) reason.Live
  Ok (after_ask s x b y)
