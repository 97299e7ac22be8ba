-- What is told of each set: how many of its entries have each status.
use Rattle.std.specs.Prelude.{ℕ, List, map, filter, length}
use Rattle.std.specs.List.{enumerate_from}
use Rattle.vs_space.specs.declared.status.StatusKind.{StatusKind}
use Rattle.vs_space.specs.declared.status.StatusKind.TheVariants as kind
use Rattle.vs_machine.specs.State.{State}
use Rattle.vs_machine.specs.Report.{numbers_to}
use Rattle.vs_state.specs.Statuses.{has_kind}
use Rattle.vs_info.specs.declared.summary.SetSummary.{SetSummary}

-- how many buckets, from 1 to the last, have an entry of this kind at the set
unfoldable pub entries_of : State → ℕ → StatusKind → ℕ
entries_of s x kind = length (filter (λ b. has_kind kind ((s.bucket b).entry x)) (numbers_to s.config.bucket_count))

-- the set of this number and uuid
abbrev pub summary_of : State → ℕ → List ℕ → SetSummary
summary_of s x uuid = record {
  uuid = uuid;
  active = entries_of s x kind.Active;
  garbage = entries_of s x kind.Garbage;
  pinned = entries_of s x kind.Pinned;
  receiving = entries_of s x kind.Receiving;
  sending = entries_of s x kind.Sending;
  sent = entries_of s x kind.Sent;
}

-- each set of the configuration, numbered from 1
abbrev pub summaries_of : State → List SetSummary
summaries_of s = map (λ (x, set). summary_of s x set.uuid) (enumerate_from 1 s.config.sets)
