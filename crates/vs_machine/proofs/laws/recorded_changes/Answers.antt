use Rattle.vs_machine.proofs.Recorded.Laws.{written_events, written_runs, fault_runs, pending_runs, opened_holdings, reopened_runs}
use Rattle.vs_machine.proofs.laws.recorded_changes.Goals as goal

pub returns : goal.returns
returns c = record { events = written_events; written = written_runs; faults = fault_runs; pending = pending_runs; opened = opened_holdings; reopened = reopened_runs }
