-- Each state that a run reaches is one whose report can be read.
use Rattle.std.proofs.Common.{ℕ, ◌+◌, ◌<◌, ◌≤◌, ◌^◌, length, arith}
use Rattle.vs_machine.specs.Report.{kind_count, is_kind_at}
use Rattle.vs_machine.specs.Runs.{IsReached}
use Rattle.vs_machine.specs.State.{State, sets_of}
use Rattle.vs_machine.proofs.Due.Steps.{within_runs}
use Rattle.vs_machine.proofs.Inputs.{input_runs, few_runs}
use Rattle.vs_legal.specs.Account.{account_of}
use Rattle.vs_legal.proofs.Words.Report.{kind_at}
use Rattle.vs_legal.specs.Laws.{IsSpellable, ReportsReadBack, ReportsAreLegal}
use Rattle.vs_legal.proofs.Audited.{accounts_are_legal}
use Rattle.vs_legal.proofs.Before.{count_few, entry_named}
use Rattle.vs_legal.proofs.ReadBack.{reads_back}
use Rattle.vs_legal.proofs.ReadCalls.{IsReadableOutcome}
use Rattle.vs_legal.proofs.ReadCommands.{IsReadableCommand}
use Rattle.vs_legal.proofs.ReadReport.{IsReadableState}
use Rattle.vs_legal.proofs.TrueCalls.{all_by_index, history_spelled, outcome_readable}
use Rattle.vs_legal.proofs.TrueCommands.{command_readable}

few_calls : (s : State) → IsReached s → (c : ℕ) → length (s.client c).answered + 1 < 2 ^ 32
few_calls s r c =
    let within = (within_runs s r).clients c in
    let few = (few_runs s r).calls c in
    omega (arith, within, few)

few_commands : (s : State) → IsReached s → (o : ℕ) → length (s.operator o).answered + 1 < 2 ^ 32
few_commands s r o =
    let within = (within_runs s r).operators o in
    let few = (few_runs s r).commands o in
    omega (arith, within, few)

readable_state : (s : State) → IsReached s → IsSpellable s → IsReadableState s
readable_state s r good =
    let lawful = (input_runs s r).lawful in
    let few = few_runs s r in
    let buckets = lawful.buckets.1 in
    record {
      sets = lawful.sets.0;
      sets_few = lawful.sets.1;
      buckets = lawful.buckets.0;
      buckets_few = lawful.buckets.1;
      counts = λ x k. (let count : kind_count s x (kind_at k) ≤ s.config.bucket_count = count_few (λ b. is_kind_at (kind_at k) ((s.bucket b).entry x)) s.config.bucket_count in omega (arith, count, buckets));
      entries = entry_named s r;
      histories = history_spelled s r good;
      clients = λ c low high. (let clients = few.clients in record {
        some = low;
        few = omega (arith, high, clients);
        answered = all_by_index (IsReadableOutcome (sets_of s)) (s.client c).answered (outcome_readable s r good c);
        calls = few_calls s r c;
      });
      calls = few_calls s r;
      operators = λ o low high. (let operators = few.operators in record {
        some = low;
        few = omega (arith, high, operators);
        answered = all_by_index (IsReadableCommand (sets_of s)) (s.operator o).answered (command_readable s r o);
        commands = few_commands s r o;
      });
      commands = few_commands s r;
    }

-- the report of each state that a run reaches is read as the account of its histories and answers
pub reports_read_back : ReportsReadBack
reports_read_back s r good = reads_back s (readable_state s r good)

-- and that is legal
pub reports_are_legal : ReportsAreLegal
reports_are_legal s r good = (account_of s, reports_read_back s r good, accounts_are_legal s r)
