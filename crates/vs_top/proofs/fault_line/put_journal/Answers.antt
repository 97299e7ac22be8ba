use Rattle.std.proofs.Common.{append_assoc}
use Rattle.std.specs.Prelude.{codes}
use Rattle.std.specs.Fmt.{decimal}
use Rattle.vs_top.proofs.fault_line.put_journal.Goals as goal

pub returns-in_ok-put_number-in-NotAJournal : goal.returns-in_ok-put_number-in-NotAJournal
returns-in_ok-put_number-in-NotAJournal c =
    rw (c.in-NotAJournal.is, c.in_ok-put_number-in-NotAJournal.ensures.written, c.in_ok-extend_from_slice-in-NotAJournal.ensures.items)
    (append_assoc c.args.out.now.items (codes "NotAJournal ") (decimal c.in-NotAJournal.place))

pub returns-in_ok-put_number-in-OtherCount : goal.returns-in_ok-put_number-in-OtherCount
returns-in_ok-put_number-in-OtherCount c =
    rw (c.in-OtherCount.is, c.in_ok-put_number-in-OtherCount.ensures.written, c.in_ok-extend_from_slice-in-OtherCount.ensures.items, c.from.ensures)
    (append_assoc c.args.out.now.items (codes "OtherCount ") (decimal c.in-OtherCount.found))
