use Rattle.std.proofs.Common.{Some, sym, ap, ◌∙◌}
use Rattle.std.specs.Option.{option_copied}
use Rattle.vs_state.specs.Plain.{plain}
use Rattle.vs_core.proofs.Turned.{pin_bucket, pin_set, unpin_bucket, unpin_set}
use Rattle.vs_core.proofs.kinds.pin.pin.Goals as goal

pub pin_to-requires-clause-set : goal.pin_to-requires-clause-set
pin_to-requires-clause-set c =
    pin_set (plain c.args.state.now) c.requires.known c.args.operator c.in-Some-Pin.bucket c.in-Some-Pin.set (sym c.next_command.ensures ∙ ap option_copied c.in-Some-Pin.is ∙ ap Some c.in-Some-Pin.field-0-is)

pub pin_to-requires-clause-bucket : goal.pin_to-requires-clause-bucket
pin_to-requires-clause-bucket c =
    pin_bucket (plain c.args.state.now) c.requires.known c.args.operator c.in-Some-Pin.bucket c.in-Some-Pin.set (sym c.next_command.ensures ∙ ap option_copied c.in-Some-Pin.is ∙ ap Some c.in-Some-Pin.field-0-is)

pub pin_to-requires-in-Some-Unpin-clause-set : goal.pin_to-requires-in-Some-Unpin-clause-set
pin_to-requires-in-Some-Unpin-clause-set c =
    unpin_set (plain c.args.state.now) c.requires.known c.args.operator c.in-Some-Unpin.bucket c.in-Some-Unpin.set (sym c.next_command.ensures ∙ ap option_copied c.in-Some-Unpin.is ∙ ap Some c.in-Some-Unpin.field-0-is)

pub pin_to-requires-in-Some-Unpin-clause-bucket : goal.pin_to-requires-in-Some-Unpin-clause-bucket
pin_to-requires-in-Some-Unpin-clause-bucket c =
    unpin_bucket (plain c.args.state.now) c.requires.known c.args.operator c.in-Some-Unpin.bucket c.in-Some-Unpin.set (sym c.next_command.ensures ∙ ap option_copied c.in-Some-Unpin.is ∙ ap Some c.in-Some-Unpin.field-0-is)
