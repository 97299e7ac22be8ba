use Rattle.std.proofs.Common.{◌-◌, Some, slice_get, length, sym, ap, ◌∙◌}
use Rattle.std.specs.Option.{option_copied}
use Rattle.vs_core.proofs.Sender.{last_key_is}
use Rattle.vs_core.proofs.kinds.chunk.last_key.Goals as goal

pub returns-in_ok-try_clone-in-Some : goal.returns-in_ok-try_clone-in-Some
returns-in_ok-try_clone-in-Some c = ap Some c.in_ok-try_clone-in-Some.ensures ∙ sym (last_key_is c.args.page.now.items c.in-Some.field-0.now (ap (λ s. slice_get s (length s - 1)) (sym c.as_slice.ensures) ∙ sym c.last.ensures.value ∙ ap option_copied c.in-Some.is))
