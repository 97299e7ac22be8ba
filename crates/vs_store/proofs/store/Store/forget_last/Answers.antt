use Rattle.std.proofs.Common.{refl, arith}
use Rattle.vs_store.proofs.Holding.{forgotten}
use Rattle.vs_store.proofs.store.Store.forget_last.Goals as goal

pub returns-clause-held : goal.returns-clause-held
returns-clause-held g c = forgotten c.args.self.now _ c.requires.ready c.forget_last.ensures.disk c.forget_last.ensures.gate c.forget_last.ensures.none c.forget_last.ensures.level (omega (arith, c.next_number.ensures.number)) refl
