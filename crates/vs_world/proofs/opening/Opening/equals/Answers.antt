use Rattle.std.proofs.Common.{map, ap, sym, ◌∙◌, rules}
use Rattle.std.specs.Cmp.Lexicographic.{bytes_decides}
use Rattle.vs_record.specs.States.{durable}
use Rattle.vs_world.proofs.States.{begun_same, states_same, faults_same, differs}
use Rattle.vs_world.proofs.opening.Opening.equals.Goals as goal

pub returns-then-not-are_same : goal.returns-then-not-are_same
returns-then-not-are_same c =
    let a = c.args.self.now in
    let b = c.args.other.now in
    differs c.are_same.ensures c.if-not-are_same.true (λ same. ap (map durable) c.deref.ensures.value ∙ states_same a b same a.with_states b.with_states ∙ ap (map durable) (sym c.deref-2.ensures.value))

pub returns : goal.returns
returns c =
    let a = c.args.self.now in
    let b = c.args.other.now in
    let faults = bytes_decides a.faults.items b.faults.items in (
      λ is. begun_same a b ((c.equals.ensures).0 c.if-not-equals.false) ((c.equals-2.ensures).0 c.if-not-equals-2.false) (search rules)
          (ap (map durable) (sym c.deref.ensures.value) ∙ (c.are_same.ensures).0 c.if-not-are_same.false ∙ ap (map durable) c.deref-2.ensures.value) (faults.0 (sym c.eq.ensures ∙ is)),
      λ same. c.eq.ensures ∙ faults.1 (faults_same a b same a.with_faults b.with_faults),
    )
