use Rattle.std.proofs.Common.{ℕ, refl, ap, ◌∙◌}
use Rattle.vs_config.specs.Configuration.{configuration}
use Rattle.vs_world.proofs.Beginning.{begins_whole, counted}
use Rattle.vs_world.proofs.Kept.{kept}
use Rattle.vs_world.proofs.opened.begin.Goals as goal

pub invariant_of-result : goal.invariant_of-result
invariant_of-result g c =
    let made = c.in-Ok-begin_core.ensures in
    begins_whole c.in-Ok-begin_core.core c.new.result c.in-Ok-begin_core.opening c.args.stores (configuration c.args.config) c.args.limit c.args.states.items (record {
      ready = c.requires.ready;
      state = made.state;
      opens = made.opens;
      config_is = made.config;
      limit_is = made.limit;
      states_are = made.states;
      faults_are = λ x. ap (λ (f : ℕ → ℕ). f x) made.faults ∙ counted c.args.stores c.in-Ok.faults.items c.in-Ok.ensures.count c.in-Ok.ensures.counts x;
      unreserved = made.unreserved;
      none = c.new.ensures;
    })

pub returns-in-Ok-begin_core-clause-begins : goal.returns-in-Ok-begin_core-clause-begins
returns-in-Ok-begin_core-clause-begins g c =
    let made = c.in-Ok-begin_core.ensures in
    record {
      config_is = made.config;
      scripts_are = made.scripts;
      limit_is = made.limit;
      states_are = made.states;
      faults_are = λ x. ap (λ (f : ℕ → ℕ). f x) made.faults ∙ counted c.args.stores c.in-Ok.faults.items c.in-Ok.ensures.count c.in-Ok.ensures.counts x;
      state = made.state;
      events = c.new.ensures;
      unreserved = made.unreserved;
      disks = refl;
      kept = kept c.in-Ok-begin_core.core c.new.result c.in-Ok-begin_core.opening c.args.stores
          (begins_whole c.in-Ok-begin_core.core c.new.result c.in-Ok-begin_core.opening c.args.stores (configuration c.args.config) c.args.limit c.args.states.items (record {
            ready = c.requires.ready;
            state = made.state;
            opens = made.opens;
            config_is = made.config;
            limit_is = made.limit;
            states_are = made.states;
            faults_are = λ x. ap (λ (f : ℕ → ℕ). f x) made.faults ∙ counted c.args.stores c.in-Ok.faults.items c.in-Ok.ensures.count c.in-Ok.ensures.counts x;
            unreserved = made.unreserved;
            none = c.new.ensures;
          }));
    }
