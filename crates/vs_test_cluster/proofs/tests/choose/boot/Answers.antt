use Rattle.std.proofs.Common.{◌≡◌, List, [], ◌∷◌, ◌++◌, ◌∙◌, sym, ap, subst, All, arith, length}
use Rattle.std.specs.Prelude.{map}
use Rattle.std.proofs.lemmas.List.Elements.{All-cons}
use Rattle.vs_config.specs.Configuration.{configuration}
use Rattle.vs_script.specs.Lawful.{IsLawfulScript}
use Rattle.vs_script.specs.Scripts.{Script, script}
use Rattle.vs_script.specs.declared.script.Script as declared
use Rattle.vs_test_cluster.proofs.tests.choose.boot.Goals as goal

pub new_core-requires : goal.new_core-requires
new_core-requires c =
    let config = configuration c.in_ok-config.config in
    let law = c.in_ok-config.ensures.lawful in
    let together = c.in_ok-scripts.ensures.together in
    let P : Script → Type 0 = IsLawfulScript config.bucket_count (length config.sets) in
    let first = c.in_ok-first.first in
    let second = c.in_ok-second.second in
    let one : c.push.new.self.items ≡ first ∷ [] =
    c.in_ok-push.ensures.items ∙ ap (λ (xs : List declared.Script). xs ++ first ∷ []) c.new-given.ensures.items in
    let both : c.push-2.new.self.items ≡ first ∷ second ∷ [] =
    c.in_ok-push-2.ensures.items ∙ ap (λ (xs : List declared.Script). xs ++ second ∷ []) one in
    let none : All P [] = λ k d below. absurd (omega arith) in
    let each : All P (script first ∷ script second ∷ []) =
    All-cons P (script first) (script second ∷ []) c.in_ok-first.ensures.lawful
    (All-cons P (script second) [] c.in_ok-second.ensures.lawful none) in
    let given = subst (λ (xs : List declared.Script). All P (map script xs)) (sym both) each in
    let all = c.in_ok-scripts.ensures.lawful config.bucket_count (length config.sets) given in
    record {
      buckets = law.bucket_count;
      sets = law.number_of_sets;
      threshold = law.threshold;
      max_receiving = law.max_receiving;
      max_sending = law.max_sending;
      clients = together.clients;
      operators = together.operators;
      few_calls = together.few_calls;
      few_scans = together.few_scans;
      few_commands = together.few_commands;
      calls = all.0;
      commands = all.1;
      cuts = together.cuts;
    }
