use Rattle.std.proofs.Common.{◌≡◌, ℕ, List, ◌++◌, refl, ap, ◌∙◌, subst, inl}
use Rattle.vs_command.specs.Usage.{usage}
use Rattle.vs_command.specs.declared.verbs.TheConstants.{BUILT}
use Rattle.vs_ending.specs.Ending.{OnlyLogs}
use Rattle.vs_main.proofs.usage.log_usage.Goals as goal

pub returns-in-Ok : goal.returns-in-Ok
returns-in-Ok g c =
    let line : c.as_slice.result.now ≡ usage BUILT = c.as_slice.ensures ∙ (c.put_usage.ensures ∙ ap (λ (t : List ℕ). t ++ usage BUILT) (c.reserve_many.ensures.items ∙ c.new-line.ensures)) in
    inl (refl, subst (λ (bytes : List ℕ). OnlyLogs bytes (g.H.Host.told c.args.host.now) (g.H.Host.told c.log_bytes.new.host)) line c.log_bytes.ensures)
