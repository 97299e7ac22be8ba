-- The report of each run of a cluster that begins with scripts that were read is legal.
use Rattle.std.proofs.Common.{List, subst, sym, All}
use Rattle.vs_machine.specs.Opening.{opening}
use Rattle.vs_machine.specs.Runs.{IsReached}
use Rattle.vs_machine.proofs.Inputs.{begun_inputs}
use Rattle.vs_machine.proofs.Opens.{each_script}
use Rattle.vs_script.specs.Calls.{Call}
use Rattle.vs_legal.specs.Named.{IsNamedOp}
use Rattle.vs_legal.proofs.Readable.{reports_are_legal as reached_are_legal}
use Rattle.vs_named.specs.Laws.{ReportsAreLegal}
use Rattle.vs_named.proofs.Scripts.{scripts_are_named}

pub reports_are_legal : ReportsAreLegal
reports_are_legal files names config scripts held events s read opens ran rows short =
    let calls = scripts_are_named files names config scripts read in
    let reached : IsReached s = record { config = config; scripts = scripts; held = held; events = events; opens = opens; runs = ran } in
    let same = begun_inputs (opening config scripts held) s events ran in
    reached_are_legal s reached (record {
      rows = rows;
      calls = λ c. subst (λ (ks : List Call). All (λ k. All IsNamedOp k.ops) ks) (sym (same.client c)) (each_script (λ (k : Call). All IsNamedOp k.ops) scripts.clients c calls);
      short = short;
    })
