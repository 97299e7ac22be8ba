use Rattle.std.proofs.Common.{◌≡◌, ◌<◌, List, length, get_or, refl, ap, rules}
use Rattle.std.proofs.lemmas.Option.{slice_get_read}
use Rattle.vs_event.specs.declared.event.Event.{Event}
use Rattle.vs_top.proofs.Stopping.{played_none, played_more, failed}
use Rattle.vs_top.proofs.play.play.Goals as goal

pub loop-i-init : goal.loop-i-init
loop-i-init g c = played_none g.D.Disk.told c.args.world.now c.args.trace.now.items c.requires

pub loop-i-preserved : goal.loop-i-preserved
loop-i-preserved g c =
    let events : List Event = c.args.trace.now.items in
    let within : c.loop-i.i < length events = search rules in
    let is : c.event-item.result ≡ get_or events c.loop-i.i c.event-item.result = search rules in
    played_more g.D.Disk.told c.args.world.now c.loop-i.world c.step.new.self events c.loop-i.i c.event-item.result within is c.loop-i.invariant c.in-Ok.ensures.ok c.in-Ok.ensures.disks.keeps c.in-Ok.ensures.kept.disks

pub returns-in-Err : goal.returns-in-Err
returns-in-Err g c =
    let events : List Event = c.args.trace.now.items in
    let within : c.loop-i.i < length events = search rules in
    let is : c.event-item.result ≡ get_or events c.loop-i.i c.event-item.result = search rules in (
      c.loop-i.i,
      c.in-Err.fault,
      c.fault_at.ensures,
      record {
        mid = c.loop-i.world;
        so_far = c.loop-i.invariant;
        event = c.event-item.result;
        there = slice_get_read events (length events) c.loop-i.i c.event-item.result refl within is;
        refused = λ reason e. (c.in-Err.ensures.refused reason).0 (ap failed e);
        cause = c.in-Err.ensures.cause;
        length_is = λ x e. c.in-Err.ensures.length x (ap failed e);
        keeps = c.in-Err.ensures.disks.keeps;
      },
    )
