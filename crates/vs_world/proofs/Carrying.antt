-- An event that writes nothing.
use Rattle.std.proofs.Common.{◌≡◌, Bool, true, false, [], ◌∷◌, ◌++◌, None, Ok, refl, ap}
use Rattle.std.specs.Option.{option_and_then}
use Rattle.std.specs.Prelude.{if◌then◌else◌}
use Rattle.vs_base.specs.Listed.{Listed}
use Rattle.vs_core.specs.Core as core
use Rattle.vs_core.specs.Records.{records}
use Rattle.vs_disk.specs.declared.disk.Disk.{Ghosts}
use Rattle.vs_disk.specs.Model.{IsLawful}
use Rattle.vs_event.specs.declared.event.Event.{Event}
use Rattle.vs_machine.specs.Journals.{written, KeepsJournals}
use Rattle.vs_event.specs.declared.event.Event.TheVariants.{Restart}
use Rattle.vs_machine.specs.Kinds.Stops.{recording}
use Rattle.vs_machine.specs.State.{State}
use Rattle.vs_machine.specs.Runs.{IsReached}
use Rattle.vs_machine.specs.Step.{step}
use Rattle.vs_stores.specs.declared.stores.Stores.{Stores}
use Rattle.vs_world.specs.Played.{IsAdvanced}
use Rattle.vs_world.specs.Rising.{RaisesNone}
use Rattle.vs_world.specs.Steps.{HasRoom}
use Rattle.vs_world.specs.Whole.{IsWhole, played_in, shown}
use Rattle.vs_world.specs.World.{KeepsDisks}
use Rattle.vs_world.specs.declared.opening.Opening.{Opening}
use Rattle.vs_world.proofs.Dues.{still_hold, still_calm}
use Rattle.vs_world.proofs.Grown.{whole_more, untouched_stores}
use Rattle.vs_world.proofs.Kept.{kept, same_disks}
use Rattle.vs_world.proofs.Pending.{more_pending}
use Rattle.vs_world.proofs.Playing.{is_reached, is_run_more}
use Rattle.vs_world.proofs.Rising.{rises_none}
use Rattle.vs_world.proofs.Writing.{Laws}

-- an event that records nothing, and is no restart of a set that is down, writes nothing
pub not_written : (s : State) (e : Event) → RaisesNone s e → records s e ≡ None → written s e ≡ None
not_written s (Restart x true by) up is = ap (λ (u : Bool). option_and_then (recording x) (if u then None else s.pending x)) up
not_written s (Restart x false by) up is = refl
not_written s e raises is = is

module _ {D : Type 0} {disk : Ghosts D} (laws : Laws) (c c' : core.Shown) (events events' : Listed Event) (opening : Opening) (all : Stores D disk) (whole : IsWhole c events opening all)
    (e : Event) (raises : RaisesNone (core.means c) e) (none : written (core.means c) e ≡ None)
    (h : step (core.means c) e ≡ Ok (core.means c')) (listed : events'.items ≡ events.items ++ e ∷ []) (spent : c'.is_reserved ≡ false) where
  reached : IsReached (core.means c)
  reached = is_reached (played_in c events opening) whole.run

  keeps : KeepsJournals (core.means c) (core.means c') e
  keeps = laws.written (core.means c) (core.means c') e reached h

  config : (core.means c').config ≡ (core.means c).config
  config = (laws.inputs (core.means c) (core.means c') e h).config

  pub advanced : IsAdvanced (played_in c events opening) (played_in c' events' opening) e
  advanced = record { step = h; events = listed; opening = refl }

  pub whole_carried : IsWhole c' events' opening all
  whole_carried =
      let more = more_pending laws.pending (core.means c) (core.means c') e reached raises h keeps in
      whole_more c c' events events' opening all all 0 whole (untouched_stores all 0)
      (is_run_more (played_in c events opening) (played_in c' events' opening) e whole.run advanced)
      config
      (still_hold (core.means c) (core.means c') e keeps config none all whole.calm more whole.hold)
      (λ y up. whole.ready y (rises_none (core.means c) (core.means c') e raises h y up))
      (still_calm (core.means c) (core.means c') e keeps config none all whole.calm more)
      (λ reserved. absurd (cc (reserved, spent)))

  pub room_carried : HasRoom (shown c events opening all) e
  room_carried bare r is = absurd (cc (none, is))

  pub disks_carried : ((d : D) → IsLawful (disk.told d)) → KeepsDisks disk.told (shown c events opening all) (shown c' events' opening all) e
  disks_carried lawful = same_disks disk.told lawful (shown c events opening all) (shown c' events' opening all) (kept c events opening all whole) refl e
