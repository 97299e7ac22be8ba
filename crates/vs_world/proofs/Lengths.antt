-- The length of a journal that is ready is that of what its disk reads as.
use Rattle.std.proofs.Common.{◌≡◌, ℕ, ◌+◌, true, List, Option, Some, Result, sym, ap, subst, ◌∙◌}
use Rattle.std.specs.Prelude.{IsOkAnd}
use Rattle.std.specs.Option.{option_map_or}
use Rattle.vs_base.specs.Listed.{Listed}
use Rattle.vs_core.specs.Core as core
use Rattle.vs_disk.specs.declared.disk.Disk.{Ghosts}
use Rattle.vs_disk.specs.Told.{Reads}
use Rattle.vs_event.specs.declared.event.Event.{Event}
use Rattle.vs_frame.specs.declared.head.Head.{Head}
use Rattle.vs_machine.specs.Journals.{durable_of}
use Rattle.vs_machine.specs.State.{has_set}
use Rattle.vs_record.specs.Change.{Change}
use Rattle.vs_record.specs.Durable.{Durable}
use Rattle.vs_store.specs.Holding.{Holds}
use Rattle.vs_store.specs.Standing.{Standing, opened}
use Rattle.vs_store.specs.Store as store
use Rattle.vs_store.specs.Store.{told_of}
use Rattle.vs_store.specs.declared.fault.StoreFault.{StoreFault}
use Rattle.vs_store.specs.declared.store.Store.{Store}
use Rattle.vs_store.proofs.Standings.{opened_is}
use Rattle.vs_stores.specs.Stores.{IsReadyAt, length_at, store_at}
use Rattle.vs_stores.specs.declared.stores.Stores.{Stores}
use Rattle.vs_world.specs.Journals.{head_of}
use Rattle.vs_world.specs.Whole.{IsWhole, due_of, shown}
use Rattle.vs_world.specs.World as world
use Rattle.vs_world.specs.World.{IsLengthAt}
use Rattle.vs_world.specs.declared.opening.Opening.{Opening}
use Rattle.vs_world.proofs.Disks.{holds_at}
use Rattle.vs_world.proofs.Kept.{length_is, of_store}

-- the file opens as a journal of this length
abbrev HasLength : Head → ℕ → List ℕ → Type 0
HasLength head n file = IsOkAnd (opened head file) (λ s. s.journal.gate + 1 ≡ n)

ready_length : {D : Type 0} {disk : Ghosts D} (it : Store D disk) (head : Head) (d : Durable) (pending : Option Change) → Holds it head d pending → store.IsReady it → Reads (told_of it) (HasLength head (store.length_of it))
ready_length it head d pending held ready tells =
    let k = held.knows tells in
    subst (λ (r : Result Standing StoreFault). IsOkAnd r (λ s. s.journal.gate + 1 ≡ store.length_of it)) (sym (opened_is head (told_of it).reads_as k.now k.here.stands k.own)) (ap (λ (n : ℕ). n + 1) (k.here.gate ready))

module _ {D : Type 0} {disk : Ghosts D} (c : core.Shown) (events : Listed Event) (opening : Opening) (all : Stores D disk) (whole : IsWhole c events opening all) where
  pub length_shown : (x : ℕ) → has_set (core.means c) x ≡ true → IsReadyAt all x → IsLengthAt disk.told (shown c events opening all) x
  length_shown x there ready = of_store c events opening all whole (λ told. Reads told (HasLength (head_of (core.means c).config x) (world.length_of (shown c events opening all) x))) x there
      (λ it at. subst (λ (n : ℕ). Reads (told_of it) (HasLength (head_of (core.means c).config x) n)) (sym (length_is c events opening all whole x ∙ length_here it at))
      (ready_length it (head_of (core.means c).config x) (durable_of (core.means c) x) ((core.means c).pending x) (holds_at all (due_of (core.means c)) x it whole.hold at) (ready it at)))
    where
      length_here : (it : Store D disk) → store_at all x ≡ Some it → length_at all x ≡ store.length_of it
      length_here it at = ap (λ (o : Option (Store D disk)). option_map_or store.length_of o 0) at
