use Rattle.std.proofs.Common.{◌≡◌, ◌+◌, ◌++◌, ◌∷◌, [], ◌∙◌, length, List, refl, sym, ap, subst, arith}
use Rattle.std.proofs.lemmas.List.Elements.{All-get_or}
use Rattle.std.proofs.lemmas.Option.{slice_get_read}
use Rattle.vs_frame.specs.Head.{IsHead}
use Rattle.vs_stores.specs.OpenedStores.{AreNotOpened}
use Rattle.vs_stores.specs.Refusals.{open_fault}
use Rattle.vs_stores.specs.declared.fault.OpenFault.{OpenFault}
use Rattle.vs_stores.specs.declared.fault.OpenFault.TheVariants.{NoMemory}
use Rattle.vs_stores.proofs.Opening.{out_of_memory, all_opened, next_disk, one_more, one_refused, opened_hold}
use Rattle.vs_stores.proofs.stores.Stores.open.Goals as goal

pub add-requires-clause-head : goal.add-requires-clause-head
add-requires-clause-head g c = subst IsHead (sym c.head-item.is) (All-get_or IsHead c.args.heads.now c.heads.head-index c.head-item.result c.heads-test.true c.requires.heads)

pub add-requires-clause-disk : goal.add-requires-clause-disk
add-requires-clause-disk g c it at =
    c.requires.ready c.heads.head-index it c.heads-test.true
    (next_disk (λ d. g.met.D.Disk.lawful d) c.args.heads.now c.args.limit c.args.disks.items c.requires.disks c.heads.all c.heads.states.items c.heads.head-index c.heads.invariant it at)

pub returns-in-Err-clause-refused : goal.returns-in-Err-clause-refused
returns-in-Err-clause-refused g c =
    let heads = c.args.heads.now in
    let k = c.heads.head-index in
    let head = c.head-item.result in
    let head_at = slice_get_read heads (length heads) k head refl c.heads-test.true c.head-item.is in
    let set_is : c.number_at-set.result ≡ k + 1 = omega (arith, c.number_at-set.ensures, c.sets.ensures, c.heads.invariant.count) in
    let one = one_refused (λ d. g.met.D.Disk.lawful d) heads c.args.limit c.args.disks.items c.requires.disks c.heads.all c.heads.states.items k c.heads.invariant head head_at c.add.new.self c.in-Err.fault c.heads-test.true c.in-Err.ensures.refused in
    subst (λ (f : OpenFault). AreNotOpened g.D.Disk.told heads c.args.limit c.args.disks.items f c.close.result.items) (sym (c.of_store.ensures ∙ ap (λ n. open_fault n c.in-Err.fault) set_is))
    (subst (λ (l : List g.row.D.Denot). AreNotOpened g.D.Disk.told heads c.args.limit c.args.disks.items (open_fault (k + 1) c.in-Err.fault) l) (sym c.close.ensures) one)

pub returns-in_default-clause-refused : goal.returns-in_default-clause-refused
returns-in_default-clause-refused g c =
    let heads = c.args.heads.now in
    let k = c.heads.head-index in
    let head = c.head-item.result in
    let head_at = slice_get_read heads (length heads) k head refl c.heads-test.true c.head-item.is in
    let states = c.heads.states.items ++ c.in-Ok.state ∷ [] in
    let more = one_more (λ d. g.met.D.Disk.lawful d) heads c.args.limit c.args.disks.items c.requires.disks c.heads.all c.heads.states.items k c.heads.invariant head head_at c.add.new.self c.in-Ok.state states refl c.in-Ok.ensures.added c.heads-test.true c.head-item.is c.in-Ok.ensures.within in
    subst (λ (l : List g.row.D.Denot). AreNotOpened g.D.Disk.told heads c.args.limit c.args.disks.items NoMemory l) (sym c.close-in_default.ensures)
    (out_of_memory (λ d. g.met.D.Disk.lawful d) heads c.args.limit c.args.disks.items c.requires.disks c.add.new.self states (k + 1) more (omega (arith, c.heads-test.true)))

pub heads-preserved : goal.heads-preserved
heads-preserved g c =
    let heads = c.args.heads.now in
    let k = c.heads.head-index in
    let head = c.head-item.result in
    let head_at = slice_get_read heads (length heads) k head refl c.heads-test.true c.head-item.is in
    one_more (λ d. g.met.D.Disk.lawful d) heads c.args.limit c.args.disks.items c.requires.disks c.heads.all c.heads.states.items k c.heads.invariant head head_at c.add.new.self c.in-Ok.state c.push.new.self.items c.in-Ok-push.ensures.items c.in-Ok.ensures.added c.heads-test.true c.head-item.is c.in-Ok.ensures.within

pub returns-clause-opened : goal.returns-clause-opened
returns-clause-opened g c =
    let heads = c.args.heads.now in
    let k = c.heads.head-index in
    let all_of : k ≡ length heads = omega (arith, c.heads-test.false, c.heads.auto.head-index-end) in
    all_opened (λ d. g.met.D.Disk.lawful d) heads c.args.limit c.args.disks.items c.requires.disks c.heads.all c.heads.states.items k c.heads.invariant all_of

pub returns-clause-holds : goal.returns-clause-holds
returns-clause-holds g c =
    let heads = c.args.heads.now in
    let k = c.heads.head-index in
    let all_of : k ≡ length heads = omega (arith, c.heads-test.false, c.heads.auto.head-index-end) in
    opened_hold heads c.args.limit c.args.disks.items c.heads.all c.heads.states.items c.requires.disks
    (all_opened (λ d. g.met.D.Disk.lawful d) heads c.args.limit c.args.disks.items c.requires.disks c.heads.all c.heads.states.items k c.heads.invariant all_of)
