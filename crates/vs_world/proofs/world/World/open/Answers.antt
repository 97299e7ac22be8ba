use Rattle.std.proofs.Common.{◌≡◌, ℕ, length, sym, ap, subst, ◌∙◌, arith}
use Rattle.std.specs.Prelude.{All}
use Rattle.std.proofs.lemmas.Result.{IfOk-weaker}
use Rattle.vs_config.specs.Configuration.{configuration}
use Rattle.vs_frame.specs.declared.head.Head.{Head}
use Rattle.vs_stores.specs.OpenedStores.{AreUnwritten, AreEmpty, HasFailed}
use Rattle.vs_stores.proofs.Opening.{ready_opened, ready_refused}
use Rattle.vs_script.specs.Scripts as script
use Rattle.vs_world.specs.Heads.{AreHeads}
use Rattle.vs_world.specs.NotOpened.{IsNotOpened}
use Rattle.vs_world.specs.declared.fault.WorldFault.{WorldFault}
use Rattle.vs_world.proofs.OpenedJournals.{not_made_ready, no_memory_failed, not_opened, empty_before, shares_counted, ready_to_begin, begun_opened, begin_refused, of_both}
use Rattle.vs_world.proofs.world.World.open.Goals as goal

pub returns-in-Err-clause-refused : goal.returns-in-Err-clause-refused
returns-in-Err-clause-refused g c =
    let config = configuration c.args.config in
    let before = c.args.disks.items in
    let after = c.make_ready.new.disks.items in
    let u = subst (λ (n : ℕ). AreUnwritten g.D.Disk.told n before after) c.len.ensures.value c.make_ready.ensures.unwritten in
    let failed = subst (λ (n : ℕ). HasFailed g.D.Disk.told n before after c.in-Err.fault) c.len.ensures.value c.in-Err.ensures.failed in
    subst (λ (f : WorldFault). IsNotOpened g.D.Disk.told config c.args.limit before f after) (sym c.from.ensures)
    (not_made_ready config c.args.limit before after c.in-Err.fault u failed)

pub returns-in-Err-heads-clause-refused : goal.returns-in-Err-heads-clause-refused
returns-in-Err-heads-clause-refused g c =
    let config = configuration c.args.config in
    let before = c.args.disks.items in
    let after = c.make_ready.new.disks.items in
    let u = subst (λ (n : ℕ). AreUnwritten g.D.Disk.told n before after) c.len.ensures.value c.make_ready.ensures.unwritten in
    not_made_ready config c.args.limit before after _ u (no_memory_failed g.D.Disk.told (length config.sets) before after)

pub begin-requires-clause-ready : goal.begin-requires-clause-ready
begin-requires-clause-ready g c =
    let config = configuration c.args.config in
    let heads = c.deref.result.now in
    let before = c.args.disks.items in
    let heads_are : AreHeads config c.in-Ok.is_new heads = c.deref.ensures.value ∙ c.in-Ok-heads.ensures.heads in
    let count : length heads ≡ length config.sets = ap length c.deref.ensures.value ∙ c.in-Ok-heads.ensures.count in
    let u = subst (λ (n : ℕ). AreUnwritten g.D.Disk.told n before c.make_ready.new.disks.items) (c.len.ensures.value ∙ sym count) c.make_ready.ensures.unwritten in
    let opened = ready_opened heads c.args.limit before c.make_ready.new.disks.items u c.in-Ok-open.stores c.in-Ok-open.states.items c.in-Ok-open.ensures.opened in
    ready_to_begin config c.in-Ok.is_new heads heads_are count c.args.limit before c.in-Ok-open.stores c.in-Ok-open.states.items
    (omega (arith, c.requires.disks, c.requires.lawful.sets.1)) (shares_counted config c.in-Ok.is_new c.requires.lawful.sets c.requires.lawful.buckets) opened c.requires.disks c.requires.lawful.sets.1

pub begin-requires-clause-buckets : goal.begin-requires-clause-buckets
begin-requires-clause-buckets g c =
    let n = c.args.config.bucket_count in
    c.in-Ok-open.ensures.within n (subst (All (λ (head : Head). head.bucket_count ≡ n)) (sym c.deref.ensures.value) c.in-Ok-heads.ensures.buckets)

pub returns-in-Ok-open-clause-opened : goal.returns-in-Ok-open-clause-opened
returns-in-Ok-open-clause-opened g c =
    let config = configuration c.args.config in
    let heads = c.deref.result.now in
    let before = c.args.disks.items in
    let ready = c.make_ready.new.disks.items in
    let is_new = c.in-Ok.is_new in
    let heads_are : AreHeads config is_new heads = c.deref.ensures.value ∙ c.in-Ok-heads.ensures.heads in
    let count : length heads ≡ length config.sets = ap length c.deref.ensures.value ∙ c.in-Ok-heads.ensures.count in
    let u = subst (λ (n : ℕ). AreUnwritten g.D.Disk.told n before ready) (c.len.ensures.value ∙ sym count) c.make_ready.ensures.unwritten in
    let u' = subst (λ (n : ℕ). AreUnwritten g.D.Disk.told n before ready) c.len.ensures.value c.make_ready.ensures.unwritten in
    let opened = ready_opened heads c.args.limit before ready u c.in-Ok-open.stores c.in-Ok-open.states.items c.in-Ok-open.ensures.opened in
    let empty = empty_before config is_new heads heads_are count before ready u' (subst (λ (n : ℕ). AreEmpty g.D.Disk.told n ready is_new) c.len.ensures.value c.in-Ok.ensures.empty) in
    IfOk-weaker c.begin.result _ _ (λ w begins. begun_opened config is_new heads heads_are count c.args.limit before c.in-Ok-open.stores c.in-Ok-open.states.items
    (omega (arith, c.requires.disks, c.requires.lawful.sets.1)) (shares_counted config is_new c.requires.lawful.sets c.requires.lawful.buckets) opened empty (script.scripts c.args.scripts) w begins) c.begin.ensures.begins

pub returns-in-Ok-open-clause-refused : goal.returns-in-Ok-open-clause-refused
returns-in-Ok-open-clause-refused g c =
    let config = configuration c.args.config in
    let heads = c.deref.result.now in
    let before = c.args.disks.items in
    let ready = c.make_ready.new.disks.items in
    let is_new = c.in-Ok.is_new in
    let heads_are : AreHeads config is_new heads = c.deref.ensures.value ∙ c.in-Ok-heads.ensures.heads in
    let count : length heads ≡ length config.sets = ap length c.deref.ensures.value ∙ c.in-Ok-heads.ensures.count in
    let u = subst (λ (n : ℕ). AreUnwritten g.D.Disk.told n before ready) (c.len.ensures.value ∙ sym count) c.make_ready.ensures.unwritten in
    let u' = subst (λ (n : ℕ). AreUnwritten g.D.Disk.told n before ready) c.len.ensures.value c.make_ready.ensures.unwritten in
    let opened = ready_opened heads c.args.limit before ready u c.in-Ok-open.stores c.in-Ok-open.states.items c.in-Ok-open.ensures.opened in
    let empty = empty_before config is_new heads heads_are count before ready u' (subst (λ (n : ℕ). AreEmpty g.D.Disk.told n ready is_new) c.len.ensures.value c.in-Ok.ensures.empty) in
    of_both c.begin.result _ _ _ (λ e are is. begin_refused config is_new heads heads_are count c.args.limit before c.in-Ok-open.stores c.in-Ok-open.states.items
    (omega (arith, c.requires.disks, c.requires.lawful.sets.1)) (shares_counted config is_new c.requires.lawful.sets c.requires.lawful.buckets) opened empty e.0 e.1.items are is) c.begin.ensures.disks c.begin.ensures.fault

pub returns-in-Err-open-clause-refused : goal.returns-in-Err-open-clause-refused
returns-in-Err-open-clause-refused g c =
    let config = configuration c.args.config in
    let heads = c.deref.result.now in
    let before = c.args.disks.items in
    let ready = c.make_ready.new.disks.items in
    let heads_are : AreHeads config c.in-Ok.is_new heads = c.deref.ensures.value ∙ c.in-Ok-heads.ensures.heads in
    let count : length heads ≡ length config.sets = ap length c.deref.ensures.value ∙ c.in-Ok-heads.ensures.count in
    let u = subst (λ (n : ℕ). AreUnwritten g.D.Disk.told n before ready) (c.len.ensures.value ∙ sym count) c.make_ready.ensures.unwritten in
    subst (λ (f : WorldFault). IsNotOpened g.D.Disk.told config c.args.limit before f c.in-Err-open.disks.items) (sym c.from-in-Err-open.ensures)
    (not_opened config c.in-Ok.is_new heads heads_are count c.args.limit before c.in-Err-open.disks.items c.in-Err-open.fault (ready_refused heads c.args.limit before ready u c.in-Err-open.fault c.in-Err-open.disks.items c.in-Err-open.ensures.refused))
