-- What a good file over good disks may still end with.
use Rattle.std.proofs.Common.{◌≡◌, ◌≤◌, ℕ, List, length, Result, Ok, Err, refl, sym, subst, arith, inl, inr}
use Rattle.std.specs.Prelude.{IsOkAnd}
use Rattle.vs_config.specs.Configuration.{Configuration}
use Rattle.vs_disk.specs.Told as disk
use Rattle.vs_store.specs.Opening.{HasRoom, IsTooLong}
use Rattle.vs_store.specs.Standing.{Standing, opened}
use Rattle.vs_store.specs.declared.fault.StoreFault.{StoreFault}
use Rattle.vs_store.specs.declared.fault.StoreFault.TheVariants as store
use Rattle.vs_world.specs.Journals.{head_of}
use Rattle.vs_world.specs.NotOpened.{IsNotOpened, IsRefusedAt}
use Rattle.vs_world.specs.declared.fault.WorldFault.{WorldFault}
use Rattle.vs_world.specs.declared.fault.WorldFault.TheVariants as world
use Rattle.vs_top.specs.Endings.{AreGoodDisks}
use Rattle.vs_top.specs.Faults.{from_opening}
use Rattle.vs_top.specs.Plays.{journal_limit}
use Rattle.vs_top.proofs.Possible.{has_item, none_refused_by_bytes}
use Rattle.vs_informing.specs.Cluster.{IsRefusal}
use Rattle.vs_informing.specs.Endings.{MayEndGood}

-- a journal that has room isn't too long
not_both : (r : Result Standing StoreFault) (len : ℕ) → IsOkAnd r (IsTooLong len) → IsOkAnd r (HasRoom journal_limit) → len ≤ journal_limit
not_both (Ok s) len long room = omega (arith, long.len_is, room long.version)
not_both (Err e) len long room = absurd long

module _ {D : Type 0} (tells : D → disk.Told) (config : Configuration) (before after : List D) (count : length before ≡ 32) (count_after : length after ≡ 32) (few : length config.sets ≤ 32) (good : AreGoodDisks tells config before) where
  none_is_full : (x len : ℕ) → IsRefusedAt tells config journal_limit before after x (store.Full len) → ⊥
  none_is_full x len r =
      let was = has_item before x count r.set.0 (omega (arith, r.set.1, few)) in
      let is = has_item after x count_after r.set.0 (omega (arith, r.set.1, few)) in
      let not = r.refused was.0 is.0 was.1 is.1 in
      let long = not.full_is len refl (good.tell x was.0 r.set was.1) in
      omega (arith, not.full len refl, not_both (opened (head_of config x) (tells was.0).reads_as) len long.1 (good.whole x was.0 r.set was.1 long.0))

  not_opened : (fault : WorldFault) → IsNotOpened tells config journal_limit before fault after → MayEndGood (from_opening fault config)
  not_opened (world.OfSet x store.DiskFault) refused = tt
  not_opened (world.OfSet x (store.Full len)) refused = none_is_full x len refused.cause
  not_opened (world.OfSet x store.NoMemory) refused = tt
  not_opened (world.OfSet x (store.NotAJournal place)) refused = none_refused_by_bytes tells config before after count count_after few good x (store.NotAJournal place) tt refused.cause
  not_opened (world.OfSet x (store.OtherSet uuid)) refused = none_refused_by_bytes tells config before after count count_after few good x (store.OtherSet uuid) tt refused.cause
  not_opened (world.OfSet x (store.OtherCount n)) refused = none_refused_by_bytes tells config before after count count_after few good x (store.OtherCount n) tt refused.cause
  not_opened (world.Incoherent bucket entries) refused =
      let at = refused.cause in
      at.least.incoherent (good.fit at.states at.stood_for at.no_others bucket at.least.first at.least.last)
  not_opened world.NoMemory refused = tt

  pub refusal_good : (fault : WorldFault) → IsRefusal tells config before fault after → MayEndGood (from_opening fault config)
  refusal_good fault (inl none) = subst (λ (f : WorldFault). MayEndGood (from_opening f config)) (sym none) tt
  refusal_good fault (inr refused) = not_opened fault refused
