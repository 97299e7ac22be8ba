-- What the calls leave of the disks, one after another.
use Rattle.std.proofs.Common.{◌≡◌, ℕ, zero, suc, true, List, length, Some, refl, sym, subst, ◌∙◌, arith}
use Rattle.std.proofs.lemmas.Option.{slice_get_within}
use Rattle.vs_config.specs.Configuration.{Configuration}
use Rattle.vs_disk.specs.Told.{Told}
use Rattle.vs_disk.specs.Model.{Keeps}
use Rattle.vs_event.specs.declared.event.Event.{Event}
use Rattle.vs_event.specs.declared.event.Event.TheVariants.{Deliver, Hear, Ask, Condemn, Wipe, Forget, Restart}
use Rattle.vs_machine.specs.Tables.{is_to}
use Rattle.vs_store.proofs.Told.{keeps_then}
use Rattle.vs_stores.specs.Numbered.{at_number}
use Rattle.vs_stores.proofs.Lists.{some_is, get_within}
use Rattle.vs_world.specs.Counted.{IsNoFault, KeepsCount}
use Rattle.vs_world.specs.Played.{state_of}
use Rattle.vs_world.specs.World.{World, IsKept, KeepsDisks}
use Rattle.vs_settle.specs.Service.{IsService}
use Rattle.vs_settle.specs.Stopped.{KeepsFaults}

pub service_no_fault : (e : Event) → IsService e → IsNoFault e
service_no_fault (Deliver x y) is = tt
service_no_fault (Hear x y) is = tt
service_no_fault (Ask x b) is = tt
service_no_fault (Condemn x b) is = tt
service_no_fault (Wipe x b) is = tt
service_no_fault (Forget x b) is = tt
service_no_fault (Restart x kept by) is = tt
service_no_fault e is = absurd is

-- where as many stand there is one at the same number
pub there : {D : Type 0} (xs ys : List D) (x : ℕ) (a : D) → length ys ≡ length xs → at_number xs x ≡ Some a → (b : D) × (at_number ys x ≡ Some b)
there xs ys zero a count at = absurd cc
there xs ys (suc i) a count at = get_within ys i (omega (arith, slice_get_within xs i a at, count))

pub faults_none : {D : Type 0} (told : D → Told) (w : World D) → KeepsFaults told w w
faults_none {D = D} told w = record {
  disks = refl;
  keeps = λ x was is a b. subst (λ (d : D). Keeps (told was) (told d)) (some_is was is (sym a ∙ b)) (record { stays_open = λ h. h; reads = refl; honest = refl; room = omega arith; faults = omega arith });
  counted = λ x known counted. counted;
}

pub faults_one : {D : Type 0} (told : D → Told) (old new : World D) (e : Event) → IsKept told old → IsKept told new → KeepsDisks told old new e → KeepsCount told old new → KeepsFaults told old new
faults_one told old new e before after k counted = record { disks = after.disks ∙ sym before.disks; keeps = k.keeps; counted = counted }

pub faults_then : {D : Type 0} (told : D → Told) (p q r : World D) → (state_of q.played).config ≡ (state_of p.played).config → KeepsFaults told p q → KeepsFaults told q r → KeepsFaults told p r
faults_then told p q r config f g = record {
  disks = g.disks ∙ f.disks;
  keeps = λ x was is a b.
      let mid = there p.disks q.disks x was f.disks a in
      keeps_then (told was) (told mid.0) (told is) (f.keeps x was mid.0 a mid.1) (g.keeps x mid.0 is mid.1 b);
  counted = λ x known counted.
      g.counted x (subst (λ (c : Configuration). is_to (length c.sets) x ≡ true) (sym config) known) (f.counted x known counted);
}
