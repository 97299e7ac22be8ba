-- One bucket or one connection changes: what is known of each transfer that waits stays.
use Rattle.std.proofs.Common.{◌≡◌, ℕ, inl, inr, refl, sym, ap, subst, ◌∙◌, Option, Some, None}
use Rattle.vs_link.specs.Connection.{Connection}
use Rattle.vs_send.specs.declared.transfer.Phase.{Phase}
use Rattle.vs_send.specs.declared.transfer.Transfer.{Transfer}
use Rattle.vs_machine.specs.State.{State, Bucket}
use Rattle.vs_machine.specs.Tables.{put, put_at}
use Rattle.vs_machine.proofs.Frame.{put_each, put_here, put_split, put_pair}
use Rattle.vs_machine.proofs.Waits.Staying.{Waits, Stable, IsStill}

-- what is put at a pair is there
pub pair_here : {A : Type 0} (f : ℕ → ℕ → A) (x y : ℕ) (v : A) → put_at f x y v x y ≡ v
pair_here f x y v = ap (λ (g : ℕ → _). g y) (put_here f x (put (f x) y v)) ∙ put_here (f x) y v

module _ (P : Connection → ℕ → Phase → Type 0) where
  abbrev pub HoldsIn : State → Type 0
  HoldsIn s = Waits P s.bucket s.link

  -- one connection changes, where what is known of one transfer stays known
  pub pair_waits : (ls : ℕ → ℕ → Connection) (x y : ℕ) (l : Connection) (q : ℕ) (p : Phase) (z d : ℕ) → (z ≡ x → d ≡ y → P (ls x y) q p → P l q p) → P (ls z d) q p → P (put_at ls x y l z d) q p
  pair_waits ls x y l q p z d goes h =
      put_pair (λ i j (c : Connection). (i ≡ x → j ≡ y → P (ls x y) q p → P l q p) → P (ls i j) q p → P c q p) ls x y l (λ g a. g refl refl a) (λ i j g a. a) z d goes h

  pub link_waits : (bs : ℕ → Bucket) (ls : ℕ → ℕ → Connection) (x y : ℕ) (l : Connection) → ((q : ℕ) (p : Phase) → P (ls x y) q p → P l q p) → Waits P bs ls → Waits P bs (put_at ls x y l)
  link_waits bs ls x y l goes w b z t h = pair_waits ls x y l b t.phase z t.dest (λ _ _. goes b t.phase) (w b z t h)

  pub bucket_waits : (bs : ℕ → Bucket) (ls : ℕ → ℕ → Connection) (b : ℕ) (new : Bucket) → ((z : ℕ) (t : Transfer) → new.transfer z ≡ Some t → P (ls z t.dest) b t.phase) → Waits P bs ls → Waits P (put bs b new) ls
  bucket_waits bs ls b new fits w = put_each (λ q (u : Bucket). (z : ℕ) (t : Transfer) → u.transfer z ≡ Some t → P (ls z t.dest) q t.phase) bs b new fits w

  -- the bucket's transfers stay
  pub same_waits : (bs : ℕ → Bucket) (ls : ℕ → ℕ → Connection) (b : ℕ) (new : Bucket) → new.transfer ≡ (bs b).transfer → Waits P bs ls → Waits P (put bs b new) ls
  same_waits bs ls b new is w = bucket_waits bs ls b new (subst (λ (f : ℕ → Option Transfer). (z : ℕ) (t : Transfer) → f z ≡ Some t → P (ls z t.dest) b t.phase) (sym is) (w b)) w

  -- one transfer changes
  pub moved_waits : (bs : ℕ → Bucket) (ls : ℕ → ℕ → Connection) (b x : ℕ) (v : Option Transfer) (new : Bucket) → new.transfer ≡ put (bs b).transfer x v
      → ((t : Transfer) → v ≡ Some t → P (ls x t.dest) b t.phase) → Waits P bs ls → Waits P (put bs b new) ls
  moved_waits bs ls b x v new is fits w =
      bucket_waits bs ls b new (subst (λ (f : ℕ → Option Transfer). (z : ℕ) (t : Transfer) → f z ≡ Some t → P (ls z t.dest) b t.phase) (sym is) moved) w
    where
      moved : (z : ℕ) (t : Transfer) → put (bs b).transfer x v z ≡ Some t → P (ls z t.dest) b t.phase
      moved z t h = elim (put_split (bs b).transfer x v z (Some t) h) [
        | inl e ↦ subst (λ q. P (ls q t.dest) b t.phase) (sym e.0) (fits t e.1)
        | inr e ↦ w b z t e.1
      ]

  -- a transfer is gone
  pub gone_waits : (bs : ℕ → Bucket) (ls : ℕ → ℕ → Connection) (b x : ℕ) (new : Bucket) → new.transfer ≡ put (bs b).transfer x None → Waits P bs ls → Waits P (put bs b new) ls
  gone_waits bs ls b x new is w = moved_waits bs ls b x None new is (λ t e. absurd cc) w

  -- a transfer is one that waits for no reply
  pub still_waits : Stable P → (bs : ℕ → Bucket) (ls : ℕ → ℕ → Connection) (b x : ℕ) (u : Transfer) (new : Bucket) → new.transfer ≡ put (bs b).transfer x (Some u) → IsStill u.phase → Waits P bs ls → Waits P (put bs b new) ls
  still_waits k bs ls b x u new is still w =
      moved_waits bs ls b x (Some u) new is (λ t e. let same : u ≡ t = cc in subst (λ (q : Transfer). P (ls x q.dest) b q.phase) same (k.still (ls x u.dest) b u.phase still)) w
