-- The references still agree where nothing changed that they depend on.
use Rattle.std.proofs.Common.{◌≡◌, ℕ, Bool, sym, ap, ◌∙◌}
use Rattle.std.specs.Prelude.{◌&&◌}
use Rattle.vs_base.specs.declared.numbers.Mode.{Mode}
use Rattle.vs_base.specs.declared.numbers.Mode.TheVariants.{Ro, Rw}
use Rattle.vs_machine.specs.State as machine
use Rattle.vs_machine.specs.Tables.{count_to}
use Rattle.vs_machine.specs.Kinds.Collection.{is_garbage}
use Rattle.vs_machine.specs.Kinds.Rebalancing.{hauls_at, is_haul}
use Rattle.vs_state.specs.declared.state.State.{State}
use Rattle.vs_state.specs.Agrees.{Agrees, agreed, counts_at, hauls_in}
use Rattle.vs_state.specs.Plain.{plain}

-- counts of the same tests are the same
pub count_same : (p r : ℕ → Bool) (n : ℕ) → ((k : ℕ) → r k ≡ p k) → count_to r n ≡ count_to p n
count_same p r n same = ap (λ (f : ℕ → Bool). count_to f n) (λ i k. same k i)

-- both states have the same references to agree with
pub record SameHeld (m n : machine.State) : Type 0 where
  pub clients : n.clients ≡ m.clients
  pub holds : (mode : Mode) (x b c : ℕ) → machine.holds mode x b (n.client c) ≡ machine.holds mode x b (m.client c)
  pub up : n.up ≡ m.up
  pub count : n.config.bucket_count ≡ m.config.bucket_count
  pub entry : (b : ℕ) → (n.bucket b).entry ≡ (m.bucket b).entry
  pub transfer : (b : ℕ) → (n.bucket b).transfer ≡ (m.bucket b).transfer

references_same : (m n : machine.State) → SameHeld m n → (mode : Mode) (x b : ℕ) → machine.references n mode x b ≡ machine.references m mode x b
references_same m n h mode x b = λ i. count_to (λ c. h.holds mode x b c i) (h.clients i)

pub agreed_same : (m n : machine.State) → SameHeld m n → (x b : ℕ) → agreed n x b ≡ agreed m x b
agreed_same m n h x b = λ i. record {
  ro = references_same m n h Ro x b i;
  rw = references_same m n h Rw x b i;
  ro_lock = h.up i x && is_garbage (h.entry b i x);
  rw_lock = machine.is_draining (h.transfer b i x);
}

pub hauls_same : (m n : machine.State) → SameHeld m n → (x : ℕ) → hauls_at n x ≡ hauls_at m x
hauls_same m n h x = λ i. count_to (λ b. is_haul (h.transfer b i x)) (h.count i)

pub agrees_same : (s t : State) → SameHeld (plain s) (plain t) → ((x b : ℕ) → counts_at t x b ≡ counts_at s x b) → ((x : ℕ) → hauls_in t x ≡ hauls_in s x) → Agrees s → Agrees t
agrees_same s t h counts hauls a = record {
  counts = λ x b. counts x b ∙ a.counts x b ∙ sym (agreed_same (plain s) (plain t) h x b);
  hauls = λ x. hauls x ∙ a.hauls x ∙ sym (hauls_same (plain s) (plain t) h x);
}
