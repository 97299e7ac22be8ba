-- A connection is written.
use Rattle.std.proofs.Common.{◌≡◌, ℕ, ◌==◌, Bool, true, false, inl, inr, refl, sym, ap, subst, ◌∙◌}
use Rattle.std.specs.Prelude.{◌≢◌, ◌⊎◌, if◌then◌else◌}
use Rattle.std.proofs.lemmas.Bool.{eqb-true, eqb-false, ne_eqb}
use Rattle.vs_link.specs.Connection.{Connection, unused}
use Rattle.vs_link.specs.Links.{Links, Line, Becomes, IsPair, connection_of}
use Rattle.vs_machine.specs.State as machine
use Rattle.vs_machine.specs.Tables.{put, put_at}
use Rattle.vs_state.specs.declared.state.State.{State}
use Rattle.vs_state.specs.Plain.{plain, link}
use Rattle.vs_core.specs.Keeps.{IsSound}
use Rattle.vs_core.proofs.Agrees.{agrees_same}

abbrev pub with_links : State → Links → State
with_links s links = record s { links = links }

module _ (s : State) (links : Links) (x y : ℕ) (l : Connection) (pair : IsPair s.links x y) (becomes : Becomes s.links links x y l) where
  -- the connection of the machine
  pub link_is : (plain s).link x y ≡ connection_of s.links x y
  link_is = ap (λ e. if e then unused else connection_of s.links x y) (ne_eqb x y pair.apart)

  links_at : (p q : ℕ) → link (with_links s links) p q ≡ put_at (link s) x y l p q
  links_at p q = by_first (p == x) refl
    where
      others : (p ≢ x) ⊎ (q ≢ y) → link (with_links s links) p q ≡ link s p q
      others ne = ap (λ (v : Line). if p == q then unused else v.connection) (becomes.others p q ne)

      by_second : p ≡ x → (e : Bool) → (q == y) ≡ e → link (with_links s links) p q ≡ (if e then l else link s x q)
      by_second is true e = ap (λ f. if f then unused else connection_of links p q) (ne_eqb p q (λ same. pair.apart (sym is ∙ same ∙ eqb-true q y e)))
          ∙ subst (λ p. connection_of links p q ≡ l) (sym is) (subst (λ q. connection_of links x q ≡ l) (sym (eqb-true q y e)) becomes.here)
      by_second is false e = others (inr (eqb-false q y e)) ∙ ap (λ p. link s p q) is

      by_first : (e : Bool) → (p == x) ≡ e → link (with_links s links) p q ≡ (if e then put (link s x) y l else link s p) q
      by_first true e = by_second (eqb-true p x e) (q == y) refl
      by_first false e = others (inl (eqb-false p x e))

  pub link_written : plain (with_links s links) ≡ machine.put_link (plain s) x y l
  link_written = λ i. record (plain s) { link = λ p q. links_at p q i }

  pub sound_links : IsSound s → IsSound (with_links s links)
  sound_links i = record {
    sized = record { sets = i.sized.sets; links = becomes.sets ∙ i.sized.links; buckets = i.sized.buckets; histories = i.sized.histories; clients = i.sized.clients; operators = i.sized.operators };
    agrees = agrees_same s (with_links s links) (record { clients = refl; holds = λ m x b c. refl; up = refl; count = refl; entry = λ b. refl; transfer = λ b. refl }) (λ x b. refl) (λ x. refl) i.agrees;
  }
