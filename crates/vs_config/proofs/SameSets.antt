-- Sets compared one by one.
use Rattle.std.proofs.Common.{◌≡◌, Bool, true, false, Decides, refl, sym}
use Rattle.std.specs.Cmp.Lexicographic.{bytes_decides}
use Rattle.std.proofs.lemmas.Bool.Decides.{Decides-eqb, Decides-like, Decides-and}
use Rattle.vs_config.specs.declared.config.SetConfig.{SetConfig}
use Rattle.vs_config.specs.contracts.config.SetConfigPartialEq.TheImpl.{eq-value}
use mathlib.Core.Bool.{beq}

abbrev pub same_set : SetConfig → SetConfig → Bool
same_set = eq-value.it

lock_decides : (a b : Bool) → Decides (beq a b) (a ≡ b)
lock_decides true true = (λ is. refl, λ same. refl)
lock_decides false false = (λ is. refl, λ same. refl)
lock_decides true false = (λ is. sym is, λ same. sym same)
lock_decides false true = (λ is. is, λ same. same)

pub set_decides : (a b : SetConfig) → Decides (same_set a b) (a ≡ b)
set_decides a b =
    Decides-like _ (λ p i. record { uuid = p.0 i; weight = p.1.0 i; lock = p.1.1 i }) (λ e. (λ i. (e i).uuid, (λ i. (e i).weight, λ i. (e i).lock)))
    (Decides-and _ _ (bytes_decides a.uuid b.uuid) (Decides-and _ _ (Decides-eqb a.weight b.weight) (lock_decides a.lock b.lock)))
