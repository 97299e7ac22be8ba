use Rattle.std.proofs.Common.{◌≡◌, ◌++◌, ◌∷◌, [], ℕ, List, Bool, true, false, map, OnOk, codes, ap, subst}
use Rattle.serde_json.specs.Data.{Data, string}
use Rattle.serde_json.specs.View.{view}
use Rattle.vs_info.specs.Json.{disbalance}
use Rattle.vs_info.proofs.alerts.put_disbalance.Goals as goal

told : (b : Bool) (text : List ℕ) → b ≡ true → text ≡ codes "disbalanced" → string text ∷ [] ≡ disbalance b
told true text set same = ap (λ t. string t ∷ []) same
told false text set same = absurd (cc set)

pub returns : goal.returns
returns c =
    subst (λ (ds : List Data). OnOk c.put_text.result (map view c.put_text.new.alerts.items ≡ map view c.args.alerts.now.items ++ ds))
    (told c.args.is_unbalanced _ c.if-not-is_unbalanced.false c.in_ok-text.ensures.ok) c.put_text.ensures
