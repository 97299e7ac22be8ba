-- The lines of waves, one after the other.
use Rattle.std.proofs.Common.{◌≡◌, ℕ, ◌+◌, ◌<◌, List, [], ◌∷◌, ◌++◌, length, take, get_or, append_assoc, append-nil, ap, ◌∙◌, sym, subst, arith}
use Rattle.std.proofs.lemmas.List.{take_more, map-append, length-map, length-take-le}
use Rattle.vs_base.specs.Listed.{Listed}
use Rattle.vs_balance.specs.declared.route.Route.{Route}
use Rattle.vs_waves.specs.Plan.{plan_of}
use Rattle.vs_plan.specs.Text.{wave_line, wave_lines}

lines-append : (k : ℕ) (waves : List (List Route)) (wave : List Route) → wave_lines k (waves ++ wave ∷ []) ≡ wave_lines k waves ++ wave_line (k + length waves) wave
lines-append k [] wave =
    let same : k ≡ k + 0 = omega arith in
    append-nil (wave_line k wave) ∙ ap (λ (n : ℕ). wave_line n wave) same
lines-append k (w ∷ waves) wave =
    let rest = lines-append (k + 1) waves wave in
    let at : (k + 1) + length waves ≡ k + length (w ∷ waves) = omega arith in
    ap (λ t. wave_line k w ++ t) (rest ∙ ap (λ (n : ℕ). wave_lines (k + 1) waves ++ wave_line n wave) at)
    ∙ sym (append_assoc (wave_line k w) (wave_lines (k + 1) waves) (wave_line (k + length (w ∷ waves)) wave))

pub lines_more : (waves : List (Listed Route)) (i : ℕ) (wave : Listed Route) → i < length waves → wave ≡ get_or waves i wave
    → wave_lines 1 (plan_of (take (i + 1) waves)) ≡ wave_lines 1 (plan_of (take i waves)) ++ wave_line (i + 1) wave.items
lines_more waves i wave within is =
    let more : take (i + 1) waves ≡ take i waves ++ wave ∷ [] = take_more waves i wave within ∙ ap (λ (w : Listed Route). take i waves ++ w ∷ []) (sym is) in
    let plans : plan_of (take (i + 1) waves) ≡ plan_of (take i waves) ++ wave.items ∷ [] = ap plan_of more ∙ map-append (λ (w : Listed Route). w.items) (take i waves) (wave ∷ []) in
    let so_many : length (plan_of (take i waves)) ≡ i = length-map (take i waves) (λ (w : Listed Route). w.items) ∙ length-take-le i waves (omega arith) in
    let number : 1 + length (plan_of (take i waves)) ≡ i + 1 = omega (arith, so_many) in
    ap (wave_lines 1) plans ∙ lines-append 1 (plan_of (take i waves)) wave.items ∙ ap (λ (n : ℕ). wave_lines 1 (plan_of (take i waves)) ++ wave_line n wave.items) number

-- a wave more is put out
pub one_more : (before so_far new : List ℕ) (items waves : List (Listed Route)) (i : ℕ) (wave : Listed Route) (moves : List Route) → so_far ≡ before ++ wave_lines 1 (plan_of (take i waves)) → items ≡ waves → i < length items → wave ≡ get_or items i wave
    → moves ≡ wave.items → new ≡ so_far ++ wave_line (i + 1) moves → new ≡ before ++ wave_lines 1 (plan_of (take (i + 1) waves))
one_more before so_far new items waves i wave moves first same within is moves_are added =
    let below : i < length waves = subst (λ (w : List (Listed Route)). i < length w) same within in
    let there : wave ≡ get_or waves i wave = subst (λ (w : List (Listed Route)). wave ≡ get_or w i wave) same is in
    added ∙ ap (λ (m : List Route). so_far ++ wave_line (i + 1) m) moves_are ∙ ap (λ (t : List ℕ). t ++ wave_line (i + 1) wave.items) first
    ∙ append_assoc before (wave_lines 1 (plan_of (take i waves))) (wave_line (i + 1) wave.items) ∙ ap (λ (t : List ℕ). before ++ t) (sym (lines_more waves i wave below there))
