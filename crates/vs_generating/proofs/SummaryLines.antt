-- The summary, piece by piece.
use Rattle.std.proofs.Common.{◌≡◌, ℕ, List, ◌++◌, sym, ap, ◌∙◌, append_assoc}

pub pieces : (o1 o2 o3 o4 o5 o6 o7 first sets active w1 n1 w2 n2 w3 n3 end : List ℕ) → o1 ≡ first → o2 ≡ o1 ++ sets → o3 ≡ o2 ++ active → o4 ≡ o3 ++ (w1 ++ n1) → o5 ≡ o4 ++ (w2 ++ n2) → o6 ≡ o5 ++ (w3 ++ n3) → o7 ≡ o6 ++ end
    → o7 ≡ first ++ sets ++ active ++ w1 ++ n1 ++ w2 ++ n2 ++ w3 ++ n3 ++ end
pieces o1 o2 o3 o4 o5 o6 o7 first sets active w1 n1 w2 n2 w3 n3 end s1 s2 s3 s4 s5 s6 s7 =
    let t3 = s3 ∙ ap (λ (t : List ℕ). t ++ active) (s2 ∙ ap (λ (t : List ℕ). t ++ sets) s1) in
    let t4 = s4 ∙ sym (append_assoc o3 w1 n1) ∙ ap (λ (t : List ℕ). t ++ w1 ++ n1) t3 in
    let t5 = s5 ∙ sym (append_assoc o4 w2 n2) ∙ ap (λ (t : List ℕ). t ++ w2 ++ n2) t4 in
    let t6 = s6 ∙ sym (append_assoc o5 w3 n3) ∙ ap (λ (t : List ℕ). t ++ w3 ++ n3) t5 in
    s7 ∙ ap (λ (t : List ℕ). t ++ end) t6
