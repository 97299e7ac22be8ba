-- Calls that are drawn one after the other.
use Rattle.std.proofs.Common.{◌≡◌, ℕ, ◌+◌, ◌*◌, zero, suc, [], ◌∷◌, ◌++◌, map, length, refl, ap, sym, ◌∙◌, arith}
use Rattle.std.specs.List.{range_with_len}
use Rattle.std.proofs.lemmas.List.FromFn.{map-range_with_len_more, length-map-range_with_len}
use Rattle.vs_gen.specs.Calls.{call_of, drawn_call, drawn_calls, drawn_clients}
use Rattle.vs_gen.specs.Draws.{state_after, draw}
use Rattle.vs_gen.proofs.Drawn.{draw-after, state_after-add}

-- ---- one call

-- its four draws, each from the state that the one before it left
pub call_drawn : (x y z w : ℕ) → y ≡ state_after x 1 → z ≡ state_after y 1 → w ≡ state_after z 1
    → call_of (draw x 1) (draw y 1) (draw z 1) (draw w 1) ≡ drawn_call x 0
unfolding drawn_call
call_drawn x y z w ey ez ew =
    let e2 : z ≡ state_after x 2 = ez ∙ ap (λ s. state_after s 1) ey ∙ state_after-add x 1 1 in
    let e3 : w ≡ state_after x 3 = ew ∙ ap (λ s. state_after s 1) e2 ∙ state_after-add x 2 1 in
    let d2 : draw y 1 ≡ draw x 2 = ap (λ s. draw s 1) ey ∙ draw-after x 1 1 in
    let d3 : draw z 1 ≡ draw x 3 = ap (λ s. draw s 1) e2 ∙ draw-after x 2 1 in
    let d4 : draw w 1 ≡ draw x 4 = ap (λ s. draw s 1) e3 ∙ draw-after x 3 1 in
    cc

pub states_left : (x y z w v : ℕ) → y ≡ state_after x 1 → z ≡ state_after y 1 → w ≡ state_after z 1 → v ≡ state_after w 1
    → v ≡ state_after x 4
states_left x y z w v ey ez ew ev =
    let e2 : z ≡ state_after x 2 = ez ∙ ap (λ s. state_after s 1) ey ∙ state_after-add x 1 1 in
    let e3 : w ≡ state_after x 3 = ew ∙ ap (λ s. state_after s 1) e2 ∙ state_after-add x 2 1 in
    ev ∙ ap (λ s. state_after s 1) e3 ∙ state_after-add x 3 1

-- the calls that are drawn after so many calls
call_after : (n a i : ℕ) → drawn_call (state_after n (4 * a)) i ≡ drawn_call n (a + i)
unfolding drawn_call
call_after n a i =
    let at : (k : ℕ) → draw (state_after n (4 * a)) (4 * i + k) ≡ draw n (4 * (a + i) + k) = λ k. draw-after n (4 * a) (4 * i + k) ∙ ap (draw n) (omega arith) in
    let d1 = at 1 in
    let d2 = at 2 in
    let d3 = at 3 in
    let d4 = at 4 in
    cc

-- ---- lists of them

shifted : {X : Type 0} (f g : ℕ → X) (a b m : ℕ) → ((i : ℕ) → f (a + i) ≡ g (b + i)) → map f (range_with_len a m) ≡ map g (range_with_len b m)
shifted f g a b zero same = refl
shifted f g a b (suc m) same =
    let here : f a ≡ g b = ap f (let e : a ≡ a + 0 = omega arith in e) ∙ same 0 ∙ ap g (let e : b + 0 ≡ b = omega arith in e) in
    let later = shifted f g (a + 1) (b + 1) m (λ i. ap f (let e : a + 1 + i ≡ a + (i + 1) = omega arith in e) ∙ same (i + 1) ∙ ap g (let e : b + (i + 1) ≡ b + 1 + i = omega arith in e)) in
    cc

pub calls_after : (n a many : ℕ) → drawn_calls (state_after n (4 * a)) 0 many ≡ drawn_calls n a many
unfolding drawn_calls
calls_after n a many =
    shifted (drawn_call (state_after n (4 * a))) (drawn_call n) 0 a many
    (λ i. call_after n a (0 + i) ∙ ap (drawn_call n) (omega arith))

pub no_calls : (n first : ℕ) → drawn_calls n first 0 ≡ []
unfolding drawn_calls
no_calls n first = refl

-- one more call, which is drawn after those before it
pub one_more_call : (n many : ℕ) → drawn_calls n 0 (many + 1) ≡ drawn_calls n 0 many ++ drawn_call (state_after n (4 * many)) 0 ∷ []
unfolding drawn_calls
one_more_call n many =
    map-range_with_len_more (drawn_call n) 0 many many (omega arith)
    ∙ ap (λ c. map (drawn_call n) (range_with_len 0 many) ++ c ∷ []) (sym (call_after n many 0 ∙ ap (drawn_call n) (omega arith)))

pub length-drawn_calls : (n first many : ℕ) → length (drawn_calls n first many) ≡ many
unfolding drawn_calls
length-drawn_calls n first many = length-map-range_with_len (drawn_call n) first many

-- ---- clients

pub no_clients : (n each : ℕ) → drawn_clients n 0 each ≡ []
unfolding drawn_clients
no_clients n each = refl

-- one more client, whose calls are drawn after those of the clients before it
pub one_more_client : (n clients each : ℕ) → drawn_clients n (clients + 1) each ≡ drawn_clients n clients each ++ drawn_calls (state_after n (4 * (each * clients))) 0 each ∷ []
unfolding drawn_clients
one_more_client n clients each =
    map-range_with_len_more (λ c. drawn_calls n (each * c) each) 0 clients clients (omega arith)
    ∙ ap (λ calls. map (λ c. drawn_calls n (each * c) each) (range_with_len 0 clients) ++ calls ∷ []) (sym (calls_after n (each * clients) each))

pub length-drawn_clients : (n clients each : ℕ) → length (drawn_clients n clients each) ≡ clients
unfolding drawn_clients
length-drawn_clients n clients each = length-map-range_with_len (λ c. drawn_calls n (each * c) each) 0 clients
