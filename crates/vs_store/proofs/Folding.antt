-- Bodies that are folded one after the other.
use Rattle.std.proofs.Common.{◌≡◌, ◌⊎◌, inl, inr, ℕ, ◌+◌, ◌-◌, List, [], ◌∷◌, ◌++◌, length, Option, Some, None, Result, Ok, Err, refl, sym, ap, subst, ◌∙◌, arith}
use Rattle.vs_frame.specs.Journal.{Journal, Leads, IsInFirst, IsInSecond, IsAlong, Begins, with_body}
use Rattle.vs_frame.specs.Reading.{journal_of, cut_at}
use Rattle.vs_frame.specs.declared.head.Head.{Head}
use Rattle.vs_frame.proofs.Begins.{begins, cut}
use Rattle.vs_record.specs.Durable.{Durable, booted}
use Rattle.vs_store.specs.Replay.{number_in}
use Rattle.vs_store.specs.Standing.{◌>>=◌, next, change_with, stepped, folded, end_of, folded_in, standing, failing, wrong_in, standing_by, state_of}

-- ---- places

pub end_push : (gate : ℕ) (bodies : List (List ℕ)) (body : List ℕ) → end_of gate (bodies ++ body ∷ []) ≡ end_of gate bodies + (5 + length body)
end_push gate [] body = refl
end_push gate (b ∷ bodies) body = end_push (gate + (5 + length b)) bodies body

pub leads_end : (file : List ℕ) (place : ℕ) (bodies : List (List ℕ)) (end : ℕ) → Leads file place bodies end → end ≡ end_of place bodies
leads_end file place [] end leads = sym leads
leads_end file place (body ∷ bodies) end leads = leads_end file (place + (5 + length body)) bodies end leads.1

-- ---- numbers

-- the number behind these bodies
abbrev pub number_after : Option ℕ → List (List ℕ) → Option ℕ
number_after None bodies = None
number_after (Some n) bodies = Some (n + length bodies)

after_none : (number : Option ℕ) → number_after number [] ≡ number
after_none None = refl
after_none (Some n) = let same : n + 0 ≡ n = omega arith in ap (λ (k : ℕ). Some k) same

after_one : (number : Option ℕ) (body : List ℕ) (bodies : List (List ℕ)) → number_after (next number) bodies ≡ number_after number (body ∷ bodies)
after_one None body bodies = refl
after_one (Some n) body bodies = let same : n + 1 + length bodies ≡ n + length (body ∷ bodies) = omega arith in ap (λ (k : ℕ). Some k) same

-- ---- one part

bind_ok : {X E : Type 0} (r : Result X E) → (r >>= λ x. Ok x) ≡ r
bind_ok (Ok x) = refl
bind_ok (Err e) = refl

-- one body more at the end
pub folded_push : (n : ℕ) (d : Durable) (gate : ℕ) (number : Option ℕ) (bodies : List (List ℕ)) (body : List ℕ) → folded n d gate number (bodies ++ body ∷ []) ≡ (folded n d gate number bodies >>= λ x. stepped n x (end_of gate bodies) (change_with (number_after number bodies) body))
unfolding folded
folded_push n d gate number [] body = bind_ok (stepped n d gate (change_with number body)) ∙ ap (λ (m : Option ℕ). stepped n d gate (change_with m body)) (sym (after_none number))
folded_push n d gate number (b ∷ bodies) body = by (λ x. folded_push n x (gate + (5 + length b)) (next number) bodies body) (stepped n d gate (change_with number b))
  where
    by : ((x : Durable) → folded n x (gate + (5 + length b)) (next number) (bodies ++ body ∷ []) ≡ (folded n x (gate + (5 + length b)) (next number) bodies >>= λ y. stepped n y (end_of (gate + (5 + length b)) bodies) (change_with (number_after (next number) bodies) body)))
        → (r : Result Durable ℕ) → (r >>= λ x. folded n x (gate + (5 + length b)) (next number) (bodies ++ body ∷ [])) ≡ ((r >>= λ x. folded n x (gate + (5 + length b)) (next number) bodies) >>= λ y. stepped n y (end_of (gate + (5 + length b)) bodies) (change_with (number_after number (b ∷ bodies)) body))
    by rest (Err p) = refl
    by rest (Ok x) = rest x ∙ ap (λ (m : Option ℕ). folded n x (gate + (5 + length b)) (next number) bodies >>= λ y. stepped n y (end_of (gate + (5 + length b)) bodies) (change_with m body)) (after_one number b bodies)

-- where it fails, it fails with more bodies behind
pub folded_fails : (n : ℕ) (d : Durable) (gate : ℕ) (number : Option ℕ) (bodies more : List (List ℕ)) (p : ℕ) → folded n d gate number bodies ≡ Err p → folded n d gate number (bodies ++ more) ≡ Err p
unfolding folded
folded_fails n d gate number [] more p fails = absurd cc
folded_fails n d gate number (b ∷ bodies) more p fails = by (λ x. folded_fails n x (gate + (5 + length b)) (next number) bodies more p) (stepped n d gate (change_with number b)) fails
  where
    by : ((x : Durable) → folded n x (gate + (5 + length b)) (next number) bodies ≡ Err p → folded n x (gate + (5 + length b)) (next number) (bodies ++ more) ≡ Err p)
        → (r : Result Durable ℕ) → (r >>= λ x. folded n x (gate + (5 + length b)) (next number) bodies) ≡ Err p → (r >>= λ x. folded n x (gate + (5 + length b)) (next number) (bodies ++ more)) ≡ Err p
    by rest (Err q) h = h
    by rest (Ok x) h = rest x h

pub folded_none : (n : ℕ) (d : Durable) (gate : ℕ) (number : Option ℕ) → folded n d gate number [] ≡ Ok d
unfolding folded
folded_none n d gate number = refl

-- ---- both parts

-- one body more at the end of the second
pub folded_second : (j : Journal) (body : List ℕ) (place : ℕ) → folded_in (with_body 2 body place j) ≡ (folded_in j >>= λ d. stepped j.head.bucket_count d (end_of (end_of 36 j.first + 1) j.second) (change_with (Some (length j.second + 1)) body))
folded_second j body place = by (folded j.head.bucket_count (booted j.head.boot_first j.head.boot_count) 36 None j.first)
  where
    start : ℕ
    start = end_of 36 j.first + 1

    number : 1 + length j.second ≡ length j.second + 1
    number = omega arith

    by : (r : Result Durable ℕ) → (r >>= λ d. folded j.head.bucket_count d (end_of 36 j.first + 1) (Some 1) (j.second ++ body ∷ []))
        ≡ ((r >>= λ d. folded j.head.bucket_count d (end_of 36 j.first + 1) (Some 1) j.second) >>= λ d. stepped j.head.bucket_count d (end_of (end_of 36 j.first + 1) j.second) (change_with (Some (length j.second + 1)) body))
    by (Err p) = refl
    by (Ok d) =
        folded_push j.head.bucket_count d (end_of 36 j.first + 1) (Some 1) j.second body
        ∙ ap (λ (n : ℕ). folded j.head.bucket_count d (end_of 36 j.first + 1) (Some 1) j.second >>= λ x. stepped j.head.bucket_count x (end_of (end_of 36 j.first + 1) j.second) (change_with (Some n) body)) number

-- without a second part the first makes the state
pub folded_alone : (j : Journal) → j.second ≡ [] → folded_in j ≡ folded j.head.bucket_count (booted j.head.boot_first j.head.boot_count) 36 None j.first
folded_alone j none = by (folded j.head.bucket_count (booted j.head.boot_first j.head.boot_count) 36 None j.first)
  where
    by : (r : Result Durable ℕ) → (r >>= λ d. folded j.head.bucket_count d (end_of 36 j.first + 1) (Some 1) j.second) ≡ r
    by (Err p) = refl
    by (Ok d) = ap (λ (l : List (List ℕ)). folded j.head.bucket_count d (end_of 36 j.first + 1) (Some 1) l) none ∙ folded_none j.head.bucket_count d (end_of 36 j.first + 1) (Some 1)

-- one body more at the end of the first, where there is no second
pub folded_first : (j : Journal) (body : List ℕ) (place : ℕ) → j.second ≡ [] → folded_in (with_body 1 body place j) ≡ (folded_in j >>= λ d. stepped j.head.bucket_count d (end_of 36 j.first) (change_with None body))
folded_first j body place none =
    folded_alone (with_body 1 body place j) none ∙ folded_push j.head.bucket_count (booted j.head.boot_first j.head.boot_count) 36 None j.first body
    ∙ ap (λ (r : Result Durable ℕ). r >>= λ d. stepped j.head.bucket_count d (end_of 36 j.first) (change_with None body)) (sym (folded_alone j none))

-- A body that was read, in its part, whose entry ends at this place.
pub folded_body : (file : List ℕ) (j : Journal) (body : List ℕ) (part place : ℕ) → IsAlong file (with_body part body place j) part
    → folded_in (with_body part body place j) ≡ (folded_in j >>= λ d. stepped j.head.bucket_count d (place - (5 + length body)) (change_with (number_in part (length j.second)) body))
folded_body file j body part place along = by part along.so_far
  where
    by : (p : ℕ) → IsInFirst file (with_body p body place j) p ⊎ IsInSecond file (with_body p body place j) p
        → folded_in (with_body p body place j) ≡ (folded_in j >>= λ d. stepped j.head.bucket_count d (place - (5 + length body)) (change_with (number_in p (length j.second)) body))
    by p (inl first) =
        let Has : ℕ → Type 0 = λ q. IsInFirst file (with_body q body place j) q in
        let Goal : ℕ → Type 0 = λ q. folded_in (with_body q body place j) ≡ (folded_in j >>= λ d. stepped j.head.bucket_count d (place - (5 + length body)) (change_with (number_in q (length j.second)) body)) in
        let one : Has 1 = subst Has first.part_is first in
        let gate : end_of 36 j.first ≡ place - (5 + length body) = omega (arith, leads_end file 36 (j.first ++ body ∷ []) place one.entries, end_push 36 j.first body) in
        let goal : Goal 1 = folded_first j body place one.none ∙ ap (λ (g : ℕ). folded_in j >>= λ d. stepped j.head.bucket_count d g (change_with None body)) gate in
        subst Goal (sym first.part_is) goal
    by p (inr second) =
        let Has : ℕ → Type 0 = λ q. IsInSecond file (with_body q body place j) q in
        let Goal : ℕ → Type 0 = λ q. folded_in (with_body q body place j) ≡ (folded_in j >>= λ d. stepped j.head.bucket_count d (place - (5 + length body)) (change_with (number_in q (length j.second)) body)) in
        let two : Has 2 = subst Has second.part_is second in
        let middle : two.middle ≡ end_of 36 j.first = leads_end file 36 j.first two.middle two.first.entries in
        let entries = subst (λ (m : ℕ). Leads file (m + 1) (j.second ++ body ∷ []) place) middle two.entries in
        let gate : end_of (end_of 36 j.first + 1) j.second ≡ place - (5 + length body) = omega (arith, leads_end file (end_of 36 j.first + 1) (j.second ++ body ∷ []) place entries, end_push (end_of 36 j.first + 1) j.second body) in
        let goal : Goal 2 = folded_second j body place ∙ ap (λ (g : ℕ). folded_in j >>= λ d. stepped j.head.bucket_count d g (change_with (Some (length j.second + 1)) body)) gate in
        subst Goal (sym second.part_is) goal

-- ---- a state that isn't made

err_in : (n : ℕ) (d : Durable) (gate : ℕ) (number : Option ℕ) (bodies all more : List (List ℕ)) (p : ℕ) → all ≡ bodies ++ more → folded n d gate number bodies ≡ Err p → folded n d gate number all ≡ Err p
err_in n d gate number bodies all more p is fails = ap (λ (l : List (List ℕ)). folded n d gate number l) is ∙ folded_fails n d gate number bodies more p fails

-- more bodies behind don't mend it
pub begins_fails : (j : Journal) (part : ℕ) (k : Journal) (p : ℕ) → Begins j part k → folded_in j ≡ Err p → folded_in k ≡ Err p
begins_fails j part k p begin fails = by begin.bodies
  where
    n : ℕ
    n = j.head.bucket_count

    start : Head → Durable
    start head = booted head.boot_first head.boot_count

    second : Durable → ℕ → List (List ℕ) → Result Durable ℕ
    second d from bodies = folded j.head.bucket_count d from (Some 1) bodies

    moved : folded j.head.bucket_count (booted j.head.boot_first j.head.boot_count) 36 None k.first >>= (λ d. folded j.head.bucket_count d (end_of 36 k.first + 1) (Some 1) k.second) ≡ Err p → folded_in k ≡ Err p
    moved h = ap (λ (head : Head). folded head.bucket_count (booted head.boot_first head.boot_count) 36 None k.first >>= λ d. folded head.bucket_count d (end_of 36 k.first + 1) (Some 1) k.second) begin.head ∙ h

    by : ((part ≡ 1) × (j.second ≡ []) × (more : List (List ℕ)) × (k.first ≡ j.first ++ more)) ⊎ ((part ≡ 2) × (k.first ≡ j.first) × (more : List (List ℕ)) × (k.second ≡ j.second ++ more)) → folded_in k ≡ Err p
    by (inl first) =
        let alone = sym (folded_alone j first.1) ∙ fails in
        let all = err_in j.head.bucket_count (booted j.head.boot_first j.head.boot_count) 36 None j.first k.first first.2 p first.3 alone in
        moved (ap (λ (r : Result Durable ℕ). r >>= λ d. folded j.head.bucket_count d (end_of 36 k.first + 1) (Some 1) k.second) all)
    by (inr both) = moved (ap (λ (l : List (List ℕ)). folded j.head.bucket_count (booted j.head.boot_first j.head.boot_count) 36 None l >>= λ d. folded j.head.bucket_count d (end_of 36 l + 1) (Some 1) k.second) both.1 ∙ fails_too (folded j.head.bucket_count (booted j.head.boot_first j.head.boot_count) 36 None j.first) fails)
      where
        fails_too : (r : Result Durable ℕ) → (r >>= λ d. folded j.head.bucket_count d (end_of 36 j.first + 1) (Some 1) j.second) ≡ Err p → (r >>= λ d. folded j.head.bucket_count d (end_of 36 j.first + 1) (Some 1) k.second) ≡ Err p
        fails_too (Err q) h = h
        fails_too (Ok d) h = err_in j.head.bucket_count d (end_of 36 j.first + 1) (Some 1) j.second k.second both.2 p both.3 h

-- so the file is wrong there
pub stopped : (file : List ℕ) (j : Journal) (part p : ℕ) → IsAlong file j part → folded_in j ≡ Err p → state_of file ≡ Err p
stopped file j part p along fails = by (journal_of file) refl
  where
    by : (r : Result Journal ℕ) → journal_of file ≡ r → state_of file ≡ Err p
    by (Ok k) is = ap (standing_by file) is ∙ ap (standing k) (begins_fails j part k p (begins file j part along k is) fails)
    by (Err w) is =
        let k = cut file w j part along is in
        let first : wrong_in w (journal_of (cut_at w file)) ≡ p = ap (wrong_in w) k.1 ∙ ap (failing w) (begins_fails j part k.0 p k.2 fails) in
        ap (standing_by file) is ∙ ap (λ (q : ℕ). Err q) first

-- at the beginning
pub folded_begun : (head : Head) (version gate : ℕ) → folded_in (record { head = head; version = version; first = []; second = []; gate = gate }) ≡ Ok (booted head.boot_first head.boot_count)
folded_begun head version gate = folded_alone (record { head = head; version = version; first = []; second = []; gate = gate }) refl ∙ folded_none head.bucket_count (booted head.boot_first head.boot_count) 36 None
