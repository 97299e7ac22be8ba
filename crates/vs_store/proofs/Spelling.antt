-- Bodies that spell changes, and what folding makes of them.
use Rattle.std.proofs.Common.{◌≡◌, ◌⊎◌, inl, inr, ℕ, ◌+◌, ◌==◌, Bool, true, false, List, [], ◌∷◌, ◌++◌, length, take, drop, Option, Some, None, Result, Ok, Err, if◌then◌else◌, refl, sym, ap, subst, ◌∙◌, arith}
use Rattle.std.specs.Option.{option_map}
use Rattle.std.proofs.lemmas.Bool.{true≢false, cases_lt}
use Rattle.std.proofs.lemmas.List.{length-take, get_or-take, get_or_past}
use Rattle.std.proofs.lemmas.Bool.Decides.{Decides-eqb}
use Rattle.vs_frame.specs.Journal.{Journal, Leads, IsEntry, IsInFirst, IsInSecond, IsAlong}
use Rattle.vs_frame.specs.Reading.{number_at}
use Rattle.vs_frame.proofs.Reading.{likely_is}
use Rattle.vs_record.specs.Body.{IsBodyOf, IsOfVersion}
use Rattle.vs_record.specs.Change.{Change}
use Rattle.vs_record.specs.Durable.{Durable, FitsState, applied, fold}
use Rattle.vs_record.specs.Fitting.{fits}
use Rattle.vs_record.specs.Reading.{change_of}
use Rattle.vs_record.proofs.Changes.{change_told, change_again}
use Rattle.vs_record.proofs.Fitting.{fits_decides}
use Rattle.vs_record.proofs.Taken.{IsBytes-drop}
use Rattle.vs_store.specs.Meaning.{AreBytes, AreSpelled, FitInTurn, start_of, IsMade}
use Rattle.vs_store.specs.Standing.{◌>>=◌, next, with_number, change_with, stepped, folded, end_of, folded_in}
use Rattle.vs_store.proofs.Standings.{its_change, stepped_on}

-- ---- one body

-- what is spelled so is read so
pub spelled_change : (number : Option ℕ) (body : List ℕ) (c : Change) → IsBodyOf body number c → change_with number body ≡ Some c
spelled_change None body c is = ap (λ (b : List ℕ). option_map (λ (found : Option ℕ × Change). found.1) (change_of 1 b)) is.text ∙ ap (option_map (λ (found : Option ℕ × Change). found.1)) (change_again 1 None c refl is.recordable)
spelled_change (Some n) body c is = ap (λ (b : List ℕ). with_number n (change_of 2 b)) is.text ∙ its_change n c is.recordable

first_change : (r : Option (Option ℕ × Change)) (c : Change) → option_map (λ (found : Option ℕ × Change). found.1) r ≡ Some c → (m : Option ℕ) × (r ≡ Some (m, c))
first_change None c is = absurd cc
first_change (Some (m, e)) c is = (m, (let same : e ≡ c = cc in ap (λ (x : Change). Some (m, x)) same))

second_change : (n : ℕ) (r : Option (Option ℕ × Change)) (c : Change) → with_number n r ≡ Some c → r ≡ Some (Some n, c)
second_change n None c is = absurd cc
second_change n (Some (None, e)) c is = absurd cc
second_change n (Some (Some m, e)) c is = by (m == n) refl is
  where
    by : (t : Bool) → (m == n) ≡ t → (if t then Some e else None) ≡ Some c → ◌≡◌ {A = Option (Option ℕ × Change)} (Some (Some m, e)) (Some (Some n, c))
    by true same h =
        let number : m ≡ n = (Decides-eqb m n).0 same in
        let change : e ≡ c = cc in
        (λ i. Some (Some (number i), change i))
    by false same h = absurd cc

without_number : (body : List ℕ) (m : Option ℕ) (c : Change) → IsOfVersion 1 m → IsBodyOf body m c → IsBodyOf body None c
without_number body None c version is = is
without_number body (Some n) c version is = absurd (omega (arith, version))

-- and what is read is spelled so
pub change_spelled : (number : Option ℕ) (body : List ℕ) (c : Change) → AreBytes body → change_with number body ≡ Some c → IsBodyOf body number c
change_spelled None body c bytes is =
    let found = first_change (change_of 1 body) c is in
    let told = change_told 1 body found.0 c (omega arith, omega arith) bytes found.1 in
    without_number body found.0 c told.0 told.1
change_spelled (Some n) body c bytes is = (change_told 2 body (Some n) c (omega arith, omega arith) bytes (second_change n (change_of 2 body) c is)).1

-- ---- one step

pub step_told : (n : ℕ) (d : Durable) (gate : ℕ) (r : Option Change) (x : Durable) → stepped n d gate r ≡ Ok x → (c : Change) × (r ≡ Some c) × FitsState n d c × (applied d c ≡ x)
step_told n d gate None x is = absurd cc
step_told n d gate (Some c) x is = by (fits n d c) refl is
  where
    by : (t : Bool) → fits n d c ≡ t → (if t then Ok (applied d c) else Err gate) ≡ Ok x → (e : Change) × (Some c ≡ Some e) × FitsState n d e × (applied d e ≡ x)
    by true fit h = let same : applied d c ≡ x = cc in (c, refl, (fits_decides n d c).0 fit, same)
    by false fit h = absurd cc

-- where it fails, it fails at its gate, and no change there fits
pub step_fails : (n : ℕ) (d : Durable) (gate : ℕ) (r : Option Change) (p : ℕ) → stepped n d gate r ≡ Err p → (gate ≡ p) × ((c : Change) → r ≡ Some c → ¬ FitsState n d c)
step_fails n d gate None p is = (cc, λ c some fit. absurd cc)
step_fails n d gate (Some e) p is = by (fits n d e) refl is
  where
    by : (t : Bool) → fits n d e ≡ t → (if t then Ok (applied d e) else Err gate) ≡ Err p → (gate ≡ p) × ((c : Change) → Some e ≡ Some c → ¬ FitsState n d c)
    by true fit h = absurd cc
    by false fit h = (cc, λ c some held. let same : e ≡ c = cc in true≢false (sym ((fits_decides n d c).1 held) ∙ ap (fits n d) (sym same) ∙ fit))

pub no_step : (n : ℕ) (d : Durable) (gate : ℕ) (r : Option Change) → ((c : Change) → r ≡ Some c → ¬ FitsState n d c) → stepped n d gate r ≡ Err gate
no_step n d gate None none = refl
no_step n d gate (Some c) none = by (fits n d c) refl
  where
    by : (t : Bool) → fits n d c ≡ t → (if t then Ok (applied d c) else Err gate) ≡ Err gate
    by true fit = absurd (none c refl ((fits_decides n d c).0 fit))
    by false fit = refl

-- ---- bodies

abbrev pub AllBytes : List (List ℕ) → Type 0
AllBytes [] = Unit {0}
AllBytes (body ∷ bodies) = AreBytes body × AllBytes bodies

pub spelled_folds : (n : ℕ) (d : Durable) (gate : ℕ) (number : Option ℕ) (bodies : List (List ℕ)) (cs : List Change) → AreSpelled number bodies cs → FitInTurn n d cs → folded n d gate number bodies ≡ Ok (fold d cs)
unfolding folded
spelled_folds n d gate number [] [] spelled fit = refl
spelled_folds n d gate number [] (c ∷ cs) spelled fit = absurd spelled
spelled_folds n d gate number (body ∷ bodies) [] spelled fit = absurd spelled
spelled_folds n d gate number (body ∷ bodies) (c ∷ cs) spelled fit =
    ap (λ (r : Result Durable ℕ). r >>= λ x. folded n x (gate + (5 + length body)) (next number) bodies) (stepped_on n d gate (change_with number body) c (spelled_change number body c spelled.0) fit.0)
    ∙ spelled_folds n (applied d c) (gate + (5 + length body)) (next number) bodies cs spelled.1 fit.1

pub record Spelled (n : ℕ) (d : Durable) (number : Option ℕ) (bodies : List (List ℕ)) (e : Durable) : Type 0 where
  pub changes : List Change
  pub spelled : AreSpelled number bodies changes
  pub fit : FitInTurn n d changes
  pub state : fold d changes ≡ e

pub folds_spelled : (n : ℕ) (d : Durable) (gate : ℕ) (number : Option ℕ) (bodies : List (List ℕ)) (e : Durable) → AllBytes bodies → folded n d gate number bodies ≡ Ok e → Spelled n d number bodies e
unfolding folded
folds_spelled n d gate number [] e bytes is = record { changes = []; spelled = tt; fit = tt; state = cc }
folds_spelled n d gate number (body ∷ bodies) e bytes is = by (λ x. folds_spelled n x (gate + (5 + length body)) (next number) bodies e bytes.1) (stepped n d gate (change_with number body)) refl is
  where
    by : ((x : Durable) → folded n x (gate + (5 + length body)) (next number) bodies ≡ Ok e → Spelled n x (next number) bodies e) → (r : Result Durable ℕ) → stepped n d gate (change_with number body) ≡ r
        → (r >>= λ x. folded n x (gate + (5 + length body)) (next number) bodies) ≡ Ok e → Spelled n d number (body ∷ bodies) e
    by rest (Err p) step h = absurd cc
    by rest (Ok x) step h =
        let s = step_told n d gate (change_with number body) x step in
        let more = rest x h in
        record {
          changes = s.0 ∷ more.changes;
          spelled = (change_spelled number body s.0 bytes.0 s.1, more.spelled);
          fit = (s.2, subst (λ (y : Durable). FitInTurn n y more.changes) (sym s.3) more.fit);
          state = ap (λ (y : Durable). fold y more.changes) s.3 ∙ more.state;
        }

-- ---- both parts

fold_append : (d : Durable) (xs ys : List Change) → fold d (xs ++ ys) ≡ fold (fold d xs) ys
fold_append d [] ys = refl
fold_append d (x ∷ xs) ys = fold_append (applied d x) xs ys

fit_append : (n : ℕ) (d : Durable) (xs ys : List Change) → FitInTurn n d xs → FitInTurn n (fold d xs) ys → FitInTurn n d (xs ++ ys)
fit_append n d [] ys first second = second
fit_append n d (x ∷ xs) ys first second = (first.0, fit_append n (applied d x) xs ys first.1 second)

fit_split : (n : ℕ) (d : Durable) (xs ys : List Change) → FitInTurn n d (xs ++ ys) → FitInTurn n d xs × FitInTurn n (fold d xs) ys
fit_split n d [] ys fit = (tt, fit)
fit_split n d (x ∷ xs) ys fit = let rest = fit_split n (applied d x) xs ys fit.1 in ((fit.0, rest.0), rest.1)

pub made_folds : (j : Journal) (d : Durable) → IsMade j d → folded_in j ≡ Ok d
made_folds j d made =
    let n = j.head.bucket_count in
    let both = fit_split n (start_of j.head) made.first made.second made.fit in
    let first = spelled_folds n (start_of j.head) 36 None j.first made.first made.first_spelled both.0 in
    let second = spelled_folds n (fold (start_of j.head) made.first) (end_of 36 j.first + 1) (Some 1) j.second made.second made.second_spelled both.1 in
    ap (λ (r : Result Durable ℕ). r >>= λ x. folded j.head.bucket_count x (end_of 36 j.first + 1) (Some 1) j.second) first ∙ second ∙ ap (λ (x : Durable). Ok x) (sym (fold_append (start_of j.head) made.first made.second) ∙ made.state)

pub folds_made : (j : Journal) (d : Durable) → AllBytes j.first → AllBytes j.second → folded_in j ≡ Ok d → IsMade j d
folds_made j d first_bytes second_bytes is = by (folded j.head.bucket_count (start_of j.head) 36 None j.first) refl is
  where
    by : (r : Result Durable ℕ) → folded j.head.bucket_count (start_of j.head) 36 None j.first ≡ r → (r >>= λ x. folded j.head.bucket_count x (end_of 36 j.first + 1) (Some 1) j.second) ≡ Ok d → IsMade j d
    by (Err p) first h = absurd cc
    by (Ok x) first h =
        let one = folds_spelled j.head.bucket_count (start_of j.head) 36 None j.first x first_bytes first in
        let two = folds_spelled j.head.bucket_count x (end_of 36 j.first + 1) (Some 1) j.second d second_bytes h in
        record {
          first = one.changes;
          second = two.changes;
          first_spelled = one.spelled;
          second_spelled = two.spelled;
          fit = fit_append j.head.bucket_count (start_of j.head) one.changes two.changes one.fit (subst (λ (y : Durable). FitInTurn j.head.bucket_count y two.changes) (sym one.state) two.fit);
          state = fold_append (start_of j.head) one.changes two.changes ∙ ap (λ (y : Durable). fold y two.changes) one.state ∙ two.state;
        }

-- ---- the bodies of a file of bytes

bytes-take : (n : ℕ) (bytes : List ℕ) → AreBytes bytes → AreBytes (take n bytes)
bytes-take n bytes h i =
    elim (cases_lt i n) [
      | inl lt ↦ rw (get_or-take n bytes i 0 lt) (h i)
      | inr le ↦ rw (get_or_past (take n bytes) i 0 (omega (arith, length-take n bytes))) (omega arith)
    ]

pub entry_bytes : (file : List ℕ) (place : ℕ) (body : List ℕ) → AreBytes file → IsEntry file place body → AreBytes body
entry_bytes file place body bytes is = subst AreBytes (likely_is file place body is) (bytes-take (number_at file (place + 1)) (drop (place + 5) file) (IsBytes-drop (place + 5) file bytes))

pub leads_bytes : (file : List ℕ) (place : ℕ) (bodies : List (List ℕ)) (end : ℕ) → AreBytes file → Leads file place bodies end → AllBytes bodies
leads_bytes file place [] end bytes leads = tt
leads_bytes file place (body ∷ bodies) end bytes leads = (entry_bytes file place body bytes leads.0, leads_bytes file (place + (5 + length body)) bodies end bytes leads.1)

pub along_made : (file : List ℕ) (j : Journal) (part : ℕ) (d : Durable) → AreBytes file → IsAlong file j part → folded_in j ≡ Ok d → IsMade j d
along_made file j part d bytes along is = by along.so_far
  where
    by : IsInFirst file j part ⊎ IsInSecond file j part → IsMade j d
    by (inl first) = folds_made j d (leads_bytes file 36 j.first j.gate bytes first.entries) (subst AllBytes (sym first.none) tt) is
    by (inr second) = folds_made j d (leads_bytes file 36 j.first second.middle bytes second.first.entries) (leads_bytes file (second.middle + 1) j.second j.gate bytes second.entries) is
