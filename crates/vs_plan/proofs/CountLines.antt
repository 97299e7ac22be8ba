-- The counts of a text, read line by line.
use Rattle.std.proofs.Common.{◌≡◌, ℕ, suc, ◌+◌, ◌-◌, ◌<◌, ◌≤◌, Option, Some, None, Result, Ok, Err, List, [], ◌∷◌, ◌++◌, length, append_assoc, append-nil, ap, ◌∙◌, sym, subst, refl, arith, false}
use Rattle.std.specs.Prelude.{Bool, if◌then◌else◌, ◌==◌, IfSome}
use Rattle.std.specs.List.{All}
use Rattle.std.proofs.lemmas.Bool.{ne_eqb}
use Rattle.std.proofs.lemmas.List.{length-append}
use Rattle.std.proofs.lemmas.List.Elements.{All-append, All-cons, All-nil}
use Rattle.vs_script.specs.Words.{◌>>=◌}
use Rattle.vs_plan.specs.declared.counts.SetCount.{SetCount}
use Rattle.vs_plan.specs.declared.fault.CountsFault.{CountsFault}
use Rattle.vs_plan.specs.declared.fault.CountsFault.TheVariants.{Line, MissingSet}
use Rattle.vs_plan.specs.declared.fault.LineKind.TheVariants.{BadCounts}
use Rattle.vs_plan.specs.Reading.{at_line, line_of, before_others, counts_in}

-- what was read so far, before what is left
abbrev pub after : {A : Type 0} → List A → Result (List A) CountsFault → Result (List A) CountsFault
after done (Ok more) = Ok (done ++ more)
after done (Err fault) = Err fault

after_one : {A : Type 0} (done : List A) (x : A) (others : Result (List A) CountsFault)
    → after done (others >>= (λ more. Ok (x ∷ more))) ≡ after (done ++ x ∷ []) others
after_one done x (Ok more) = ap Ok (sym (append_assoc done (x ∷ []) more))
after_one done x (Err fault) = refl

abbrev by_line : ℕ → ℕ → List (List ℕ) → Result (Option SetCount) CountsFault → Result (List SetCount) CountsFault
by_line number left lines given = given >>= (λ given. before_others number left given (λ n. counts_in (number + 1) n lines))

module _ (all : Result (List SetCount) CountsFault) (sets number : ℕ) (done : List SetCount) (line : List ℕ) (old new : List (List ℕ)) (so_far : all ≡ after done (counts_in number (sets - length done) old)) (first : old ≡ line ∷ new) where
  at_first : (given : Result (Option SetCount) CountsFault) → at_line number (line_of line) ≡ given → all ≡ after done (by_line number (sets - length done) new given)
  at_first given is =
      so_far ∙ ap (λ (ls : List (List ℕ)). after done (counts_in number (sets - length done) ls)) first
      ∙ ap (λ (g : Result (Option SetCount) CountsFault). after done (by_line number (sets - length done) new g)) is

  pub skipped : at_line number (line_of line) ≡ Ok None → all ≡ after done (counts_in (number + 1) (sets - length done) new)
  skipped is = at_first (Ok None) is

  pub bad : (fault : CountsFault) → at_line number (line_of line) ≡ Err fault → all ≡ Err fault
  bad fault is = at_first (Err fault) is

  pub extra : (c : SetCount) → length done ≡ sets → at_line number (line_of line) ≡ Ok (Some c) → all ≡ Err (Line number BadCounts)
  extra c full is =
      let none : sets - length done ≡ 0 = omega (arith, full) in
      at_first (Ok (Some c)) is ∙ ap (λ (n : ℕ). after done (by_line number n new (Ok (Some c)))) none

  pub one_more : (c : SetCount) → length done < sets → at_line number (line_of line) ≡ Ok (Some c) → all ≡ after (done ++ c ∷ []) (counts_in (number + 1) (sets - length (done ++ c ∷ [])) new)
  one_more c room is =
      let left = sets - length (done ++ c ∷ []) in
      let some : sets - length done ≡ suc left = omega (arith, room, length-append done (c ∷ [])) in
      at_first (Ok (Some c)) is ∙ ap (λ (n : ℕ). after done (by_line number n new (Ok (Some c)))) some ∙ after_one done c (counts_in (number + 1) left new)

-- a line was read, whose counts stand behind those before
pub pushed : (all : Result (List SetCount) CountsFault) (sets number : ℕ) (done new : List SetCount) (line : List ℕ) (old rest : List (List ℕ)) (given : Option SetCount) (c : SetCount) → all ≡ after done (counts_in number (sets - length done) old) → old ≡ line ∷ rest
    → length done < sets → Ok given ≡ at_line number (line_of line) → given ≡ Some c → new ≡ done ++ c ∷ [] → all ≡ after new (counts_in (number + 1) (sets - length new) rest)
pushed all sets number done new line old rest given c so_far first room read some is =
    let read_is : at_line number (line_of line) ≡ Ok (Some c) = sym read ∙ ap Ok some in
    subst (λ (items : List SetCount). all ≡ after items (counts_in (number + 1) (sets - length items) rest)) (sym is)
    (one_more all sets number done line old rest so_far first c room read_is)

pub pushed_within : (sets : ℕ) (done new : List SetCount) (c : SetCount) → length done < sets → new ≡ done ++ c ∷ [] → length new ≤ sets
pushed_within sets done new c room is = omega (arith, room, ap length is, length-append done (c ∷ []))

pub pushed_pinned : (done new : List SetCount) (given : Option SetCount) (c : SetCount) → All (λ (c : SetCount). c.pinned ≤ c.count) done → IfSome given (λ (c : SetCount). c.pinned ≤ c.count) → given ≡ Some c → new ≡ done ++ c ∷ [] → All (λ (c : SetCount). c.pinned ≤ c.count) new
pushed_pinned done new given c before here some is =
    let P : SetCount → Type 0 = λ c. c.pinned ≤ c.count in
    let last : P c = subst (λ (o : Option SetCount). IfSome o P) some here in
    subst (All P) (sym is) (All-append P done (c ∷ []) before (All-cons P c [] last (All-nil P)))

-- the end of the text
pub all_read : (all : Result (List SetCount) CountsFault) (sets number : ℕ) (done : List SetCount) (old : List (List ℕ)) → all ≡ after done (counts_in number (sets - length done) old) → old ≡ []
    → sets ≤ length done → all ≡ Ok done
all_read all sets number done old so_far none full =
    let zero_left : sets - length done ≡ 0 = omega (arith, full) in
    so_far ∙ ap (λ (ls : List (List ℕ)). after done (counts_in number (sets - length done) ls)) none
    ∙ ap (λ (n : ℕ). after done (counts_in number n [])) zero_left ∙ ap Ok (append-nil done)

pub set_missing : (all : Result (List SetCount) CountsFault) (sets number : ℕ) (done : List SetCount) (old : List (List ℕ)) → all ≡ after done (counts_in number (sets - length done) old) → old ≡ []
    → length done < sets → all ≡ Err MissingSet
set_missing all sets number done old so_far none room =
    let some : ((sets - length done) == 0) ≡ false = ne_eqb (sets - length done) 0 (λ (e : sets - length done ≡ 0). omega (arith, e, room)) in
    so_far ∙ ap (λ (ls : List (List ℕ)). after done (counts_in number (sets - length done) ls)) none
    ∙ ap (λ (b : Bool). after done (if b then Ok [] else Err MissingSet)) some
