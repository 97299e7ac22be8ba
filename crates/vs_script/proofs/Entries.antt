-- The entries of a script, read one after the other.
use Rattle.std.proofs.Common.{◌≡◌, ℕ, ◌+◌, ◌<◌, ◌≤◌, true, false, Option, Some, None, Result, Ok, Err, List, [], ◌∷◌, ◌++◌, length, append_assoc, append-nil, ap, ◌∙◌, sym, refl, arith, if◌then◌else◌}
use Rattle.vs_script.specs.declared.fault.ScriptFault.{ScriptFault}
use Rattle.vs_script.specs.declared.fault.ScriptFault.TheVariants.{Bad, NoMemory}
use Rattle.vs_script.specs.declared.fault.ScriptKind.{ScriptKind}
use Rattle.vs_script.specs.declared.line_fault.LineFault.{LineFault}
use Rattle.vs_script.specs.declared.line_fault.LineFault.TheVariants as line_fault
use Rattle.vs_script.specs.Given.{IsFaultOf, IsTextFaultOf, at_number}
use Rattle.vs_script.specs.Lines.{is_skipped}
use Rattle.vs_script.specs.Reading.{at_line, entries_of, first_entry, line_words}
use Rattle.vs_script.specs.Words.{◌>>=◌}

-- an entry: its number, its words and the lines after it
abbrev Entry : Type 0
Entry = ℕ × List (List ℕ) × List (List ℕ)

-- the entries that begin with this one, if there is one
abbrev pub from_entry : {A : Type 0} → (List (List ℕ) → Result A ScriptKind) → Option Entry → Result (List A) ScriptFault
from_entry read None = Ok []
from_entry read (Some entry) =
    at_line entry.0 (read entry.1) >>= (λ first. entries_of read (entry.0 + 1) entry.2 >>= (λ others. Ok (first ∷ others)))

-- entries of a line that was tested
by_words : {A : Type 0} (read : List (List ℕ) → Result A ScriptKind) (number : ℕ) (lines : List (List ℕ)) (words : Result (List (List ℕ)) ScriptFault)
    → entries_of read (number + 1) lines ≡ first_entry (number + 1) lines >>= from_entry read
    → (words >>= (λ words. if is_skipped words then entries_of read (number + 1) lines else (at_line number (read words) >>= (λ first. entries_of read (number + 1) lines >>= (λ others. Ok (first ∷ others))))))
    ≡ ((words >>= (λ words. if is_skipped words then first_entry (number + 1) lines else Ok (Some (number, words, lines)))) >>= from_entry read)
by_words read number lines (Err fault) rest = refl
by_words read number lines (Ok words) rest =
    elim (is_skipped words) as (λ skipped. (if skipped then entries_of read (number + 1) lines else (at_line number (read words) >>= (λ first. entries_of read (number + 1) lines >>= (λ others. Ok (first ∷ others)))))
    ≡ ((if skipped then first_entry (number + 1) lines else Ok (Some (number, words, lines))) >>= from_entry read))
    [ true ↦ rest | false ↦ refl ]

-- entries begin with the first one
pub by_first : {A : Type 0} (read : List (List ℕ) → Result A ScriptKind) (number : ℕ) (lines : List (List ℕ))
    → entries_of read number lines ≡ first_entry number lines >>= from_entry read
by_first read number [] = refl
by_first read number (line ∷ lines) = by_words read number lines (at_line number (line_words line)) (by_first read (number + 1) lines)

at_first : {A : Type 0} (read : List (List ℕ) → Result A ScriptKind) (number : ℕ) (lines : List (List ℕ)) (first : Option Entry)
    → first_entry number lines ≡ Ok first → entries_of read number lines ≡ from_entry read first
at_first read number lines first is = by_first read number lines ∙ ap (λ r. r >>= from_entry read) is

at_bad : {A : Type 0} (read : List (List ℕ) → Result A ScriptKind) (number : ℕ) (lines : List (List ℕ)) (fault : ScriptFault)
    → first_entry number lines ≡ Err fault → entries_of read number lines ≡ Err fault
at_bad read number lines fault is = by_first read number lines ∙ ap (λ r. r >>= from_entry read) is

-- ---- what was read so far

abbrev pub after : {A : Type 0} → List A → Result (List A) ScriptFault → Result (List A) ScriptFault
after done (Ok more) = Ok (done ++ more)
after done (Err fault) = Err fault

after_one : {A : Type 0} (done : List A) (entry : A) (others : Result (List A) ScriptFault)
    → after done (others >>= (λ more. Ok (entry ∷ more))) ≡ after (done ++ entry ∷ []) others
after_one done entry (Ok more) = ap Ok (sym (append_assoc done (entry ∷ []) more))
after_one done entry (Err fault) = refl

pub one_more : {A : Type 0} (read : List (List ℕ) → Result A ScriptKind) (number : ℕ) (lines : List (List ℕ)) (done : List A) (k : ℕ) (words rest : List (List ℕ)) (entry : A)
    → first_entry number lines ≡ Ok (Some (k, words, rest)) → read words ≡ Ok entry
    → after done (entries_of read number lines) ≡ after (done ++ entry ∷ []) (entries_of read (k + 1) rest)
one_more read number lines done k words rest entry first is =
    let one : from_entry read (Some (k, words, rest)) ≡ (entries_of read (k + 1) rest >>= (λ more. Ok (entry ∷ more))) = rw is refl in
    ap (after done) (at_first read number lines (Some (k, words, rest)) first ∙ one) ∙ after_one done entry (entries_of read (k + 1) rest)

pub none_left : {A : Type 0} (read : List (List ℕ) → Result A ScriptKind) (number : ℕ) (lines : List (List ℕ)) (done : List A)
    → first_entry number lines ≡ Ok None → after done (entries_of read number lines) ≡ Ok done
none_left read number lines done first = ap (after done) (at_first read number lines None first) ∙ ap Ok (append-nil done)

pub bad_line : {A : Type 0} (read : List (List ℕ) → Result A ScriptKind) (number : ℕ) (lines : List (List ℕ)) (done : List A) (fault : ScriptFault)
    → IsTextFaultOf fault (first_entry number lines) → IsTextFaultOf fault (after done (entries_of read number lines))
bad_line read number lines done (Bad kind line) first = ap (after done) (at_bad read number lines (Bad kind line) first)
bad_line read number lines done NoMemory first = tt

pub bad_entry : {A : Type 0} (read : List (List ℕ) → Result A ScriptKind) (number : ℕ) (lines : List (List ℕ)) (done : List A) (k : ℕ) (words rest : List (List ℕ)) (kind : ScriptKind)
    → first_entry number lines ≡ Ok (Some (k, words, rest)) → read words ≡ Err kind
    → after done (entries_of read number lines) ≡ Err (Bad kind k)
bad_entry read number lines done k words rest kind first is =
    let none : from_entry read (Some (k, words, rest)) ≡ Err (Bad kind k) = rw is refl in
    ap (after done) (at_first read number lines (Some (k, words, rest)) first ∙ none)

pub entry_fails : {A : Type 0} (read : List (List ℕ) → Result A ScriptKind) (number : ℕ) (lines : List (List ℕ)) (done : List A) (k : ℕ) (words rest : List (List ℕ)) (fault : LineFault)
    → first_entry number lines ≡ Ok (Some (k, words, rest)) → IsFaultOf fault (read words)
    → IsTextFaultOf (at_number k fault) (after done (entries_of read number lines))
entry_fails read number lines done k words rest (line_fault.Bad kind) first is = bad_entry read number lines done k words rest kind first is
entry_fails read number lines done k words rest line_fault.NoMemory first is = tt

-- ---- each entry leaves fewer lines

fewer_by_words : (number : ℕ) (lines : List (List ℕ)) (words : Result (List (List ℕ)) ScriptFault) (entry : Entry)
    → (first_entry (number + 1) lines ≡ Ok (Some entry) → length entry.2 < length lines)
    → (words >>= (λ words. if is_skipped words then first_entry (number + 1) lines else Ok (Some (number, words, lines)))) ≡ Ok (Some entry)
    → length entry.2 ≤ length lines
fewer_by_words number lines (Err fault) entry later e = cc
fewer_by_words number lines (Ok words) entry later e =
    elim (is_skipped words) as (λ skipped. (if skipped then first_entry (number + 1) lines else Ok (Some (number, words, lines))) ≡ Ok (Some entry) → length entry.2 ≤ length lines)
    [ true ↦ (λ e. omega (arith, later e)) | false ↦ (λ e. (let same : lines ≡ entry.2 = cc in omega (arith, ap length same))) ] e

pub fewer : (number : ℕ) (lines : List (List ℕ)) (entry : Entry) → first_entry number lines ≡ Ok (Some entry) → length entry.2 < length lines
fewer number [] entry e = cc
fewer number (line ∷ lines) entry e =
    omega (arith, fewer_by_words number lines (at_line number (line_words line)) entry (fewer (number + 1) lines entry) e)
