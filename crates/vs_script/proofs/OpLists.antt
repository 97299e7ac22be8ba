-- The operations of a call, read one after the other.
use Rattle.std.proofs.Common.{◌≡◌, ℕ, zero, suc, ◌+◌, Result, Ok, Err, true, false, List, [], ◌∷◌, ◌++◌, length, length-append, append_assoc, append-nil, ap, ◌∙◌, sym, refl, arith}
use Rattle.std.specs.Prelude.{codes}
use Rattle.std.specs.Str.{bytes_eq}
use Rattle.vs_base.specs.declared.numbers.Mode.{Mode}
use Rattle.vs_rows.specs.declared.op.Op.{Op}
use Rattle.vs_script.specs.declared.fault.ScriptKind.{ScriptKind}
use Rattle.vs_script.specs.declared.fault.ScriptKind.TheVariants.{BadWord, TooManyOps}
use Rattle.vs_script.specs.declared.line_fault.LineFault.{LineFault}
use Rattle.vs_script.specs.declared.line_fault.LineFault.TheVariants.{Bad, NoMemory}
use Rattle.vs_script.specs.declared.op_word.OpWord.{OpWord}
use Rattle.vs_script.specs.Given.{IsFaultOf}
use Rattle.vs_script.specs.Words.{◌>>=◌}
use Rattle.vs_script.specs.Operations.{op_word_at, op_of, after_op, ops_at}

-- the operations read so far, and the others
abbrev pub front : List Op → Result (List Op) ScriptKind → Result (List Op) ScriptKind
front done (Ok more) = Ok (done ++ more)
front done (Err kind) = Err kind

front_one : (op : Op) (others : Result (List Op) ScriptKind) → (others >>= (λ ops. Ok (op ∷ ops))) ≡ front (op ∷ []) others
front_one op (Ok ops) = refl
front_one op (Err kind) = refl

front_more : (done : List Op) (op : Op) (others : Result (List Op) ScriptKind) → front done (front (op ∷ []) others) ≡ front (done ++ op ∷ []) others
front_more done op (Ok ops) = ap Ok (sym (append_assoc done (op ∷ []) ops))
front_more done op (Err kind) = refl

-- an operation where there is room for one
one_op : (mode : Mode) (room : ℕ) (words named rest : List (List ℕ)) (name : OpWord) (op : Op)
    → op_word_at mode words ≡ Ok (name, named) → op_of name named ≡ Ok (op, rest)
    → ops_at mode (suc room) words ≡ front (op ∷ []) (after_op (ops_at mode room) rest)
unfolding ops_at
one_op mode room words named rest name op word is = rw (word, is) (front_one op (after_op (ops_at mode room) rest))

-- what was read so far of the words of a call
abbrev pub ReadSoFar : Mode → List (List ℕ) → List Op → List (List ℕ) → Type 0
ReadSoFar mode words done rest =
    (room : ℕ) → room + length done ≡ 16 → ops_at mode 16 words ≡ front done (after_op (ops_at mode room) rest)

pub first_op : (mode : Mode) (words named rest : List (List ℕ)) (name : OpWord) (op : Op)
    → op_word_at mode words ≡ Ok (name, named) → op_of name named ≡ Ok (op, rest) → ReadSoFar mode words (op ∷ []) rest
first_op mode words named rest name op word is room sum =
    let all : room ≡ 15 = omega arith in
    rw all (one_op mode 15 words named rest name op word is)

-- the mark, and what follows it
after_mark : (ops : List (List ℕ) → Result (List Op) ScriptKind) (mark : List ℕ) (rest more : List (List ℕ))
    → rest ≡ mark ∷ more → bytes_eq mark (codes ";") ≡ true → after_op ops rest ≡ ops more
after_mark ops mark rest more is test = rw (is, test) refl

pub next_op : (mode : Mode) (words rest more named after : List (List ℕ)) (done : List Op) (mark : List ℕ) (name : OpWord) (op : Op)
    → ReadSoFar mode words done rest → rest ≡ mark ∷ more → bytes_eq mark (codes ";") ≡ true
    → op_word_at mode more ≡ Ok (name, named) → op_of name named ≡ Ok (op, after) → ReadSoFar mode words (done ++ op ∷ []) after
next_op mode words rest more named after done mark name op so_far is test word read room sum =
    let before : suc room + length done ≡ 16 = omega (arith, length-append done (op ∷ [])) in
    so_far (suc room) before ∙ ap (front done) (after_mark (ops_at mode (suc room)) mark rest more is test ∙ one_op mode room more named after name op word read)
    ∙ front_more done op (after_op (ops_at mode room) after)

-- ---- how it ends

pub last_op : (mode : Mode) (words rest : List (List ℕ)) (done : List Op) (room : ℕ) → ReadSoFar mode words done rest → room + length done ≡ 16 → rest ≡ [] → ops_at mode 16 words ≡ Ok done
last_op mode words rest done room so_far sum is = so_far room sum ∙ ap (λ r. front done (after_op (ops_at mode room) r)) is ∙ ap Ok (append-nil done)

pub no_mark : (mode : Mode) (words rest more : List (List ℕ)) (done : List Op) (room : ℕ) (mark : List ℕ)
    → ReadSoFar mode words done rest → room + length done ≡ 16 → rest ≡ mark ∷ more → bytes_eq mark (codes ";") ≡ false → ops_at mode 16 words ≡ Err BadWord
no_mark mode words rest more done room mark so_far sum is test = so_far room sum ∙ rw (is, test) refl

-- a word that names no operation that may stand there
no_word : (mode : Mode) (room : ℕ) (words : List (List ℕ)) (kind : ScriptKind) → op_word_at mode words ≡ Err kind → ops_at mode room words ≡ Err kind
unfolding ops_at
no_word mode zero words kind word = rw word refl
no_word mode (suc room) words kind word = rw word refl

pub bad_first_word : (mode : Mode) (words : List (List ℕ)) (kind : ScriptKind) → op_word_at mode words ≡ Err kind → ops_at mode 16 words ≡ Err kind
bad_first_word mode words kind word = no_word mode 16 words kind word

pub bad_word : (mode : Mode) (words rest more : List (List ℕ)) (done : List Op) (room : ℕ) (mark : List ℕ) (kind : ScriptKind)
    → ReadSoFar mode words done rest → room + length done ≡ 16 → rest ≡ mark ∷ more → bytes_eq mark (codes ";") ≡ true → op_word_at mode more ≡ Err kind → ops_at mode 16 words ≡ Err kind
bad_word mode words rest more done room mark kind so_far sum is test word =
    so_far room sum ∙ ap (front done) (after_mark (ops_at mode room) mark rest more is test ∙ no_word mode room more kind word)

-- an operation whose keys, values and numbers are bad
bad_one : (mode : Mode) (room : ℕ) (words named : List (List ℕ)) (name : OpWord) (kind : ScriptKind)
    → op_word_at mode words ≡ Ok (name, named) → op_of name named ≡ Err kind → ops_at mode (suc room) words ≡ Err kind
unfolding ops_at
bad_one mode room words named name kind word is = rw (word, is) refl

pub bad_first_op : (mode : Mode) (words named : List (List ℕ)) (name : OpWord) (kind : ScriptKind)
    → op_word_at mode words ≡ Ok (name, named) → op_of name named ≡ Err kind → ops_at mode 16 words ≡ Err kind
bad_first_op mode words named name kind word is = bad_one mode 15 words named name kind word is

pub bad_op : (mode : Mode) (words rest more named : List (List ℕ)) (done : List Op) (room : ℕ) (mark : List ℕ) (name : OpWord) (kind : ScriptKind)
    → ReadSoFar mode words done rest → suc room + length done ≡ 16 → rest ≡ mark ∷ more → bytes_eq mark (codes ";") ≡ true
    → op_word_at mode more ≡ Ok (name, named) → op_of name named ≡ Err kind → ops_at mode 16 words ≡ Err kind
bad_op mode words rest more named done room mark name kind so_far sum is test word read =
    so_far (suc room) sum ∙ ap (front done) (after_mark (ops_at mode (suc room)) mark rest more is test ∙ bad_one mode room more named name kind word read)

-- an operation too many
no_room : (mode : Mode) (words named : List (List ℕ)) (name : OpWord) → op_word_at mode words ≡ Ok (name, named) → ops_at mode 0 words ≡ Err TooManyOps
unfolding ops_at
no_room mode words named name word = rw word refl

pub one_too_many : (mode : Mode) (words rest more named : List (List ℕ)) (done : List Op) (mark : List ℕ) (name : OpWord)
    → ReadSoFar mode words done rest → length done ≡ 16 → rest ≡ mark ∷ more → bytes_eq mark (codes ";") ≡ true → op_word_at mode more ≡ Ok (name, named) → ops_at mode 16 words ≡ Err TooManyOps
one_too_many mode words rest more named done mark name so_far full is test word =
    so_far 0 (omega arith) ∙ ap (front done) (after_mark (ops_at mode 0) mark rest more is test ∙ no_room mode more named name word)

-- ---- the same where memory may be wanted

pub first_op_fails : (mode : Mode) (words named : List (List ℕ)) (name : OpWord) (fault : LineFault)
    → op_word_at mode words ≡ Ok (name, named) → IsFaultOf fault (op_of name named) → IsFaultOf fault (ops_at mode 16 words)
first_op_fails mode words named name (Bad kind) word is = bad_first_op mode words named name kind word is
first_op_fails mode words named name NoMemory word is = tt

pub op_fails : (mode : Mode) (words rest more named : List (List ℕ)) (done : List Op) (room : ℕ) (mark : List ℕ) (name : OpWord) (fault : LineFault)
    → ReadSoFar mode words done rest → suc room + length done ≡ 16 → rest ≡ mark ∷ more → bytes_eq mark (codes ";") ≡ true
    → op_word_at mode more ≡ Ok (name, named) → IsFaultOf fault (op_of name named) → IsFaultOf fault (ops_at mode 16 words)
op_fails mode words rest more named done room mark name (Bad kind) so_far sum is test word read =
    bad_op mode words rest more named done room mark name kind so_far sum is test word read
op_fails mode words rest more named done room mark name NoMemory so_far sum is test word read = tt
