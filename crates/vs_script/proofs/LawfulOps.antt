-- The operations that were read are lawful.
use Rattle.std.proofs.Common.{◌≡◌, ℕ, zero, suc, ◌≤◌, true, false, ◌&&◌, if◌then◌else◌, List, [], ◌∷◌, length, Result, Ok, Err, sym, subst, arith, All}
use Rattle.std.specs.Prelude.{codes}
use Rattle.std.specs.Str.{bytes_eq}
use Rattle.std.proofs.lemmas.List.Elements.{All-cons}
use Rattle.vs_base.specs.declared.numbers.Mode.{Mode}
use Rattle.vs_base.specs.declared.numbers.Mode.TheVariants.{Ro, Rw}
use Rattle.vs_rows.specs.declared.op.Op.{Op}
use Rattle.vs_rows.specs.declared.op.Op.TheVariants as op
use Rattle.vs_script.specs.declared.fault.ScriptKind.{ScriptKind}
use Rattle.vs_script.specs.declared.fault.ScriptKind.TheVariants.{BadWord, WriteInRo, BadScan, TooManyOps}
use Rattle.vs_script.specs.declared.op_word.OpWord.{OpWord}
use Rattle.vs_script.specs.declared.op_word.OpWord.TheVariants.{Get, Put, Insert, Delete, Swap, Count, Scan}
use Rattle.vs_script.specs.Lawful.{IsReading, IsShortScan, IsAllowedIn}
use Rattle.vs_script.specs.Operations.{is_ro, is_write, op_word, op_word_at, op_of, after_op, ops_at}
use Rattle.vs_script.specs.Words.{◌>>=◌, ◌>>◌, or_bad, bad_if, Read, word_at, key_at, value_at, number_to}
use Rattle.vs_script.proofs.Steps.{step, passed}
use Rattle.vs_script.proofs.Ranges.{number_range}

abbrev Left : Type 0
Left = List (List ℕ)

-- what is true of an operation of this word
abbrev IsLawfulOp : OpWord → Op → Type 0
IsLawfulOp name o = (is_write name ≡ false → IsReading o) × IsShortScan o

made : (name : OpWord) (o : Op) (left : Left) (x : Op × Left) → IsLawfulOp name o → ◌≡◌ {A = Result (Op × Left) ScriptKind} (Ok (o, left)) (Ok x) → IsLawfulOp name x.0
made name o left x lawful e =
    let same : (o, left) ≡ x = cc in
    subst (λ (y : Op × Left). IsLawfulOp name y.0) same lawful

-- an operation of one word, of two, of three
of_one : (name : OpWord) (read : Left → Read (List ℕ)) (make : List ℕ → Op) (words : Left) (x : Op × Left) → ((k : List ℕ) → IsLawfulOp name (make k))
    → (read words >>= (λ key. Ok (make key.0, key.1))) ≡ Ok x → IsLawfulOp name x.0
of_one name read make words x lawful e =
    let (key, _, last) = step (read words) (λ key. Ok (make key.0, key.1)) x e in
    made name (make key.0) key.1 x (lawful key.0) last

of_two : (name : OpWord) (read : Left → Read (List ℕ)) (make : List ℕ → List ℕ → Op) (words : Left) (x : Op × Left) → ((k v : List ℕ) → IsLawfulOp name (make k v))
    → (read words >>= (λ key. value_at key.1 >>= (λ value. Ok (make key.0 value.0, value.1)))) ≡ Ok x → IsLawfulOp name x.0
of_two name read make words x lawful e =
    let (key, _, more) = step (read words) (λ key. value_at key.1 >>= (λ value. Ok (make key.0 value.0, value.1))) x e in
    of_one name value_at (make key.0) key.1 x (lawful key.0) more

of_three : (name : OpWord) (make : List ℕ → List ℕ → List ℕ → Op) (words : Left) (x : Op × Left) → ((k v w : List ℕ) → IsLawfulOp name (make k v w))
    → (key_at words >>= (λ key. value_at key.1 >>= (λ old. value_at old.1 >>= (λ new. Ok (make key.0 old.0 new.0, new.1))))) ≡ Ok x → IsLawfulOp name x.0
of_three name make words x lawful e =
    let (key, _, more) = step (key_at words) (λ key. value_at key.1 >>= (λ old. value_at old.1 >>= (λ new. Ok (make key.0 old.0 new.0, new.1)))) x e in
    of_two name value_at (make key.0) key.1 x (lawful key.0) more

of_scan : (words : Left) (x : Op × Left) → op_of Scan words ≡ Ok x → IsLawfulOp Scan x.0
of_scan words x e =
    let (key, _, more) = step (key_at words) (λ key. number_to 100 BadScan key.1 >>= (λ count. Ok (op.Scan key.0 count.0, count.1))) x e in
    let (count, is, last) = step (number_to 100 BadScan key.1) (λ count. Ok (op.Scan key.0 count.0, count.1)) x more in
    made Scan (op.Scan key.0 count.0) count.1 x ((λ _. tt), number_range 100 BadScan key.1 count is) last

op_lawful : (name : OpWord) (words : Left) (x : Op × Left) → op_of name words ≡ Ok x → IsLawfulOp name x.0
op_lawful Get words x e = of_one Get key_at op.Get words x (λ k. ((λ _. tt), tt)) e
op_lawful Put words x e = of_two Put key_at op.Put words x (λ k v. ((λ none. cc), tt)) e
op_lawful Insert words x e = of_two Insert key_at op.Insert words x (λ k v. ((λ none. cc), tt)) e
op_lawful Delete words x e = of_one Delete key_at op.Delete words x (λ k. ((λ none. cc), tt)) e
op_lawful Swap words x e = of_three Swap op.Swap words x (λ k v w. ((λ none. cc), tt)) e
op_lawful Count words x e = made Count op.Count words x ((λ _. tt), tt) e
op_lawful Scan words x e = of_scan words x e

-- a word that may stand in a call of this mode
allowed : (mode : Mode) (name : OpWord) (o : Op) → (is_ro mode && is_write name) ≡ false → IsLawfulOp name o → IsAllowedIn mode o
allowed Ro name o test lawful = lawful.0 test
allowed Rw name o test lawful = tt

word_allowed : (mode : Mode) (words : Left) (x : OpWord × Left) → op_word_at mode words ≡ Ok x → (is_ro mode && is_write x.0) ≡ false
word_allowed mode words x e =
    let tested = λ (word : List ℕ × Left) (name : OpWord). bad_if (is_ro mode && is_write name) WriteInRo >> Ok (name, word.1) in
    let named = λ (word : List ℕ × Left). or_bad (op_word word.0) BadWord >>= (λ name. tested word name) in
    let (word, _, more) = step (word_at words) named x e in
    let (name, _, test) = step (or_bad (op_word word.0) BadWord) (tested word) x more in
    let (u, passes, last) = step (bad_if (is_ro mode && is_write name) WriteInRo) (λ _. Ok (name, word.1)) x test in
    let same : (name, word.1) ≡ x = cc in
    subst (λ (y : OpWord × Left). (is_ro mode && is_write y.0) ≡ false) same (passed (is_ro mode && is_write name) WriteInRo u passes)

-- the operations of a call of this mode, at most so many
pub record AreLawful (mode : Mode) (most : ℕ) (ops : List Op) : Type 0 where
  pub count : length ops ≤ most
  pub allowed : All (IsAllowedIn mode) ops
  pub scans : All IsShortScan ops

nothing : (mode : Mode) (most : ℕ) (ops : List Op) → ops ≡ [] → AreLawful mode most ops
nothing mode most ops none =
    subst (AreLawful mode most) (sym none) (record { count = omega arith; allowed = λ k d h. absurd (omega arith); scans = λ k d h. absurd (omega arith) })

after_lawful : (mode : Mode) (most : ℕ) (read : Left → Result (List Op) ScriptKind) (words : Left) (ops : List Op)
    → ((words : Left) (ops : List Op) → read words ≡ Ok ops → AreLawful mode most ops) → after_op read words ≡ Ok ops → AreLawful mode most ops
after_lawful mode most read [] ops lawful e =
    let none : ops ≡ [] = cc in nothing mode most ops none
after_lawful mode most read (word ∷ words) ops lawful e =
    elim (bytes_eq word (codes ";")) as (λ is. (if is then read words else Err BadWord) ≡ Ok ops → AreLawful mode most ops)
    [ true ↦ (λ e. lawful words ops e) | false ↦ (λ e. cc) ] e

one_lawful : (mode : Mode) (most : ℕ) (name : OpWord) (o : Op) (others ops : List Op) → (is_ro mode && is_write name) ≡ false → IsLawfulOp name o → AreLawful mode most others
    → o ∷ others ≡ ops → AreLawful mode (suc most) ops
one_lawful mode most name o others ops test first rest same =
    subst (AreLawful mode (suc most)) same (record {
      count = omega (arith, rest.count);
      allowed = All-cons (IsAllowedIn mode) o others (allowed mode name o test first) rest.allowed;
      scans = All-cons IsShortScan o others first.1 rest.scans;
    })

-- some operations, and all of them lawful
pub ops_lawful : (mode : Mode) (most : ℕ) (words : Left) (ops : List Op) → ops_at mode most words ≡ Ok ops → AreLawful mode most ops
unfolding ops_at
ops_lawful mode zero words ops e =
    let (word, _, none) = step (op_word_at mode words) (λ _. Err TooManyOps) ops e in
    cc
ops_lawful mode (suc most) words ops e =
    let last = λ (o : Op × Left) (others : List Op). Ok (o.0 ∷ others) in
    let rest = λ (o : Op × Left). after_op (ops_at mode most) o.1 >>= last o in
    let (word, may, read) = step (op_word_at mode words) (λ word. op_of word.0 word.1 >>= rest) ops e in
    let (o, is, more) = step (op_of word.0 word.1) rest ops read in
    let (others, are, end) = step (after_op (ops_at mode most) o.1) (last o) ops more in
    let same : o.0 ∷ others ≡ ops = cc in
    one_lawful mode most word.0 o.0 others ops (word_allowed mode words word may) (op_lawful word.0 word.1 o is)
    (after_lawful mode most (ops_at mode most) o.1 others (λ words ops e. ops_lawful mode most words ops e) are) same

-- there is one at least
pub some_ops : (mode : Mode) (most : ℕ) (words : Left) (ops : List Op) → ops_at mode most words ≡ Ok ops → 1 ≤ length ops
unfolding ops_at
some_ops mode zero words ops e =
    let (word, _, none) = step (op_word_at mode words) (λ _. Err TooManyOps) ops e in
    cc
some_ops mode (suc most) words ops e =
    let last = λ (o : Op × Left) (others : List Op). Ok (o.0 ∷ others) in
    let rest = λ (o : Op × Left). after_op (ops_at mode most) o.1 >>= last o in
    let (word, _, read) = step (op_word_at mode words) (λ word. op_of word.0 word.1 >>= rest) ops e in
    let (o, _, more) = step (op_of word.0 word.1) rest ops read in
    let (others, _, end) = step (after_op (ops_at mode most) o.1) (last o) ops more in
    let same : o.0 ∷ others ≡ ops = cc in
    subst (λ (all : List Op). 1 ≤ length all) {x = o.0 ∷ others} same (omega arith)
