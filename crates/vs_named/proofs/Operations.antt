-- The operations of calls that are read are of keys and values.
use Rattle.std.proofs.Common.{◌≡◌, ℕ, zero, suc, Bool, true, false, ◌&&◌, if◌then◌else◌, List, [], ◌∷◌, Option, Some, Result, Ok, Err, subst}
use Rattle.std.specs.Prelude.{codes}
use Rattle.std.specs.List.{AllByRecursion}
use Rattle.std.specs.Str.{bytes_eq}
use Rattle.vs_base.specs.declared.numbers.Mode.{Mode}
use Rattle.vs_rows.specs.Names.{IsKey, IsValue, key_limit, value_limit}
use Rattle.vs_rows.specs.declared.op.Op.{Op}
use Rattle.vs_rows.specs.declared.op.Op.TheVariants as op
use Rattle.vs_script.specs.Calls.{Call}
use Rattle.vs_script.specs.Lines.{call_of, mode_at}
use Rattle.vs_script.specs.Operations.{is_ro, is_write, op_word, op_word_at, op_of, after_op, ops_at}
use Rattle.vs_script.specs.Words.{◌>>=◌, ◌>>◌, or_bad, bad_if, Read, word_at, bucket_at, key_at, value_at, number_to}
use Rattle.vs_script.specs.declared.fault.ScriptKind.{ScriptKind}
use Rattle.vs_script.specs.declared.fault.ScriptKind.TheVariants.{BadWord, BadScan, TooManyOps, WriteInRo}
use Rattle.vs_legal.specs.Named.{IsNamedOp}
use Rattle.vs_named.proofs.Steps.{step, there, of_same}
use Rattle.vs_named.proofs.Words.{name_is, number_is}

abbrev Left : Type 0
Left = List (List ℕ)

-- what is read is such a text
abbrev Finds : (Left → Read (List ℕ)) → (List ℕ → Type 0) → Type 0
Finds read IsText = (words : Left) (x : List ℕ × Left) → read words ≡ Ok x → IsText x.0

finds_key : Finds key_at IsKey
finds_key words x e = name_is key_limit words x e

finds_value : Finds value_at IsValue
finds_value words x e = name_is value_limit words x e

made : (o : Op) (left : Left) (x : Op × Left) → IsNamedOp o → ◌≡◌ {A = Result (Op × Left) ScriptKind} (Ok (o, left)) (Ok x) → IsNamedOp x.0
made o left x named e =
    let same : (o, left) ≡ x = cc in
    subst (λ (y : Op × Left). IsNamedOp y.0) same named

-- an operation whose last word is such a text
of_text : (read : Left → Read (List ℕ)) (IsText : List ℕ → Type 0) (make : List ℕ → Op) (words : Left) (x : Op × Left) → Finds read IsText → ((text : List ℕ) → IsText text → IsNamedOp (make text))
    → (read words >>= (λ text. Ok (make text.0, text.1))) ≡ Ok x → IsNamedOp x.0
of_text read IsText make words x finds named e =
    let (text, is, last) = step (read words) (λ text. Ok (make text.0, text.1)) x e in
    made (make text.0) text.1 x (named text.0 (finds words text is)) last

-- and of a key and a value
of_row : (make : List ℕ → List ℕ → Op) (words : Left) (x : Op × Left) → ((key value : List ℕ) → IsKey key → IsValue value → IsNamedOp (make key value))
    → (key_at words >>= (λ key. value_at key.1 >>= (λ value. Ok (make key.0 value.0, value.1)))) ≡ Ok x → IsNamedOp x.0
of_row make words x named e =
    let (key, is, more) = step (key_at words) (λ key. value_at key.1 >>= (λ value. Ok (make key.0 value.0, value.1))) x e in
    of_text value_at IsValue (make key.0) key.1 x finds_value (λ value is_value. named key.0 value (finds_key words key is) is_value) more

of_swap : (words : Left) (x : Op × Left) → (key_at words >>= (λ key. value_at key.1 >>= (λ old. value_at old.1 >>= (λ new. Ok (op.Swap key.0 old.0 new.0, new.1))))) ≡ Ok x → IsNamedOp x.0
of_swap words x e =
    let (key, is, more) = step (key_at words) (λ key. value_at key.1 >>= (λ old. value_at old.1 >>= (λ new. Ok (op.Swap key.0 old.0 new.0, new.1)))) x e in
    let (old, was, last) = step (value_at key.1) (λ old. value_at old.1 >>= (λ new. Ok (op.Swap key.0 old.0 new.0, new.1))) x more in
    of_text value_at IsValue (λ new. op.Swap key.0 old.0 new) old.1 x finds_value (λ new is_new. (finds_key words key is, finds_value key.1 old was, is_new)) last

of_scan : (words : Left) (x : Op × Left) → (key_at words >>= (λ key. number_to 100 BadScan key.1 >>= (λ count. Ok (op.Scan key.0 count.0, count.1)))) ≡ Ok x → IsNamedOp x.0
of_scan words x e =
    let (key, is, more) = step (key_at words) (λ key. number_to 100 BadScan key.1 >>= (λ count. Ok (op.Scan key.0 count.0, count.1))) x e in
    let (count, many, last) = step (number_to 100 BadScan key.1) (λ count. Ok (op.Scan key.0 count.0, count.1)) x more in
    let range = number_is 100 BadScan key.1 count many in
    made (op.Scan key.0 count.0) count.1 x (finds_key words key is, range.0, range.1) last

-- the first of some names, if the word is that one, or one of the others
by_word : {W : Type 0} (P : W → Type 0) (t : Bool) (here : W) (others : Option W) (name : W) → (if t then Some here else others) ≡ Some name → P here → (others ≡ Some name → P name) → P name
by_word P true here others name is holds next = of_same P here name holds is
by_word P false here others name is holds next = next is

-- the operation that a word names
op_named : (word : List ℕ) (name : _) (words : Left) (x : Op × Left) → op_word word ≡ Some name → op_of name words ≡ Ok x → IsNamedOp x.0
op_named word name words x is =
    let P = λ (n : _). op_of n words ≡ Ok x → IsNamedOp x.0 in
    by_word P (bytes_eq word (codes "get")) _ _ name is (λ e. of_text key_at IsKey op.Get words x finds_key (λ key is. is) e) (λ is.
    by_word P (bytes_eq word (codes "put")) _ _ name is (λ e. of_row op.Put words x (λ key value is is_value. (is, is_value)) e) (λ is.
    by_word P (bytes_eq word (codes "insert")) _ _ name is (λ e. of_row op.Insert words x (λ key value is is_value. (is, is_value)) e) (λ is.
    by_word P (bytes_eq word (codes "delete")) _ _ name is (λ e. of_text key_at IsKey op.Delete words x finds_key (λ key is. is) e) (λ is.
    by_word P (bytes_eq word (codes "swap")) _ _ name is (λ e. of_swap words x e) (λ is.
    by_word P (bytes_eq word (codes "count")) _ _ name is (λ e. made op.Count words x tt e) (λ is.
    by_word P (bytes_eq word (codes "scan")) _ _ name is (λ e. of_scan words x e) (λ is. cc)))))))

-- the word that an operation begins with
named_at : (mode : Mode) (words : Left) (x : _) → op_word_at mode words ≡ Ok x → (word : List ℕ) × (op_word word ≡ Some x.0)
named_at mode words x e =
    let (word, _, more) = step (word_at words) (λ word. or_bad (op_word word.0) BadWord >>= (λ name. bad_if (is_ro mode && is_write name) WriteInRo >> Ok (name, word.1))) x e in
    let (name, is, test) = step (or_bad (op_word word.0) BadWord) (λ name. bad_if (is_ro mode && is_write name) WriteInRo >> Ok (name, word.1)) x more in
    let (u, _, last) = step (bad_if (is_ro mode && is_write name) WriteInRo) (λ _. Ok (name, word.1)) x test in
    let same : (name, word.1) ≡ x = cc in
    (word.0, subst (λ y. op_word word.0 ≡ Some y.0) same (there (op_word word.0) BadWord name is))

after_named : (read : Left → Result (List Op) ScriptKind) (words : Left) (ops : List Op) → ((words : Left) (ops : List Op) → read words ≡ Ok ops → AllByRecursion IsNamedOp ops)
    → after_op read words ≡ Ok ops → AllByRecursion IsNamedOp ops
after_named read [] ops named e =
    let none : [] ≡ ops = cc in subst (AllByRecursion IsNamedOp) none tt
after_named read (word ∷ words) ops named e =
    elim (bytes_eq word (codes ";")) as (λ is. (if is then read words else Err BadWord) ≡ Ok ops → AllByRecursion IsNamedOp ops)
    [ true ↦ (λ e. named words ops e) | false ↦ (λ e. cc) ] e

ops_named : (mode : Mode) (most : ℕ) (words : Left) (ops : List Op) → ops_at mode most words ≡ Ok ops → AllByRecursion IsNamedOp ops
unfolding ops_at
ops_named mode zero words ops e =
    let (word, _, none) = step (op_word_at mode words) (λ _. Err TooManyOps) ops e in
    cc
ops_named mode (suc most) words ops e =
    let last = λ (o : Op × Left) (others : List Op). Ok (o.0 ∷ others) in
    let rest = λ (o : Op × Left). after_op (ops_at mode most) o.1 >>= last o in
    let (word, known, read) = step (op_word_at mode words) (λ word. op_of word.0 word.1 >>= rest) ops e in
    let name = named_at mode words word known in
    let (o, is, more) = step (op_of word.0 word.1) rest ops read in
    let (others, are, end) = step (after_op (ops_at mode most) o.1) (last o) ops more in
    let same : o.0 ∷ others ≡ ops = cc in
    subst (AllByRecursion IsNamedOp) {x = o.0 ∷ others} same (op_named name.0 word.0 word.1 o name.1 is, after_named (ops_at mode most) o.1 others (λ words ops e. ops_named mode most words ops e) are)

-- the operations of a call
pub call_named : (m : ℕ) (words : Left) (call : Call) → call_of m words ≡ Ok call → AllByRecursion IsNamedOp call.ops
call_named m words call e =
    let last = λ (mode : Mode × Left) (bucket : ℕ × Left) (ops : List Op). (let whole : Call = record { mode = mode.0; bucket = bucket.0; ops = ops } in Ok whole) in
    let rest = λ (mode : Mode × Left) (bucket : ℕ × Left). ops_at mode.0 16 bucket.1 >>= last mode bucket in
    let (mode, _, read) = step (mode_at words) (λ mode. bucket_at m mode.1 >>= rest mode) call e in
    let (bucket, _, more) = step (bucket_at m mode.1) (rest mode) call read in
    let (ops, are, end) = step (ops_at mode.0 16 bucket.1) (last mode bucket) call more in
    let whole : Call = record { mode = mode.0; bucket = bucket.0; ops = ops } in
    let same : whole ≡ call = cc in
    subst (λ (k : Call). AllByRecursion IsNamedOp k.ops) {x = whole} same (ops_named mode.0 16 bucket.1 ops are)
