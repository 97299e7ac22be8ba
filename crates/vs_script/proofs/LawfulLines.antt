-- The calls and commands that were read are lawful.
use Rattle.std.proofs.Common.{◌≡◌, ◌≢◌, ℕ, ◌==◌, List, Result, Ok, subst}
use Rattle.std.proofs.lemmas.Bool.{eqb-false}
use Rattle.vs_base.specs.declared.numbers.Mode.{Mode}
use Rattle.vs_rows.specs.declared.op.Op.{Op}
use Rattle.vs_script.specs.declared.command.Command.{Command}
use Rattle.vs_script.specs.declared.command.Command.TheVariants as command
use Rattle.vs_script.specs.declared.command_word.CommandWord.{CommandWord}
use Rattle.vs_script.specs.declared.command_word.CommandWord.TheVariants.{Send, Pin, Unpin, Close, Cut, Stop, Restart, Balance}
use Rattle.vs_script.specs.declared.fault.ScriptKind.{ScriptKind}
use Rattle.vs_script.specs.declared.fault.ScriptKind.TheVariants.{BadSet}
use Rattle.vs_script.specs.Calls.{Call}
use Rattle.vs_script.specs.Lawful.{IsLawfulCall, IsLawfulCommand, IsWithin}
use Rattle.vs_script.specs.Lines.{call_of, command_at, command_of, command_word_at, mode_at}
use Rattle.vs_script.specs.Operations.{ops_at}
use Rattle.vs_script.specs.Words.{◌>>=◌, ◌>>◌, bad_if, end_at, number_at, bucket_at, set_at, client_at}
use Rattle.vs_script.proofs.Steps.{step, passed}
use Rattle.vs_script.proofs.Ranges.{bucket_range, set_range}
use Rattle.vs_script.proofs.LawfulOps.{ops_lawful, some_ops}

abbrev Left : Type 0
Left = List (List ℕ)

-- ---- calls

pub call_lawful : (m : ℕ) (words : Left) (call : Call) → call_of m words ≡ Ok call → IsLawfulCall m call
call_lawful m words call e =
    let last = λ (mode : Mode × Left) (bucket : ℕ × Left) (ops : List Op). (let made : Call = record { mode = mode.0; bucket = bucket.0; ops = ops } in Ok made) in
    let rest = λ (mode : Mode × Left) (bucket : ℕ × Left). ops_at mode.0 16 bucket.1 >>= last mode bucket in
    let (mode, _, read) = step (mode_at words) (λ mode. bucket_at m mode.1 >>= rest mode) call e in
    let (bucket, is, more) = step (bucket_at m mode.1) (rest mode) call read in
    let (ops, are, end) = step (ops_at mode.0 16 bucket.1) (last mode bucket) call more in
    let made : Call = record { mode = mode.0; bucket = bucket.0; ops = ops } in
    let same : made ≡ call = cc in
    let lawful = ops_lawful mode.0 16 bucket.1 ops are in
    subst (IsLawfulCall m) {x = made} same (record {
      bucket = bucket_range m mode.1 bucket is;
      count = (some_ops mode.0 16 bucket.1 ops are, lawful.count);
      allowed = lawful.allowed;
      scans = lawful.scans;
    })

-- ---- commands

made : (m n : ℕ) (c : Command) (left : Left) (x : Command × Left) → IsLawfulCommand m n c → ◌≡◌ {A = Result (Command × Left) ScriptKind} (Ok (c, left)) (Ok x) → IsLawfulCommand m n x.0
made m n c left x lawful e =
    let same : (c, left) ≡ x = cc in
    subst (λ (y : Command × Left). IsLawfulCommand m n y.0) same lawful

-- a command of a set, and of a bucket and a set
of_set : (m n : ℕ) (make : ℕ → Command) (words : Left) (x : Command × Left) → ((s : ℕ) → IsWithin n s → IsLawfulCommand m n (make s))
    → (set_at n words >>= (λ set. Ok (make set.0, set.1))) ≡ Ok x → IsLawfulCommand m n x.0
of_set m n make words x lawful e =
    let (set, is, last) = step (set_at n words) (λ set. Ok (make set.0, set.1)) x e in
    made m n (make set.0) set.1 x (lawful set.0 (set_range n words set is)) last

of_bucket : (m n : ℕ) (make : ℕ → ℕ → Command) (words : Left) (x : Command × Left) → ((b s : ℕ) → IsWithin m b → IsWithin n s → IsLawfulCommand m n (make b s))
    → (bucket_at m words >>= (λ bucket. set_at n bucket.1 >>= (λ set. Ok (make bucket.0 set.0, set.1)))) ≡ Ok x → IsLawfulCommand m n x.0
of_bucket m n make words x lawful e =
    let (bucket, is, more) = step (bucket_at m words) (λ bucket. set_at n bucket.1 >>= (λ set. Ok (make bucket.0 set.0, set.1))) x e in
    of_set m n (make bucket.0) bucket.1 x (λ s. lawful bucket.0 s (bucket_range m words bucket is)) more

of_send : (m n : ℕ) (words : Left) (x : Command × Left) → command_at m n Send words ≡ Ok x → IsLawfulCommand m n x.0
of_send m n words x e =
    let last = λ (bucket from to : ℕ × Left). (let read : Command × Left = (command.Send bucket.0 from.0 to.0, to.1) in Ok read) in
    let rest = λ (bucket from : ℕ × Left). set_at n from.1 >>= last bucket from in
    let (bucket, is, read) = step (bucket_at m words) (λ bucket. set_at n bucket.1 >>= rest bucket) x e in
    let (from, from_is, more) = step (set_at n bucket.1) (rest bucket) x read in
    let (to, to_is, end) = step (set_at n from.1) (last bucket from) x more in
    made m n (command.Send bucket.0 from.0 to.0) to.1 x (bucket_range m words bucket is, set_range n bucket.1 from from_is, set_range n from.1 to to_is) end

of_close : (m n : ℕ) (words : Left) (x : Command × Left) → command_at m n Close words ≡ Ok x → IsLawfulCommand m n x.0
of_close m n words x e =
    let last = λ (from to : ℕ × Left). (let read : Command × Left = (command.Close from.0 to.0, to.1) in Ok read) in
    let rest = λ (from to : ℕ × Left). bad_if (from.0 == to.0) BadSet >> last from to in
    let (from, from_is, read) = step (set_at n words) (λ from. set_at n from.1 >>= rest from) x e in
    let (to, to_is, tested) = step (set_at n from.1) (rest from) x read in
    let (u, passes, end) = step (bad_if (from.0 == to.0) BadSet) (λ _. last from to) x tested in
    let other : from.0 ≢ to.0 = eqb-false from.0 to.0 (passed (from.0 == to.0) BadSet u passes) in
    made m n (command.Close from.0 to.0) to.1 x (set_range n words from from_is, set_range n from.1 to to_is, other) end

of_cut : (m n : ℕ) (words : Left) (x : Command × Left) → command_at m n Cut words ≡ Ok x → IsLawfulCommand m n x.0
of_cut m n words x e =
    let last = λ (client call : ℕ × Left). (let read : Command × Left = (command.Cut client.0 call.0, call.1) in Ok read) in
    let (client, _, more) = step (client_at words) (λ client. number_at client.1 >>= last client) x e in
    let (call, _, end) = step (number_at client.1) (last client) x more in
    made m n (command.Cut client.0 call.0) call.1 x tt end

fields_lawful : (m n : ℕ) (name : CommandWord) (words : Left) (x : Command × Left) → command_at m n name words ≡ Ok x → IsLawfulCommand m n x.0
fields_lawful m n Send words x e = of_send m n words x e
fields_lawful m n Pin words x e = of_bucket m n command.Pin words x (λ b s bucket set. (bucket, set)) e
fields_lawful m n Unpin words x e = of_bucket m n command.Unpin words x (λ b s bucket set. (bucket, set)) e
fields_lawful m n Close words x e = of_close m n words x e
fields_lawful m n Cut words x e = of_cut m n words x e
fields_lawful m n Stop words x e = of_set m n command.Stop words x (λ s set. set) e
fields_lawful m n Restart words x e = of_set m n command.Restart words x (λ s set. set) e
fields_lawful m n Balance words x e = made m n command.Balance words x tt e

pub command_lawful : (m n : ℕ) (words : Left) (c : Command) → command_of m n words ≡ Ok c → IsLawfulCommand m n c
command_lawful m n words c e =
    let last = λ (read : Command × Left). end_at read.1 >> Ok read.0 in
    let (name, _, fields) = step (command_word_at words) (λ name. command_at m n name.0 name.1 >>= last) c e in
    let (read, is, ended) = step (command_at m n name.0 name.1) last c fields in
    let (u, _, end) = step (end_at read.1) (λ _. Ok read.0) c ended in
    let same : read.0 ≡ c = cc in
    subst (IsLawfulCommand m n) same (fields_lawful m n name.0 name.1 read is)
