use Rattle.std.proofs.Common.{◌≡◌, ◌-◌, suc, All, vec_len}
use Rattle.vs_words.specs.Rule.{total, unused}
use Rattle.vs_words.specs.Standing.{IsNew}
use Rattle.vs_words.proofs.words.RefWords.split.Given as goal

abbrev pub invariant-loop : goal.invariant-loop
invariant-loop l = record {
  same : l.seat.table_id ≡ l.self-inside.table.shared.table_id;
  left : l.seat.me.0 ≡ unused (63 - l.counter);
  len : vec_len l.passes ≡ l.counter;
  new : All (IsNew l.self-inside.table.shared.table_id) l.passes.items;
  all : total (λ p. suc p.spare) l.passes.items ≡ l.counter;
}
