use Rattle.std.proofs.Common.{◌≡◌, ◌+◌, ◌-◌, ◌++◌, List, ℕ, length, take, drop, sym, ap, ◌∙◌, arith}
use Rattle.std.proofs.lemmas.List.{append-nil, drop_all}
use Rattle.vs_frame.proofs.Pieces.{in_piece}
use Rattle.vs_frame.proofs.ahead.ReadAhead.read.Goals as goal

pub returns-in-Some-clause-bytes : goal.returns-in-Some-clause-bytes
returns-in-Some-clause-bytes g c tells =
    let ahead = c.args.self.now in
    let file = (g.D.Disk.told c.args.disk.now).reads_as in
    let into = c.args.into.now in
    let size : c.in-Some.from + length into - c.in-Some.from ≡ length into = omega arith in
    let bytes = in_piece ahead.piece.items file ahead.start ahead.count c.args.at c.in-Some.from (length into) (c.requires.piece tells) c.in-Some.ensures.within c.in-Some.ensures.place in
    let asked = take (length into) (drop c.args.at file) in
    c.copy_from_slice.ensures.after ∙ ap (λ (n : ℕ). take n (drop c.in-Some.from c.deref.result.now)) size ∙ ap (λ (l : List ℕ). take (length into) (drop c.in-Some.from l)) c.deref.ensures.value ∙ bytes
    ∙ sym (append-nil asked) ∙ ap (λ (l : List ℕ). asked ++ l) (sym (drop_all (length into) into (omega arith)))
