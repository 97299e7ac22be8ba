use Rattle.std.proofs.Common.{◌≡◌, ℕ, List, ◌++◌, ap, ◌∙◌}
use Rattle.std.specs.Prelude.{codes}
use Rattle.std.specs.List.{count_by}
use Rattle.vs_machine.specs.Report.{number}
use Rattle.vs_state.specs.Plain.{plain}
use Rattle.vs_generating.specs.Summary.{active_text, answered, is_end_move, rounds}
use Rattle.vs_generating.proofs.SummaryLines.{pieces}
use Rattle.vs_generating.proofs.summary.summary.Goals as goal

pub returns : goal.returns
returns c =
    let s = plain c.args.state.now in
    let first : c.put_count.new.out.items ≡ codes "gen" ++ number c.args.number =
    c.in_ok-put_count.ensures ∙ ap (λ (t : List ℕ). t ++ (codes "gen" ++ number c.from.result)) c.new-out.ensures.items ∙ ap (λ (n : ℕ). codes "gen" ++ number n) c.from.ensures in
    let rounds_are : c.put_count-2.new.out.items ≡ c.put_active.new.out.items ++ (codes "\nrounds" ++ number (rounds s)) =
    c.in_ok-put_count-2.ensures ∙ ap (λ (n : ℕ). c.put_active.new.out.items ++ (codes "\nrounds" ++ number n)) (c.from-2.ensures ∙ c.rounds.ensures) in
    let moves_are : c.put_count-3.new.out.items ≡ c.put_count-2.new.out.items ++ (codes " moved" ++ number (count_by is_end_move c.args.events.now)) =
    c.in_ok-put_count-3.ensures ∙ ap (λ (n : ℕ). c.put_count-2.new.out.items ++ (codes " moved" ++ number n)) c.moves.ensures in
    let answered_are : c.put_count-4.new.out.items ≡ c.put_count-3.new.out.items ++ (codes "\ncalls 20000 answered" ++ number (answered s)) =
    c.in_ok-put_count-4.ensures ∙ ap (λ (n : ℕ). c.put_count-3.new.out.items ++ (codes "\ncalls 20000 answered" ++ number n)) c.answered.ensures in
    pieces c.put_count.new.out.items c.extend_from_slice.new.self.items c.put_active.new.out.items c.put_count-2.new.out.items c.put_count-3.new.out.items c.put_count-4.new.out.items c.push.new.self.items
    (codes "gen" ++ number c.args.number) (codes "\nsets 4 buckets 3000\ncounts") (active_text s) (codes "\nrounds") (number (rounds s)) (codes " moved") (number (count_by is_end_move c.args.events.now)) (codes "\ncalls 20000 answered")
    (number (answered s)) (codes "\n") first c.in_ok-extend_from_slice.ensures.items c.in_ok-put_active.ensures rounds_are moves_are answered_are c.in_ok-push.ensures.items
