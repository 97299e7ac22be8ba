use Rattle.vs_state.specs.Plain.{plain}
use Rattle.vs_survey.proofs.Resting.{settled_by}
use Rattle.vs_survey.proofs.settling.is_settled.Goals as goal
use Rattle.vs_survey.proofs.settling.is_settled.Goals.{then-are_up, else-are_up, then-are_placed, else-are_placed, then-have_no_transfer, else-have_no_transfer}

pub returns-then-are_idle : goal.returns-then-are_idle
returns-then-are_idle c = (
  λ silent. elim c.if-have_no_transfer.branch [
    | then-have_no_transfer moved ↦ elim c.if-are_placed.branch [
      | then-are_placed placed ↦ elim c.if-are_up.branch [
        | then-are_up up ↦
            settled_by (plain c.args.state.now) (c.are_up.ensures.0 up.if-are_up.true)
            (up.are_placed.ensures.0 (cc (up.value-is, placed.if-are_placed.true)))
            (placed.have_no_transfer.ensures.0 (cc (placed.value-is, moved.if-have_no_transfer.true)))
            (moved.are_idle.ensures.0 (cc (moved.value-is, c.if-are_idle.true)))
            (c.are_silent.ensures.0 silent)
        | else-are_up up ↦ absurd (cc (up.value-is, placed.if-are_placed.true))
      ]
      | else-are_placed placed ↦ absurd (cc (placed.value-is, moved.if-have_no_transfer.true))
    ]
    | else-have_no_transfer moved ↦ absurd (cc (moved.value-is, c.if-are_idle.true))
  ],
  λ settled. c.are_silent.ensures.1 (λ x y ne. record { calls = settled.no_message x y ne; replies = settled.no_reply x y ne }),
)
