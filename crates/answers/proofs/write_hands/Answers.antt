use Rattle.std.proofs.Common.{◌∙◌}
use Rattle.answers.proofs.Tables.{step_lines}
use Rattle.answers.proofs.write_hands.Goals as goal

pub loop-hand-preserved : goal.loop-hand-preserved
loop-hand-preserved c = λ k n h g t l.
    let f = c.in-Some.ensures.value k n h g t l in
    step_lines k _ _ c.in-Some.hand.result _ _ c.in_ok-add_line.ensures f.shared f.outcome ∙ c.loop-hand.invariant k n h g t l
