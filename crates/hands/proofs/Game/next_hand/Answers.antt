use Rattle.hands.proofs.HandSteps.{first_ends}
use Rattle.hands.proofs.Game.next_hand.Goals as goal

pub returns-clause-value : goal.returns-clause-value
returns-clause-value c = λ k n d counts tree h. first_ends k _ _ tree _ _ _ _ _ c.in_ok-hand.ensures.value (c.play.ensures k n d counts tree h)
