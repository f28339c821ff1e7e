use Rattle.cards.proofs.rotating_is_a_floor_stands.Goals as goal
use Rattle.cards.proofs.Rotating.{rotating_is_a_floor}

pub returns : goal.returns
returns c = rotating_is_a_floor
