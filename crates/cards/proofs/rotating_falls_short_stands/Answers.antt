use Rattle.cards.proofs.rotating_falls_short_stands.Goals as goal
use Rattle.cards.proofs.Rotating.{rotating_falls_short}

pub returns : goal.returns
returns c = rotating_falls_short
