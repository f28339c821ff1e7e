use Rattle.cards.proofs.sights_lie_apart_stands.Goals as goal
use Rattle.cards.proofs.Apart.{sights_lie_apart}

pub returns : goal.returns
returns c = sights_lie_apart
