use Rattle.rules.proofs.sights_are_stands.Goals as goal
use Rattle.rules.proofs.CountSights.{sights_are}

pub returns : goal.returns
returns c = sights_are
