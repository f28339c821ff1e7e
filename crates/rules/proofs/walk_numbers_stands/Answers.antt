use Rattle.rules.proofs.walk_numbers_stands.Goals as goal
use Rattle.rules.proofs.Walks.{walk_numbers}

pub returns : goal.returns
returns c = walk_numbers
