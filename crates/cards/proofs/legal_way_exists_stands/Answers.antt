use Rattle.cards.proofs.legal_way_exists_stands.Goals as goal
use Rattle.cards.proofs.OneWorst.{legal_way_exists}

pub returns : goal.returns
returns c = legal_way_exists
