use Rattle.rules.proofs.weights_sum_stands.Goals as goal
use Rattle.rules.proofs.Laws.{weights_sum}

pub returns : goal.returns
returns c = weights_sum
