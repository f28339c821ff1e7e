use Rattle.rules.proofs.words_are_stands.Goals as goal
use Rattle.rules.proofs.CountWords.{words_are}

pub returns : goal.returns
returns c = words_are
