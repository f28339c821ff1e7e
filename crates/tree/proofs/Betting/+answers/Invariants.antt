use Rattle.tree.proofs.Betting.+answers.Given as goal

abbrev pub decreases-answers : goal.decreases-answers
decreases-answers g l = l.self.raises
