use Rattle.search.proofs.Walk.+value.Given as goal

abbrev pub decreases-value : goal.decreases-value
decreases-value l = l.steps
