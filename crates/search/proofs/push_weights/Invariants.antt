use Rattle.std.proofs.Common.{◌≡◌, ◌++◌, take, vec_items}
use Rattle.std.specs.List.{flat_map}
use Rattle.search.specs.Encoded.{four}
use Rattle.search.proofs.push_weights.Given as goal

abbrev pub invariant-loop-weight : goal.invariant-loop-weight
invariant-loop-weight l = vec_items l.bytes ≡ vec_items l.fn.bytes ++ flat_map four (take l.weight-index l.weights)
