use Rattle.std.proofs.Common.{rules}
use Rattle.tree.proofs.Siblings.{root_inside}
use Rattle.tree.proofs.kids.Kids.of.Goals as goal

pub overflow_add-result : goal.overflow_add-result
overflow_add-result c = let h = root_inside _ _ c.requires in search rules

pub offset_bounds-nodes-at : goal.offset_bounds-nodes-at
offset_bounds-nodes-at c = let h = root_inside _ _ c.requires in search rules

pub bounds-nodes-at : goal.bounds-nodes-at
bounds-nodes-at c = (root_inside _ _ c.requires).0
