use Rattle.std.proofs.Common.{◌≤◌, length}
use Rattle.tree.specs.Slots.{Tabled}
use Rattle.tree.specs.Flat.{Noted}
use Rattle.tree.proofs.Sees.{list}
use Rattle.tree.proofs.collect.Given as goal

abbrev pub invariant-loop-node : goal.invariant-loop-node
invariant-loop-node l =
    Noted (list l.who l.nodes l.node-index) l.initial.sights l.sights l.n
    × ((l.n ≤ l.node-index) × Tabled (length l.initial.table) l.table (list l.who l.nodes l.node-index))
