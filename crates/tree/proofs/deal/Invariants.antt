use Rattle.std.proofs.Common.{◌≡◌, ◌*◌, ◌≤◌, take}
use Rattle.tree.specs.Compact.{each}
use Rattle.rules.specs.Play.{left}
use Rattle.cards.specs.Game.{total}
use Rattle.tree.proofs.Lay.{Rows}
use Rattle.tree.proofs.deal.Given as goal

abbrev pub invariant-loop-rank : goal.invariant-loop-rank
invariant-loop-rank g l =
    let dealt = take l.rank l.copies-items in
    record {
      rows : Rows (left dealt) (each 0 dealt (g.C.Card.after l.card)) l.initial.out.at l.initial.out.nodes.now l.out.nodes.now l.out.at;
      same : l.out.nodes.ghost_name ≡ l.initial.out.nodes.ghost_name;
      counted : l.cards ≡ total (left dealt);
      few : l.cards ≤ 255 * l.rank;
    }
