use Rattle.std.proofs.Common.{◌+◌, ◌≡◌}
use Rattle.std.specs.Iterator.Adapters.{enumerate_source, enumerate_count}
use Rattle.tree.specs.Rep.{node_at}
use Rattle.hands.proofs.Falls.{Going}
use Rattle.hands.proofs.Game.fall.Given as goal

abbrev pub invariant-loop-before : goal.invariant-loop-before
invariant-loop-before l =
    let kids = enumerate_source l.before-iterator in
    record {
      same : kids.nodes.now ≡ l.self.nodes.now;
      end : kids.end ≡ l.at + (node_at l.self.nodes.now l.at).size;
      going : Going l.self.m l.self.rows.now l.self.nodes.now (node_at l.self.nodes.now l.at).place (l.at + 1) l.word (enumerate_count l.before-iterator) kids.at l.left;
    }
