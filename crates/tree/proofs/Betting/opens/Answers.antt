use Rattle.std.proofs.Common.{◌+◌, ap, length, ◌∙◌, arith}
use Rattle.tree.specs.Compact.{size}
use Rattle.tree.specs.declared.Act.TheVariants.{Check}
use Rattle.tree.proofs.Fairs.{fair_open}
use Rattle.tree.proofs.Rounds.{carry, bet_is, two_written}
use Rattle.tree.proofs.Writers.{written_length, begun, closed}
use Rattle.tree.proofs.Betting.opens.Goals as goal

pub follow-requires-clause-fair : goal.follow-requires-clause-fair
follow-requires-clause-fair g c =
    let k = g.C.Follow.spare c.args.checks in
    rw c.acted.ensures (fair_open k 0 Check c.args.who c.args.hand (omega arith) c.requires.check)

pub answers-requires-clause-room : goal.answers-requires-clause-room
answers-requires-clause-room g c =
    let then = g.F.Follow.then c.args.self.next in
    let P = c.args.self.stakes.purse in
    let B = c.args.self.stakes.bet in
    let X = c.args.self.raises in
    let es = ap (λ x. size (g.C.Follow.then c.args.checks x)) c.acted.ensures in
    let eb = ap size (bet_is P B then X c.args.who c.other.result c.args.hand c.acted-bet.result c.other.ensures c.acted-bet.ensures) in
    let l0 = ap length c.skip-at.ensures.nodes in
    let l1 = written_length _ _ _ _ _ _ (omega (arith, es, l0, c.requires.room, c.skip-at.ensures.at)) c.follow.ensures.wrote in
    omega (arith, es, eb, l0, l1, c.requires.room, c.skip-at.ensures.at, c.follow.ensures.wrote.ends)

pub returns : goal.returns
returns g c =
    let then = g.F.Follow.then c.args.self.next in
    let P = c.args.self.stakes.purse in
    let B = c.args.self.stakes.bet in
    let at = c.args.out.now.at in
    let skip = c.skip-at.ensures in
    let es = ap (λ x. size (g.C.Follow.then c.args.checks x)) c.acted.ensures in
    let l0 = ap length skip.nodes in
    let l1 = written_length _ _ _ _ _ _ (omega (arith, es, l0, c.requires.room, skip.at)) c.follow.ensures.wrote in
    let a = begun 0 _ (at + 1) _ _ _ _ _ skip.at skip.nodes (carry 0 _ _ _ _ (ap (g.C.Follow.then c.args.checks) c.acted.ensures) c.follow.ensures.wrote) in
    let b = carry 0 _ _ _ _ (bet_is P B then c.args.self.raises c.args.who c.other.result c.args.hand c.acted-bet.result c.other.ensures c.acted-bet.ensures) c.answers.ensures.wrote in
    record {
      same = c.close.ensures.same ∙ c.answers.ensures.same ∙ c.follow.ensures.same ∙ skip.same;
      wrote = closed c.args.share _ at _ _ _ _ _ _ _ skip.value c.close.ensures.nodes c.close.ensures.at
          (two_written c.args.share c.args.who c.args.hand _ _ at _ _ _ _ _ c.choice.result (omega (arith, c.requires.room)) a b c.choice.ensures (l1 ∙ l0));
    }
