use Rattle.std.proofs.Common.{◌+◌, ◌-◌, ◌*◌, ◌<◌, sym, refl, ap, ◌∙◌, length, set, subst, arith}
use Rattle.tree.specs.Compact.{size}
use Rattle.tree.specs.declared.Hand.{Hand}
use Rattle.tree.specs.declared.writer.Writer.{Writer}
use Rattle.tree.specs.Flat.{Fair}
use Rattle.tree.specs.Rep.{node}
use Rattle.tree.proofs.Fairs.{fair_less, fair_raise}
use Rattle.tree.proofs.Rounds.{answers_room, raise_room, last_written, more_written, carry, called_is, raised_is, folded_is, onward_is}
use Rattle.tree.proofs.Writers.{written_length, begun, closed}
use Rattle.tree.proofs.Betting.+answers.Goals as goal
use Rattle.tree.proofs.Betting.+answers.Goals.{then-self-gt0, else-self-gt0}

pub follow-requires-clause-room : goal.follow-requires-clause-room
follow-requires-clause-room g t c =
    let then = g.F.Follow.then c.args.self.next in
    let P = c.args.self.stakes.purse in
    let B = c.args.self.stakes.bet in
    let h = answers_room P B then c.args.self.raises c.args.who c.args.hand in
    let e = called_is P B then c.args.who c.args.hand c.acted.result c.due-owed.result c.due-owed.ensures c.acted.ensures in
    let es = ap (λ x. size (then x)) e in
    let l0 = ap length c.skip-at.ensures.nodes in
    let l1 = written_length _ _ _ _ _ _ (omega (arith, h, l0, c.requires.room, c.skip-at.ensures.at)) c.over.ensures.wrote in
    omega (arith, h, es, l0, l1, c.requires.room, c.skip-at.ensures.at, c.over.ensures.wrote.ends)

pub answers-requires : goal.answers-requires
answers-requires g t c κs within =
    let then = g.F.Follow.then c.args.self.next in
    let P = c.args.self.stakes.purse in
    let B = c.args.self.stakes.bet in
    let more : 0 < c.args.self.raises = c.if-self-gt0.true in
    let h = raise_room P B then c.args.self.raises c.args.who c.args.hand more in
    let e = called_is P B then c.args.who c.args.hand c.acted.result c.due-owed.result c.due-owed.ensures c.acted.ensures in
    let es = ap (λ x. size (then x)) e in
    let e2 = raised_is P B then c.args.who c.args.hand c.acted-raised.result c.due-owed.result c.due-owed.ensures c.acted-raised.ensures in
    let e3 = ap size (onward_is P B then (c.args.self.raises - 1) c.args.who c.other-then-self-gt0.result c.args.hand c.acted-raised.result c.other-then-self-gt0.ensures e2) in
    let l0 = ap length c.skip-at.ensures.nodes in
    let l1 = written_length _ _ _ _ _ _ (omega (arith, h, l0, c.requires.room, c.skip-at.ensures.at)) c.over.ensures.wrote in
    let l2 = written_length _ _ _ _ _ _ (omega (arith, h, es, l0, l1, c.requires.room, c.skip-at.ensures.at, c.over.ensures.wrote.ends)) c.follow.ensures.wrote in
    let k = 10 * (c.args.self.raises - 1) + g.F.Follow.spare c.args.self.next in
    let Q : Hand → Type 0 = Fair k in (
      omega (arith, c.decreases),
      (
        within,
        (
          omega (arith, h, es, e3, l0, l1, l2, c.requires.room, c.skip-at.ensures.at, c.over.ensures.wrote.ends, c.follow.ensures.wrote.ends),
          subst Q (sym e2) (fair_raise k B c.args.who c.args.hand c.args.self.stakes.bet_small (fair_less (10 + k) (10 * c.args.self.raises + g.F.Follow.spare c.args.self.next) c.args.hand (omega arith) c.requires.fair)),
        ),
      ),
    )

pub returns : goal.returns
returns g t c =
    let then = g.F.Follow.then c.args.self.next in
    let P = c.args.self.stakes.purse in
    let B = c.args.self.stakes.bet in
    let X = c.args.self.raises in
    let at = c.args.out.now.at in
    let W = c.args.who in
    let H = c.args.hand in
    let skip = c.skip-at.ensures in
    let h = answers_room P B then X W H in
    let e = called_is P B then W H c.acted.result c.due-owed.result c.due-owed.ensures c.acted.ensures in
    let es = ap (λ x. size (then x)) e in
    let l0 = ap length skip.nodes in
    let l1 = written_length _ _ _ _ _ _ (omega (arith, h, l0, c.requires.room, skip.at)) c.over.ensures.wrote in
    let l2 = written_length _ _ _ _ _ _ (omega (arith, h, es, l0, l1, c.requires.room, skip.at, c.over.ensures.wrote.ends)) c.follow.ensures.wrote in
    let a = begun 0 _ (at + 1) _ _ _ _ _ skip.at skip.nodes (carry 0 _ _ _ _ (folded_is P B then W c.other.result H c.won_by-ends.result c.other.ensures c.won_by-ends.ensures) c.over.ensures.wrote) in
    let b = carry 0 _ _ _ _ (ap then e) c.follow.ensures.wrote in
    let before = c.follow.ensures.same ∙ c.over.ensures.same ∙ skip.same in
    elim c.if-self-gt0.branch [
      | then-self-gt0 w ↦
          (let e2 = raised_is P B then W H w.acted-raised.result c.due-owed.result c.due-owed.ensures w.acted-raised.ensures in
          let d = carry 0 _ _ _ _ (onward_is P B then (X - 1) W w.other-then-self-gt0.result H w.acted-raised.result w.other-then-self-gt0.ensures e2) w.answers.ensures.wrote in
          record {
            same = c.close.ensures.same ∙ ap (λ (v : Writer). v.nodes.ghost_name) w.out-is ∙ w.answers.ensures.same ∙ before;
            wrote = closed 0 _ at _ _ _ _ _ _ _ skip.value
                (c.close.ensures.nodes ∙ ap (λ (v : Writer). set v.nodes.now c.skip-at.result (node c.choice.result 0 (v.at - c.skip-at.result))) w.out-is)
                (c.close.ensures.at ∙ ap (λ (v : Writer). v.at) w.out-is)
                (more_written P B then X W H at _ _ _ _ _ _ _ c.choice.result _ w.if-self-gt0.true c.requires.room a b d c.choice.ensures refl (l1 ∙ l0) (l2 ∙ l1 ∙ l0));
          })
      | else-self-gt0 w ↦
          record {
            same = c.close.ensures.same ∙ ap (λ (v : Writer). v.nodes.ghost_name) w.out-is ∙ before;
            wrote = closed 0 _ at _ _ _ _ _ _ _ skip.value
                (c.close.ensures.nodes ∙ ap (λ (v : Writer). set v.nodes.now c.skip-at.result (node c.choice.result 0 (v.at - c.skip-at.result))) w.out-is)
                (c.close.ensures.at ∙ ap (λ (v : Writer). v.at) w.out-is)
                (last_written P B then X W H at _ _ _ _ _ c.choice.result _ w.if-self-gt0.false c.requires.room a b c.choice.ensures refl (l1 ∙ l0));
          }
    ]
