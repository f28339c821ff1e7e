use Rattle.std.proofs.Common.{◌≡◌, ℕ, ◌+◌, List, length, take, refl, ap, ◌∙◌, subst, arith}
use Rattle.std.proofs.lemmas.List.{take_all}
use Rattle.tree.specs.declared.Node.{Node}
use Rattle.tree.specs.declared.writer.Writer.{Writer}
use Rattle.tree.specs.Compact.{each, sizes}
use Rattle.tree.specs.Cards.{cards_of}
use Rattle.rules.specs.Play.{left}
use Rattle.cards.specs.Game.{total}
use Rattle.tree.proofs.Lay.{Rows, rows_none, rows_met, deal_written}
use Rattle.tree.proofs.Deals.{deal_room, upto_more, upto_skip, cards_more}
use Rattle.tree.proofs.Writers.{rows_length, closed}
use Rattle.tree.proofs.deal.Goals as goal
use Rattle.tree.proofs.deal.Goals.{then-left-gt0, else-left-gt0}

pub loop-rank-init : goal.loop-rank-init
unfolding total
loop-rank-init g c = record { rows = rows_none _ _ _; same = refl; counted = refl; few = omega arith }

pub lead-requires-clause-room : goal.lead-requires-clause-room
lead-requires-clause-room g c =
    let after = g.C.Card.after c.args.card in
    let same = c.cards-copies-items.ensures.value in
    let h = deal_room after c.cards-copies-items.result.now c.loop-rank.rank c.loop-rank-test.true c.if-left-gt0.true in
    let all = ap (λ cards. sizes (each 0 cards after)) same in
    let l0 = ap length c.skip-at.ensures.nodes in
    let l1 = rows_length _ _ _ _ _ _ (omega (arith, h, all, l0, c.requires.room, c.skip-at.ensures.at)) c.loop-rank.invariant.rows in
    omega (arith, h, all, l0, l1, c.requires.room, c.skip-at.ensures.at, c.loop-rank.invariant.rows.ends)

pub loop-rank-preserved : goal.loop-rank-preserved
loop-rank-preserved g c =
    let after = g.C.Card.after c.args.card in
    let cards = c.cards-copies-items.result.now in
    let r = c.loop-rank.rank in
    let i = c.loop-rank-test.true in
    let m = cards_more cards r i in
    let all = ap (λ l. sizes (each 0 l after)) c.cards-copies-items.ensures.value in
    let l0 = ap length c.skip-at.ensures.nodes in
    let inv = c.loop-rank.invariant in
    let at : Writer → ℕ = λ v. v.at in
    let nodes : Writer → List Node = λ v. v.nodes.now in
    elim c.if-left-gt0.branch [
      | then-left-gt0 w ↦
          (let h = deal_room after cards r i w.if-left-gt0.true in
          record {
            rows = rows_met _ _ _ _ _ _ _ _ (ap at w.out-is) (ap nodes w.out-is)
                (upto_more after cards r _ _ _ _ _ _ i w.if-left-gt0.true (omega (arith, h, all, l0, c.requires.room, c.skip-at.ensures.at)) inv.rows w.lead.ensures.wrote);
            same = ap (λ (v : Writer). v.nodes.ghost_name) w.out-is ∙ w.lead.ensures.same ∙ inv.same;
            counted = omega (arith, w.cards-is, inv.counted, m);
            few = omega (arith, w.cards-is, inv.few, c.type_inv.copies-items r);
          })
      | else-left-gt0 w ↦
          record {
            rows = rows_met _ _ _ _ _ _ _ _ (ap at w.out-is) (ap nodes w.out-is) (upto_skip after cards r _ _ _ _ i w.if-left-gt0.false inv.rows);
            same = ap (λ (v : Writer). v.nodes.ghost_name) w.out-is ∙ inv.same;
            counted = omega (arith, w.cards-is, inv.counted, m, w.if-left-gt0.false);
            few = omega (arith, w.cards-is, inv.few);
          }
    ]

pub returns : goal.returns
returns g c =
    let after = g.C.Card.after c.args.card in
    let cards = cards_of c.args.deck in
    let skip = c.skip-at.ensures in
    let inv = c.loop-rank.invariant in
    let e : take c.loop-rank.rank c.cards-copies-items.result.now ≡ cards = take_all c.loop-rank.rank _ c.loop-rank-test.false ∙ c.cards-copies-items.ensures.value in
    let P : List ℕ → Type 0 = λ l. Rows (left l) (each 0 l after) c.skip-at.new.self.at c.skip-at.new.self.nodes.now c.loop-rank.out.nodes.now c.loop-rank.out.at in
    let Q : ℕ → Type 0 = λ i. Rows (left cards) (each 0 cards after) i c.skip-at.new.self.nodes.now c.loop-rank.out.nodes.now c.loop-rank.out.at in
    let R : List Node → Type 0 = λ xs. Rows (left cards) (each 0 cards after) (c.args.out.now.at + 1) xs c.loop-rank.out.nodes.now c.loop-rank.out.at in
    record {
      same = c.close.ensures.same ∙ inv.same ∙ skip.same;
      wrote = closed c.args.share _ c.args.out.now.at _ _ _ _ _ _ _ skip.value c.close.ensures.nodes c.close.ensures.at
          (deal_written c.args.share (left cards) _ c.args.out.now.at _ _ _ c.loop-rank.cards _ (omega (arith, c.requires.room)) (subst R skip.nodes (subst Q skip.at (subst P e inv.rows)))
          (inv.counted ∙ ap (λ l. total (left l)) e) refl);
    }
