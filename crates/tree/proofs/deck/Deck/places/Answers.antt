use Rattle.std.proofs.Common.{◌≤◌, mul-le-mul_left, arith}
use Rattle.tree.specs.Cards.{cards_of}
use Rattle.tree.proofs.Deals.{size_more, size_skip}
use Rattle.tree.proofs.deck.Deck.places.Goals as goal
use Rattle.tree.proofs.deck.Deck.places.Goals.{then-left-gt0, else-left-gt0}

pub overflow_add-sum : goal.overflow_add-sum
overflow_add-sum g c =
    let here = rw c.cards-left-items.ensures.value at c.if-left-gt0.true in
    let before = c.loop-rank.invariant.1 80000 c.requires.small in
    let this = c.requires.small c.loop-rank.rank c.of-sum.result here c.of-sum.ensures in
    omega (arith, before, this, c.loop-rank-test.true, c.cards-left-items.ensures.few)

pub loop-rank-preserved : goal.loop-rank-preserved
loop-rank-preserved g c =
    let cards = cards_of c.args.self.now in
    let r = c.loop-rank.rank in
    let inside = rw c.cards-left-items.ensures.value at c.loop-rank-test.true in
    elim c.if-left-gt0.branch [
      | then-left-gt0 w ↦
          (let here = rw c.cards-left-items.ensures.value at w.if-left-gt0.true in (
            (λ then f. omega (arith, size_more then cards r inside here, f r w.of-sum.result here w.of-sum.ensures, c.loop-rank.invariant.0 then f, w.sum-is)),
            (λ most f. omega (arith, f r w.of-sum.result here w.of-sum.ensures, c.loop-rank.invariant.1 most f, w.sum-is)),
          ))
      | else-left-gt0 w ↦
          (let none = rw c.cards-left-items.ensures.value at w.if-left-gt0.false in (
            (λ then f. omega (arith, size_skip then cards r inside none, c.loop-rank.invariant.0 then f, w.sum-is)),
            (λ most f. omega (arith, c.loop-rank.invariant.1 most f, w.sum-is)),
          ))
    ]

pub returns-clause-most : goal.returns-clause-most
returns-clause-most g c =
    λ most f.
    let rank : c.loop-rank.rank ≤ 13 = omega (arith, c.loop-rank.auto.rank-end, c.cards-left-items.ensures.few) in
    omega (arith, c.loop-rank.invariant.1 most f, mul-le-mul_left most rank)
