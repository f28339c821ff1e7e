use Rattle.std.proofs.Common.{rules}
use Rattle.std.proofs.lemmas.Result.{err_from_is_err_and}
use Rattle.hands.proofs.Turns.{ends_err, turn_none, turn_inside, turn_root, turn_over, drawn_unfit, drawn_ready, drawn_less, turn_drawn, theirs_err, theirs_less, turn_theirs}
use Rattle.hands.proofs.Game.play.Goals as goal

pub loop-ends-init : goal.loop-ends-init
loop-ends-init g c = turn_none _ _ _ _ _ c.args.self.now.laid

pub offset_bounds-self-at : goal.offset_bounds-self-at
offset_bounds-self-at g c = let i = turn_inside _ _ _ _ _ _ _ _ _ c.args.self.now.laid c.loop-ends.invariant in search rules

pub bounds-self-at : goal.bounds-self-at
bounds-self-at g c = turn_inside _ _ _ _ _ _ _ _ _ c.args.self.now.laid c.loop-ends.invariant

pub returns-in-Over : goal.returns-in-Over
returns-in-Over g c = turn_over _ _ _ _ _ _ _ _ _ c.loop-ends.invariant c.in-Over.ends c.in-Over.is

pub returns-in_err-word-in-Deal : goal.returns-in_err-word-in-Deal
returns-in_err-word-in-Deal g c =
    let p = err_from_is_err_and c.from_residual.result c.from_residual.ensures.1 in
    ends_err _ _ _ _ _ _ p.0 c.in_err-word-in-Deal.field-0.0 p.1 p.2 (drawn_unfit _ _ _ _ _ _ _ _ _ c.loop-ends.invariant c.in-Deal.is c.in_err-word-in-Deal.field-0.0 c.in_err-word-in-Deal.ensures)

pub fall-at-requires : goal.fall-at-requires
fall-at-requires g c = record {
  root = turn_root _ _ _ _ _ _ _ _ _ c.args.self.now.laid c.loop-ends.invariant;
  falls = drawn_ready _ _ _ _ _ _ _ _ _ c.loop-ends.invariant c.args.self.now.laid c.in-Deal.is c.in_ok-word-in-Deal.word c.in_ok-word-in-Deal.ensures.1;
}

pub loop-ends-smaller-in-Deal : goal.loop-ends-smaller-in-Deal
loop-ends-smaller-in-Deal g c =
    drawn_less _ _ _ _ _ _ _ _ _ c.loop-ends.invariant c.args.self.now.laid c.in-Deal.is c.in_ok-word-in-Deal.word c.fall-at.result c.in_ok-word-in-Deal.ensures.1 c.fall-at.ensures

pub loop-ends-preserved-in-Deal : goal.loop-ends-preserved-in-Deal
loop-ends-preserved-in-Deal g c =
    turn_drawn _ _ _ _ _ _ _ _ _ c.loop-ends.invariant c.args.self.now.laid c.in-Deal.is c.in_ok-word-in-Deal.word c.fall-at.result _ c.in_ok-word-in-Deal.ensures.0 c.in_ok-word-in-Deal.ensures.1 c.fall-at.ensures

pub choose-requires : goal.choose-requires
choose-requires g c = turn_root _ _ _ _ _ _ _ _ _ c.args.self.now.laid c.loop-ends.invariant

pub returns-in_err-at-in-Guest : goal.returns-in_err-at-in-Guest
returns-in_err-at-in-Guest g c =
    let p = err_from_is_err_and c.from_residual-in_err-at-in-Guest.result c.from_residual-in_err-at-in-Guest.ensures.1 in
    ends_err _ _ _ _ _ _ p.0 c.in_err-at-in-Guest.field-0.0 p.1 p.2 (theirs_err _ _ _ _ _ _ _ _ _ c.loop-ends.invariant c.in-Guest.field-0 c.in-Guest.field-1 c.in-Guest.is c.in_err-at-in-Guest.field-0.0 c.in_err-at-in-Guest.ensures)

pub loop-ends-smaller : goal.loop-ends-smaller
loop-ends-smaller g c = theirs_less _ _ _ _ _ _ _ _ _ c.loop-ends.invariant c.args.self.now.laid c.in-Guest.field-0 c.in-Guest.field-1 c.in-Guest.is _ c.in_ok-at-in-Guest.ensures

pub loop-ends-preserved : goal.loop-ends-preserved
loop-ends-preserved g c = turn_theirs _ _ _ _ _ _ _ _ _ c.loop-ends.invariant c.args.self.now.laid c.in-Guest.field-0 c.in-Guest.field-1 c.in-Guest.is _ c.in_ok-at-in-Guest.ensures
