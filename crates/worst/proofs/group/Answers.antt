use Rattle.std.proofs.Common.{sym, ◌∙◌, arith}
use Rattle.worst.proofs.Sifts.{same_room, sift_same, sift_other, moved_fits}
use Rattle.worst.proofs.group.Goals as goal
use Rattle.worst.proofs.group.Goals.{then-sight_of-sight, else-sight_of-sight}

pub bounds-work-len : goal.bounds-work-len
bounds-work-len c = same_room _ _ _ _ _ _ _ c.requires c.loop-i.auto.work c.loop-i-test.true c.loop-i.invariant (sym c.sight_of.ensures ∙ c.if-sight_of-sight.true)

pub loop-i-preserved : goal.loop-i-preserved
loop-i-preserved c =
    elim c.if-sight_of-sight.branch [
      | then-sight_of-sight w ↦ simp (w.work-is, w.front-is)
          (sift_same _ _ _ _ _ _ _ c.requires c.loop-i.auto.work c.loop-i-test.true c.loop-i.invariant (sym c.sight_of.ensures ∙ w.if-sight_of-sight.true))
      | else-sight_of-sight w ↦ simp (w.work-is, w.front-is)
          (sift_other _ _ _ _ _ _ _ c.requires c.loop-i.auto.work c.loop-i-test.true c.loop-i.invariant (λ e. w.if-sight_of-sight.false (c.sight_of.ensures ∙ e)))
    ]

pub copy_within-requires-clause-in_bounds : goal.copy_within-requires-clause-in_bounds
copy_within-requires-clause-in_bounds c = (moved_fits _ _ _ _ _ _ _ c.requires c.loop-i.auto.work (omega (arith, c.loop-i.auto.i-end, c.loop-i-test.false)) c.loop-i.invariant).1
