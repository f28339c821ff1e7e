use Rattle.std.proofs.Common.{refl, ◌∙◌, arith}
use borrow.Rule.Slice.PartMut.{take_put, same_len_mid}
use Rattle.worst.proofs.Branches.{part_falls, part_no_longer, kids_none, kth, kth_rows, kth_worth, branch_small, kids_more, kids_all}
use Rattle.worst.proofs.Rounds.{round_inside, round_groupable, round_parted, round_group, round_more, round_small, round_all}
use Rattle.worst.proofs.Game.+least_of_reckon.Goals as goal

pub least_of-loop-k-init : goal.least_of-loop-k-init
least_of-loop-k-init t c = kids_none _ _ _ _ _ _

pub least_of-gather-grown-requires : goal.least_of-gather-grown-requires
least_of-gather-grown-requires t c = kth _ _ _ _ _ _ _ _ _ c.requires c.count_of-choices.ensures c.loop-k.invariant.0 c.loop-k.auto.work c.loop-k-test.true

pub least_of-overflow_sub-grown : goal.least_of-overflow_sub-grown
least_of-overflow_sub-grown t c =
    let p = kth _ _ _ _ _ _ _ _ _ c.requires c.count_of-choices.ensures c.loop-k.invariant.0 c.loop-k.auto.work c.loop-k-test.true in
    let d = c.gather-grown.ensures p.told p.items p.given p.there in
    omega (arith, d.len_is)

pub least_of-reckon-rest-requires : goal.least_of-reckon-rest-requires
least_of-reckon-rest-requires t c =
    let p = kth _ _ _ _ _ _ _ _ _ c.requires c.count_of-choices.ensures c.loop-k.invariant.0 c.loop-k.auto.work c.loop-k-test.true in
    (part_falls _ _ _ _ (c.gather-grown.auto.work ∙ c.loop-k.auto.work) c.requires.some c.requires.given.len_le c.decreases, kth_rows _ _ _ _ _ _ _ _ _ _ p c.gather-grown.auto.work c.gather-grown.ensures refl)

pub least_of-overflow_add-grown : goal.least_of-overflow_add-grown
least_of-overflow_add-grown t c =
    let p = kth _ _ _ _ _ _ _ _ _ c.requires c.count_of-choices.ensures c.loop-k.invariant.0 c.loop-k.auto.work c.loop-k-test.true in
    let v = kth_worth _ _ _ _ _ _ _ _ _ _ p.told p.items p.given p.there c.gather-grown.auto.work c.gather-grown.ensures c.reckon-rest.ensures in
    let h = branch_small _ _ _ _ _ _ _ _ _ p.given p.there in omega arith

pub least_of-loop-k-preserved : goal.least_of-loop-k-preserved
least_of-loop-k-preserved t c =
    let p = kth _ _ _ _ _ _ _ _ _ c.requires c.count_of-choices.ensures c.loop-k.invariant.0 c.loop-k.auto.work c.loop-k-test.true in
    kids_more _ _ _ _ _ _ _ _ _ _ _ _ _ _ _ c.requires.some c.count_of-choices.ensures c.loop-k.invariant c.loop-k.auto.work c.loop-k-test.true c.gather-grown.auto.work c.gather-grown.ensures
    c.reckon-rest.ensures p
    (take_put c.args.len _ c.gather-grown.new.work c.reckon-rest.new.work (omega (arith, c.requires.given.len_le, c.loop-k.auto.work, c.gather-grown.auto.work)))
    c.min-best.ensures

pub least_of-returns : goal.least_of-returns
least_of-returns t c = kids_all _ _ _ _ _ _ _ _ _ _ c.requires.some c.count_of-choices.ensures c.loop-k.invariant (omega (arith, c.loop-k.auto.k-end, c.loop-k-test.false))

pub reckon-bounds-self-work : goal.reckon-bounds-self-work
reckon-bounds-self-work t c = (round_inside _ _ _ _ _ _ _ _ _ c.requires c.loop-left.invariant c.loop-left-test.true).1

pub reckon-group-front-requires : goal.reckon-group-front-requires
reckon-group-front-requires t c = round_groupable _ _ _ _ _ _ _ _ _ _ c.requires c.loop-left.invariant

-- what is known once the row is put together by sight
pub reckon-offset_bounds-work-front : goal.reckon-offset_bounds-work-front
reckon-offset_bounds-work-front t c =
    let d = round_parted _ _ _ _ _ _ _ _ _ _ _ _ c.requires c.loop-left.invariant c.loop-left-test.true c.sight_of-sight.ensures c.group-front.auto.work c.group-front.ensures in
    let f = d.fewer in let i = d.within in omega arith

pub reckon-slice_bounds-least_of-count : goal.reckon-slice_bounds-least_of-count
reckon-slice_bounds-least_of-count t c =
    let d = round_parted _ _ _ _ _ _ _ _ _ _ _ _ c.requires c.loop-left.invariant c.loop-left-test.true c.sight_of-sight.ensures c.group-front.auto.work c.group-front.ensures in
    let f = d.fewer in let i = d.within in omega arith

pub reckon-slice_bounds-least_of-start : goal.reckon-slice_bounds-least_of-start
reckon-slice_bounds-least_of-start t c =
    let d = round_parted _ _ _ _ _ _ _ _ _ _ _ _ c.requires c.loop-left.invariant c.loop-left-test.true c.sight_of-sight.ensures c.group-front.auto.work c.group-front.ensures in
    let f = d.fewer in let i = d.within in omega arith

pub reckon-overflow_sub-left : goal.reckon-overflow_sub-left
reckon-overflow_sub-left t c =
    let d = round_parted _ _ _ _ _ _ _ _ _ _ _ _ c.requires c.loop-left.invariant c.loop-left-test.true c.sight_of-sight.ensures c.group-front.auto.work c.group-front.ensures in
    let f = d.fewer in omega arith

pub reckon-least_of-total-requires : goal.reckon-least_of-total-requires
reckon-least_of-total-requires t c =
    let d = round_parted _ _ _ _ _ _ _ _ _ _ _ _ c.requires c.loop-left.invariant c.loop-left-test.true c.sight_of-sight.ensures c.group-front.auto.work c.group-front.ensures in
    (part_no_longer _ _ _ _ (c.group-front.auto.work ∙ c.loop-left.auto.work) c.decreases, round_group _ _ _ _ _ _ _ _ _ _ _ d refl)

pub reckon-overflow_add-total : goal.reckon-overflow_add-total
reckon-overflow_add-total t c =
    let d = round_parted _ _ _ _ _ _ _ _ _ _ _ _ c.requires c.loop-left.invariant c.loop-left-test.true c.sight_of-sight.ensures c.group-front.auto.work c.group-front.ensures in
    let n = round_more _ _ _ _ _ _ _ _ _ _ _ _ _ _ c.loop-left.invariant c.loop-left-test.true c.sight_of-sight.ensures c.group-front.auto.work c.group-front.ensures c.least_of-total.ensures refl refl in
    let h = round_small _ _ _ _ _ _ _ _ _ c.requires n in omega arith

pub reckon-loop-left-smaller : goal.reckon-loop-left-smaller
reckon-loop-left-smaller t c =
    let d = round_parted _ _ _ _ _ _ _ _ _ _ _ _ c.requires c.loop-left.invariant c.loop-left-test.true c.sight_of-sight.ensures c.group-front.auto.work c.group-front.ensures in
    d.fewer

pub reckon-loop-left-preserved : goal.reckon-loop-left-preserved
reckon-loop-left-preserved t c =
    let d = round_parted _ _ _ _ _ _ _ _ _ _ _ _ c.requires c.loop-left.invariant c.loop-left-test.true c.sight_of-sight.ensures c.group-front.auto.work c.group-front.ensures in
    round_more _ _ _ _ _ _ _ _ _ _ _ _ _ _ c.loop-left.invariant c.loop-left-test.true c.sight_of-sight.ensures c.group-front.auto.work c.group-front.ensures c.least_of-total.ensures
    (take_put c.group-front.result _ c.group-front.new.work c.least_of-total.new.work (let f = d.fewer in let i = d.within in omega arith))
    (same_len_mid c.group-front.result _ c.group-front.new.work c.least_of-total.new.work c.least_of-total.auto.work)

pub reckon-returns : goal.reckon-returns
reckon-returns t c = round_all _ _ _ _ _ _ _ _ _ c.loop-left.invariant (omega (arith, c.loop-left-test.false))
