use Rattle.std.proofs.Common.{get_or, vec_items, arith, rules}
use Rattle.plans.specs.Numbers.{numbers}
use Rattle.plans.specs.Bytes.{row_of}
use Rattle.plans.proofs.Reading.{no_sight, left_all, left_room, left_more, left_odd, offers_most, offers_least, sum_right, sum_wrong}
use Rattle.plans.proofs.read_plan.Goals as goal

pub first_row-requires : goal.first_row-requires
first_row-requires c =
    let x = c.args.raises in
    let zs = c.args.sights.now in
    let i = c.loop-i.i in
    let e = c.offers-offers.ensures in
    let most = offers_most x (get_or zs i no_sight) in
    let least = offers_least x (get_or zs i no_sight) in
    (left_room x zs c.args.m c.args.bytes.now i _ _ c.loop-i.invariant no_sight c.loop-i-test.true _ e, (omega (arith, e, least), omega (arith, e, most)))

pub returns-in_default : goal.returns-in_default
returns-in_default c =
    left_odd c.args.raises c.args.sights.now c.args.m c.args.bytes.now c.loop-i.i _ _ c.loop-i.invariant no_sight c.loop-i-test.true _ c.offers-offers.ensures
    c.first_row.result c.first_row.ensures (sum_wrong c.first_row.result c.args.m c.in_default.ensures)

pub loop-i-preserved : goal.loop-i-preserved
loop-i-preserved c =
    let x = c.args.raises in
    let zs = c.args.sights.now in
    let m = c.args.m in
    let bytes = c.args.bytes.now in
    let i = c.loop-i.i in
    let s = row_of c.offers-offers.result (numbers c.loop-i.rest.now) in
    let q = sum_right c.in-Some.row c.first_row.result s m c.in-Some.ensures c.first_row.ensures in
    left_more x zs m bytes i c.loop-i.rest.now (vec_items c.loop-i.rows) c.loop-i.invariant no_sight c.loop-i-test.true c.offers-offers.result c.offers-offers.ensures
    c.in-Some.row q.0 q.1 (vec_items c.push.new.self) c.in_ok-push.ensures.items

pub returns : goal.returns
returns c = left_all c.args.raises c.args.sights.now c.args.m c.args.bytes.now c.loop-i.i _ _ c.loop-i.invariant c.loop-i-test.false

pub slice_bounds-rest-count : goal.slice_bounds-rest-count
slice_bounds-rest-count c =
    left_room c.args.raises c.args.sights.now c.args.m c.args.bytes.now c.loop-i.i _ _ c.loop-i.invariant no_sight c.loop-i-test.true _ c.offers-offers.ensures

pub slice_bounds-rest-start : goal.slice_bounds-rest-start
slice_bounds-rest-start c =
    let h = left_room c.args.raises c.args.sights.now c.args.m c.args.bytes.now c.loop-i.i _ _ c.loop-i.invariant no_sight c.loop-i-test.true _ c.offers-offers.ensures in
    search rules
