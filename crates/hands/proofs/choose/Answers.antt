use Rattle.std.proofs.Common.{◌≡◌, ◌<◌, length, get_or, Some, None, rules}
use Rattle.hands.proofs.Kids.{kids_lie, nth_chosen, kids_chooses}
use Rattle.hands.proofs.choose.Goals as goal

pub nth-requires : goal.nth-requires
nth-requires c = kids_lie _ _ c.of.result c.requires c.of.ensures.nodes c.of.ensures.first c.of.ensures.end

pub returns : goal.returns
returns c = λ k m n plan counts ts lie ends fits.
    let cs = c.args.choices.now in
    let j = c.in-Some.choice.now in
    let lt : c.args.made < length cs = search rules in
    let e : j ≡ get_or cs c.args.made 0 = search rules in
    let r = Some c.in-Some-nth.kid in
    kids_chooses k m n plan counts c.args.nodes.now ts cs c.args.made j r lt e
    (nth_chosen k m n plan counts _ _ ts c.of.result c.nth.new.self j r c.of.ensures.nodes c.of.ensures.first c.of.ensures.end c.in-Some-nth.ensures.ran lie ends fits)

pub returns-in_default-nth : goal.returns-in_default-nth
returns-in_default-nth c = λ k m n plan counts ts lie ends fits.
    let cs = c.args.choices.now in
    let j = c.in-Some.choice.now in
    let lt : c.args.made < length cs = search rules in
    let e : j ≡ get_or cs c.args.made 0 = search rules in
    kids_chooses k m n plan counts c.args.nodes.now ts cs c.args.made j None lt e
    (nth_chosen k m n plan counts _ _ ts c.of.result c.nth.new.self j None c.of.ensures.nodes c.of.ensures.first c.of.ensures.end c.in_default-nth.ensures.ran lie ends fits)
