use Rattle.std.proofs.Common.{length, refl, ap, ◌∙◌, rules}
use Rattle.tree.specs.declared.Sizes.{Sizes}
use Rattle.tree.proofs.Builds.{admitted_same, laid}
use Rattle.tree.proofs.build.Goals as goal

pub returns-clause-memory : goal.returns-clause-memory
returns-clause-memory c =
    let e = admitted_same c.in_ok-sizes.sizes c.measure.result (length c.args.nodes.now) (length c.args.house.now) (length c.args.guest.now) c.in_ok-sizes.ensures in
    laid c.args.sheet c.requires _ _ _ c.fill.new.nodes _ _ _ _ c.in_ok-sizes.sizes.places (ap (λ (y : Sizes). y.places) (e ∙ c.measure.ensures.value)) c.fill.ensures.nodes (search rules) refl c.fill.ensures.house c.fill.ensures.guest
