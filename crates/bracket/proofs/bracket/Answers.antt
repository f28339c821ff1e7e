use Rattle.std.proofs.Common.{arith}
use Rattle.bracket.proofs.Products.{sum_fits}
use Rattle.bracket.proofs.bracket.Goals as goal

pub plus-both-requires : goal.plus-both-requires
plus-both-requires c = sum_fits _ _ _ _ _ _ c.product.ensures c.product-2.ensures (omega arith) (omega arith) (omega arith) (omega arith)
