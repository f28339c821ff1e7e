use Rattle.std.proofs.Common.{◌/◌, ◌≤◌, mul-le-mul, arith}
use Rattle.bracket.proofs.Products.{half, product_is}
use Rattle.bracket.proofs.Wide.product.Goals as goal

pub overflow_add-result : goal.overflow_add-result
overflow_add-result c =
    let p : c.args.a / half ≤ 4294967295 = omega arith in
    let q : c.args.b / half ≤ 4294967295 = omega arith in
    omega (arith, mul-le-mul p q)

pub returns : goal.returns
returns c =
    product_is c.args.a c.args.b c.product_and-first.result c.product_and-second.result c.product_and-third.result
    c.product_and-first.ensures c.product_and-second.ensures c.product_and-third.ensures
