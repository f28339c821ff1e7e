-- There is one worst: each of two floors that are reached is below what the other's way comes to.
use Rattle.std.proofs.Common.{arith}
use Rattle.cards.specs.Promise.{FloorHolds, OneWorst, LegalWayExists}
use Rattle.cards.proofs.FloorHolds.{floor_holds}

pub one_worst : OneWorst
unfolding OneWorst FloorHolds
one_worst m n u v plan choices t a b =
    omega (
      arith,
      a.reached,
      b.reached,
      floor_holds m n u plan choices t a.floor b.way b.legal,
      floor_holds m n v plan choices t b.floor a.way a.legal,
    )

-- the way that always takes the first choice
pub legal_way_exists : LegalWayExists
unfolding LegalWayExists
legal_way_exists choices pos = (λ i. 0, pos)
