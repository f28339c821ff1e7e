-- What the memory that is admitted, and sums that are taken, say. Assumes nothing.
use Rattle.std.proofs.Common.{◌≡◌, ℕ, ◌*◌, ◌^◌, ◌<◌, ◌≤◌, Ok, arith}
use Rattle.std.proofs.lemmas.Grind.{common_steps}
use Rattle.tree.specs.declared.Sizes.{Sizes}
use Rattle.tree.specs.Built as tree
use Rattle.tree.specs.Built.{sizes_of}
use Rattle.plans.specs.Bases.{size_of}
use Rattle.worst.specs.Admit.{admitted}

-- what is admitted is handed on as it is, and fits
pub record Fits (z : Sizes) (n h g w : ℕ) : Type 0 where
  pub places : z.places ≤ n
  pub house : z.house.sights ≤ h
  pub guest : z.guest.sights ≤ g
  pub work : z.places ≤ w
  pub few : z.places ≤ 65536

pub admitted_fits : (y z : Sizes) (n h g w : ℕ) → Ok y ≡ admitted z n h g w → Fits z n h g w
admitted_fits y z n h g w e =
    record { places = grind (arith, common_steps); house = grind (arith, common_steps); guest = grind (arith, common_steps); work = grind (arith, common_steps); few = grind (arith, common_steps) }

-- then the tree's own memory is admitted too
pub tree_admitted : (z : Sizes) (n h g w : ℕ) → Fits z n h g w → tree.admitted z n h g ≡ Ok z
tree_admitted z n h g w f = grind (arith, common_steps)

pub size_small : (t m n k : ℕ) → Ok k ≡ size_of t m n → t * m ^ n < 2 ^ 62
size_small t m n k e = grind (arith, common_steps)
