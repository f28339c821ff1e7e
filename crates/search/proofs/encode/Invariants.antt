use Rattle.std.proofs.Common.{◌≡◌, ◌++◌, vec_items}
use Rattle.std.specs.Iterator.Adapters.{zip_first, zip_second}
use Rattle.std.specs.Slice.Iter.{iter_rest}
use Rattle.search.specs.Encoded.{encoded}
use Rattle.search.proofs.encode.Given as goal

-- what is written, and what the rest will add to it
abbrev pub invariant-loop-sight : goal.invariant-loop-sight
invariant-loop-sight l =
    vec_items l.bytes ++ encoded l.raises (iter_rest (zip_first l.sight-iterator)) (iter_rest (zip_second l.sight-iterator)) ≡ encoded l.raises l.sights l.rows
