-- `counts::count_size` meets its contract.
-- Assumes nothing.
use mathlib.Core.Path.{refl}
use Prim.Native.Nat.{◌≤◌}
use native.Mathlib.Omega.{arith}
use Rattle.sizing.proofs.laws.Sums.{within_more}
use Rattle.sizing.proofs.laws.Limits.{columns-within}
use Rattle.sizing.proofs.Results.{bounds-fit, count_fits, counted}
use Rattle.sizing.proofs.counts.count_size.Goals as goal

pub rows_size-counter-requires : goal.rows_size-counter-requires
rows_size-counter-requires c = omega (arith, columns-within c.args.weight c.args.hi c.args.n)

pub plus-bounds-requires : goal.plus-bounds-requires
plus-bounds-requires c = within_more (omega arith) (bounds-fit _ _ _ _ (omega arith) (omega arith) (omega arith) c.low_size-low.ensures c.units_size-high.ensures)

pub plus-requires : goal.plus-requires
plus-requires c = let k : c.columns_of-columns.result ≤ 255 = omega (arith, columns-within c.args.weight c.args.hi c.args.n) in
    let bounds = bounds-fit _ _ _ _ (omega arith) (omega arith) (omega arith) c.low_size-low.ensures c.units_size-high.ensures in
    count_fits _ _ k (omega arith) c.rows_size-counter.ensures (rw c.plus-bounds.ensures bounds)

pub returns : goal.returns
returns c = counted _ _ _ _ _ _ _ c.columns_of-columns.ensures refl c.rows_size-counter.ensures c.low_size-low.ensures
    c.units_size-high.ensures c.plus-bounds.ensures c.plus.ensures
