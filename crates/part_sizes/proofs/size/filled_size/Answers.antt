-- `size::filled_size` meets its contract.
use native.Mathlib.Omega.{arith}
use Rattle.sizing.proofs.laws.Sums.{within_more}
use Rattle.sizing.proofs.laws.Limits.{listed_within}
use Rattle.part_sizes.specs.Listed.{filled_size}
use Rattle.part_sizes.proofs.size.filled_size.Goals as goal

pub plus-requires : goal.plus-requires
plus-requires c = let a = c.args in
    let m = c.requires in
    rw (c.nodes_size-nodes.ensures, c.list_size-counted.ensures, c.from.ensures, c.from-2.ensures, c.from-3.ensures)
    (within_more {a = filled_size a.weight a.b a.f} (omega arith)
    (listed_within _ _ _ _ _ _ _ m.short m.reached m.weight (omega (arith, m.nodes, m.ahead, m.room)) (omega (arith, m.ahead, m.room))))

pub returns : goal.returns
returns c = rw (c.plus.ensures, c.list_size-counted.ensures, c.nodes_size-nodes.ensures, c.from.ensures, c.from-2.ensures, c.from-3.ensures)
