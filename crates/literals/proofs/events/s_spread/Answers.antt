use Prim.Native.Nat.{◌+◌, ◌-◌}
use mathlib.Core.Path.{refl, ◌∙◌}
use native.Mathlib.Omega.{arith}
use Rattle.parsing.proofs.laws.Each.{each_at}
use native.Mathlib.Nat.{mul-le-mul_right}
use lib.ListN.{length, length-map}
use Rattle.tables.specs.Rows.{row_at}
use Rattle.literals.proofs.Turns.{flattened-none, flattened_more, flattened_size, flattened_all}
use Rattle.literals.proofs.events.s_spread.Goals as goal

pub loop-k-init : goal.loop-k-init
loop-k-init c = (omega arith, refl, flattened-none _ _ _)

pub base-b-requires : goal.base-b-requires
base-b-requires c = (omega arith, (omega arith, rw c.from.ensures (each_at c.loop-k.k 0 c.requires.0 c.loop-k-test.true)))

pub group_times-at-requires : goal.group_times-at-requires
group_times-at-requires c = let l = c.loop-k in (c.requires.1.0, (c.base-b.ensures.small, omega (arith, l.invariant.0, l.invariant.1, mul-le-mul_right {m = l.k + 1} {n = length c.args.events.now} (length (row_at c.args.groups.now (c.args.g - 1))) (omega arith))))

pub loop-k-preserved : goal.loop-k-preserved
loop-k-preserved c = let l = c.loop-k in
    let b = c.base-b.ensures.value in
    let q = c.group_times-at.ensures in (
      omega (arith, l.invariant.0, simp length-map at (flattened_size l.invariant.2 _ q)),
      c.out-1.given ∙ l.invariant.1,
      flattened_more l.invariant.2 _ q (rw (b, c.from.ensures)) (omega arith),
    )

pub returns : goal.returns
returns c = let l = c.loop-k in flattened_all l.invariant.2 (omega arith)
