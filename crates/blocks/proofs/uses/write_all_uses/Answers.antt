use mathlib.Core.Path.{refl}
use Prim.Native.Nat.{◌+◌}
use native.Mathlib.Nat.{mul-le-mul_right}
use native.Mathlib.Omega.{arith}
use Rattle.user_table.specs.Filled.{users_at}
use Rattle.user_table.proofs.laws.Filled.{users-few}
use Rattle.items.specs.Written.{left_start, left_turn, left_end}
use Rattle.blocks.proofs.ResourceUse.{resource_wrote, all_start, all_turn, all_end}
use borrow.Author.Rules.{rules}
use Rattle.blocks.proofs.uses.write_all_uses.Goals as goal

pub loop-r-init : goal.loop-r-init
loop-r-init c = (refl, refl, omega arith, left_start refl)

pub write_resource_uses-z-requires : goal.write_resource_uses-z-requires
write_resource_uses-z-requires c = let l = c.loop-r in
    let room = mul-le-mul_right {m = l.r + 1} {n = c.args.count} c.args.times (omega arith) in
    rw c.users_of-events.ensures
    (c.requires.0.within (l.r + 1), (users-few c.requires.0 (l.r + 1), (c.requires.1.1.0, (omega arith, omega (arith, room, l.invariant.2, c.requires.1.1)))))

pub overflow_add-next : goal.overflow_add-next
overflow_add-next c = let l = c.loop-r in
    omega (arith, mul-le-mul_right {m = l.r + 1} {n = c.args.count} c.args.times (omega arith), l.invariant.2, c.requires.1.1)

pub loop-r-preserved : goal.loop-r-preserved
loop-r-preserved c = let a = c.args in
    let l = c.loop-r in
    let f = users_at a.users.now in (
      search rules,
      search rules,
      omega (arith, l.invariant.2),
      left_turn (all_turn a.times f a.count l.r c.loop-r-test.true) l.invariant.3
          (resource_wrote a.times (f (l.r + 1)) l.next (rw c.users_of-events.ensures at c.write_resource_uses-z.ensures)),
    )

pub returns : goal.returns
returns c = let a = c.args in
    let l = c.loop-r in
    let f = users_at a.users.now in
    rw (← (all_start a.times f a.count)) (left_end (all_end a.times f a.count l.r c.loop-r-test.false) l.invariant.3).ran
