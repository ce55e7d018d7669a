use mathlib.Core.Path.{refl}
use Prim.Native.Nat.{◌+◌}
use native.Mathlib.Omega.{arith}
use native.Mathlib.Nat.{mul-le-mul}
use Rattle.literals.specs.Numbered.{start_clauses}
use Rattle.items.specs.Written.{left_start, left_turn, left_end}
use Rattle.items.proofs.laws.Numbers.{after_start, flat_turn, flat_end}
use Rattle.blocks.proofs.EventStart.{start_wrote}
use borrow.Author.Rules.{rules}
use Rattle.blocks.proofs.starts.write_event_starts.Goals as goal

pub overflow_mul-y : goal.overflow_mul-y
overflow_mul-y c = omega (arith, mul-le-mul {n₁ = c.args.e} {m₁ = c.args.times} {n₂ = 1023} {m₂ = 125} (omega arith) c.requires.0.times)

pub overflow_add-v : goal.overflow_add-v
overflow_add-v c = omega (arith, mul-le-mul {n₁ = c.args.e} {m₁ = c.args.times} {n₂ = 1023} {m₂ = 125} (omega arith) c.requires.0.times)

pub loop-t-init : goal.loop-t-init
loop-t-init c = (refl, refl, left_start refl)

pub overflow_add-y : goal.overflow_add-y
overflow_add-y c = omega (arith, mul-le-mul {n₁ = c.args.e} {m₁ = c.args.times} {n₂ = 1023} {m₂ = 125} (omega arith) c.requires.0.times)

pub overflow_add-v-in-loop-t : goal.overflow_add-v-in-loop-t
overflow_add-v-in-loop-t c = omega (arith, mul-le-mul {n₁ = c.args.e} {m₁ = c.args.times} {n₂ = 1023} {m₂ = 125} (omega arith) c.requires.0.times)

pub write_start-z-requires : goal.write_start-z-requires
write_start-z-requires c = let m = mul-le-mul {n₁ = c.args.e} {m₁ = c.args.times} {n₂ = 1023} {m₂ = 125} (omega arith) c.requires.0.times in
    (omega arith, omega arith, omega arith)

pub loop-t-preserved : goal.loop-t-preserved
loop-t-preserved c = let a = c.args in
    let l = c.loop-t in (
      search rules,
      search rules,
      left_turn (flat_turn a.times l.t (start_clauses a.times a.starts (a.e + 1)) c.loop-t-test.true) l.invariant.2
          (start_wrote a.times a.starts a.e l.t 0 c.write_start-z.ensures),
    )

pub returns : goal.returns
returns c = let a = c.args in
    let l = c.loop-t in
    rw (← (after_start a.times))
    (left_end (flat_end a.times l.t (start_clauses a.times a.starts (a.e + 1)) c.loop-t-test.false) l.invariant.2).ran
