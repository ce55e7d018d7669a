use mathlib.Core.Path.{sym}
use native.Mathlib.Omega.{arith}
use Rattle.number.proofs.Turns.{number_past, first_last, first_more, turn_more, turn_zero, turn_last, turn_large, turn_scale, part_small, turn_end}
use Rattle.number.proofs.number_at.Goals as goal

pub returns-then-s-at : goal.returns-then-s-at
returns-then-s-at c = sym (number_past _ _ c.if-s-at.true)

pub returns-then-first-lt128 : goal.returns-then-first-lt128
returns-then-first-lt128 c = sym (first_last _ _ _ c.if-s-at.false c.from-first.ensures c.if-first-lt128.true)

pub loop-i-init : goal.loop-i-init
loop-i-init c = (
  omega arith,
  omega arith,
  omega arith,
  first_more _ _ _ c.if-s-at.false c.from-first.ensures c.if-first-lt128.false,
)

pub overflow_mul-value : goal.overflow_mul-value
overflow_mul-value c = omega (arith, part_small c.from-b.result c.loop-i.scale)

pub overflow_add-value : goal.overflow_add-value
overflow_add-value c = omega (arith, part_small c.from-b.result c.loop-i.scale)

pub returns-then-b-eq0 : goal.returns-then-b-eq0
returns-then-b-eq0 c = let l = c.loop-i in
    sym (turn_zero _ _ _ _ _ _ l.invariant.0 l.invariant.3 c.loop-i-test.true c.from-b.ensures c.if-b-eq0.true)

pub returns-then-value-gt4294967295 : goal.returns-then-value-gt4294967295
returns-then-value-gt4294967295 c = let l = c.loop-i in
    sym
    (turn_large _ _ _ _ _ _ l.invariant.0 l.invariant.3 c.loop-i-test.true c.from-b.ensures
    c.if-b-eq0.false
    c.if-value-gt4294967295.true)

pub returns-then-b-lt128 : goal.returns-then-b-lt128
returns-then-b-lt128 c = let l = c.loop-i in
    sym
    (turn_last _ _ _ _ _ _ l.invariant.0 l.invariant.3 c.loop-i-test.true c.from-b.ensures
    c.if-b-lt128.true
    c.if-b-eq0.false
    c.if-value-gt4294967295.false)

pub returns-then-scale-gt33554431 : goal.returns-then-scale-gt33554431
returns-then-scale-gt33554431 c = let l = c.loop-i in
    sym
    (turn_scale _ _ _ _ _ _ l.invariant.0 l.invariant.3 c.loop-i-test.true c.from-b.ensures
    c.if-b-lt128.false
    c.if-scale-gt33554431.true)

pub loop-i-preserved : goal.loop-i-preserved
loop-i-preserved c = let l = c.loop-i in (
  omega arith,
  omega arith,
  omega arith,
  turn_more _ _ _ _ _ _ l.invariant.0 l.invariant.3 c.loop-i-test.true c.from-b.ensures
      c.if-b-lt128.false,
)

pub returns : goal.returns
returns c = sym (turn_end _ _ _ _ _ c.loop-i.invariant.3 c.loop-i-test.false)
