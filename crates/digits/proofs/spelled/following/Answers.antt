use native.Mathlib.Omega.{arith}
use Rattle.digits.proofs.Following.{last_digit, next_four, next_long, first_byte}
use Rattle.digits.proofs.spelled.following.Goals as goal

pub overflow_add-result : goal.overflow_add-result
overflow_add-result c = let p = c.requires in
    let s = c.args.n.spelt in
    let d = last_digit s (omega arith) in
    omega (arith, first_byte s (omega arith) p (omega (arith, d)) (omega arith))

pub invariant_of-result : goal.invariant_of-result
invariant_of-result c = let p = c.requires in
    let s = c.args.n.spelt in
    let d = last_digit s (omega arith) in
    record { spelt = next_four s (omega arith) p (omega (arith, d)) (omega arith) }

pub invariant_of-result-2 : goal.invariant_of-result-2
invariant_of-result-2 c = let p = c.requires in
    let s = c.args.n.spelt in
    let d = last_digit s (omega arith) in
    record { spelt = next_long s (omega arith) p (omega (arith, d)) (omega arith) }
