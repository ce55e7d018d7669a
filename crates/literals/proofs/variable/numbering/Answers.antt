-- `literals::variable::numbering` meets its contract.
use native.Mathlib.Nat.{mul-le-mul}
use native.Mathlib.Omega.{arith}
use Rattle.literals.proofs.variable.numbering.Goals as goal

pub overflow_mul-cells : goal.overflow_mul-cells
overflow_mul-cells c = omega (arith, mul-le-mul {n₂ = 1024} {m₂ = 125} c.requires.1.0 c.requires.0)

pub overflow_mul-both : goal.overflow_mul-both
overflow_mul-both c = omega (arith, mul-le-mul {n₂ = 1024} {m₂ = 125} c.requires.1.0 c.requires.0)

pub overflow_mul-others : goal.overflow_mul-others
overflow_mul-others c = omega (arith, mul-le-mul {n₂ = 255} {m₂ = 125} c.requires.1.1 c.requires.0)

pub overflow_add-others : goal.overflow_add-others
overflow_add-others c = omega
    (arith, mul-le-mul {n₂ = 1024} {m₂ = 125} c.requires.1.0 c.requires.0, mul-le-mul {n₂ = 255} {m₂ = 125} c.requires.1.1 c.requires.0)
