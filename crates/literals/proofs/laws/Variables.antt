-- The literals of Y, S and X by numbers. Each of the three is a block of variables, one row of T for each event or resource: laws.
use Prim.Native.Nat.{ℕ, ◌-◌, ◌*◌, ◌≤◌}
use native.Mathlib.Nat.{mul-le-mul}
use native.Mathlib.Omega.{arith}
use Rattle.scope.specs.declared.Layout.{Layout}
use Rattle.scope.specs.Score.{layout_at}
use Rattle.literals.specs.Variables.{in_block, Block}

abbrev pub s_at : (T : ℕ) (L : Layout) (e t : ℕ) → ℕ
s_at T L e t = in_block T L.starts e t

abbrev pub x_at : (T : ℕ) (L : Layout) (r t : ℕ) → ℕ
x_at T L r t = in_block T L.uses r t

-- what the numbering of an instance of T times keeps to
pub record Sizes (T : ℕ) (L : Layout) : Type 0 where
  pub times : T ≤ 125
  pub starts : L.starts ≤ 128000
  pub primary : L.primary ≤ 256000
  pub uses : L.uses ≤ 256000
  pub others : L.others ≤ 287875

pub starts-block : {T : ℕ} {L : Layout} → Sizes T L → Block T L.starts
starts-block s = record { times = s.times; small = omega (arith, s.starts) }

pub uses-block : {T : ℕ} {L : Layout} → Sizes T L → Block T L.uses
uses-block s = record { times = s.times; small = s.uses }

-- the numbering of T times, E events and R resources does
pub layout-sizes : (T E R : ℕ) → T ≤ 125 → E ≤ 1024 → R ≤ 255 → Sizes T (layout_at T E R)
layout-sizes T E R t e r =
    let a = mul-le-mul {n₁ = E} {m₁ = T} {n₂ = 1024} {m₂ = 125} e t in
    let b = mul-le-mul {n₁ = R} {m₁ = T} {n₂ = 255} {m₂ = 125} r t in
    record { times = t; starts = omega arith; primary = omega arith; uses = omega arith; others = omega arith }

-- a row's place in its block is small
pub row_small : (T k : ℕ) → T ≤ 125 → k ≤ 1024 → (k - 1) * T ≤ 127875
row_small T k h l = omega (arith, mul-le-mul {n₁ = k - 1} {m₁ = T} {n₂ = 1023} {m₂ = 125} (omega arith) h)
