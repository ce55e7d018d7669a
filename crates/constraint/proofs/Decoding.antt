-- What is decoded once kind, weight and fields are read.
use Prim.Native.Nat.{ℕ}
use mathlib.Core.Path.{◌≡◌, sym}
use Rattle.std.proofs.Common.{Result}
use mathlib.Core.List.{List}
use Rattle.scope.specs.Parsed.{got, and_then}
use Rattle.scope.specs.Number.{limited}
use Rattle.scope.specs.Instance.{Counts, fields_read}
use Rattle.parsing.proofs.laws.Numbers.{limited-got}
use Rattle.scope.specs.declared.refusal.Refusal.{Refusal}
use Rattle.fields.specs.declared.flat.Flat.{Flat}
use Rattle.fields.specs.Answers.{said_flat}
use Rattle.fields.specs.Flat.{row_of}
use Rattle.fields.proofs.laws.Table.{totals_of}
use Rattle.fields.proofs.Rows.{row-right}
use Rattle.constraint.specs.Decoded.{decoded_at}

pub decoded-fields : (n : Counts) (s : List ℕ) (at : ℕ) (kind more weight start : ℕ) (l : List ℕ) (z : Result (Flat × ℕ) Refusal)
    → got kind more ≡ limited 1 11 s at
    → got weight start ≡ limited 0 1000 s more
    → said_flat kind l z ≡ fields_read (row_of (totals_of n) kind) s start
    → and_then (said_flat kind l z) (λ k end. got (record { weight = weight; kind = k }) end) ≡ decoded_at n s at
unfolding decoded_at
decoded-fields n s at kind more weight start l z e d c =
    let r = limited-got 1 11 s at (sym e) in
    rw (← e, ← d, row-right n kind r.low r.high, ← c)
