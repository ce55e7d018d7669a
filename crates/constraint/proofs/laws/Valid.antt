-- A constraint that was decoded: its weight and fields are within their limits, and where it ends.
use Prim.Native.Nat.{ℕ, ◌≤◌, ◌<◌}
use mathlib.Core.Path.{◌≡◌, subst}
use mathlib.Core.List.{List}
use lib.ListN.{length}
use native.Mathlib.Omega.{arith}
use Rattle.scope.specs.Parsed.{got, and_then}
use Rattle.scope.specs.Number.{limited}
use Rattle.scope.specs.Kinds.{Constraint}
use Rattle.scope.specs.Instance.{Counts, fields_read, fields_of}
use Rattle.parsing.proofs.laws.Parsing.{and_then-got}
use Rattle.parsing.proofs.laws.Numbers.{limited-got}
use Rattle.parsing.proofs.laws.ValidRows.{kind-read}
use Rattle.constraint.specs.Decoded.{decoded_at}
use Rattle.parsing.specs.Valid.{InRange}

-- a constraint that was decoded
pub record DecodedAt (n : Counts) (s : List ℕ) (at : ℕ) (c : Constraint) (end : ℕ) : Type 0 where
  pub weight : c.weight ≤ 1000
  pub fields : InRange n c.kind
  pub ahead : at < end
  pub inside : end ≤ length s

pub decoded-got : (n : Counts) (s : List ℕ) (at : ℕ) {c : Constraint} {end : ℕ} → decoded_at n s at ≡ got c end → DecodedAt n s at c end
unfolding decoded_at
decoded-got n s at {c} {end} e =
    let a =
    and_then-got (limited 1 11 s at)
    (λ kind next.
    and_then (limited 0 1000 s next)
    (λ weight more. and_then (fields_read (fields_of n kind) s more) (λ k end. got (record { weight = weight; kind = k }) end)))
    e
    in
    let b =
    and_then-got (limited 0 1000 s a.next)
    (λ weight more. and_then (fields_read (fields_of n a.value) s more) (λ k end. got (record { weight = weight; kind = k }) end))
    a.rest
    in
    let f =
    and_then-got (fields_read (fields_of n a.value) s b.next) (λ k end. got (record { weight = b.value; kind = k }) end) b.rest
    in
    let same : ◌≡◌ {A = Constraint} (record { weight = b.value; kind = f.value }) c = cc f.rest in
    let last : f.next ≡ end = cc f.rest in
    let x = limited-got 1 11 s at a.first in
    let y = limited-got 0 1000 s a.next b.first in
    let z = kind-read n s b.next a.value f.value f.next x.low x.high f.first in
    record {
      weight = subst (λ (c : Constraint). c.weight ≤ 1000) same y.high;
      fields = subst (λ (c : Constraint). InRange n c.kind) same z.holds;
      ahead = omega (arith, x.ahead, y.ahead, z.ahead);
      inside = omega (arith, z.inside y.inside);
    }
