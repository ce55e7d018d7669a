-- Bytes as bits, at some places after an offset: laws.
use Prim.Native.Nat.{ℕ, suc, ◌+◌, ◌-◌, ◌<◌, ◌≤◌}
use mathlib.Core.Path.{◌≡◌}
use mathlib.Core.Bool.{cond}
use mathlib.Core.List.{List, [], ◌∷◌}
use lib.ListN.{get_or}
use lib.Dec.{eqb}
use native.Mathlib.Omega.{arith}
use native.Mathlib.Nat.{add-zero, zero-add, add_assoc, sub-zero}
use Rattle.scope.specs.Cnf.{bit}
use Rattle.scope.specs.Kinds.{from, up_to}
use Rattle.scope.specs.Score.{trues}
use Rattle.resource_uses.specs.Bits.{marks}

-- the bit at a place is the byte before it
pub bit-next : (b : List ℕ) (at i : ℕ) → bit b (at + (i + 1)) ≡ eqb (get_or b (at + i) 0) 1
unfolding bit
bit-next b at i = let e : at + (i + 1) ≡ suc (at + i) = omega arith in rw e

-- the places that are left of n once i were passed
pub from_more : (i n : ℕ) → i < n → from (i + 1) (n - i) ≡ (i + 1) ∷ from (i + 1 + 1) (n - (i + 1))
unfolding from
from_more i n h =
    let e : n - i ≡ suc (n - (i + 1)) = omega arith in
    let f : suc (i + 1) ≡ i + 1 + 1 = omega arith in
    rw (e, f)

pub from-done : (i n : ℕ) → n ≤ i → from (i + 1) (n - i) ≡ []
unfolding from
from-done i n h = let e : n - i ≡ 0 = omega arith in rw e

-- the turns of a count of n places, of which i were passed: the start, a place further on, and the end
module _ (b : List ℕ) (at n : ℕ) where
  pub count_start : 0 + trues (marks b at (from 1 (n - 0))) ≡ trues (marks b at (up_to n))
  count_start = rw (sub-zero, zero-add)

  module _ (i count whole : ℕ) (so_far : count + trues (marks b at (from (i + 1) (n - i))) ≡ whole) where
    pub count_more : (x : ℕ) → i < n → x ≡ cond (eqb (get_or b (at + i) 0) 1) 1 0
        → count + x + trues (marks b at (from (i + 1 + 1) (n - (i + 1)))) ≡ whole
    unfolding trues
    count_more x h e = rw (e, add_assoc) (rw (from_more i n h, bit-next b at i) at so_far)

    pub count_end : n ≤ i → count ≡ whole
    unfolding trues
    count_end h = rw (from-done i n h, add-zero) at so_far

pub ruleset counting = (count_start, count_more, count_end)
