-- The first byte of a step: below 128 it is a number by itself, else it begins a number of 128 or more.
use mathlib.Core.Path.{◌≡◌, refl}
use mathlib.Core.Bool.{Bool, true, false, cond}
use mathlib.Core.List.{List}
use Prim.Native.Nat.{ℕ, suc, ◌+◌, ◌*◌, ◌%◌, ◌≤◌, ◌<◌}
use native.Mathlib.Omega.{arith}
use lib.Dec.{ltb, leb, eqb}
use lib.ListN.{length, get_or, drop, drop_of_length-le, get_or-eq_default}
use lib.Seq.{drop-cons}
use borrow.Author.Tests.{le-leb, lt-ltb, eqb-false, ltb-true, ltb-false}
use Rattle.scope.specs.Parsed.{Parsed, got, refused}
use Rattle.scope.specs.Number.{Front, broken, whole, group, front, most, within, number_from, number}

-- there is a byte where it is not 0
pub byte_inside : (s : List ℕ) (at b : ℕ) → get_or s at 0 ≡ b → 0 < b → at < length s
byte_inside s at b e h = go (ltb at (length s)) refl
  where
    go : (t : Bool) → ltb at (length s) ≡ t → at < length s
    go true t = ltb-true at (length s) t
    go false t = absurd (omega (arith, get_or-eq_default s 0 (ltb-false at (length s) t)))

pub byte-number : (s : List ℕ) (at b : ℕ) → at < length s → get_or s at 0 ≡ b → b < 128 → number s at ≡ got b (at + 1)
unfolding number front within
byte-number s at b h e l = rw (drop-cons s at 0 h, e, lt-ltb b 128 l, le-leb b most (omega arith))

-- a number that is no step's byte, or none
pub data Other : Parsed ℕ → Type 0 where
  no_number : (k v : ℕ) → Other (refused k v)
  another : (n next : ℕ) → (n ≡ 97 → ⊥) → (n ≡ 100 → ⊥) → Other (got n next)

many-bytes : (at b : ℕ) (x : Front) → Other (number_from at (within (group b x)))
unfolding group within
many-bytes at b broken = no_number 1 at
many-bytes at b (whole v n) = go (eqb v 0) refl
  where
    by : (w : ℕ) → 128 ≤ w → (u : Bool) → Other (number_from at (cond u (whole w (suc n)) broken))
    by w h true = another w (at + suc n) (λ z. omega arith) (λ z. omega arith)
    by w h false = no_number 1 at

    go : (t : Bool) → eqb v 0 ≡ t → Other (number_from at (within (cond t broken (whole (b % 128 + 128 * v) (suc n)))))
    go true t = no_number 1 at
    go false t = let z = eqb-false v 0 t in by (b % 128 + 128 * v) (omega arith) (leb (b % 128 + 128 * v) most)

pub other_byte : (s : List ℕ) (at : ℕ) → (get_or s at 0 ≡ 97 → ⊥) → (get_or s at 0 ≡ 100 → ⊥) → Other (number s at)
unfolding number front within
other_byte s at f g = by (ltb at (length s)) refl
  where
    small : at < length s → (t : Bool) → ltb (get_or s at 0) 128 ≡ t
        → Other (number_from at (within (cond t (whole (get_or s at 0) 1) (group (get_or s at 0) (front (drop (suc at) s))))))
    small h true t =
        let l = ltb-true (get_or s at 0) 128 t in
        rw (le-leb (get_or s at 0) most (omega arith)) (another (get_or s at 0) (at + 1) f g)
    small h false t = many-bytes at (get_or s at 0) (front (drop (suc at) s))

    by : (t : Bool) → ltb at (length s) ≡ t → Other (number_from at (within (front (drop at s))))
    by true t = let h = ltb-true at (length s) t in rw (drop-cons s at 0 h) (small h (ltb (get_or s at 0) 128) refl)
    by false t = rw (drop_of_length-le s {i = at} (ltb-false at (length s) t)) (no_number 1 at)
