-- The numbers up to n that are left after i of them, as a loop's turns take them: laws.
use mathlib.Core.Path.{◌≡◌}
use mathlib.Core.List.{List, [], ◌∷◌, ◌++◌, map, flat_map}
use Prim.Native.Nat.{ℕ, suc, ◌+◌, ◌-◌, ◌≤◌, ◌<◌}
use native.Mathlib.Nat.{sub-zero}
use native.Mathlib.Omega.{arith}
use Rattle.scope.specs.Kinds.{from, up_to}

unfoldable pub after : (n i : ℕ) → List ℕ
after n i = from (i + 1) (n - i)

pub after_start : (n : ℕ) → after n 0 ≡ up_to n
unfolding after
after_start n = rw (sub-zero n)

pub after_turn : (n i : ℕ) → i < n → after n i ≡ (i + 1) ∷ after n (i + 1)
unfolding after from
after_turn n i h =
    let k : n - i ≡ suc (n - (i + 1)) = omega arith in
    let s : i + 1 + 1 ≡ suc (i + 1) = omega arith in
    rw (k, s)

pub after-end : (n i : ℕ) → n ≤ i → after n i ≡ []
unfolding after from
after-end n i h = let k : n - i ≡ 0 = omega arith in rw k

-- the lists or values that a function gives for each of them
module _ {A : Type 0} (n i : ℕ) where
  pub flat_turn : (f : ℕ → List A) → i < n → flat_map f (after n i) ≡ f (i + 1) ++ flat_map f (after n (i + 1))
  unfolding flat_map
  flat_turn f h = rw (after_turn n i h)

  pub flat_end : (f : ℕ → List A) → n ≤ i → flat_map f (after n i) ≡ []
  unfolding flat_map
  flat_end f h = rw (after-end n i h)

  pub map_turn : (f : ℕ → A) → i < n → map f (after n i) ≡ f (i + 1) ∷ map f (after n (i + 1))
  map_turn f h = rw (after_turn n i h)

  pub map_end : (f : ℕ → A) → n ≤ i → map f (after n i) ≡ []
  map_end f h = rw (after-end n i h)
