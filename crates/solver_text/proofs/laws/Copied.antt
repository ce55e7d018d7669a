-- Bytes copied one by one: the first i of both are the same.
use Prim.Native.Nat.{ℕ, ◌+◌, ◌≤◌, ◌<◌}
use mathlib.Core.Path.{◌≡◌, sym, ap, ◌∙◌}
use mathlib.Core.List.{List}
use native.Mathlib.Omega.{arith}
use native.Mathlib.Numerals.{add-one}
use lib.ListN.{length, get_or, set, take}
use lib.Seq.{take-suc, take-suc-set, take_all}

module _ (from to : List ℕ) (i : ℕ) (so_far : take i to ≡ take i from) where
  pub copied_more : i < length to → i < length from → take (i + 1) (set to i (get_or from i 0)) ≡ take (i + 1) from
  copied_more h l = rw (add-one i, take-suc-set to i (get_or from i 0) h, take-suc from i 0 l, so_far)

  pub copied_end : length to ≤ i → (n : ℕ) → n ≡ length to → i ≤ n → to ≡ take n from
  copied_end h n e l =
      let z : i ≡ n = omega arith in
      sym (take_all i to h) ∙ so_far ∙ ap (λ (k : ℕ). take k from) z
