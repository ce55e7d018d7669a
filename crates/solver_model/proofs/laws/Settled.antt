-- Settling what is noted, byte by byte.
use Prim.Native.Nat.{ℕ, suc, ◌+◌, ◌-◌, ◌≤◌, ◌<◌}
use mathlib.Core.Path.{◌≡◌, sym, ◌∙◌}
use mathlib.Core.Bool.{true, ◌||◌}
use mathlib.Core.List.{List, ◌++◌, append_assoc, append-nil}
use native.Mathlib.Omega.{arith}
use native.Mathlib.Numerals.{add-one}
use lib.Dec.{eqb}
use lib.ListN.{length, get_or, set, take, drop, take-append-drop, drop_of_length-le}
use lib.Seq.{drop-cons, drop-set-lt, take-suc-set, take_all}
use borrow.Author.Tests.{ne_eqb}
use Rattle.solver_model.specs.Settled.{unsettled, settled_to, SettledAs}
use Rattle.std.specs.Prelude.{Ok, Err}

-- the turns of the walk, of which i bytes are settled
module _ (st₀ st : List ℕ) (i : ℕ) (so_far : unsettled 1 st₀ ≡ unsettled (i + 1) (drop i st)) (filled : settled_to st₀ ≡ take i st ++ settled_to (drop i st)) where
  module _ (h : i < length st) where
    pub settled_stop : (eqb (get_or st i 0) 0 || eqb (get_or st i 0) 3) ≡ true → SettledAs st₀ st (Err (i + 1))
    unfolding unsettled settled_to
    settled_stop b =
        record {
          found = sym (so_far ∙ rw (drop-cons st i 0 h, b));
          left = sym (filled ∙ rw (drop-cons st i 0 h, b, ← drop-cons st i 0 h) (take-append-drop i st));
        }

    module _ (m : get_or st i 0 ≡ 0 → ⊥) (t : get_or st i 0 ≡ 3 → ⊥) where
      -- the store after the byte is settled
      abbrev after : List ℕ
      after = set st i (get_or st i 0 - 1)

      pub settled_more : unsettled 1 st₀ ≡ unsettled (i + 1 + 1) (drop (i + 1) after)
      unfolding unsettled
      settled_more =
          so_far
          ∙ rw (drop-cons st i 0 h, ne_eqb (get_or st i 0) 0 m, ne_eqb (get_or st i 0) 3 t, add-one i, add-one (suc i), drop-set-lt (suc i) st i (get_or st i 0 - 1) (omega arith))

      pub settled_filled : settled_to st₀ ≡ take (i + 1) after ++ settled_to (drop (i + 1) after)
      unfolding settled_to
      settled_filled =
          filled
          ∙ rw (drop-cons st i 0 h, ne_eqb (get_or st i 0) 0 m, ne_eqb (get_or st i 0) 3 t, add-one i, drop-set-lt (suc i) st i (get_or st i 0 - 1) (omega arith), take-suc-set st i (get_or st i 0 - 1) h, append_assoc)

  pub settled_end : length st ≤ i → SettledAs st₀ st (Ok tt)
  unfolding unsettled settled_to
  settled_end h =
      record {
        found = sym (so_far ∙ rw (drop_of_length-le st h));
        left = sym (filled ∙ rw (drop_of_length-le st h, take_all i st h) (append-nil st));
      }
