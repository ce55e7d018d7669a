-- The lists of the kinds that have no nodes, from the literals that stand in the words.
use Prim.Native.Nat.{ℕ, zero, suc, ◌+◌, ◌-◌, ◌<◌}
use mathlib.Core.Path.{◌≡◌, refl, ap, ◌∙◌}
use mathlib.Core.List.{List, map, flat_map}
use native.Mathlib.Omega.{arith}
use native.Mathlib.Nat.{add-zero}
use lib.ListN.{get_or}
use Rattle.scope.specs.Kinds.{clash, unavailable, split, spread, busy, Y, atom, entries, Listed, from, up_to, counted_of}
use Rattle.constraint.specs.declared.kinds.Head.{Head}
use Rattle.literals.specs.Words.{Holds}
use Rattle.literals.specs.Variables.{y_at, Within}
use Rattle.literals.proofs.laws.Variables.{s_at, x_at}
use Rattle.literals.specs.Tables.{group_in}
use Rattle.literals.specs.Numbered.{no_list}
use Rattle.list_nodes.specs.declared.filled.Filled.{Filled}
use Rattle.list_nodes.specs.Ground.{layout_of}
use Rattle.list_nodes.specs.Stored.{list_at, list_in, only_in, num_of, Plain}
use Rattle.list_nodes.proofs.laws.Stored.{adds-plain}
use Rattle.plain_lists.proofs.laws.Atoms.{events_add, starts_add, uses_add, spread_add}

-- what the function of a kind without nodes answers
abbrev pub plain_of : ℕ → Filled
plain_of n = record { nodes = 0; at = 0; end = n }

-- the list of time t, of one for each time
map-from : (f : ℕ → Listed) (n k j : ℕ) → j < k → get_or (map f (from n k)) j no_list ≡ f (n + j)
unfolding from
map-from f n zero j h = let z : ⊥ = omega arith in absurd z
map-from f n (suc k) zero h = rw (add-zero n)
map-from f n (suc k) (suc j) h = let e : suc n + j ≡ n + suc j = omega arith in map-from f (suc n) k j (omega arith) ∙ rw e

pub list-of-time : (f : ℕ → Listed) (T t : ℕ) → Within T t → list_at (map f (up_to T)) t ≡ f t
list-of-time f T t w =
    let e : 1 + (t - 1) ≡ t = omega (arith, w.low) in
    map-from f 1 T (t - 1) (omega (arith, w.low, w.high)) ∙ ap f e

-- kind 6 has the list of kind 2
pub busy-same : (h : Head) (groups : List ℕ) (r g lo hi : ℕ) → only_in groups h (busy r g lo hi) ≡ only_in groups h (unavailable r g)
unfolding counted_of
busy-same h groups r g lo hi = refl

module _ (h : Head) {words : List ℕ} {n : ℕ} where
  pub clash_plain : (durations : List ℕ) (us : ℕ → List ℕ) (groups : List ℕ) (r t : ℕ) → Within h.times t
      → Holds words n (map (λ e. y_at h.times e t) (us r))
      → Plain (num_of h) (list_in durations us groups h (clash r) t) words (plain_of n)
  unfolding counted_of
  clash_plain durations us groups r t w p =
      rw (list-of-time (λ t. entries (map (λ e. atom (Y e t)) (us r))) h.times t w)
      (adds-plain (λ v. events_add h.times (layout_of h) t (us r) v 0) p)

  module _ (groups : List ℕ) where
    pub unavailable_plain : (r g : ℕ) → Holds words n (map (x_at h.times (layout_of h) r) (group_in h.groups groups g))
        → Plain (num_of h) (only_in groups h (unavailable r g)) words (plain_of n)
    unfolding counted_of
    unavailable_plain r g p = adds-plain (λ v. uses_add h.times (layout_of h) r (group_in h.groups groups g) v 0) p

    pub split_plain : (e lo hi : ℕ) → Holds words n (map (s_at h.times (layout_of h) e) (up_to h.times))
        → Plain (num_of h) (only_in groups h (split e lo hi)) words (plain_of n)
    unfolding counted_of
    split_plain e lo hi p = adds-plain (λ v. starts_add h.times (layout_of h) e (up_to h.times) v 0) p

    pub spread_plain : (vs : List ℕ) (g lo hi : ℕ)
        → Holds words n (flat_map (λ e. map (s_at h.times (layout_of h) e) (group_in h.groups groups g)) vs)
        → Plain (num_of h) (only_in groups h (spread vs g lo hi)) words (plain_of n)
    unfolding counted_of
    spread_plain vs g lo hi p = adds-plain (λ v. spread_add h.times (layout_of h) (group_in h.groups groups g) vs v 0) p

    pub busy_plain : (r g lo hi : ℕ) → Holds words n (map (x_at h.times (layout_of h) r) (group_in h.groups groups g))
        → Plain (num_of h) (only_in groups h (busy r g lo hi)) words (plain_of n)
    busy_plain r g lo hi p = rw (busy-same h groups r g lo hi) (unavailable_plain r g p)
