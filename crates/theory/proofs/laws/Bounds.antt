-- A counted list with its bounds, hard or soft: its clauses and soft units are worth what the rule charges for the count.
use mathlib.Core.Path.{◌≡◌, refl, sym, ap, ◌∙◌}
use mathlib.Core.Bool.{Bool, true, false, not, ◌&&◌, cond, not-not, and-true}
use mathlib.Core.List.{List, [], ◌∷◌, ◌++◌, map}
use Prim.Native.Nat.{ℕ, zero, suc, ◌+◌, ◌-◌, ◌*◌, ◌<◌, ◌≤◌, min, max}
use native.Mathlib.Omega.{arith}
use lib.Dec.{eqb, leb, ltb}
use lib.ListN.{length, length-map}
use borrow.Author.Tests.{leb-true, leb-false, ltb-true, ltb-false, eqb-true, eqb-false, not-true, not-false}
use Rattle.scope.specs.Kinds.{Rule, from}
use Rattle.scope.specs.Cnf.{Assignment, neg, opp, lit, and, Item, hard}
use Rattle.theory.proofs.laws.Outputs.{cube, value}
use Rattle.scope.specs.Score.{trues, deviation, charged}
use Rattle.scope.specs.Formula.{no_row, counter, last_row, ones, columns, unit, low_units, high_units, short_units, bound_items, count_items, count_into}
use Rattle.theory.proofs.laws.Gates.{lit_neg, lit_opp}
use Rattle.theory.proofs.laws.Circuit.{Holds, Holds-append, Holds-gates}
use Rattle.theory.proofs.laws.Counter.{total, Counts, counter_counts, length-counter}
use Rattle.theory.proofs.laws.Costs.{Costs, Scores-gates, Costs-none, Costs-append, Costs-hard, Costs-unit, Costs-units}
use Rattle.theory.proofs.laws.Ranges.{from_all, count-above, count-upto, count-short}

-- a deviation is the sum of a low and a high part
pub deviation-parts : (lo hi c : ℕ) → lo ≤ hi → deviation lo hi c ≡ (lo - c) + (c - hi)
unfolding deviation
deviation-parts lo hi c h = go (ltb c lo) refl (ltb hi c) refl
  where
    go : (x : Bool) → ltb c lo ≡ x → (y : Bool) → ltb hi c ≡ y → cond x (lo - c) (cond y (c - hi) 0) ≡ (lo - c) + (c - hi)
    go true e y f = omega (arith, ltb-true c lo e)
    go false e true f = omega (arith, ltb-false c lo e, ltb-true hi c f)
    go false e false f = omega (arith, ltb-false c lo e, ltb-false hi c f)

-- the low part where a count of 0 is free: the columns 2 to lo above the count
shortfall : ℕ → ℕ → ℕ
shortfall lo c = trues (map (λ j. leb 1 c && not (leb j c)) (from 2 (lo - 1)))

zero-free-parts : (lo hi c : ℕ) → lo ≤ hi → cond (eqb c 0) 0 (deviation lo hi c) ≡ shortfall lo c + (c - hi)
unfolding shortfall
zero-free-parts lo hi c h = rw (count-short c 2 (lo - 1)) (go (eqb c 0) refl (leb 1 c) refl)
  where
    go : (a : Bool) → eqb c 0 ≡ a → (b : Bool) → leb 1 c ≡ b
        → cond a 0 (deviation lo hi c) ≡ cond b (2 + (lo - 1) - max 2 (suc c)) 0 + (c - hi)
    go true e true f = omega (arith, eqb-true c 0 e, leb-true 1 c f)
    go true e false f = omega (arith, eqb-true c 0 e)
    go false e true f = omega (arith, deviation-parts lo hi c h, leb-true 1 c f)
    go false e false f = let x : ⊥ = eqb-false c 0 e (omega (arith, leb-false 1 c f)) in absurd x

-- the columns reach up to hi
pub columns-reach : (w hi n : ℕ) → hi ≤ n → hi ≤ columns w hi n
columns-reach zero hi n b = omega arith
columns-reach (suc w) hi n b = b

Holds-unit : (ν : Assignment) (n w l : ℕ) (is : List Item) → Holds ν n (unit w l ∷ is) → Holds ν n is
Holds-unit ν n zero l is h = h
Holds-unit ν n (suc w) l is h = h

-- on a row q that counts c
module _ (ν : Assignment) (q : ℕ → ℕ) (c : ℕ) where
  low_costs : (w lo J : ℕ) → lo ≤ J → Counts ν J q c → Costs ν w (low_units w q lo) (lo - c)
  unfolding low_units
  low_costs zero lo J l m = go (leb 1 lo) refl
    where
      go : (b : Bool) → leb 1 lo ≡ b → Costs ν 0 (cond b (hard (q lo ∷ []) ∷ []) []) (lo - c)
      go true e =
          Costs-hard ν (q lo) (not (leb lo c)) (lo - c) (m lo l ∙ sym (not-not (leb lo c)))
          (λ f. omega (arith, leb-false lo c (not-true (leb lo c) f)))
          (λ f. omega (arith, leb-true lo c (not-false (leb lo c) f)))
      go false e = let d : lo - c ≡ 0 = omega (arith, leb-false 1 lo e) in rw d (Costs-none ν 0)
  low_costs (suc w) lo J l m =
      let d : 1 + lo - max 1 (suc c) ≡ lo - c = omega arith in
      rw (← d, ← count-above)
      (Costs-units ν (suc w) q (λ j. not (leb j c)) (from 1 lo)
      (from_all _ 1 lo (λ j a b. m j (omega arith) ∙ sym (not-not (leb j c)))))

  high_costs : (w hi n : ℕ) → hi ≤ n → c ≤ n → Counts ν (columns w hi n) q c → Costs ν w (high_units w q hi n) (c - hi)
  unfolding high_units
  high_costs zero hi n a b m = go (ltb hi n) refl
    where
      go : (d : Bool) → ltb hi n ≡ d → Costs ν 0 (cond d (hard (opp (q (hi + 1)) ∷ []) ∷ []) []) (c - hi)
      go true e =
          Costs-hard ν (opp (q (hi + 1))) (leb (hi + 1) c) (c - hi)
          (lit_opp ν (q (hi + 1)) ∙ ap not (m (hi + 1) (omega (arith, ltb-true hi n e))))
          (λ f. omega (arith, leb-true (hi + 1) c f)) (λ f. omega (arith, leb-false (hi + 1) c f))
      go false e = let d : c - hi ≡ 0 = omega (arith, ltb-false hi n e) in rw d (Costs-none ν 0)
  high_costs (suc w) hi n a b m =
      let d : min (hi + 1 + (n - hi)) (suc c) - (hi + 1) ≡ c - hi = omega arith in
      rw (← d, ← count-upto)
      (Costs-units ν (suc w) (λ j. opp (q j)) (λ j. leb j c) (from (hi + 1) (n - hi))
      (from_all _ (hi + 1) (n - hi) (λ j l h. lit_opp ν (q j) ∙ ap not (m j (omega arith)))))

  short_costs : (w j k v : ℕ) → 1 ≤ j → (0 < k → Counts ν (j + k - 1) q c) → Holds ν v (short_units w q j k v)
      → Costs ν w (short_units w q j k v) (trues (map (λ i. leb 1 c && not (leb i c)) (from j k)))
  unfolding short_units value cube from trues
  short_costs w j zero v p m h = Costs-none ν w
  short_costs w j (suc k) v p m h =
      let is = short_units w q (suc j) k (suc v) in
      let b = leb 1 c && not (leb j c) in
      let t = trues (map (λ i. leb 1 c && not (leb i c)) (from (suc j) k)) in
      let d = m (omega arith) in
      let e : lit ν (q 1) && (lit ν (opp (q j)) && true) ≡ b = rw (lit_opp, d 1 (omega arith), d j (omega arith), and-true) in
      let u = lit_neg ν v ∙ ap not (h.0 ∙ e) in
      let more = Holds-unit ν (suc v) w (neg v) is h.1 in
      Scores-gates ν (and (q 1 ∷ opp (q j) ∷ []) ∷ []) (unit w (neg v) ∷ is)
      (Costs-append ν w (cond b 1 0) t (unit w (neg v) ∷ []) is (Costs-unit ν w (neg v) b u)
      (short_costs w (suc j) k (suc v) (omega arith) (λ _ i l. d i (omega arith)) more))

  -- the bounds of a rule over n literals
  bounds_cost : (w : ℕ) (r : Rule) (n v : ℕ) → r.lo ≤ r.hi → r.hi ≤ n → c ≤ n → Counts ν (columns w r.hi n) q c
      → Holds ν v (bound_items w r q n v) → Costs ν w (bound_items w r q n v) (charged r c)
  unfolding bound_items charged shortfall
  bounds_cost w r n v a b d m = go r.zero_free
    where
      reach : r.hi ≤ columns w r.hi n
      reach = columns-reach w r.hi n b

      go : (zf : Bool) → Holds ν v (cond zf (short_units w q 2 (r.lo - 1) v) (low_units w q r.lo) ++ high_units w q r.hi n)
          → Costs ν w (cond zf (short_units w q 2 (r.lo - 1) v) (low_units w q r.lo) ++ high_units w q r.hi n)
          (cond (zf && eqb c 0) 0 (deviation r.lo r.hi c))
      go true h =
          rw (zero-free-parts r.lo r.hi c a)
          (Costs-append ν w (shortfall r.lo c) (c - r.hi) _ _
          (short_costs w 2 (r.lo - 1) v (omega arith) (λ p j l. m j (omega (arith, reach)))
          (Holds-append ν v (short_units w q 2 (r.lo - 1) v) (high_units w q r.hi n) h).0) (high_costs w r.hi n b d m))
      go false h =
          rw (deviation-parts r.lo r.hi c a)
          (Costs-append ν w (r.lo - c) (c - r.hi) _ _ (low_costs w r.lo (columns w r.hi n) (omega (arith, reach)) m)
          (high_costs w r.hi n b d m))

-- the sum that a counter with the weights 1 counts
total-ones : (ν : Assignment) (xs : List ℕ) → total ν (ones xs) ≡ trues (map (lit ν) xs)
unfolding total trues
total-ones ν [] = refl
total-ones ν (x ∷ xs) = ap (λ n. cond (lit ν x) 1 0 + n) (total-ones ν xs)

trues-length : (bs : List Bool) → trues bs ≤ length bs
unfolding trues
trues-length [] = omega arith
trues-length (b ∷ bs) = go b (trues-length bs)
  where
    go : (b : Bool) → trues bs ≤ length bs → cond b 1 0 + trues bs ≤ suc (length bs)
    go true h = omega arith
    go false h = omega arith

-- a counter over literals, and the bounds of a rule on its last row
pub count-costs : (ν : Assignment) → ν 0 ≡ false → (w : ℕ) (r : Rule) (xs : List ℕ) (v : ℕ) → r.lo ≤ r.hi → r.hi ≤ length xs
    → Holds ν v (count_items w r xs v) → Costs ν w (count_items w r xs v) (charged r (trues (map (lit ν) xs)))
unfolding count_into
count-costs ν z w r xs v a b h =
    let n = length xs in
    let J = columns w r.hi n in
    let k = counter no_row (ones xs) J v in
    let p = Holds-gates ν v k _ h in
    let m = rw total-ones at (counter_counts ν z (ones xs) J v p.0) in
    let l = rw length-map at (trues-length (map (lit ν) xs)) in
    let e = rw (length-counter, length-map) at p.1 in
    Scores-gates ν k _ (bounds_cost ν (last_row no_row (ones xs) J v) (trues (map (lit ν) xs)) w r n (v + n * J) a b l m e)
