-- How often each resource is used at each time: laws.
use Prim.Native.Nat.{ℕ, zero, suc, ◌+◌, ◌-◌, ◌*◌, ◌<◌, ◌≤◌}
use mathlib.Core.Path.{◌≡◌, refl, sym, ap, ◌∙◌}
use mathlib.Core.Bool.{Bool, true, false, cond}
use mathlib.Core.List.{List, [], ◌∷◌, ◌++◌}
use mathlib.Core.Logic.{⊎_elim}
use lib.ListN.{length, get_or, take, set, length-set, length-take}
use lib.Seq.{get_or-set_same, get_or-set_other, take-suc, take_all}
use lib.Dec.{eqb, ltb}
use native.Mathlib.Omega.{arith}
use native.Mathlib.Nat.{add-zero, zero-add, add_assoc, eq-or-lt_of_le, mul-le-mul, mul-le-mul_right, min-le_right}
use native.Mathlib.Numerals.{add-one}
use borrow.Author.Tests.{ltb-true, ltb-false, eq-eqb, ne_eqb}
use Rattle.parsing.specs.Numbers.{Ascending, none, more}
use Rattle.tables.specs.Rows.{row_at}
use Rattle.tables.specs.Occurrences.{occurrences}
use Rattle.tables.proofs.laws.Occurrences.{occurrences-once}
use Rattle.resource_uses.proofs.laws.Bits.{bit-next}
use Rattle.resource_uses.specs.Takers.{takers}
use Rattle.resource_uses.proofs.laws.Takers.{takers-most}
use Rattle.resource_uses.specs.Uses.{RowAdded, EventAdded, Addable, UsesOf, Countable, Marked}

pub added_none : (u b : List ℕ) (base y : ℕ) → RowAdded u b base y 0 u
added_none u b base y =
    record { kept = refl; within = λ t h. let f : ⊥ = omega arith in absurd f; before = λ k h. refl; after = λ k h. refl }

module _ (u b : List ℕ) (base y n : ℕ) (v : List ℕ) (a : RowAdded u b base y n v) where
  pub added_more : (x : ℕ) → base + n < length v → x ≡ cond (eqb (get_or b (y + n) 0) 1) 1 0
      → RowAdded u b base y (n + 1) (set v (base + n) (get_or v (base + n) 0 + x))
  added_more x l e =
      let w = set v (base + n) (get_or v (base + n) 0 + x) in
      record {
        kept = length-set v (base + n) _ ∙ a.kept;
        within =
            λ t h.
            ⊎_elim
            (λ (p : t ≡ n). rw (p, get_or-set_same v (base + n) (get_or v (base + n) 0 + x) 0 l, a.after (base + n) (omega arith), e))
            (λ (p : t < n). get_or-set_other v (base + n) (base + t) _ 0 (λ q. omega arith) ∙ a.within t p)
            (eq-or-lt_of_le (let q : t ≤ n = omega arith in q));
        before = λ k h. get_or-set_other v (base + n) k _ 0 (λ q. omega arith) ∙ a.before k h;
        after = λ k h. get_or-set_other v (base + n) k _ 0 (λ q. omega arith) ∙ a.after k (omega arith);
      }

  -- a count that is not reached yet; the end
  pub added_room : (most t : ℕ) → n ≤ t → get_or u (base + t) 0 < most → get_or v (base + t) 0 < most
  added_room most t h l = rw (a.after (base + t) (omega arith)) l

  pub added_end : (t : ℕ) → n ≤ t → t ≤ n → RowAdded u b base y t v
  added_end t h l = let e : n ≡ t = omega arith in rw e at a

cond-zero : (t : Bool) → ◌≡◌ {A = ℕ} (cond t 0 0) 0
cond-zero true = refl
cond-zero false = refl

cond-most : (t : Bool) (n : ℕ) → cond t n 0 ≤ n
cond-most true n = omega arith
cond-most false n = omega arith

cond-sum : (t : Bool) (m n : ℕ) → cond t (m + n) 0 ≡ cond t m 0 + cond t n 0
cond-sum true m n = refl
cond-sum false m n = refl

pub event-none : (T : ℕ) (u b : List ℕ) (y : ℕ) (rs : List ℕ) → EventAdded T u b y (take 0 rs) u
unfolding occurrences
event-none T u b y rs =
    record { kept = refl; each = λ p q _ _. rw (cond-zero (eqb (get_or b (y + q) 0) 1)) (sym (add-zero (get_or u (p * T + q) 0))) }

occurrences-most : (x : ℕ) (l : List ℕ) → occurrences x l ≤ length l
unfolding occurrences
occurrences-most x [] = omega arith
occurrences-most x (y ∷ l) = omega (arith, cond-most (eqb x y) 1, occurrences-most x l)

occurrences-more : (x y : ℕ) (l : List ℕ) → occurrences x (l ++ (y ∷ [])) ≡ occurrences x l + cond (eqb x y) 1 0
unfolding occurrences
occurrences-more x y [] = rw (add-zero, zero-add)
occurrences-more x y (z ∷ l) = rw (occurrences-more x y l) (sym (add_assoc (cond (eqb x z) 1 0) (occurrences x l) (cond (eqb x y) 1 0)))

three_ways : (P : Type 0) (a b : ℕ) → (a < b → P) → (a ≡ b → P) → (b < a → P) → P
three_ways P a b f g h = by (ltb a b) refl
  where
    by : (t : Bool) → ltb a b ≡ t → P
    by true e = f (ltb-true a b e)
    by false e = ⊎_elim (λ (q : b ≡ a). g (sym q)) h (eq-or-lt_of_le (ltb-false a b e))

-- a resource of a row, and the counts that are its own
pub member-in : (n : ℕ) {before : ℕ} {l : List ℕ} → Ascending n before l → (k : ℕ) → k < length l → (before < get_or l k 0) × (get_or l k 0 ≤ n)
member-in n none k h = let f : ⊥ = omega arith in absurd f
member-in n (more a b r) zero h = (a, b)
member-in n (more a b r) (suc k) h = let m = member-in n r k (omega arith) in (omega arith, m.1)

counts-room : (r T : ℕ) → 1 ≤ r → r ≤ 99 → T ≤ 125 → (r - 1) * T + T ≤ 12375
counts-room r T lo hi h =
    let e : r - 1 + 1 ≡ r = omega arith in
    let f : (r - 1) * T + T ≡ r * T = omega (arith, ap (λ n. n * T) e) in
    omega (arith, mul-le-mul {n₁ = r} {m₁ = T} {n₂ = 99} {m₂ = 125} hi h)

-- the turns of an event's row of n resources, of which k were added
module _ {T : ℕ} {u rs b : List ℕ} {e k n : ℕ} {v : List ℕ} (fit : Addable T u rs b e) (size : n ≡ length (row_at rs e)) (a : EventAdded T u b (e * T) (take k (row_at rs e)) v) where
  -- the next one, r
  module _ (h : k < n) {r : ℕ} (er : r ≡ get_or (row_at rs e) k 0) where
    within : (1 ≤ r) × (r ≤ 99)
    within = rw er (member-in 99 fit.ascending k (omega arith))

    pub next_resource : 1 ≤ r
    next_resource = within.0

    pub next_counts : (r - 1) * T ≤ 12375
    next_counts = omega (arith, counts-room r T within.0 within.1 fit.times)

    pub next_addable : ((r - 1) * T + T ≤ length v) × ((e * T + T ≤ length b) × ((t : ℕ) → t < T → get_or v ((r - 1) * T + t) 0 < 65535))
    next_addable = (
      omega (arith, counts-room r T within.0 within.1 fit.times, a.kept, fit.long),
      (
        fit.taken,
        λ t l.
            let p : r - 1 < 99 = omega (arith, within) in
            rw (a.each (r - 1) t p l)
            (omega (
              arith,
              fit.small (r - 1) t p l,
              cond-most (eqb (get_or b (e * T + t) 0) 1) (occurrences (suc (r - 1)) (take k (row_at rs e))),
              occurrences-most (suc (r - 1)) (take k (row_at rs e)),
              length-take k (row_at rs e),
              min-le_right k (length (row_at rs e)),
              fit.row.count,
            )),
      ),
    )

    pub next_added : (w : List ℕ) → RowAdded v b ((r - 1) * T) (e * T) T w → EventAdded T u b (e * T) (take (k + 1) (row_at rs e)) w
    next_added w d =
        let l : k < length (row_at rs e) = omega arith in
        record {
          kept = d.kept ∙ a.kept;
          each = λ p q hp hq. rw (add-one, take-suc (row_at rs e) k 0 l, ← er, occurrences-more (suc p) r (take k (row_at rs e))) (cell p q hp hq);
        }
      where
        cell : (p q : ℕ) → p < 99 → q < T
            → get_or w (p * T + q) 0
            ≡ get_or u (p * T + q) 0 + cond (eqb (get_or b (e * T + q) 0) 1) (occurrences (suc p) (take k (row_at rs e)) + cond (eqb (suc p) r) 1 0) 0
        cell p q hp hq =
            let one = eqb (get_or b (e * T + q) 0) 1 in
            let so_far = occurrences (suc p) (take k (row_at rs e)) in
            three_ways _ p (r - 1)
            (λ l.
            rw (ne_eqb (suc p) r (λ z. omega arith), add-zero, ← (a.each p q hp hq))
            (d.before (p * T + q) (omega (arith, mul-le-mul_right {m = p + 1} {n = r - 1} T (omega arith)))))
            (λ l.
            rw (
              eq-eqb (suc p) r (omega (arith, within)),
              cond-sum one so_far 1,
              ← (add_assoc (get_or u (p * T + q) 0) (cond one so_far 0) (cond one 1 0)),
              ← (a.each p q hp hq),
              l,
            )
            (d.within q hq))
            (λ l.
            rw (ne_eqb (suc p) r (λ z. omega (arith, within)), add-zero, ← (a.each p q hp hq))
            (d.after (p * T + q) (omega (arith, mul-le-mul_right {m = r - 1 + 1} {n = p} T (omega arith)))))

  pub all_added : n ≤ k → EventAdded T u b (e * T) (row_at rs e) v
  all_added h = rw (take_all k (row_at rs e) (omega arith)) at a

pub ruleset adding = (next_resource, next_added, all_added)

pub uses-none : (T : ℕ) (b rs u : List ℕ) → ((k : ℕ) → get_or u k 0 ≡ 0) → UsesOf T b rs 0 u
unfolding takers
uses-none T b rs u h = record { each = λ p q _ _. h (p * T + q) }

module _ (T : ℕ) (b rs : List ℕ) (n : ℕ) (u : List ℕ) (a : UsesOf T b rs n u) where
  pub uses_more : {v : List ℕ} → Ascending 99 0 (row_at rs n) → EventAdded T u b (n * T) (row_at rs n) v → UsesOf T b rs (n + 1) v
  unfolding takers
  uses_more h d =
      record {
        each =
            λ p q hp hq.
            let k : suc q ≡ q + 1 = omega arith in
            d.each p q hp hq
            ∙ rw (a.each p q hp hq, occurrences-once (suc p) 99 0 (row_at rs n) h, add-one n, k, bit-next b (n * T) q) cc;
      }

  pub uses_most : (p q : ℕ) → p < 99 → q < T → get_or u (p * T + q) 0 ≤ n
  uses_most p q hp hq = rw (a.each p q hp hq) (takers-most T b rs (suc p) (suc q) n)

  pub uses_end : (m : ℕ) → n ≤ m → m ≤ n → UsesOf T b rs m u
  uses_end m h l = let e : n ≡ m = omega arith in rw e at a

  -- the next event can be added
  pub uses_addable : (u₀ : List ℕ) (m : ℕ) → Countable T u₀ rs b m → length u ≡ length u₀ → n < m → Addable T u rs b n
  uses_addable u₀ m c l h =
      record {
        long = l ∙ c.long;
        times = c.times;
        taken = omega (arith, c.taken, mul-le-mul_right {m = n + 1} {n = m} T (omega arith));
        row = c.rows n h;
        ascending = c.ascending n h;
        small = λ p q hp hq. omega (arith, uses_most p q hp hq, c.events);
      }

-- its turns: those before k are marked
pub record MarkedTo (u x : List ℕ) (k : ℕ) : Type 0 where
  pub each : (j : ℕ) → j < k → get_or x j 0 ≡ cond (ltb 0 (get_or u j 0)) 1 0

pub marked-none : (u x : List ℕ) → MarkedTo u x 0
marked-none u x = record { each = λ j h. let f : ⊥ = omega arith in absurd f }

module _ (u x : List ℕ) (k : ℕ) (m : MarkedTo u x k) where
  pub marked_more : (y : ℕ) → k < length x → y ≡ cond (ltb 0 (get_or u k 0)) 1 0 → MarkedTo u (set x k y) (k + 1)
  marked_more y h e =
      record {
        each =
            λ j l.
            ⊎_elim
            (λ (p : j ≡ k). rw (p, get_or-set_same x k y 0 h) e)
            (λ (p : j < k). get_or-set_other x k j y 0 (λ q. omega arith) ∙ m.each j p)
            (eq-or-lt_of_le (let q : j ≤ k = omega arith in q));
      }

  pub marked_end : length u ≤ k → Marked u x
  marked_end h = record { each = λ j l. m.each j (omega arith) }
