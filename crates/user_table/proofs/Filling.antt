-- Filling the table of users, one member of an event's row after another.
use Prim.Native.Nat.{ℕ, zero, suc, ◌+◌, ◌-◌, ◌*◌, ◌≤◌, ◌<◌}
use mathlib.Core.Path.{◌≡◌, refl, sym, ap, ◌∙◌}
use mathlib.Core.List.{List, [], ◌∷◌, ◌++◌, append-nil, append_assoc}
use mathlib.Core.Bool.{Bool, true, false, cond, ◌||◌}
use mathlib.Core.Logic.{⊎_elim}
use native.Mathlib.Nat.{eq-or-lt_of_le}
use native.Mathlib.Omega.{arith}
use native.Mathlib.Numerals.{add-one}
use borrow.Author.Tests.{ne_eqb, eqb-true, eqb-false, leb-true, leb-false}
use lib.Dec.{eqb, leb}
use lib.ListN.{length, get_or, take, drop, set, length-set, length-append, length-drop}
use lib.Seq.{take-suc, take_all, take-set-le, drop-set-lt, drop-set-add, get_or-set_same, get_or-set_other}
use Rattle.scope.specs.Kinds.{member}
use Rattle.parsing.specs.Numbers.{Ascending, none, more}
use Rattle.tables.specs.Rows.{row_at}
use Rattle.literals.specs.Words.{Holds}
use Rattle.literals.proofs.laws.Words.{holds-none, holds_as, holds_more}
use Rattle.user_table.specs.Users.{users_in}
use Rattle.user_table.proofs.laws.Users.{users-most}
use Rattle.user_table.specs.Filled.{Filled, EventRows, pushed}

-- a store outside a row: before it, and after it
module _ (l : List ℕ) (b p x : ℕ) {xs : List ℕ} (h : Holds (drop (b + 1) l) (get_or l b 0) xs) where
  abbrev Kept : Type 0
  Kept = Holds (drop (b + 1) (set l p x)) (get_or (set l p x) b 0) xs

  store_before : p < b → Kept
  store_before k = rw (get_or-set_other l p b x 0 (λ e. omega arith), drop-set-lt (b + 1) l p x (omega arith)) h

  store_after : (i : ℕ) → p ≡ b + 1 + i → length xs ≤ i → Kept
  store_after i e k =
      rw (get_or-set_other l p b x 0 (λ q. omega arith), e, drop-set-add (b + 1) l i x)
      (record { count = h.count; front = take-set-le (get_or l b 0) (drop (b + 1) l) i x (omega (arith, h.count)) ∙ h.front })

-- an event more in row y
module _ {l : List ℕ} {f : ℕ → List ℕ} (h : Filled l f) (y e : ℕ) (few : y ≤ 99) (room : length (f y) < 1024) (short : (r : ℕ) → length (f r) ≤ 1024) where
  abbrev RowHolds : (r : ℕ) → List ℕ → Type 0
  RowHolds r xs = Holds (drop (r * 1025 + 1) (pushed l y e)) (get_or (pushed l y e) (r * 1025) 0) xs

  row_here : RowHolds y (f y ++ (e ∷ []))
  row_here =
      let n = get_or l (y * 1025) 0 in
      let c = (h.each y).count in
      let p : y * 1025 + (n + 1) ≡ y * 1025 + 1 + n = omega arith in
      rw (
        get_or-set_other (set l (y * 1025) (n + 1)) (y * 1025 + (n + 1)) (y * 1025) e 0 (λ q. omega arith),
        get_or-set_same l (y * 1025) (n + 1) 0 (omega (arith, h.long)),
        p,
        drop-set-add (y * 1025 + 1) (set l (y * 1025) (n + 1)) n e,
        drop-set-lt (y * 1025 + 1) l (y * 1025) (n + 1) (omega arith),
      )
      (holds_more (h.each y) e (rw length-drop (omega (arith, h.long, c))))

  row_above : (r : ℕ) → y < r → RowHolds r (f r)
  row_above r k =
      let n = get_or l (y * 1025) 0 in
      store_before (set l (y * 1025) (n + 1)) (r * 1025) (y * 1025 + (n + 1)) e
      (store_before l (r * 1025) (y * 1025) (n + 1) (h.each r) (omega arith))
      (omega (arith, (h.each y).count))

  row_below : (r : ℕ) → r < y → RowHolds r (f r)
  row_below r k =
      let n = get_or l (y * 1025) 0 in
      let i = y * 1025 - (r * 1025 + 1) in
      store_after (set l (y * 1025) (n + 1)) (r * 1025) (y * 1025 + (n + 1)) e
      (store_after l (r * 1025) (y * 1025) (n + 1) (h.each r) i (omega arith) (omega (arith, short r)))
      (i + (n + 1))
      (omega arith)
      (omega (arith, short r))

  filled_more : Filled (pushed l y e) (λ r. f r ++ cond (eqb r y) (e ∷ []) [])
  filled_more = record { long = simp length-set h.long; each = λ r. by r (eqb r y) refl }
    where
      other : (r : ℕ) → (r ≡ y → ⊥) → (t : Bool) → leb r y ≡ t → RowHolds r (f r)
      other r k true q = ⊎_elim (λ (p : r ≡ y). absurd (k p)) (λ (p : r < y). row_below r p) (eq-or-lt_of_le (leb-true r y q))
      other r k false q = row_above r (leb-false r y q)

      by : (r : ℕ) (t : Bool) → eqb r y ≡ t → RowHolds r (f r ++ cond t (e ∷ []) [])
      by r true q = rw (eqb-true r y q) row_here
      by r false q = holds_as (sym (append-nil (f r))) (other r (eqb-false r y q) (leb r y) refl)

-- a member of an ascending list: it is above where the list starts, and does not stand before
above : (n : ℕ) {before : ℕ} {l : List ℕ} → Ascending n before l → (k : ℕ) → k < length l → (before < get_or l k 0) × (get_or l k 0 ≤ n)
above n none k h = elim h [ ]
above n (more a b r) zero h = (a, b)
above n (more a b r) (suc k) h = let i = above n r k (omega arith) in (omega (arith, i.0), i.1)

fresh : (n : ℕ) {before : ℕ} {l : List ℕ} → Ascending n before l → (k : ℕ) → k < length l → member (get_or l k 0) (take k l) ≡ false
unfolding member
fresh n none k h = elim h [ ]
fresh n (more a b r) zero h = refl
fresh n (more {x = x} {xs = xs} a b r) (suc k) h =
    let i = above n r k (omega arith) in
    rw (ne_eqb (get_or xs k 0) x (λ p. omega (arith, i.0)), fresh n r k (omega arith))

member-last : (r y : ℕ) (l : List ℕ) → member r (l ++ (y ∷ [])) ≡ member r l || eqb r y
unfolding member
member-last r y [] = by (eqb r y)
  where
    by : (b : Bool) → b || false ≡ false || b
    by true = refl
    by false = refl
member-last r y (x ∷ l) = rw (member-last r y l) (by (eqb r x) (member r l) (eqb r y))
  where
    by : (a b c : Bool) → a || (b || c) ≡ (a || b) || c
    by true b c = refl
    by false b c = refl

-- the users of r among the first g events, and event g + 1 where r is one of the first k of its resources
abbrev pub users_to : (t : List ℕ) (g k r : ℕ) → List ℕ
users_to t g k r = users_in t g r ++ cond (member r (take k (row_at t g))) ((g + 1) ∷ []) []

users-short : (t : List ℕ) (g k r : ℕ) → length (users_to t g k r) ≤ g + 1
users-short t g k r = simp length-append (by (member r (take k (row_at t g))) (users-most t g r))
  where
    by : {n : ℕ} (b : Bool) → n ≤ g → n + length (cond b ((g + 1) ∷ []) []) ≤ g + 1
    by true h = omega arith
    by false h = omega arith

once : (e : ℕ) (m b : Bool) → (b ≡ true → m ≡ false) → cond m (e ∷ []) [] ++ cond b (e ∷ []) [] ≡ cond (m || b) (e ∷ []) []
once e m true h = rw (h refl)
once e true false h = refl
once e false false h = refl

module _ (t : List ℕ) (g : ℕ) {l : List ℕ} where
  pub filled_start : Filled l (users_in t g) → Filled l (users_to t g 0)
  unfolding member
  filled_start h = record { long = h.long; each = λ r. holds_as (sym (append-nil (users_in t g r))) (h.each r) }

  module _ (k : ℕ) (h : Filled l (users_to t g k)) where
    pub filled_end : length (row_at t g) ≤ k → Filled l (users_in t (g + 1))
    unfolding users_in
    filled_end e =
        record {
          long = h.long;
          each = λ r. holds_as (rw (take_all k (row_at t g) e, add-one g)) (h.each r);
        }

    module _ (y : ℕ) (rows : EventRows t (g + 1)) (small : g < 1024) (less : k < length (row_at t g)) (is : y ≡ get_or (row_at t g) k 0) where
      ascends : Ascending rows.most 0 (row_at t g)
      ascends = rows.ascends g (omega arith)

      pub member_few : y ≤ 99
      member_few = omega (arith, (above rows.most ascends k less).1, rows.few)

      unused : member y (take k (row_at t g)) ≡ false
      unused = rw is (fresh rows.most ascends k less)

      room : length (users_to t g k y) < 1024
      room = rw (unused, append-nil (users_in t g y)) (omega (arith, users-most t g y))

      pub count_small : get_or l (y * 1025) 0 < 1024
      count_small = omega (arith, (h.each y).count, room)

      next_users : (r : ℕ) → users_to t g k r ++ cond (eqb r y) ((g + 1) ∷ []) [] ≡ users_to t g (k + 1) r
      next_users r =
          append_assoc (users_in t g r) _ _
          ∙ rw (add-one k, take-suc (row_at t g) k 0 less, ← is, member-last r y (take k (row_at t g)))
          (ap (λ (xs : List ℕ). users_in t g r ++ xs)
          (once (g + 1) (member r (take k (row_at t g))) (eqb r y) (λ e. rw (eqb-true r y e) unused)))

      pub filled_turn : Filled (pushed l y (g + 1)) (users_to t g (k + 1))
      filled_turn =
          let m = filled_more h y (g + 1) member_few room (λ r. omega (arith, users-short t g k r)) in
          record { long = m.long; each = λ r. holds_as (next_users r) (m.each r) }

-- a table of zeros
pub filled_none : (t l : List ℕ) → length l ≡ 102500 → ((x : ℕ) → get_or l x 0 ≡ 0) → Filled l (users_in t 0)
unfolding users_in
filled_none t l e z = record { long = e; each = λ r. rw (z (r * 1025)) (holds-none (drop (r * 1025 + 1) l)) }
