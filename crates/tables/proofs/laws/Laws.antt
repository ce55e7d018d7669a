-- What is known of a table's rows: a row's length is its first byte, its members are the bytes after that.
use Prim.Native.Nat.{ℕ, zero, suc, ◌+◌, ◌*◌, ◌-◌, ◌≤◌, ◌<◌}
use mathlib.Core.Path.{◌≡◌, refl, ◌∙◌}
use mathlib.Core.List.{List, [], ◌∷◌}
use mathlib.Core.Logic.{⊎_elim}
use native.Mathlib.Nat.{not-suc-le-zero, le_of_suc-le-suc, add-zero, eq-or-lt_of_le}
use native.Mathlib.Omega.{arith}
use lib.ListN.{length, get_or, take, drop, length-append, get_or-append}
use lib.Seq.{get_or-take, get_or-drop, get_or_at}
use Rattle.scope.specs.Kinds.{Event, group_at}
use Rattle.number.proofs.laws.Lists.{length-leading, get_d-leading}
use Rattle.tables.specs.Rows.{row_of, row_at, rows, event_of, events_of}

-- a row: its length and its members
length-row_of : (r : List ℕ) → length (row_of r) ≡ get_or r 0 0
unfolding row_of
length-row_of [] = refl
length-row_of (n ∷ r) = length-leading n r

row_of-member : (r : List ℕ) (i : ℕ) → i < get_or r 0 0 → get_or (row_of r) i 0 ≡ get_or r (suc i) 0
unfolding row_of
row_of-member [] i h = refl
row_of-member (n ∷ r) i h = get_d-leading n r i h

pub length-row_at : (t : List ℕ) (g : ℕ) → length (row_at t g) ≡ get_or t (g * 126) 0
unfolding row_at
length-row_at t g =
    let h : 0 < 126 = omega arith in
    length-row_of (take 126 (drop (g * 126) t))
    ∙ rw (get_or-take 126 (drop (g * 126) t) 0 0 h, get_or-drop (g * 126) t 0 0, add-zero)

pub row_at-member : (t : List ℕ) (g i : ℕ)
    → i < 125
    → i < length (row_at t g)
    → get_or (row_at t g) i 0 ≡ get_or t (g * 126 + 1 + i) 0
unfolding row_at
row_at-member t g i h l =
    let k : suc i < 126 = omega arith in
    let e : g * 126 + suc i ≡ g * 126 + 1 + i = omega arith in
    row_of-member (take 126 (drop (g * 126) t)) i (rw length-row_of at l)
    ∙ rw (get_or-take 126 (drop (g * 126) t) (suc i) 0 k, get_or-drop (g * 126) t (suc i) 0, e)

-- the first n rows: how many they are, each of them, and group number g, from 1
pub length_rows : (t : List ℕ) (n : ℕ) → length (rows t n) ≡ n
unfolding rows
length_rows t zero = refl
length_rows t (suc n) = simp (length-append, length_rows t n) (omega arith)

pub rows_at : (t : List ℕ) (n g : ℕ) → g < n → get_or (rows t n) g [] ≡ row_at t g
unfolding rows
rows_at t zero g h = elim (not-suc-le-zero h) [ ]
rows_at t (suc n) g h =
    ⊎_elim
    (λ (e : g ≡ n). rw e (get_or_at (rows t n) (row_at t n) [] [] n (length_rows t n)))
    (λ (l : g < n). get_or-append (rows t n) (row_at t n ∷ []) [] g (rw length_rows l) ∙ rows_at t n g l)
    (eq-or-lt_of_le (le_of_suc-le-suc h))

pub group_row : (t : List ℕ) (n g : ℕ) → 1 ≤ g → g ≤ n → group_at (rows t n) g ≡ row_at t (g - 1)
group_row t n g h l = rows_at t n (g - 1) (omega arith)

-- the first n events
pub length-events : (d t : List ℕ) (n : ℕ) → length (events_of d t n) ≡ n
unfolding events_of
length-events d t zero = refl
length-events d t (suc n) = simp (length-append, length-events d t n) (omega arith)

pub events-at : (d t : List ℕ) (n e : ℕ) (other : Event) → e < n → get_or (events_of d t n) e other ≡ event_of d t e
unfolding events_of
events-at d t zero e other h = elim (not-suc-le-zero h) [ ]
events-at d t (suc n) e other h =
    ⊎_elim
    (λ (k : e ≡ n). rw k (get_or_at (events_of d t n) (event_of d t n) [] other n (length-events d t n)))
    (λ (l : e < n).
    get_or-append (events_of d t n) (event_of d t n ∷ []) other e (rw length-events l) ∙ events-at d t n e other l)
    (eq-or-lt_of_le (le_of_suc-le-suc h))
