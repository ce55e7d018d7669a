-- Writing a table row by row: what the rows before the one that was written hold, and that row.
use Prim.Native.Nat.{ℕ, zero, suc, ◌+◌, ◌*◌, ◌-◌, ◌≤◌, ◌<◌}
use mathlib.Core.Path.{◌≡◌, refl, sym, ap, ◌∙◌}
use mathlib.Core.List.{List, [], ◌∷◌, ◌++◌}
use native.Mathlib.Omega.{arith}
use native.Mathlib.Numerals.{add-one}
use lib.ListN.{length, get_or, take, drop, set, length-drop, take-append-drop}
use lib.Seq.{take-append-le, drop-append-le, take_at, drop_at, length-take-le, get_or-set_same, get_or-set_other}
use borrow.Rule.Slice.PartMut.{put_mid}
use Rattle.number.proofs.laws.Lists.{leading-take}
use Rattle.tables.specs.Rows.{row_of, row_at, rows, events_of}

-- a row whose count is n
pub row_of-count : (row : List ℕ) (n : ℕ) → get_or row 0 0 ≡ n → n < length row → row_of row ≡ take n (drop 1 row)
unfolding row_of
row_of-count [] n e h = let f : ⊥ = omega arith in elim f [ ]
row_of-count (m ∷ row) n e h = rw e (leading-take n row (omega arith))

-- a row in front of what follows, and the row in the middle
row_at-front : (p u : List ℕ) (g : ℕ) → g * 126 + 126 ≤ length p → row_at (p ++ u) g ≡ row_at p g
unfolding row_at
row_at-front p u g h =
    let a : g * 126 ≤ length p = omega arith in
    let b : 126 ≤ length (drop (g * 126) p) = simp length-drop (omega arith) in
    rw (drop-append-le (g * 126) p u a, take-append-le 126 (drop (g * 126) p) u b)

row_at-mid : (p r u : List ℕ) (g : ℕ) → length p ≡ g * 126 → length r ≡ 126 → row_at (p ++ (r ++ u)) g ≡ row_of r
unfolding row_at
row_at-mid p r u g h l = rw (drop_at p (r ++ u) (g * 126) h, take_at r u 126 l)

row_at-kept : (t u : List ℕ) (n g : ℕ) → n < g → g * 126 ≤ length t → row_at (take (g * 126) t ++ u) n ≡ row_at t n
row_at-kept t u n g h l =
    let a : length (take (g * 126) t) ≡ g * 126 = length-take-le (g * 126) t l in
    row_at-front (take (g * 126) t) u n (omega arith)
    ∙ sym (row_at-front (take (g * 126) t) (drop (g * 126) t) n (omega arith))
    ∙ ap (λ (x : List ℕ). row_at x n) (take-append-drop (g * 126) t)

-- the table with r in the place of row g
abbrev pub put_row : List ℕ → ℕ → List ℕ → List ℕ
put_row t g r = put_mid (g * 126) (g * 126 + 126 - g * 126) t r

row_at-put : (t r : List ℕ) (g : ℕ) → g * 126 + 126 ≤ length t → length r ≡ 126 → row_at (put_row t g r) g ≡ row_of r
row_at-put t r g h l = row_at-mid (take (g * 126) t) r _ g (length-take-le (g * 126) t (omega arith)) l

-- one row more
rows-kept : (t u : List ℕ) (n g : ℕ) → n ≤ g → g * 126 ≤ length t → rows (take (g * 126) t ++ u) n ≡ rows t n
unfolding rows
rows-kept t u zero g h l = refl
rows-kept t u (suc n) g h l = rw (rows-kept t u n g (omega arith) l, row_at-kept t u n g h l)

pub rows_more : (t r : List ℕ) (g : ℕ)
    → g * 126 + 126 ≤ length t
    → length r ≡ 126
    → rows (put_row t g r) (g + 1) ≡ rows t g ++ (row_of r ∷ [])
unfolding rows
rows_more t r g h l =
    let kept : rows (put_row t g r) g ≡ rows t g = rows-kept t _ g g (omega arith) (omega arith) in
    rw (add-one, kept, row_at-put t r g h l)

-- one event more
events-kept : (d t u : List ℕ) (n e v : ℕ)
    → n ≤ e
    → e * 126 ≤ length t
    → events_of (set d e v) (take (e * 126) t ++ u) n ≡ events_of d t n
unfolding events_of
events-kept d t u zero e v h l = refl
events-kept d t u (suc n) e v h l =
    rw (events-kept d t u n e v (omega arith) l, get_or-set_other d e n v 0 (λ x. omega arith), row_at-kept t u n e h l)

pub events-more : (d t r : List ℕ) (e v : ℕ)
    → e < length d
    → e * 126 + 126 ≤ length t
    → length r ≡ 126
    → events_of (set d e v) (put_row t e r) (e + 1) ≡ events_of d t e ++ (record { duration = v; resources = row_of r } ∷ [])
unfolding events_of
events-more d t r e v h l k =
    let kept : events_of (set d e v) (put_row t e r) e ≡ events_of d t e = events-kept d t _ e e v (omega arith) (omega arith) in
    rw (add-one, kept, get_or-set_same d e v 0 h, row_at-put t r e l k)
