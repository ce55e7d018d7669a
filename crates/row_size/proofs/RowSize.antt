-- The length of a row's text, where the numbers of each row have equally many digits.
use mathlib.Core.Path.{◌≡◌, refl, ap, sym, ◌∙◌}
use mathlib.Core.Bool.{Bool, true, false}
use mathlib.Core.List.{List, [], ◌∷◌, ◌++◌, flat_map}
use Prim.Native.Nat.{ℕ, zero, suc, ◌+◌, ◌-◌, ◌*◌, ◌/◌, ◌%◌, ◌≤◌, ◌<◌}
use native.Mathlib.Omega.{arith}
use lib.ListN.{length, length-append}
use lib.Dec.{ltb}
use borrow.Author.Tests.{ltb-true, ltb-false}
use Rattle.scope.specs.Cnf.{opp, gate_clauses}
use Rattle.scope.specs.Formula.{row}
use Rattle.scope.specs.Text.{digits, decimal, space, newline, literal_text, line}
use Rattle.digits.proofs.laws.Decimal.{digits-some, digits-small, digits_more, digits-most}
use Rattle.digits.proofs.Literal.{literal-length}
use Rattle.sink.specs.Lines.{gates_clauses}
use Rattle.sink.specs.World.{row_over}
use Rattle.sink.specs.Meaning.{hard_text}
use Rattle.row_words.specs.Cells.{cell_at, full_clauses, low_clauses}
use Rattle.row_words.proofs.laws.Cells.{full-cell, low-cell}
use Rattle.row_words.proofs.RowLines.{cells_from, put_turn, put_end, put_first}

-- a greater number has no fewer digits
more-digits : (f a b : ℕ) → a ≤ b → length (digits f a) ≤ length (digits f b)
unfolding digits
more-digits zero a b h = omega arith
more-digits (suc f) a b h = go (ltb a 10) refl (ltb b 10) refl (more-digits f (a / 10) (b / 10) (omega arith))
  where
    go : (s : Bool) → ltb a 10 ≡ s → (t : Bool) → ltb b 10 ≡ t → length (digits f (a / 10)) ≤ length (digits f (b / 10))
        → length (digits (suc f) a) ≤ length (digits (suc f) b)
    go true e t g ih = rw (digits-small (suc f) a (ltb-true a 10 e)) (digits-some (suc f) b)
    go false e true g ih = absurd (omega (arith, ltb-false a 10 e, ltb-true b 10 g))
    go false e false g ih =
        rw (digits_more f a (ltb-false a 10 e), digits_more f b (ltb-false b 10 g))
        (omega (arith, length-append (digits f (a / 10)) ((48 + a % 10) ∷ []), length-append (digits f (b / 10)) ((48 + b % 10) ∷ [])))

-- numbers between two that have equally many digits have as many
pub even : (v n k : ℕ) → k ≡ length (decimal v) → length (decimal (v + (n - 1))) ≡ k → (i : ℕ) → i < n → length (decimal (v + i)) ≡ k
even v n k e g i h =
    let low : length (decimal v) ≤ length (decimal (v + i)) = more-digits 19 v (v + i) (omega arith) in
    let high : length (decimal (v + i)) ≤ length (decimal (v + (n - 1))) = more-digits 19 (v + i) (v + (n - 1)) (omega arith) in
    omega arith

pub literal-most : (l : ℕ) → l < 2147483648 → length (literal_text l) ≤ 12
literal-most l h = omega (arith, literal-length l, digits-most 9 19 (l / 2) (omega arith))

pub opposite-most : (l : ℕ) → l < 2147483648 → length (literal_text (opp l)) ≤ 12
opposite-most l h = literal-most (opp l) (omega arith)

pos-length : (v : ℕ) → length (literal_text (2 * v)) ≡ length (decimal v) + 1
pos-length v =
    let h : 2 * v / 2 ≡ v = omega arith in
    let m : 2 * v % 2 ≡ 0 = omega arith in
    literal-length (2 * v) ∙ rw (h, m) (omega arith)

neg-length : (v : ℕ) → length (literal_text (2 * v + 1)) ≡ length (decimal v) + 2
neg-length v =
    let h : (2 * v + 1) / 2 ≡ v = omega arith in
    let m : (2 * v + 1) % 2 ≡ 1 = omega arith in
    literal-length (2 * v + 1) ∙ rw (h, m) (omega arith)

line-length : (top : ℕ) (c : List ℕ) → length (line top c) ≡ length (decimal top) + 3 + length (flat_map literal_text c)
unfolding line
line-length top c =
    omega (
      arith,
      length-append (decimal top ++ space ++ flat_map literal_text c) (48 ∷ newline),
      length-append (decimal top ++ space) (flat_map literal_text c),
      length-append (decimal top) space,
    )

pair-length : (top k l : ℕ) → length (line top (k ∷ l ∷ [])) ≡ length (decimal top) + 3 + (length (literal_text k) + length (literal_text l))
unfolding flat_map
pair-length top k l =
    line-length top (k ∷ l ∷ [])
    ∙ omega (arith, length-append (literal_text k) (literal_text l ++ []), length-append (literal_text l) [])

triple-length : (top k l m : ℕ)
    → length (line top (k ∷ l ∷ m ∷ [])) ≡ length (decimal top) + 3 + (length (literal_text k) + length (literal_text l) + length (literal_text m))
unfolding flat_map
triple-length top k l m =
    line-length top (k ∷ l ∷ m ∷ [])
    ∙ omega (
      arith,
      length-append (literal_text k) (literal_text l ++ (literal_text m ++ [])),
      length-append (literal_text l) (literal_text m ++ []),
      length-append (literal_text m) [],
    )

-- the lines of some clauses, one after another
next-length : (top : ℕ) (c : List ℕ) (cs : List (List ℕ)) → length (hard_text top (c ∷ cs)) ≡ length (line top c) + length (hard_text top cs)
unfolding flat_map
next-length top c cs = length-append (line top c) (flat_map (line top) cs)

no_length : (top : ℕ) → length (hard_text top []) ≡ 0
unfolding flat_map
no_length top = refl

module _ (top x a b o d e : ℕ) (ea : length (decimal a) ≡ d) (eo : length (decimal o) ≡ e) where
  low_length : length (hard_text top (low_clauses x a o))
      ≡ 3 * (length (decimal top) + 3) + (length (literal_text x) + length (literal_text (opp x))) + 2 * d + 3 * e + 7
  low_length =
      rw (next-length, next-length, next-length, no_length, pair-length, pair-length, triple-length)
      (omega (arith, pos-length a, neg-length a, pos-length o, neg-length o))

  full_length : length (decimal b) ≡ d → length (hard_text top (full_clauses x a b o))
      ≡ 4 * (length (decimal top) + 3) + (length (literal_text x) + length (literal_text (opp x))) + 5 * d + 4 * e + 13
  full_length eb =
      rw (next-length, next-length, next-length, next-length, no_length, pair-length, triple-length, triple-length, triple-length)
      (omega (arith, pos-length a, neg-length a, pos-length b, neg-length b, pos-length o, neg-length o))

module _ (top x prev first cols d e : ℕ) (lx : 2 ≤ x) (lp : 1 ≤ prev) (lf : 1 ≤ first)
    (ed : (i : ℕ) → i < cols → length (decimal (prev + i)) ≡ d) (ee : (i : ℕ) → i < cols → length (decimal (first + i)) ≡ e) where
  abbrev full : ℕ
  full = 4 * (length (decimal top) + 3) + (length (literal_text x) + length (literal_text (opp x))) + 5 * d + 4 * e + 13

  one : (j : ℕ) → 1 ≤ j → j < cols → length (hard_text top (gate_clauses (cell_at x 1 prev j) (first + j))) ≡ full
  one j h g =
      rw (full-cell x prev j (first + j) 1 lx lp (omega arith) h)
      (full_length top x (prev + j) (prev + (j - 1)) (first + j) d e (ed j g) (ee j g) (ed (j - 1) (omega arith)))

  rest : (k j : ℕ) → 1 ≤ j → j + k ≡ cols → length (hard_text top (cells_from x 1 prev first cols j)) ≡ k * full
  rest zero j h q = ap length (put_end x 1 prev first cols (line top) j (omega arith)) ∙ omega arith
  rest (suc k) j h q =
      let t : j < cols = omega arith in
      let u : length (hard_text top (cells_from x 1 prev first cols (j + 1))) ≡ k * full = rest k (j + 1) (omega arith) (omega arith) in
      ap length (put_turn x 1 prev first cols (line top) j t)
      ∙ length-append (hard_text top (gate_clauses (cell_at x 1 prev j) (first + j))) (hard_text top (cells_from x 1 prev first cols (j + 1)))
      ∙ rw (one j h t, u) (omega arith)

  pub row_length : (b o : ℕ) → 1 ≤ cols → b ≡ length (decimal top) → o ≡ length (literal_text x) + length (literal_text (opp x))
      → 3 * (b + 3) + o + 2 * d + 3 * e + 7 + (cols - 1) * (4 * (b + 3) + o + 5 * d + 4 * e + 13)
      ≡ length (hard_text top (gates_clauses first (row (row_over prev) 1 x 1 cols)))
  row_length b o h eb eo =
      let f : length (decimal (prev + 0)) ≡ d = ed 0 (omega arith) in
      let g : length (decimal (first + 0)) ≡ e = ee 0 (omega arith) in
      let low = low_length top x (prev + 0) 0 (first + 0) d e f g in
      let cell = ap (λ (cs : List (List ℕ)). length (hard_text top cs)) (low-cell x prev 0 (first + 0) 1 lx lp (omega arith) (omega arith)) in
      let more = rest (cols - 1) 1 (omega arith) (omega arith) in
      rw (eb, eo)
      (sym (ap length (put_first x 1 prev first cols (line top) h)
      ∙ length-append (hard_text top (gate_clauses (cell_at x 1 prev 0) (first + 0))) (hard_text top (cells_from x 1 prev first cols 1))
      ∙ rw (cell ∙ low, more)))
