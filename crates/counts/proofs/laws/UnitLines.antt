-- The lines of a counted list's bounds: what the writers' loops keep: laws.
use mathlib.Core.Path.{◌≡◌, refl, ap, ◌∙◌, sym}
use mathlib.Core.Bool.{Bool, true, false}
use mathlib.Core.List.{List, [], ◌∷◌, ◌++◌, map, append_assoc}
use Prim.Native.Nat.{ℕ, zero, suc, ◌+◌, ◌-◌, ◌*◌, ◌≤◌, ◌<◌}
use native.Mathlib.Nat.{add-zero, sub-zero}
use native.Mathlib.Omega.{arith}
use lib.Dec.{leb}
use borrow.Author.Tests.{le-leb, lt-ltb, le-ltb, leb-true, leb-false}
use Rattle.scope.specs.Kinds.{from}
use Rattle.scope.specs.Cnf.{pos, neg, opp, Gate, and, Item, gate, soft, gates}
use Rattle.scope.specs.Formula.{unit, low_units, high_units, short_units}
use Rattle.sink.specs.Lines.{Line, soft_line, lines, lines-append}
use Rattle.sink.specs.World.{row_over}
use Rattle.gates.specs.Units.{unit_line}
use Rattle.gates.proofs.laws.Units.{unit_lines}
use Rattle.counts.specs.UnitLines.{units_from, short_lines}

-- column j of the row whose first variable is q
pub over-column : (q j : ℕ) → 1 ≤ q → 1 ≤ j → row_over q j ≡ 2 * (q + j - 1)
over-column zero j h g = absurd (omega arith)
over-column (suc v) zero h g = absurd (omega arith)
over-column (suc v) (suc k) h g = ap pos (omega arith)

module _ (w : ℕ) (f : ℕ → ℕ) (j n : ℕ) where
  pub units_start : units_from w f (j + 0) (n - 0) ≡ units_from w f j n
  units_start = rw (add-zero, sub-zero)

  pub units_turn : (i : ℕ) → i < n → units_from w f (j + i) (n - i) ≡ (unit_line w (f (j + i)) ∷ []) ++ units_from w f (j + (i + 1)) (n - (i + 1))
  units_turn i h =
      let k : n - i ≡ suc (n - (i + 1)) = omega arith in
      let s : j + (i + 1) ≡ suc (j + i) = omega arith in
      rw (k, s)

  pub units_end : (i : ℕ) → n ≤ i → units_from w f (j + i) (n - i) ≡ []
  units_end i h = let k : n - i ≡ 0 = omega arith in rw k

-- soft units as lines
softs-from : (m w : ℕ) (f : ℕ → ℕ) (j k : ℕ) → lines m (map (λ i. soft (suc w) (f i)) (from j k)) ≡ units_from (suc w) f j k
unfolding lines from
softs-from m w f j zero = refl
softs-from m w f j (suc k) = ap (◌∷◌ (soft_line (suc w) (f j))) (softs-from m w f (suc j) k)

-- the low part
module _ (m w : ℕ) (q : ℕ → ℕ) (lo : ℕ) where
  pub low_hard : w ≡ 0 → 1 ≤ lo → lines m (low_units w q lo) ≡ unit_line w (q lo) ∷ []
  unfolding lines low_units
  low_hard e h = rw (e, le-leb 1 lo h)

  pub low_soft : (w ≡ 0 → ⊥) → lines m (low_units w q lo) ≡ units_from w q 1 lo
  unfolding low_units
  low_soft z = go w z
    where
      go : (w : ℕ) → (w ≡ 0 → ⊥) → lines m (low_units w q lo) ≡ units_from w q 1 lo
      go zero z = absurd (z refl)
      go (suc v) z = softs-from m v q 1 lo

-- the high part
module _ (m w : ℕ) (q : ℕ → ℕ) (hi n : ℕ) where
  pub high_none : n ≤ hi → lines m (high_units w q hi n) ≡ []
  unfolding lines high_units from
  high_none h = go w
    where
      go : (w : ℕ) → lines m (high_units w q hi n) ≡ []
      go zero = rw (le-ltb hi n h)
      go (suc v) = let k : n - hi ≡ 0 = omega arith in rw k

  pub high_hard : w ≡ 0 → hi < n → lines m (high_units w q hi n) ≡ unit_line w (opp (q (hi + 1))) ∷ []
  unfolding lines high_units
  high_hard e h = rw (e, lt-ltb hi n h)

  pub high_soft : (w ≡ 0 → ⊥) → lines m (high_units w q hi n) ≡ units_from w (λ j. opp (q j)) (hi + 1) (n - hi)
  unfolding high_units
  high_soft z = go w z
    where
      go : (w : ℕ) → (w ≡ 0 → ⊥) → lines m (high_units w q hi n) ≡ units_from w (λ j. opp (q j)) (hi + 1) (n - hi)
      go zero z = absurd (z refl)
      go (suc v) z = softs-from m v (λ j. opp (q j)) (hi + 1) (n - hi)

-- kind 6's low part, from its variable i on
abbrev pub shorts_from : ℕ → (ℕ → ℕ) → ℕ → ℕ → ℕ → List Line
shorts_from w q v n i = lines (v + i) (short_units w q (2 + i) (n - i) (v + i))

unit-gates : (w l : ℕ) → gates (unit w l ∷ []) ≡ 0
unit-gates zero l = refl
unit-gates (suc w) l = refl

-- a gate, a unit, and what follows
pair-lines : (v : ℕ) (g : Gate) (w l : ℕ) (is : List Item)
    → lines v (gate g ∷ unit w l ∷ is) ≡ (lines v (gate g ∷ []) ++ (unit_line w l ∷ [])) ++ lines (suc v) is
pair-lines v g w l is =
    let n : v + 1 + gates (unit w l ∷ []) ≡ suc v = omega (arith, unit-gates w l) in
    lines-append v (gate g ∷ []) (unit w l ∷ is)
    ∙ ap (◌++◌ (lines v (gate g ∷ []))) (lines-append (v + 1) (unit w l ∷ []) is ∙ rw (n, unit_lines (v + 1) w l))
    ∙ sym (append_assoc (lines v (gate g ∷ [])) (unit_line w l ∷ []) (lines (suc v) is))

module _ (w : ℕ) (q : ℕ → ℕ) (v n : ℕ) where
  pub shorts_start : shorts_from w q v n 0 ≡ lines v (short_units w q 2 n v)
  shorts_start = rw (add-zero, sub-zero)

  pub shorts_turn : (i : ℕ) → i < n → shorts_from w q v n i ≡ short_lines w (q 1) (q (2 + i)) (v + i) ++ shorts_from w q v n (i + 1)
  unfolding short_units
  shorts_turn i h =
      let k : n - i ≡ suc (n - (i + 1)) = omega arith in
      let s : v + (i + 1) ≡ suc (v + i) = omega arith in
      let t : 2 + (i + 1) ≡ suc (2 + i) = omega arith in
      let rest : List Item = short_units w q (suc (2 + i)) (n - (i + 1)) (suc (v + i)) in
      rw (k, s, t) (pair-lines (v + i) (and (q 1 ∷ opp (q (2 + i)) ∷ [])) w (neg (v + i)) rest)

  pub shorts_end : (i : ℕ) → n ≤ i → shorts_from w q v n i ≡ []
  unfolding lines short_units
  shorts_end i h = let k : n - i ≡ 0 = omega arith in rw k

-- the high part adds no variable, so it does not matter which comes next
pub high-any : (n m w : ℕ) (q : ℕ → ℕ) (hi k : ℕ) → lines n (high_units w q hi k) ≡ lines m (high_units w q hi k)
high-any n m w q hi k = go (leb k hi) refl w
  where
    go : (t : Bool) → leb k hi ≡ t → (w : ℕ) → lines n (high_units w q hi k) ≡ lines m (high_units w q hi k)
    go true e w = let h : k ≤ hi = leb-true k hi e in high_none n w q hi k h ∙ sym (high_none m w q hi k h)
    go false e zero = let h : hi < k = leb-false k hi e in high_hard n 0 q hi k refl h ∙ sym (high_hard m 0 q hi k refl h)
    go false e (suc v) =
        let z : suc v ≡ 0 → ⊥ = λ p. omega arith in high_soft n (suc v) q hi k z ∙ sym (high_soft m (suc v) q hi k z)
