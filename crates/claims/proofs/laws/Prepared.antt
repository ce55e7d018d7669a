-- What is ready before the first step of a proof: the formula in the words, or a refusal, 1 to 9 or 19: laws.
use mathlib.Core.Path.{◌≡◌, refl, sym, ap, ◌∙◌}
use mathlib.Core.Bool.{Bool, true, false, ◌&&◌}
use mathlib.Core.List.{List, flat_map}
use Prim.Native.Nat.{ℕ, ◌≤◌}
use native.Mathlib.Omega.{arith}
use lib.Dec.{leb}
use lib.ListN.{length}
use Rattle.std.specs.Prelude.{Result, Ok, Err}
use Rattle.std.specs.Result.{IsErr, IsErrAnd}
use Rattle.std.proofs.lemmas.Result.{err_from_is_err_and}
use Rattle.scope.specs.Answers.{means}
use borrow.Author.Tests.{leb-true}
use Rattle.laws.specs.Booleans.{and-true}
use Rattle.scope.specs.Parsed.{Answer, answered, then, provided}
use Rattle.scope.specs.Instance.{Instance}
use Rattle.scope.specs.Formula.{words, variables, hard_of, bounded_variables, bounded_hard}
use Rattle.scope.specs.Operations.{Lent, formula_fits}
use Rattle.scope.specs.declared.refusal.Refusal.{Refusal}
use Rattle.scope.specs.declared.FormulaSize.{FormulaSize}
use Rattle.constraint.specs.declared.kinds.Head.{Head}
use Rattle.instance.specs.Answers.{instance_of}
use Rattle.sizing.specs.declared.Size.{Size}
use Rattle.sizing.specs.Whole.{stored}
use Rattle.sizes.specs.Measured.{sized_of, bounded_of, SizedBy, BoundedBy, RefusedBy}
use Rattle.sizes.proofs.laws.Measured.{size-then, bound-then}
use Rattle.sink.specs.Run.{Ran, out, put}
use Rattle.building.specs.Marked.{mark}
use Rattle.claims.specs.declared.claim.Claim.{Claim}
use Rattle.claims.specs.declared.prepare.Ready.{Ready}
use Rattle.claims.proofs.laws.Standing.{stands}
use Rattle.lent.specs.Room.{size_fits}
use Rattle.claims.specs.Prepared.{fitting, formula_for, sized_as, ready_of, words_with, too_short}

-- r is told of an answer a, and it leaves ws' in the words ws
pub record Left (a : Answer (ℕ × List (List ℕ))) (ws ws' : List ℕ) (r : Result Ready Refusal) : Type 0 where
  pub told : means r ≡ ready_of a
  pub words : ws' ≡ words_with a ws

-- a refusal that `?` hands on
pub handed-on : {A : Type 0} (r : Result A Refusal) (f : Refusal) → IsErr r × IsErrAnd r (λ e. e ≡ f) → r ≡ Err f
handed-on r f h = let p = err_from_is_err_and r h.1 in p.1 ∙ ap Err p.2

-- the same answer
pub left-same : {a : Answer (ℕ × List (List ℕ))} {ws ws' : List ℕ} {r r' : Result Ready Refusal} → r ≡ r' → Left a ws ws' r'
    → (means r ≡ ready_of a) × (ws' ≡ words_with a ws)
left-same e p = (ap means e ∙ p.told, p.words)

-- the size of clauses with variables up to the last
abbrev pub size_of : ℕ → List (List ℕ) → FormulaSize
size_of last f = record { variables = last; clauses = length f; words = words f }

-- such clauses are to fit into the stores: 9, or the formula
module _ (l : Lent) (last : ℕ) (f : List (List ℕ)) {a : Answer (ℕ × List (List ℕ))} (answer : a ≡ fitting last f l) {w : FormulaSize}
    (size : w ≡ size_of last f) where
  fits_same : formula_fits last f l ≡ size_fits w l
  unfolding formula_fits
  fits_same = rw size

  left_short : size_fits w l ≡ false → (ws : List ℕ) → Left a ws ws (Err too_short)
  left_short e ws = rw (answer, fits_same, e) (record { told = refl; words = refl })

  left_formula : size_fits w l ≡ true → {ws ws' : List ℕ} {n : ℕ} → Ran put (flat_map mark f) (out 0 ws) (out n ws')
      → length ws ≡ l.words → length ws ≤ 9223372036854775807 → Left a ws ws' (Ok (sized_as w))
  left_formula e {ws} p long short =
      let t = and-true (leb w.words l.words && leb w.clauses l.rows) (leb w.variables l.bytes) e in
      let u = and-true (leb w.words l.words) (leb w.clauses l.rows) t.0 in
      let room : words f ≤ l.words = rw size at (leb-true w.words l.words u.0) in
      rw (answer, fits_same, e) (record { told = rw size; words = stands f p (omega arith) short })

-- at a bound: the hard clauses and the tail
module _ (s : List ℕ) (B : ℕ) (l : Lent) where
  abbrev bounded : Instance → Answer (ℕ × List (List ℕ))
  bounded i = fitting (bounded_variables i B) (bounded_hard i B) l

  pub bounded_for : formula_for s (Claim.Bound B) l ≡ then (bounded_of s B) bounded
  unfolding formula_for
  bounded_for = bound-then s B bounded

  -- 1 to 8, 19
  pub bounded_refused : {f : Refusal} → RefusedBy (bounded_of s B) f → (ws : List ℕ)
      → Left (formula_for s (Claim.Bound B) l) ws ws (Err f)
  bounded_refused b ws = rw (bounded_for, b.answer) (record { told = refl; words = refl })

  module _ {d te tg : List ℕ} {h : Head} {z : Size} {w : FormulaSize} (b : BoundedBy s B d te tg h z w) where
    abbrev i : Instance
    i = instance_of s d te tg h

    judged : formula_for s (Claim.Bound B) l ≡ bounded i
    judged = bounded_for ∙ rw b.answer

    pub bounded_short : size_fits w l ≡ false → (ws : List ℕ)
        → Left (formula_for s (Claim.Bound B) l) ws ws (Err too_short)
    bounded_short e ws = left_short l (bounded_variables i B) (bounded_hard i B) judged b.whole e ws

    pub bounded_in : size_fits w l ≡ true → {ws ws' : List ℕ} {n : ℕ} → Ran put (flat_map mark (bounded_hard i B)) (out 0 ws) (out n ws')
        → length ws ≡ l.words → length ws ≤ 9223372036854775807
        → Left (formula_for s (Claim.Bound B) l) ws ws' (Ok (sized_as w))
    bounded_in e p long short = left_formula l (bounded_variables i B) (bounded_hard i B) judged b.whole e p long short

-- without the tail: the hard clauses alone
module _ (s : List ℕ) (l : Lent) where
  abbrev alone : Instance → Answer (ℕ × List (List ℕ))
  alone i = fitting (variables i) (hard_of i) l

  pub hard_for : formula_for s Claim.AnyCost l ≡ then (sized_of s) alone
  unfolding formula_for
  hard_for = size-then s alone

  -- 1 to 6, 8, 19
  pub hard_refused : {f : Refusal} → RefusedBy (sized_of s) f → (ws : List ℕ)
      → Left (formula_for s Claim.AnyCost l) ws ws (Err f)
  hard_refused b ws = rw (hard_for, b.answer) (record { told = refl; words = refl })

  module _ {d te tg : List ℕ} {h : Head} {z : Size} {w : FormulaSize} (b : SizedBy s d te tg h z) (e : w ≡ stored z) where
    abbrev j : Instance
    j = instance_of s d te tg h

    hard_size : w ≡ size_of (variables j) (hard_of j)
    unfolding stored
    hard_size = e ∙ rw (b.numbers.variables, b.numbers.clauses, b.numbers.words)

    hard_judged : formula_for s Claim.AnyCost l ≡ alone j
    hard_judged = hard_for ∙ rw b.answer

    pub hard_short : size_fits w l ≡ false → (ws : List ℕ) → Left (formula_for s Claim.AnyCost l) ws ws (Err too_short)
    hard_short f ws = left_short l (variables j) (hard_of j) hard_judged hard_size f ws

    pub hard_in : size_fits w l ≡ true → {ws ws' : List ℕ} {n : ℕ} → Ran put (flat_map mark (hard_of j)) (out 0 ws) (out n ws')
        → length ws ≡ l.words → length ws ≤ 9223372036854775807
        → Left (formula_for s Claim.AnyCost l) ws ws' (Ok (sized_as w))
    hard_in f p long short = left_formula l (variables j) (hard_of j) hard_judged hard_size f p long short
