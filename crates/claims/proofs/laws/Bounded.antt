-- What the writer of the formula with its tail is given, and what it leaves in the words: laws.
use mathlib.Core.Path.{◌≡◌, ap, ◌∙◌}
use mathlib.Core.List.{List, [], ◌∷◌, ◌++◌, flat_map, append-nil}
use Prim.Native.Nat.{ℕ, zero, suc, ◌+◌, ◌*◌, ◌≤◌}
use native.Mathlib.Omega.{arith}
use lib.ListN.{length}
use Rattle.scope.specs.Instance.{Instance}
use Rattle.scope.specs.Formula.{variables, hard_of, soft_of, bounded_hard}
use Rattle.scope.specs.declared.FormulaSize.{FormulaSize}
use Rattle.constraint.specs.declared.kinds.Head.{Head}
use Rattle.instance.specs.Answers.{instance_of}
use Rattle.instance.specs.Stores.{Stores}
use Rattle.sizing.specs.declared.Size.{Size}
use Rattle.sizes.specs.Measured.{SizedBy, BoundedBy}
use Rattle.sink.specs.Run.{Ran, then, Out, out, put}
use Rattle.sink.proofs.laws.Run.{run_at}
use Rattle.sink.specs.Block.{mark}
use Rattle.sink.specs.Tails.{last_first}
use Rattle.sink.proofs.laws.Tails.{last-at}
use Rattle.sink.specs.declared.Sink.{Sink}
use Rattle.clauses.specs.Writable.{Writable}
use Rattle.claims.specs.Written.{RowsPut}
use Rattle.claims.proofs.laws.Tails.{unit_word, tail-words, tail_none, bounded-variables, bounded_words}
use Rattle.claims.specs.Bounded.{Bounding}

pub bounding : {s : List ℕ} {B : ℕ} {d te tg list : List ℕ} {h : Head} {z : Size} {w : FormulaSize} → BoundedBy s B d te tg h z w
    → Stores s d te tg list → Bounding s B d te tg list h z
bounding {s} {B} {d} {te} {tg} {list} {h} b l =
    record {
      writable =
          record {
            accepted = b.accepted;
            stores = l;
            few = omega (arith, b.few, bounded-variables (instance_of s d te tg h) B);
          };
      bound = b.bound;
      few = b.few;
      numbers = b.numbers;
    }

-- without the tail
pub hard-writable : {s d te tg list : List ℕ} {h : Head} {z : Size} → SizedBy s d te tg h z → Stores s d te tg list
    → Writable s d te tg list h
hard-writable b l = record { accepted = b.accepted; stores = l; few = b.few }

-- the tail's variables are among the formula's
module _ {s : List ℕ} {B : ℕ} {d te tg list : List ℕ} {h : Head} {z : Size} (b : Bounding s B d te tg list h z) where
  pub rows_fit_lem : z.variables + 1 + length (soft_of (instance_of s d te tg h)) * (B + 1) ≤ 8000001
  rows_fit_lem = omega (arith, b.few, b.numbers.variables, bounded-variables (instance_of s d te tg h) B)

  pub units_there : (z.units ≡ 0 → ⊥) → 1 ≤ length (soft_of (instance_of s d te tg h))
  units_there n = omega (arith, b.numbers.units)

  pub last_fits : {p : ℕ} → (z.units ≡ 0 → ⊥) → p ≡ last_first (B + 1) 0 (z.variables + 1) (length (soft_of (instance_of s d te tg h)))
      → p + B ≤ 8000000
  last_fits n e = go (length (soft_of (instance_of s d te tg h))) (units_there n) e rows_fit_lem
    where
      go : {p : ℕ} (k : ℕ) → 1 ≤ k → p ≡ last_first (B + 1) 0 (z.variables + 1) k → z.variables + 1 + k * (B + 1) ≤ 8000001
          → p + B ≤ 8000000
      go zero l e f = absurd (omega arith)
      go (suc k) l e f = omega (arith, last-at (B + 1) 0 (z.variables + 1) k)

-- a position is at most the largest
pub position : (xs : List ℕ) {ws ws' : List ℕ} {a : ℕ} → Ran put xs (out 0 ws) (out a ws') → a ≤ 9223372036854775807
position xs {ws} p = omega (arith, ap (λ (o : Out). o.at) p.eq, run_at xs ws 0 (omega arith))

-- the formula with its tail, after its hard clauses
module _ (i : Instance) (B : ℕ) {ws ws₁ : List ℕ} {a : ℕ} (p : Ran put (flat_map mark (hard_of i)) (out 0 ws) (out a ws₁)) where
  pub all_without_tail : length (soft_of i) ≡ 0 → Ran put (flat_map mark (bounded_hard i B)) (out 0 ws) (out a ws₁)
  all_without_tail e =
      let z : flat_map mark (bounded_hard i B) ≡ flat_map mark (hard_of i) =
      bounded_words i B
      ∙ ap (λ (xs : List ℕ). flat_map mark (hard_of i) ++ xs) (tail_none B (variables i + 1) (omega arith) (soft_of i) e)
      ∙ append-nil (flat_map mark (hard_of i)) in
      rw z p

  pub all_with_tail : {v : ℕ} {r : Sink} {ws₂ ws₃ : List ℕ} {b x : ℕ} → 1 ≤ length (soft_of i) → v ≡ variables i
      → RowsPut (soft_of i) (B + 1) (v + 1) a ws₁ r ws₂ → x ≡ unit_word B r.prev
      → Ran put (x ∷ []) (out r.at ws₂) (out b ws₃) → Ran put (flat_map mark (bounded_hard i B)) (out 0 ws) (out b ws₃)
  all_with_tail {r = r} l n rows e u =
      let q = rw n at rows in
      let z = bounded_words i B
      ∙ ap (λ (xs : List ℕ). flat_map mark (hard_of i) ++ xs) (tail-words B (variables i + 1) (omega arith) (soft_of i) l) in
      rw (z, ← q.last, ← e) (then p (then q.ran u))
