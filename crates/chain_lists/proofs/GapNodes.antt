-- Kind 11's nodes in the words: P and Q time by time, and O.
use Prim.Native.Nat.{ℕ, ◌+◌, ◌-◌, ◌*◌, ◌≤◌, ◌<◌, min}
use mathlib.Core.Path.{◌≡◌, refl, sym}
use mathlib.Core.List.{List, [], ◌∷◌, ◌++◌, map, append_assoc}
use native.Mathlib.Omega.{arith}
use native.Mathlib.Numerals.{add-one}
use lib.ListN.{length, take, set, length-append}
use Rattle.scope.specs.Cnf.{pos, Gate, or, and}
use Rattle.scope.specs.Kinds.{from}
use Rattle.literals.specs.Outputs.{every}
use Rattle.literals.specs.Words.{Holds}
use Rattle.literals.proofs.laws.Words.{holds_as}
use Rattle.literals.specs.NodeWords.{node_words}
use Rattle.list_nodes.proofs.laws.Runs.{length-every}
use Rattle.list_nodes.proofs.Nodes.{holds_then, or_stored}
use Rattle.chain_lists.specs.Gap.{soon_gate, soon_gates, late_gate, late_gates, either_inputs}

-- the first of the times that are left, and no more
pub time-step : (g : ℕ → Gate) (t n m : ℕ) → n ≡ m + 1 → map g (from t n) ≡ g t ∷ map g (from (t + 1) m)
unfolding from
time-step g t n m e = rw (e, add-one m, add-one t)

pub time-end : (g : ℕ → Gate) (t n : ℕ) → n ≡ 0 → map g (from t n) ≡ []
unfolding from
time-end g t n e = rw e

-- P from time 2 on, and one of it; Q from time 1 on
pub soon-times : (y n v : ℕ) → soon_gates y n v ≡ map (soon_gate y v) (from 2 (n + 1 - 2))
unfolding soon_gates
soon-times y n v = let e : n + 1 - 2 ≡ n - 1 = omega arith in rw e

pub soon-words : (before : List ℕ) (y v t o : ℕ)
    → before ++ node_words (and (pos (y + t) ∷ every 1 (v + (t - 1)) 1)) o ≡ before ++ node_words (soon_gate y v t) o
unfolding every
soon-words before y v t o = refl

pub late-times : (lo hi n v q : ℕ) → late_gates lo hi n v q ≡ map (late_gate lo hi v q) (from 1 (n + 1 - 1))
unfolding late_gates
late-times lo hi n v q = let e : n + 1 - 1 ≡ n = omega arith in rw e

-- O: its inputs, and its words
module _ (T y e n v q : ℕ) (h : e ≤ T) where
  length_inputs : length (either_inputs T y e n v q) ≡ T + n
  length_inputs =
      simp length-append
      (omega (arith, length-every 1 (y + (e + 1)) (T - e), length-every 1 v (min e 1), length-every 1 (v + e) (e - 1), length-every 1 q n))

  pub either_stored : (soon : ℕ) → soon ≡ e - 1 → (out : List ℕ) (at : ℕ) → at < length out
      → {o1 o2 o3 o4 : List ℕ} {i j k l : ℕ}
      → Holds o1 i (take (at + 1) (set out at (T + n)) ++ every 1 (y + e + 1) (T - e))
      → Holds o2 j (take i o1 ++ every 1 v (e - soon))
      → Holds o3 k (take j o2 ++ every 1 (v + e) soon)
      → Holds o4 l (take k o3 ++ every 1 q n)
      → l < length o4
      → Holds (set o4 l (2 * (q + n) + 1 + 2147483648)) (l + 1) (take at out ++ node_words (or (either_inputs T y e n v q)) (q + n))
  either_stored soon s out at m a b c d r =
      let before = take (at + 1) (set out at (T + n)) in
      let A = every 1 (y + (e + 1)) (T - e) in
      let B = every 1 v (min e 1) in
      let C = every 1 (v + e) (e - 1) in
      let D = every 1 q n in
      let f : y + e + 1 ≡ y + (e + 1) = omega arith in
      let g : e - soon ≡ min e 1 = omega arith in
      let p : (((before ++ A) ++ B) ++ C) ++ D ≡ before ++ (A ++ (B ++ (C ++ D))) = simp append_assoc in
      let w = holds_then D (holds_then C (holds_then B (rw f at a) (rw g at b)) (rw s at c)) d in
      or_stored out at (T + n) (either_inputs T y e n v q) m (sym length_inputs) (holds_as p w) r (q + n) (2 * (q + n) + 1 + 2147483648) refl
