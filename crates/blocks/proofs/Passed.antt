-- Starts and uses in the modes that pass over hard clauses: nothing happens.
use mathlib.Core.Path.{◌≡◌}
use mathlib.Core.Bool.{true}
use mathlib.Core.List.{List, [], ◌∷◌, map, flat_map}
use Prim.Native.Nat.{ℕ, ◌+◌}
use Rattle.scope.specs.Kinds.{up_to}
use Rattle.scope.specs.Cnf.{Gate, Item, gate, hard, gates}
use Rattle.sink.specs.Run.{Ran, none, then, same}
use Rattle.sink.specs.Lines.{lines, lines-append, gates_clauses}
use Rattle.sink.proofs.laws.Lines.{lines-gates}
use Rattle.sink.specs.World.{World, step}
use Rattle.sink.specs.Skipped.{skipping}
use Rattle.sink.proofs.laws.Skipped.{skipped}
use Rattle.sink.specs.declared.Job.{Job}
use Rattle.literals.specs.Numbered.{start_clauses}

-- items whose lines change nothing, whatever the next variable
record Idle (k : Job) (m : List ℕ) (is : List Item) : Type 0 where
  idle : (n : ℕ) {w : World} → Ran (step k m) (lines n is) w w

module _ (k : Job) (m : List ℕ) (h : skipping k.mode ≡ true) where
  two_idle : (a b : List ℕ) → Idle k m (hard a ∷ hard b ∷ [])
  unfolding lines
  two_idle a b = record { idle = λ n. skipped k m (a ∷ b ∷ []) h }

  start_idle : (T s e t : ℕ) → Idle k m (start_clauses T s e t)
  unfolding start_clauses
  start_idle T s e t = two_idle _ _

  each_idle : (f : ℕ → List Item) → ((x : ℕ) → Idle k m (f x)) → (xs : List ℕ) → Idle k m (flat_map f xs)
  unfolding flat_map lines
  each_idle f g [] = record { idle = λ n. none }
  each_idle f g (x ∷ xs) =
      record { idle = λ n. same (lines-append n (f x) (flat_map f xs)) (then ((g x).idle n) ((each_idle f g xs).idle (n + gates (f x)))) }

  pub starts_passed : (T s E : ℕ) {w : World}
      → Ran (step k m) (lines 0 (flat_map (λ e. flat_map (start_clauses T s e) (up_to T)) (up_to E))) w w
  starts_passed T s E =
      (each_idle (λ e. flat_map (start_clauses T s e) (up_to T)) (λ e. each_idle (start_clauses T s e) (start_idle T s e) (up_to T)) (up_to E)).idle 0

  pub gates_passed : (n : ℕ) (gs : List Gate) {w : World} → Ran (step k m) (lines n (map gate gs)) w w
  gates_passed n gs = same (lines-gates n gs) (skipped k m (gates_clauses n gs) h)
