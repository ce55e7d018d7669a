-- The position of a run stops at 2 ^ 63 - 1.
use mathlib.Core.Path.{ap}
use mathlib.Core.Bool.{Bool, true, false, cond}
use mathlib.Core.List.{List, [], ◌∷◌, flat_map}
use Prim.Native.Nat.{ℕ, ◌≤◌}
use native.Mathlib.Omega.{arith}
use Rattle.sink.specs.Run.{run, Ran}
use Rattle.sink.proofs.laws.Run.{run_at}
use Rattle.sink.specs.Lines.{Line, clause_line, soft_line}
use Rattle.sink.specs.Block.{mark}
use Rattle.sink.specs.World.{World, put_words, rows_fit, row_clauses, next_row, tail_row, clause_step, soft_step, step}
use Rattle.sink.specs.declared.Job.{Job}
use Rattle.sink.specs.declared.Mode.{Mode}
use Rattle.sink.specs.declared.Mode.TheVariants.{Measure, Text, SoftText, Words, Evaluate, Tail}
use Rattle.scope.specs.Text.{line}

abbrev Placed : World → Type 0
Placed w = w.at ≤ 9223372036854775807

clause-placed : (md : Mode) (top : ℕ) (m c : List ℕ) (w : World) → Placed w → Placed (clause_step md top m c w)
clause-placed Measure top m c w h = omega arith
clause-placed Text top m c w h = omega (arith, run_at (line top c) w.text w.at h)
clause-placed SoftText top m c w h = h
clause-placed Words top m c w h = omega (arith, run_at (mark c) w.words w.at h)
clause-placed Evaluate top m c w h = omega arith
clause-placed Tail top m c w h = h

tail-placed : (cols n l : ℕ) (w : World) → Placed w → Placed (tail_row cols n l w)
unfolding tail_row
tail-placed cols n l w h = go (rows_fit cols w)
  where
    go : (b : Bool) → Placed (cond b (next_row cols (put_words (flat_map mark (row_clauses cols w.prev w.row n l)) w)) w)
    go true = omega (arith, run_at (flat_map mark (row_clauses cols w.prev w.row n l)) w.words w.at h)
    go false = h

soft-placed : (md : Mode) (cols : ℕ) (m : List ℕ) (n l : ℕ) (w : World) → Placed w → Placed (soft_step md cols m n l w)
soft-placed Measure cols m n l w h = omega arith
soft-placed Text cols m n l w h = h
soft-placed SoftText cols m n l w h = omega (arith, run_at (line n (l ∷ [])) w.text w.at h)
soft-placed Words cols m n l w h = h
soft-placed Evaluate cols m n l w h = h
soft-placed Tail cols m n l w h = tail-placed cols n l w h

-- through a run
pub run-placed : (k : Job) (m : List ℕ) (ls : List Line) (w : World) → w.at ≤ 9223372036854775807 → (run (step k m) ls w).at ≤ 9223372036854775807
unfolding step
run-placed k m [] w h = h
run-placed k m (clause_line c ∷ ls) w h = run-placed k m ls (step k m (clause_line c) w) (clause-placed k.mode k.top m c w h)
run-placed k m (soft_line n l ∷ ls) w h = run-placed k m ls (step k m (soft_line n l) w) (soft-placed k.mode k.cols m n l w h)

pub ran-placed : (k : Job) (m : List ℕ) {ls : List Line} {w w' : World} → Ran (step k m) ls w w' → w.at ≤ 9223372036854775807 → w'.at ≤ 9223372036854775807
ran-placed k m {ls} {w} r h = omega (arith, ap (λ (x : World). x.at) r.eq, run-placed k m ls w h)
