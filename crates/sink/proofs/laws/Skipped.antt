-- Modes that pass over hard clauses: a run over clauses changes nothing: laws.
use mathlib.Core.Path.{◌≡◌, refl, sym, ap, ◌∙◌}
use mathlib.Core.Bool.{true}
use mathlib.Core.List.{List, [], ◌∷◌, map}
use Prim.Native.Nat.{ℕ}
use Rattle.laws.specs.Booleans.{never_true}
use Rattle.sink.specs.Run.{run, Ran}
use Rattle.sink.specs.Lines.{clause_line}
use Rattle.sink.specs.World.{World, step}
use Rattle.sink.specs.declared.Job.{Job}
use Rattle.sink.specs.declared.Mode.{Mode}
use Rattle.sink.specs.declared.Mode.TheVariants.{Measure, Text, SoftText, Words, Evaluate, Tail}
use Rattle.sink.specs.Skipped.{skipping}

skipped-step : (k : Job) (m c : List ℕ) (w : World) → (n : Mode) → k.mode ≡ n → skipping n ≡ true → step k m (clause_line c) w ≡ w
unfolding step
skipped-step k m c w Measure e h = never_true h
skipped-step k m c w Text e h = never_true h
skipped-step k m c w SoftText e h = rw e
skipped-step k m c w Words e h = never_true h
skipped-step k m c w Evaluate e h = never_true h
skipped-step k m c w Tail e h = rw e

skipped-run : (k : Job) (m : List ℕ) → skipping k.mode ≡ true → (cs : List (List ℕ)) (w : World) → run (step k m) (map clause_line cs) w ≡ w
skipped-run k m h [] w = refl
skipped-run k m h (c ∷ cs) w = ap (run (step k m) (map clause_line cs)) (skipped-step k m c w k.mode refl h) ∙ skipped-run k m h cs w

pub skipped : (k : Job) (m : List ℕ) (cs : List (List ℕ)) {w : World} → skipping k.mode ≡ true → Ran (step k m) (map clause_line cs) w w
skipped k m cs {w} h = record { eq = sym (skipped-run k m h cs w) }
