-- The run of a check: what the machine and the stores become, turn by turn. It says nothing of what a turn means.
use mathlib.Core.Path.{◌≡◌}
use mathlib.Core.Bool.{true}
use mathlib.Core.List.{List}
use Prim.Native.Nat.{ℕ, ◌≤◌, ◌<◌}
use lib.ListN.{length}
use Rattle.std.specs.Prelude.{Result}
use Rattle.scope.specs.declared.refusal.Refusal.{Refusal}
use Rattle.directory.specs.declared.Row.{Row}
use Rattle.lookup.specs.declared.Probe.{Probe}
use Rattle.directory.proofs.laws.Rows.{Dies, Appends}
use Rattle.lookup.proofs.laws.Lookup.{Finds}
use Rattle.hints.specs.declared.machine.Phase.TheVariants.{Next}
use Rattle.hints.specs.declared.machine.Turn.TheVariants as turn
use Rattle.hints.specs.declared.machine.Machine.{Machine}
use Rattle.turns.specs.declared.check.Check.{Check}
use Rattle.hints.specs.Machine.{turn_of, with_row, stopped}
use Rattle.hints.proofs.laws.Machine.{Advances}
use Rattle.trail.specs.Recorded.{largest}
use Rattle.reading.proofs.laws.Copying.{Copies}
use Rattle.turns.specs.Check.{begun, judged, row_of, kept_as, entered, proceeded, unwound, unwound_marks, answer_of}
use Rattle.turns.proofs.laws.Check.{TakesStep}

-- the trail holds the literals that the hints of the step at hand set true, as far as it has room
pub record World : Type 0 where
  pub check : Check
  pub machine : Machine
  pub rows : ℕ → Row
  pub words : List ℕ
  pub marks : List ℕ
  pub trail : List ℕ

-- a turn, for the proof s, with variables up to the last and a directory of cap rows
pub data Turn (s : List ℕ) (last cap : ℕ) (w v : World) : Type 0 where
  looks : (p : Probe) → with_row (turn_of w.machine.phase) ≡ true → Finds cap w.rows w.check.tally.rows w.machine.want p
      → (turn_of w.machine.phase ≡ turn.Look → v.rows ≡ w.rows)
      → (turn_of w.machine.phase ≡ turn.Delete → Dies cap w.rows v.rows p.at)
      → Advances s w.machine p.hit w.words w.marks w.trail v.machine v.marks v.trail
      → v.check ≡ w.check → v.words ≡ w.words → Turn s last cap w v
  keeps : turn_of w.machine.phase ≡ turn.Keep → Appends cap w.rows v.rows w.check.tally.rows (row_of w.check)
      → v.check ≡ kept_as w.check → Copies s w.check.clause.literals w.words w.check.tally.words v.words
      → v.machine ≡ unwound v.check w.machine (length w.trail)
      → v.marks ≡ unwound_marks v.check w.machine v.words w.marks w.trail → Turn s last cap w v
  judges : turn_of w.machine.phase ≡ turn.Judge → v.check ≡ judged w.check w.machine.at (length s) (length w.words) cap
      → v.machine ≡ proceeded v.check w.machine → v.rows ≡ w.rows → v.words ≡ w.words → v.marks ≡ w.marks
      → v.trail ≡ w.trail → Turn s last cap w v
  reads : turn_of w.machine.phase ≡ turn.Read → TakesStep s w.check w.machine.at last w.marks v.check v.marks
      → v.machine ≡ entered s v.check → v.rows ≡ w.rows → v.words ≡ w.words → Turn s last cap w v

-- no turn changes the lengths of the marks and of the trail
pub data Ran (s : List ℕ) (last cap : ℕ) (w : World) : World → Type 0 where
  none : Ran s last cap w w
  more : (v u : World) → Ran s last cap w v → Turn s last cap v u → length u.marks ≡ length v.marks
      → length u.trail ≡ length v.trail → Ran s last cap w u

abbrev pub world : Check → Machine → (ℕ → Row) → List ℕ → List ℕ → List ℕ → World
world c m R ws ms tr = record { check = c; machine = m; rows = R; words = ws; marks = ms; trail = tr }

-- before the first step
abbrev pub ready : ℕ → ℕ → (ℕ → Row) → List ℕ → List ℕ → List ℕ → World
ready n used R ws ms tr = world (begun n used) (stopped Next 0) R ws ms tr

-- a check that was driven to its end with some trail, and what it leaves in the stores; no store is longer than a word of the
-- machine can say
pub record Driven (s : List ℕ) (last cap n used : ℕ) (R : ℕ → Row) (ws ms : List ℕ) (r : Result ℕ Refusal) (R' : ℕ → Row) (ws' ms' : List ℕ) : Type 0 where
  pub trail : List ℕ
  pub end : World
  pub ran : Ran s last cap (ready n used R ws ms trail) end
  pub over : turn_of end.machine.phase ≡ turn.End
  pub answer : r ≡ answer_of end.check.tally.steps end.machine.phase
  pub rows_left : R' ≡ end.rows
  pub words_left : ws' ≡ end.words
  pub marks_left : ms' ≡ end.marks
  pub few_bytes : length s ≤ largest
  pub few_words : length ws ≤ largest
  pub few_rows : cap ≤ largest
  pub short_trail : length trail < largest
