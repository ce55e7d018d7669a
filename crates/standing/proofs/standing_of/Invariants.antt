use mathlib.Core.Path.{◌≡◌}
use lib.Seq.{slice}
use Rattle.theory.specs.Marked.{standing, falsified}
use Rattle.marks.specs.Marks.{marks_of}
use Rattle.standing.specs.Clauses.{stands}
use Rattle.standing.proofs.standing_of.Given as goal

abbrev pub invariant-loop-i : goal.invariant-loop-i
invariant-loop-i l = standing (marks_of l.marks) (stands l.s) (slice l.i l.end l.words) ≡ standing (marks_of l.marks) falsified (slice l.first l.end l.words)
