use mathlib.Core.Path.{◌≡◌}
use lib.ListN.{length}
use lib.Seq.{slice}
use Rattle.standing.specs.Clauses.{wiped}
use Rattle.standing.proofs.wipe_clause.Given as goal

abbrev pub invariant-loop-i : goal.invariant-loop-i
invariant-loop-i l = (length l.marks ≡ length l.initial.marks)
    × (wiped l.marks (slice l.i l.end l.words) ≡ wiped l.initial.marks (slice l.first l.end l.words))
