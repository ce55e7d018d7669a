-- `literals::times::all_times` meets its contract. The loop's invariant: the words are the literals of the times passed.
use mathlib.Core.Path.{◌≡◌}
use mathlib.Core.List.{map}
use lib.ListN.{length}
use Rattle.scope.specs.Kinds.{up_to}
use Rattle.literals.specs.Variables.{literal_at}
use Rattle.literals.specs.Words.{Holds}
use Rattle.literals.proofs.times.all_times.Given as goal

abbrev pub invariant-loop-n : goal.invariant-loop-n
invariant-loop-n l = (length l.out ≡ length l.initial.out) × Holds l.out l.n (map (literal_at l.base) (up_to l.n))
