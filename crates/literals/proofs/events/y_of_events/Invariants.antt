-- `literals::events::y_of_events` meets its contract. The loop's invariant: the words are the literals of the events passed.
use mathlib.Core.Path.{◌≡◌}
use mathlib.Core.List.{[]}
use lib.ListN.{length}
use Rattle.literals.specs.Variables.{y_at}
use Rattle.literals.proofs.Turns.{Mapped}
use Rattle.literals.proofs.events.y_of_events.Given as goal

abbrev pub invariant-loop-k : goal.invariant-loop-k
invariant-loop-k l = (length l.out ≡ length l.initial.out) × Mapped (λ e. y_at l.times e l.t) [] l.events l.out l.k l.k
