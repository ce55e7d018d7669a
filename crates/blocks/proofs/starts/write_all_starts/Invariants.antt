-- `blocks::starts::write_all_starts` meets its contract. The loop's invariant: the clauses of the events that are left.
use mathlib.Core.Path.{◌≡◌}
use mathlib.Core.List.{List, flat_map}
use Prim.Native.Nat.{ℕ}
use lib.ListN.{length}
use Rattle.scope.specs.Kinds.{up_to}
use Rattle.scope.specs.Cnf.{Item}
use Rattle.sink.specs.World.{world, step}
use Rattle.literals.specs.Numbered.{start_clauses}
use Rattle.items.specs.Written.{Left}
use Rattle.items.proofs.laws.Numbers.{after}
use Rattle.blocks.proofs.starts.write_all_starts.Given as goal

-- the clauses of an event
abbrev pub of_event : (T starts : ℕ) → ℕ → List Item
of_event T starts e = flat_map (start_clauses T starts e) (up_to T)

abbrev pub invariant-loop-e : goal.invariant-loop-e
invariant-loop-e l = (length l.text ≡ length l.initial.text) × (length l.words ≡ length l.initial.words)
    × Left (step l.job l.model) 0 (flat_map (of_event l.times l.starts) (after l.events l.e))
    0 (flat_map (of_event l.times l.starts) (after l.events 0))
    (world l.initial.z l.initial.text l.initial.words) (world l.z l.text l.words)
