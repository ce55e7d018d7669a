-- `blocks::starts::write_event_starts` meets its contract. The loop's invariant: the clauses of the times that are left.
use mathlib.Core.Path.{◌≡◌}
use mathlib.Core.List.{flat_map}
use Prim.Native.Nat.{◌+◌}
use lib.ListN.{length}
use Rattle.sink.specs.World.{world, step}
use Rattle.literals.specs.Numbered.{start_clauses}
use Rattle.items.specs.Written.{Left}
use Rattle.items.proofs.laws.Numbers.{after}
use Rattle.blocks.proofs.starts.write_event_starts.Given as goal

abbrev pub invariant-loop-t : goal.invariant-loop-t
invariant-loop-t l = (length l.text ≡ length l.initial.text) × (length l.words ≡ length l.initial.words)
    × Left (step l.job l.model) 0 (flat_map (start_clauses l.times l.starts (l.e + 1)) (after l.times l.t))
    0 (flat_map (start_clauses l.times l.starts (l.e + 1)) (after l.times 0))
    (world l.initial.z l.initial.text l.initial.words) (world l.z l.text l.words)
