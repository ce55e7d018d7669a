-- `blocks::durations::write_durations` meets its contract. The loop's invariant: the counted lists of the events that are left.
use mathlib.Core.Path.{◌≡◌}
use Prim.Native.Nat.{◌≤◌}
use lib.ListN.{length}
use Rattle.sink.specs.World.{world, step}
use Rattle.literals.specs.Numbered.{all_numbered}
use Rattle.items.specs.Written.{Left}
use Rattle.blocks.proofs.EventDuration.{durations_left}
use Rattle.blocks.proofs.durations.write_durations.Given as goal

abbrev pub invariant-loop-e : goal.invariant-loop-e
invariant-loop-e l = (length l.text ≡ length l.initial.text) × (length l.words ≡ length l.initial.words) × (length l.buf ≡ 125) × (1 ≤ l.next)
    × Left (step l.job l.model) l.next (all_numbered 0 (durations_left l.times l.events l.durations l.e) l.next)
    l.v (all_numbered 0 (durations_left l.times l.events l.durations 0) l.v)
    (world l.initial.sink l.initial.text l.initial.words) (world l.sink l.text l.words)
