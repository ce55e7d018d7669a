use mathlib.Core.Path.{◌≡◌}
use Prim.Native.Nat.{◌+◌}
use lib.ListN.{length}
use Rattle.sink.specs.World.{world, step}
use Rattle.items.specs.Written.{Left}
use Rattle.blocks.proofs.ResourceUse.{uses_left}
use Rattle.blocks.proofs.uses.write_resource_uses.Given as goal

abbrev pub invariant-loop-t : goal.invariant-loop-t
invariant-loop-t l = (length l.text ≡ length l.initial.text) × (length l.words ≡ length l.initial.words) × (length l.buf ≡ 1025)
    × Left (step l.job l.model) (l.v + l.t) (uses_left l.times l.events l.t) l.v (uses_left l.times l.events 0)
    (world l.initial.z l.initial.text l.initial.words) (world l.z l.text l.words)
