-- `blocks::uses::write_all_uses` meets its contract. The loop's invariant: the ORs of the resources that are left.
use mathlib.Core.Path.{◌≡◌}
use Prim.Native.Nat.{◌+◌, ◌*◌}
use lib.ListN.{length}
use Rattle.sink.specs.World.{world, step}
use Rattle.user_table.specs.Filled.{users_at}
use Rattle.items.specs.Written.{Left}
use Rattle.blocks.proofs.ResourceUse.{all_uses}
use Rattle.blocks.proofs.uses.write_all_uses.Given as goal

abbrev pub invariant-loop-r : goal.invariant-loop-r
invariant-loop-r l = (length l.text ≡ length l.initial.text) × (length l.words ≡ length l.initial.words) × (l.next ≡ l.v + l.r * l.times)
    × Left (step l.job l.model) l.next (all_uses l.times (users_at l.users) l.count l.r) l.v (all_uses l.times (users_at l.users) l.count 0)
    (world l.initial.z l.initial.text l.initial.words) (world l.z l.text l.words)
