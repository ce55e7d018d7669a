use mathlib.Core.Path.{◌≡◌, refl}
use Prim.Native.Nat.{◌-◌, ◌≤◌, ◌<◌}
use native.Mathlib.Omega.{arith}
use lib.ListN.{length}
use Rattle.constraint.specs.Answers.{kind_of}
use Rattle.sink.specs.World.{world, step}
use Rattle.user_table.specs.Filled.{users_at}
use Rattle.literals.specs.Tables.{group_in, duration_in}
use Rattle.literals.specs.Numbered.{all_numbered}
use Rattle.list_nodes.specs.Stored.{counted_in}
use Rattle.items.proofs.laws.Lists.{lists-end}
use Rattle.items.specs.Written.{Left, left_start, left_room, left_end}
use Rattle.clauses.proofs.ListTurn.{lists_left, none_left, list_fillable, list_stored, list_turn}
use borrow.Author.Rules.{rules}
use Rattle.clauses.proofs.lists.write_lists.Given as goal

abbrev pub invariant-loop-t : goal.invariant-loop-t
invariant-loop-t l = (length l.text ≡ length l.initial.text) × (length l.words ≡ length l.initial.words) × (length l.store ≡ 34816) × (1 ≤ l.next)
    × Left (step l.job l.model) l.next (all_numbered l.c.weight (lists_left l.durations l.users l.groups l.head (kind_of l.list l.c.kind) l.t) l.next)
    l.v (all_numbered l.c.weight (lists_left l.durations l.users l.groups l.head (kind_of l.list l.c.kind) 0) l.v)
    (world l.initial.sink l.initial.text l.initial.words) (world l.sink l.text l.words)
