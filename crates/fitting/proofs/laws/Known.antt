-- What is known of an accepted file and its tables: the rows of its groups and of its events' resources.
use mathlib.Core.Path.{◌≡◌}
use mathlib.Core.List.{List}
use Prim.Native.Nat.{ℕ, ◌*◌, ◌≤◌}
use native.Mathlib.Omega.{arith}
use lib.ListN.{length}
use Rattle.tables.specs.Room.{group_room}
use Rattle.tables.proofs.laws.Reading.{event-in, group-ascends}
use Rattle.constraint.specs.declared.kinds.Head.{Head}
use Rattle.instance.specs.Laws.{Accepted}
use Rattle.instance.proofs.laws.Laws.{event-rows, group-rows, groups_most}
use Rattle.user_table.specs.Filled.{EventRows}
use Rattle.list_nodes.specs.Ground.{Ground}

module _ {s d te tg : List ℕ} {h : Head} (a : Accepted s d te tg h) where
  pub known_groups : group_room s * 126 ≤ length tg → Ground tg h
  known_groups l =
      record {
        times = a.sizes.times_high;
        events = a.sizes.events_high;
        resources = omega (arith, a.sizes.resources_high);
        numbers = groups_most a;
        rows = group-rows a l;
        ascends = λ g k. group-ascends tg h.groups g a.groups k;
      }

  -- the table of users can be filled
  pub known_rows : length te ≡ 129024 → EventRows te h.events
  known_rows l =
      record {
        most = h.resources;
        few = a.sizes.resources_high;
        rows = event-rows a l;
        ascends = λ e k. (event-in d te h.events e a.events k).ascending;
      }
