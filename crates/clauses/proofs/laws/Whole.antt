-- The whole formula: its blocks and its constraints, each with room for its variables, are its lines.
use mathlib.Core.Path.{◌≡◌, ap, ◌∙◌, fun_ext}
use mathlib.Core.List.{List, ◌++◌}
use Prim.Native.Nat.{ℕ, ◌+◌}
use native.Mathlib.Omega.{arith}
use lib.ListN.{take}
use Rattle.scope.specs.Cnf.{Item, gates}
use Rattle.scope.specs.Formula.{primary, formula, variables}
use Rattle.tables.proofs.laws.Laws.{length-events}
use Rattle.constraint.specs.declared.kinds.Head.{Head}
use Rattle.constraint.specs.Walk.{constraints_in}
use Rattle.instance.specs.Answers.{instance_of}
use Rattle.sink.specs.Run.{Ran, then}
use Rattle.sink.specs.Lines.{Line, lines, lines-append}
use Rattle.sink.specs.World.{World}
use Rattle.user_table.specs.Users.{users_in}
use Rattle.user_table.specs.Filled.{Filled, users_at}
use Rattle.user_table.proofs.laws.Filled.{filled_users, filled_rows}
use Rattle.literals.specs.Tables.{group_in}
use Rattle.list_nodes.specs.Ground.{layout_of}
use Rattle.items.specs.Written.{Room, Wrote}
use Rattle.items.proofs.laws.Written.{room_first, room_rest}
use Rattle.clauses.specs.Writable.{Writable, formula_lines}
use Rattle.clauses.specs.Before.{formula_parts}
use Rattle.clauses.specs.Blocks.{before_items, Begun}
use Rattle.clauses.proofs.laws.Known.{known_durations, known_formula}
use Rattle.clauses.specs.Walked.{items_of, Walkable}

module _ {s d te tg list us : List ℕ} {h : Head} (w : Writable s d te tg list h) (u : Filled us (users_in te h.events)) where
  -- the variables of the blocks start here, and those of the constraints after them
  abbrev start : ℕ
  start = (layout_of h).primary + 1

  abbrev constraints_from : ℕ → List Item
  constraints_from v = items_of d us tg h (constraints_in h s) v

  whole_users : users_at us ≡ users_in te h.events
  whole_users = fun_ext (filled_users te h.events u)

  whole_items : formula (instance_of s d te tg h) ≡ before_items d us h ++ constraints_from (start + gates (before_items d us h))
  whole_items =
      (rw (← whole_users) at (known_formula w.accepted w.stores.tables.durations_long))
      ∙ formula_parts h.times (users_at us) h.events h.resources (take h.events d) (group_in h.groups tg) (constraints_in h s)

  whole_start : primary (instance_of s d te tg h) + 1 ≡ start
  whole_start = rw (length-events d te h.events)

  whole_room : Room start (before_items d us h ++ constraints_from (start + gates (before_items d us h)))
  unfolding variables
  whole_room = record { some = omega arith; small = omega (arith, w.few, ap gates whole_items, whole_start) }

  -- what the writer of each part asks for
  pub whole_begun : Begun d us h
  whole_begun =
      record {
        durations = known_durations w.accepted w.stores.tables.durations_long;
        resources = w.accepted.sizes.resources_high;
        rows = filled_rows te h.events u w.accepted.sizes.events_high;
        room = room_first (before_items d us h) (constraints_from (start + gates (before_items d us h))) whole_room;
      }

  module _ {f : Line → World → World} {v : ℕ} {w₀ w₁ : World} (p : Wrote f start (before_items d us h) w₀ w₁ v) where
    pub whole_walkable : Walkable s d us tg list h v
    whole_walkable =
        record {
          resources = te;
          accepted = w.accepted;
          filled = u;
          durations_long = w.stores.tables.durations_long;
          groups_long = w.stores.tables.groups_long;
          list_long = w.stores.list_long;
          room = rw p.next (room_rest (before_items d us h) (constraints_from (start + gates (before_items d us h))) whole_room);
        }

    -- both together
    pub whole_ran : {w₂ : World} → Ran f (lines v (constraints_from v)) w₁ w₂ → Ran f (formula_lines (instance_of s d te tg h)) w₀ w₂
    unfolding formula_lines
    whole_ran {w₂} q =
        let r : Ran f (lines (start + gates (before_items d us h)) (constraints_from (start + gates (before_items d us h)))) w₁ w₂ = rw p.next at q in
        rw (whole_start, whole_items, lines-append start (before_items d us h) (constraints_from (start + gates (before_items d us h)))) (then p.ran r)
