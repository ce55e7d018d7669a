-- What is known of an accepted file and its tables, for the writers: the durations, and the formula by the tables.
use mathlib.Core.Path.{◌≡◌, refl, ◌∙◌}
use mathlib.Core.List.{List}
use Prim.Native.Nat.{ℕ}
use native.Mathlib.Omega.{arith}
use lib.ListN.{length, take}
use Rattle.scope.specs.Formula.{formula}
use Rattle.tables.proofs.laws.Reading.{event-in}
use Rattle.constraint.specs.declared.kinds.Head.{Head}
use Rattle.constraint.specs.Walk.{constraints_in}
use Rattle.instance.specs.Answers.{instance_of}
use Rattle.instance.specs.Laws.{Accepted}
use Rattle.user_table.specs.Users.{users_in}
use Rattle.literals.specs.Numbered.{numbered_formula}
use Rattle.literals.specs.Tables.{group_in}
use Rattle.user_table.proofs.laws.Held.{Held, formula-tables}
use Rattle.blocks.specs.Durations.{Durations}

module _ {s d te tg : List ℕ} {h : Head} (a : Accepted s d te tg h) where
  pub known_durations : length d ≡ 1024 → Durations d h.events h.times
  known_durations l =
      record {
        times = a.sizes.times_high;
        events = a.sizes.events_high;
        room = omega (arith, a.sizes.events_high);
        each = λ e k. (event-in d te h.events e a.events k).high;
      }

  -- the instance stands in the tables, and so its formula is that of the tables
  known_held : length d ≡ 1024 → Held (instance_of s d te tg h) h.times h.events h.resources h.groups d te tg
  known_held l =
      record {
        times = refl;
        resources = refl;
        events = refl;
        groups = refl;
        room = (known_durations l).room;
      }

  pub known_formula : length d ≡ 1024
      → formula (instance_of s d te tg h)
      ≡ numbered_formula h.times (users_in te h.events) (group_in h.groups tg) h.events h.resources (take h.events d)
      (constraints_in h s)
  known_formula l = formula-tables (known_held l) ∙ rw a.constraints
