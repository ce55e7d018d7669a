-- The walk over the constraints of a file: what it is lent, and what is known after each of them: laws.
use mathlib.Core.Path.{◌≡◌, refl, ◌∙◌}
use mathlib.Core.List.{List, [], ◌∷◌, ◌++◌}
use Prim.Native.Nat.{ℕ, ◌+◌, ◌≤◌, ◌<◌}
use native.Mathlib.Omega.{arith}
use lib.ListN.{length, drop}
use Rattle.std.proofs.Common.{Result, Ok}
use Rattle.scope.specs.Kinds.{Constraint}
use Rattle.scope.specs.declared.refusal.Refusal.{Refusal}
use Rattle.scope.specs.Cnf.{gates}
use Rattle.constraint.specs.declared.kinds.Constraint as decl
use Rattle.constraint.specs.declared.kinds.Head.{Head}
use Rattle.constraint.specs.Answers.{counts_in, said_next, constraint_of}
use Rattle.constraint.specs.Decoded.{decoded_at}
use Rattle.constraint.specs.Walk.{Walk, constraints_in}
use Rattle.constraint.proofs.laws.Walk.{walk_end}
use Rattle.instance.proofs.laws.Laws.{NextOf, accepted_next}
use Rattle.sink.specs.Run.{Ran}
use Rattle.sink.specs.Lines.{Line, lines}
use Rattle.sink.specs.World.{World}
use Rattle.literals.specs.Numbered.{constraint_items}
use Rattle.fitting.proofs.laws.Fitting.{known_fits}
use Rattle.items.specs.Written.{Room, Wrote, Left, left_start, left_turn, left_end, left_room}
use Rattle.items.proofs.laws.Written.{room_first, room-same}
use Rattle.clauses.specs.Fits.{Fits, constraint_part}
use Rattle.clauses.specs.Walked.{items_of, Walkable}

module _ (d us tg : List ℕ) (h : Head) (v : ℕ) where
  -- those of the first constraint, and the others
  next_items : {ds cs : List Constraint} {c : Constraint} {v' : ℕ} → ds ≡ c ∷ cs
      → v' ≡ v + gates (constraint_part d us tg h c.kind c.weight v)
      → items_of d us tg h ds v ≡ constraint_part d us tg h c.kind c.weight v ++ items_of d us tg h cs v'
  unfolding constraint_items
  next_items e f = rw (e, f)

  no_items : {ds : List Constraint} → ds ≡ [] → items_of d us tg h ds v ≡ []
  unfolding constraint_items
  no_items e = rw e

-- a list of the same length in the store changes nothing
pub walkable-kept : {s d us tg list after : List ℕ} {h : Head} {v : ℕ} → Walkable s d us tg list h v → length after ≡ length list → Walkable s d us tg after h v
walkable-kept w e =
    record {
      resources = w.resources;
      accepted = w.accepted;
      filled = w.filled;
      durations_long = w.durations_long;
      groups_long = w.groups_long;
      list_long = e ∙ w.list_long;
      room = w.room;
    }

-- after i of the constraints: the others stand from an offset on, and have the variables from v on
pub record Part (f : Line → World → World) (s d us tg : List ℕ) (h : Head) (first i at v : ℕ) (w₀ w : World) : Type 0 where
  pub walk : Walk (counts_in h) s h.constraints i at (constraints_in h s)
  pub some : 1 ≤ v
  pub left : Left f v (items_of d us tg h (drop i (constraints_in h s)) v) first (items_of d us tg h (constraints_in h s) first) w₀ w

module _ {f : Line → World → World} {s d us tg list : List ℕ} {h : Head} {first : ℕ} (k : Walkable s d us tg list h first) where
  -- at the start
  pub part_start : {w : World} → Part f s d us tg h first 0 h.start first w w
  part_start = record { walk = k.accepted.walk; some = k.room.some; left = left_start refl }

  module _ {i at v : ℕ} {w₀ w : World} (p : Part f s d us tg h first i at v w₀ w) where
    -- constraint number i is next, where the call answered x with the store l
    pub part_read : (l : List ℕ) (x : Result (decl.Constraint × ℕ) Refusal) {c : decl.Constraint} {next : ℕ} → i < h.constraints
        → said_next l x ≡ decoded_at (counts_in h) s at → x ≡ Ok (c, next) → NextOf k.accepted i next (constraint_of l c)
    part_read l x b e t = accepted_next k.accepted l x p.walk b e t

    module _ {next : ℕ} {c : Constraint} (n : NextOf k.accepted i next c) where
      -- its writer can be called
      pub part_fits : Fits d us tg list h c.kind
      part_fits = known_fits k.accepted k.filled n.valid k.durations_long k.groups_long k.list_long

      pub part_room : Room v (constraint_part d us tg h c.kind c.weight v)
      part_room =
          room_first _ _ (room-same (next_items d us tg h v n.whole refl) (left_room p.some p.left k.room))

      -- and was
      pub part_next : {v' : ℕ} {w' : World} → Wrote f v (constraint_part d us tg h c.kind c.weight v) w w' v'
          → Part f s d us tg h first (i + 1) next v' w₀ w'
      part_next q =
          record {
            walk = n.walk;
            some = omega (arith, q.next, p.some);
            left = left_turn (next_items d us tg h v n.whole q.next) p.left q;
          }

    -- at the end
    pub part_end : h.constraints ≤ i → Ran f (lines first (items_of d us tg h (constraints_in h s) first)) w₀ w
    part_end b = (left_end (no_items d us tg h v (walk_end p.walk b)) p.left).ran
