-- One list of a constraint and then the others, as the loop takes them: number t + 1 stands in the store.
use mathlib.Core.Path.{◌≡◌, sym, ap, ◌∙◌}
use mathlib.Core.List.{List, [], ◌∷◌, ◌++◌, map}
use Prim.Native.Nat.{ℕ, ◌+◌, ◌-◌, ◌≤◌, ◌<◌}
use native.Mathlib.Numerals.{add-one}
use native.Mathlib.Omega.{arith}
use lib.ListN.{length, drop, length-map, get_or-map, drop_of_length-le}
use lib.Seq.{drop-cons}
use Rattle.scope.specs.Cnf.{Gate, Item, gate}
use Rattle.scope.specs.Kinds.{Kind, Listed, Counted}
use Rattle.scope.specs.Formula.{ref_literal, node_gate}
use Rattle.parsing.specs.Each.{Each}
use Rattle.parsing.proofs.laws.Each.{each_at}
use Rattle.constraint.specs.declared.kinds.Head.{Head}
use Rattle.constraint.specs.declared.kinds.Bounds.{Bounds}
use Rattle.constraint.specs.Bounds.{low_of, high_of, free_of}
use Rattle.constraint.proofs.laws.Bounds.{bounds-right}
use Rattle.sink.specs.Lines.{Line}
use Rattle.sink.specs.World.{World}
use Rattle.counters.specs.Rows.{gates-map}
use Rattle.user_table.specs.Filled.{users_at}
use Rattle.literals.specs.Tables.{group_in, duration_in}
use Rattle.literals.specs.Proper.{Proper}
use Rattle.literals.specs.NodeWords.{IsNode}
use Rattle.literals.specs.Numbered.{Numbered, no_list, number_of, numbered, numbered_items, all_numbered}
use Rattle.list_nodes.specs.declared.filled.Filled.{Filled}
use Rattle.list_nodes.specs.Stored.{counted_in, list_in, num_of, Stored, Short, Fits}
use Rattle.list.specs.Fillable.{Fillable}
use Rattle.list.proofs.laws.Literals.{OverLiterals, list_literals}
use Rattle.items.specs.Counted.{counted}
use Rattle.items.specs.Written.{Room, Wrote, Left, gates_both, wrote_same}
use Rattle.items.proofs.laws.Written.{room-same}
use Rattle.items.proofs.laws.Lists.{bounds_of, list-items, lists_turn, lists_room}
use Rattle.list_clauses.specs.Stored.{ListStored, members}
use Rattle.list_clauses.proofs.laws.Filled.{InStore, filled_list, filled_wrote}
use Rattle.list_clauses.specs.Filled as nodes
use Rattle.list_clauses.proofs.laws.Filled as nodes_laws
use Rattle.clauses.specs.Fits.{lists_in}

module _ (d users groups : List ℕ) (h : Head) (k : Kind) where
  -- what the constraint counts, and its lists after t of them
  abbrev counts : Counted
  counts = counted_in d (users_at users) groups h k

  abbrev pub lists_left : ℕ → List Numbered
  lists_left t = drop t (lists_in d users groups h k)

  abbrev list_now : ℕ → Listed
  list_now t = list_in d (users_at users) groups h k (t + 1)

  pub none_left : (t : ℕ) → length counts.lists ≤ t → lists_left t ≡ []
  unfolding numbered
  none_left t g =
      let few : length (lists_in d users groups h k) ≤ t = rw (length-map counts.lists (number_of (num_of h) counts)) g in
      drop_of_length-le (lists_in d users groups h k) few

  module _ (t : ℕ) (g : t < length counts.lists) where
    list_next : lists_left t ≡ number_of (num_of h) counts (list_now t) ∷ lists_left (t + 1)
    unfolding numbered
    list_next =
        let f : Listed → Numbered = number_of (num_of h) counts in
        let e : t + 1 - 1 ≡ t = omega arith in
        drop-cons (map f counts.lists) t (f no_list) (rw (length-map counts.lists f) g)
        ∙ rw (get_or-map f counts.lists t no_list, e, add-one t)

    -- its bounds, its items, and that they can be written
    module _ (w v : ℕ) (b : Bounds) (eb : b ≡ record { lo = low_of k; hi = high_of k; free = free_of k })
        (list : List ℕ) (fits : Fits d users groups list h k) (room : Room v (all_numbered w (lists_left t) v)) where
      gs : List Gate
      gs = map (node_gate (num_of h) v) (list_now t).nodes

      ms : List ℕ
      ms = map (ref_literal (num_of h) v) (list_now t).members

      bounds_same : bounds_of (number_of (num_of h) counts (list_now t)) ≡ b
      bounds_same = let r = bounds-right h.times (duration_in h.events d) (users_at users) (group_in h.groups groups) k in rw (r.lo, r.hi, r.free) (sym eb)

      items_same : numbered_items w (number_of (num_of h) counts (list_now t)) v ≡ map gate gs ++ counted w b ms (v + length gs)
      unfolding gs ms
      items_same = list-items w (number_of (num_of h) counts (list_now t)) v ∙ rw bounds_same

      list_room : Room v (map gate gs ++ counted w b ms (v + length gs))
      list_room = room-same items_same (lists_room w v list_next room)

      list_short : Short counts (list_now t)
      list_short = let e : t + 1 - 1 ≡ t = omega arith in rw e (each_at t no_list fits.short g)

      pub list_fillable : {words : List ℕ} → length words ≡ 34816 → Fillable d users groups list h k (t + 1) v words
      unfolding gs
      list_fillable l =
          record {
            fits = fits;
            first = omega arith;
            last = omega arith;
            small =
                omega (
                  arith,
                  list_room.small,
                  gates_both (map gate gs) (counted w b ms (v + length gs)),
                  gates-map gs,
                  length-map (list_now t).nodes (node_gate (num_of h) v),
                );
            room = l;
          }

      -- after it was filled into a store
      module _ (before : List ℕ) (l : length before ≡ 34816) {words : List ℕ} {r : Filled} (s : Stored (num_of h) (list_now t) v words r) where
        over : OverLiterals (num_of h) (list_now t) v
        over = list_literals d users groups list h (t + 1) v before room.some k (list_fillable l)

        in_store : InStore v gs ms words r.nodes r.at r.end
        unfolding gs ms
        in_store = record { holds = s.holds; nodes = s.nodes; start = s.at }

        few : length ms ≤ 255
        unfolding ms
        few = omega (arith, list_short.most, length-map (list_now t).members (ref_literal (num_of h) v))

        reached : b.lo ≤ length ms
        unfolding ms
        reached =
            omega (arith, list_short.reached, length-map (list_now t).members (ref_literal (num_of h) v), ap (λ (c : Bounds). c.lo) bounds_same)

        proper_inputs : Each IsNode gs
        unfolding gs
        proper_inputs = over.nodes

        proper_members : Each Proper ms
        unfolding ms
        proper_members = over.members

        pub list_stored : ListStored words r.nodes r.at r.end w b v
        list_stored = filled_list in_store w b proper_inputs proper_members few reached list_room

        -- the turn: what the writer says of all nodes that may stand in the store; the next variable is one too
        pub list_turn : {f : Line → World → World} {v' v₀ : ℕ} {all : List Item} {x₀ x x' : World}
            → Left f v (all_numbered w (lists_left t) v) v₀ all x₀ x
            → ((gs : List Gate) → nodes.Stored v gs words → r.nodes ≡ length gs
            → Wrote f v (map gate gs ++ counted w b (members words r.at r.end) (v + r.nodes)) x x' v')
            → (1 ≤ v') × Left f v' (all_numbered w (lists_left (t + 1)) v') v₀ all x₀ x'
        list_turn l q =
            let z = filled_wrote in_store w b proper_inputs proper_members few reached list_room q in
            (omega (arith, room.some, z.next), lists_turn w v list_next l (wrote_same (sym items_same) z))
