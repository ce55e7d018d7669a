-- The words of nodes and members in a store: they are read as the gates of the nodes, and written as their items: laws.
use mathlib.Core.Path.{◌≡◌, refl, ap, ◌∙◌, sym, subst}
use mathlib.Core.List.{List, [], ◌∷◌, ◌++◌, map, append_assoc}
use Prim.Native.Nat.{ℕ, suc, ◌+◌, ◌-◌, ◌≤◌, ◌<◌}
use native.Mathlib.Omega.{arith}
use lib.ListN.{length, take, drop, length-append, length-map, length-take, take-append-drop}
use lib.Seq.{take_at, drop_at}
use Rattle.scope.specs.Cnf.{pos, neg, opp, Gate, or, and, cell, Item, gate, gates, gate_clauses}
use Rattle.parsing.specs.Each.{Each, each_more}
use Rattle.parsing.proofs.laws.Each.{each_at}
use Rattle.sink.specs.Run.{Ran, then}
use Rattle.sink.specs.Lines.{Line, clause_line, lines, lines-append}
use Rattle.sink.proofs.laws.Lines.{map-append}
use Rattle.sink.specs.World.{World}
use Rattle.counters.specs.Literals.{Literals}
use Rattle.counters.specs.Rows.{gates-map}
use Rattle.node_clauses.specs.LongClauses.{LongClause, node_clauses}
use Rattle.node_clauses.proofs.laws.LongClauses.{long_literals, literals-opposites, or_clauses, and_clauses}
use Rattle.literals.specs.Proper.{Proper}
use Rattle.literals.specs.Words.{Holds}
use Rattle.literals.specs.NodeWords.{inputs, long_front, long_last, node_words, nodes_words, IsNode}
use Rattle.constraint.specs.declared.kinds.Bounds.{Bounds}
use Rattle.items.specs.Counted.{counted}
use Rattle.items.specs.Written.{Room, Wrote, gates_both}
use Rattle.items.proofs.laws.Written.{room_rest}
use Rattle.list_clauses.specs.Stored.{store_clauses, StoreNodes, members, ListStored}
use Rattle.list_clauses.specs.Filled.{Stored}

-- literals of variables
pub proper-literals : {xs : List ℕ} → Each Proper xs → Literals xs
proper-literals p i h = let q = each_at i 0 p h in record { some = q.low; small = q.high }

-- a node's long clause
abbrev long_words : Gate → ℕ → List ℕ
long_words g o = long_front g ++ (long_last g o + 2147483648) ∷ []

long-length : (g : Gate) (o : ℕ) → IsNode g → length (long_words g o) ≡ length (inputs g) + 1
unfolding inputs
long-length (or ls) o h = rw length-append
long-length (and ls) o h = rw (length-append, length-map ls opp)
long-length (cell x a b) o h = absurd h

node_long : (g : Gate) (o : ℕ) → IsNode g → LongClause (long_words g o)
node_long (or ls) o h = long_literals ls (neg o) (proper-literals h)
node_long (and ls) o h = long_literals (map opp ls) (pos o) (literals-opposites ls (proper-literals h))
node_long (cell x a b) o h = absurd h

node-clauses : (g : Gate) (o : ℕ) → IsNode g → o < 1073741824 → node_clauses (long_words g o) ≡ gate_clauses g o
node-clauses (or ls) o h s = or_clauses ls o (proper-literals h) s
node-clauses (and ls) o h s = and_clauses ls o (proper-literals h) s
node-clauses (cell x a b) o h s = absurd h

module _ (v : ℕ) (g : Gate) (gs : List Gate) (rest : List ℕ) where
  first_words : nodes_words v (g ∷ gs) ++ rest ≡ length (inputs g) ∷ (long_words g v ++ (nodes_words (suc v) gs ++ rest))
  unfolding nodes_words node_words
  first_words = ap (◌∷◌ (length (inputs g))) (append_assoc (long_words g v) (nodes_words (suc v) gs) rest)

-- nodes at the start of a list can be read, and their clauses are theirs
words-read : (v : ℕ) (gs : List Gate) (rest : List ℕ) → Each IsNode gs → StoreNodes (length gs) (nodes_words v gs ++ rest)
words-read v [] rest e = tt
words-read v (g ∷ gs) rest (each_more h hs) =
    let m : List ℕ = long_words g v in
    let l : length m ≡ length (inputs g) + 1 = long-length g v h in
    let more : List ℕ = nodes_words (suc v) gs ++ rest in
    subst (StoreNodes (suc (length gs))) (sym (first_words v g gs rest))
    (rw (take_at m more (length (inputs g) + 1) l, drop_at m more (length (inputs g) + 1) l)
    (omega (arith, length-append m more), node_long g v h, words-read (suc v) gs rest hs))

words_lines : (v : ℕ) (gs : List Gate) (rest : List ℕ) → Each IsNode gs → v + length gs ≤ 1073741824
    → map clause_line (store_clauses (length gs) (nodes_words v gs ++ rest)) ≡ lines v (map gate gs)
unfolding store_clauses lines
words_lines v [] rest e s = refl
words_lines v (g ∷ gs) rest (each_more h hs) s =
    let m : List ℕ = long_words g v in
    let l : length m ≡ length (inputs g) + 1 = long-length g v h in
    let more : List ℕ = nodes_words (suc v) gs ++ rest in
    ap (λ (xs : List ℕ). map clause_line (store_clauses (suc (length gs)) xs)) (first_words v g gs rest)
    ∙ rw (take_at m more (length (inputs g) + 1) l, drop_at m more (length (inputs g) + 1) l, node-clauses g v h (omega arith))
    (map-append clause_line (gate_clauses g v) (store_clauses (length gs) more)
    ∙ ap (λ (xs : List Line). map clause_line (gate_clauses g v) ++ xs) (words_lines (suc v) gs rest hs (omega arith)))

module _ {v : ℕ} {gs : List Gate} {store : List ℕ} (h : Stored v gs store) where
  stored_words : store ≡ nodes_words v gs ++ drop (length (nodes_words v gs)) store
  stored_words = sym (take-append-drop (length (nodes_words v gs)) store) ∙ ap (λ (xs : List ℕ). xs ++ drop (length (nodes_words v gs)) store) h.front

  pub stored_read : StoreNodes (length gs) store
  stored_read = subst (StoreNodes (length gs)) (sym stored_words) (words-read v gs (drop (length (nodes_words v gs)) store) h.nodes)

  stored_lines : map clause_line (store_clauses (length gs) store) ≡ lines v (map gate gs)
  stored_lines =
      ap (λ (xs : List ℕ). map clause_line (store_clauses (length gs) xs)) stored_words
      ∙ words_lines v gs (drop (length (nodes_words v gs)) store) h.nodes h.small

  -- a run over the clauses that are read is one over the nodes' lines
  pub nodes_ran : {f : Line → World → World} {w w' : World} → Ran f (map clause_line (store_clauses (length gs) store)) w w'
      → Ran f (lines v (map gate gs)) w w'
  nodes_ran r = rw stored_lines at r

  -- nodes and then the items after them
  pub list_wrote : {f : Line → World → World} {n next : ℕ} {is : List Item} {w₀ w₁ w₂ : World} → n ≡ length gs
      → Ran f (map clause_line (store_clauses n store)) w₀ w₁ → Wrote f (v + n) is w₁ w₂ next
      → Wrote f v (map gate gs ++ is) w₀ w₂ next
  list_wrote {f} {n} {next} {is} e p q =
      let g : gates (map gate gs) ≡ n = gates-map gs ∙ sym e in
      record {
        ran = rw (lines-append v (map gate gs) is, g) (then (nodes_ran (rw e at p)) q.ran);
        next = omega (arith, q.next, gates_both (map gate gs) is);
      }

-- n nodes gs and the members ms at the front of a store: the members begin at the place at, and end
pub record InStore (v : ℕ) (gs : List Gate) (ms store : List ℕ) (n at end : ℕ) : Type 0 where
  pub holds : Holds store end (nodes_words v gs ++ ms)
  pub nodes : n ≡ length gs
  pub start : at ≡ length (nodes_words v gs)

module _ {v : ℕ} {gs : List Gate} {ms store : List ℕ} {n at end : ℕ} (h : InStore v gs ms store n at end) where
  filled_end : end ≤ length store
  filled_end = omega (arith, h.holds.count, ap length h.holds.front, length-take end store)

  filled_split : at + length ms ≡ end
  filled_split = omega (arith, h.start, h.holds.count, length-append (nodes_words v gs) ms)

  store_words : store ≡ nodes_words v gs ++ (ms ++ drop end store)
  store_words =
      sym (take-append-drop end store) ∙ ap (λ (xs : List ℕ). xs ++ drop end store) h.holds.front
      ∙ append_assoc (nodes_words v gs) ms (drop end store)

  filled_members : members store at end ≡ ms
  filled_members =
      ap (λ (xs : List ℕ). take (end - at) (drop at xs)) store_words
      ∙ rw (drop_at (nodes_words v gs) (ms ++ drop end store) at (sym h.start))
      (take_at ms (drop end store) (end - at) (omega (arith, filled_split)))

  filled_stored : Each IsNode gs → v + length gs ≤ 1073741824 → Stored v gs store
  filled_stored p s =
      record {
        front = ap (take (length (nodes_words v gs))) store_words ∙ take_at (nodes_words v gs) (ms ++ drop end store) (length (nodes_words v gs)) refl;
        nodes = p;
        small = s;
      }

  -- it can be written
  module _ (weight : ℕ) (b : Bounds) (p : Each IsNode gs) (q : Each Proper ms) (few : length ms ≤ 255) (reached : b.lo ≤ length ms)
      (room : Room v (map gate gs ++ counted weight b ms (v + length gs))) where
    filled_small : v + length gs ≤ 1073741824
    filled_small = omega (arith, room.small, gates_both (map gate gs) (counted weight b ms (v + length gs)), gates-map gs)

    counted_room : Room (v + length gs) (counted weight b ms (v + length gs))
    counted_room = rw (gates-map gs) at (room_rest (map gate gs) (counted weight b ms (v + length gs)) room)

    pub filled_list : ListStored store n at end weight b v
    filled_list =
        record {
          read = rw h.nodes (stored_read (filled_stored p filled_small));
          start = omega (arith, filled_split);
          within = filled_end;
          literals = subst Literals (sym filled_members) (proper-literals q);
          few = rw filled_members few;
          reached = rw filled_members reached;
          room = rw (filled_members, h.nodes) counted_room;
        }

    -- what the writer says of all nodes that may stand there, said of these
    pub filled_wrote : {f : Line → World → World} {w w' : World} {next : ℕ}
        → ((gs : List Gate) → Stored v gs store → n ≡ length gs
        → Wrote f v (map gate gs ++ counted weight b (members store at end) (v + n)) w w' next)
        → Wrote f v (map gate gs ++ counted weight b ms (v + length gs)) w w' next
    filled_wrote r = rw (filled_members, h.nodes) at (r gs (filled_stored p filled_small) h.nodes)
