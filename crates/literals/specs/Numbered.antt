-- The formula's lists by numbers: for T times and the numbering L, from the users of a resource, the times of a group and the durations.
-- Laws and Blocks have the equations with the formula.
use Rattle.std.specs.Prelude.{ℕ, zero, suc, ◌+◌, min, Bool, false, length}
use mathlib.Core.List.{List, [], ◌∷◌, ◌++◌, map, flat_map}
use Rattle.scope.specs.declared.Layout.{Layout}
use Rattle.scope.specs.Kinds.{Constraint, Kind, Atom, Listed, Counted, up_to, counted_of}
use Rattle.scope.specs.Cnf.{pos, Gate, or, Item, gate, hard, gates}
use Rattle.scope.specs.Score.{layout_at, var_at}
use Rattle.scope.specs.Formula.{ref_literal, node_gate, count_items}
use Rattle.literals.specs.Variables.{in_block, y_at}
use Rattle.literals.specs.Tables.{duration_at}

-- a counted list: its bounds, its gates and the literals that it counts, from a variable on
pub record Numbered : Type 0 where
  pub lo : ℕ
  pub hi : ℕ
  pub zero_free : Bool
  pub gates : ℕ → List Gate
  pub literals : ℕ → List ℕ

-- one without gates
abbrev pub plain : (lo hi : ℕ) → List ℕ → Numbered
plain lo hi xs = record { lo = lo; hi = hi; zero_free = false; gates = λ v. []; literals = λ v. xs }

abbrev pub no_list : Listed
no_list = record { nodes = []; members = [] }

-- its items of the weight w, from the variable v on: hi is lowered to the list's length
unfoldable pub numbered_items : (w : ℕ) → Numbered → ℕ → List Item
numbered_items w c v =
    map gate (c.gates v)
    ++ count_items w (record { lo = c.lo; hi = min c.hi (length (c.literals v)); zero_free = c.zero_free; list = no_list }) (c.literals v)
    (v + length (c.gates v))

-- one counted list after another
unfoldable pub all_numbered : (w : ℕ) → List Numbered → ℕ → List Item
all_numbered w [] v = []
all_numbered w (c ∷ cs) v = numbered_items w c v ++ all_numbered w cs (v + gates (numbered_items w c v))

-- a list of nodes and members with its bounds, where num gives the literal of an atom
abbrev pub number_of : (Atom → ℕ) → Counted → Listed → Numbered
number_of num c l =
    record {
      lo = c.lo;
      hi = c.hi;
      zero_free = c.zero_free;
      gates = λ v. map (node_gate num v) l.nodes;
      literals = λ v. map (ref_literal num v) l.members;
    }

-- the literal of an atom
abbrev pub num_at : (T : ℕ) → Layout → Atom → ℕ
num_at T L a = pos (var_at T L a)

-- the counted lists of a kind
unfoldable pub numbered : (T : ℕ) (L : Layout) (ds : List ℕ) (users group : ℕ → List ℕ) → Kind → List Numbered
numbered T L ds users group k =
    map (number_of (num_at T L) (counted_of T (duration_at ds) users group k)) (counted_of T (duration_at ds) users group k).lists

-- Y of each event counted, to its duration; the first has the number e
unfoldable pub duration_lists : (T e : ℕ) → List ℕ → List Numbered
duration_lists T e [] = []
duration_lists T e (d ∷ ds) = plain d d (map (y_at T e) (up_to T)) ∷ duration_lists T (suc e) ds

-- the clauses of a start, where the block of S comes after `starts` variables: "(Y, not S) and then (not Y, Y before, S)"
abbrev pub earlier : (T e t : ℕ) → List ℕ
earlier T e zero = []
earlier T e (suc zero) = []
earlier T e (suc (suc t)) = y_at T e (suc t) ∷ []

unfoldable pub start_clauses : (T starts e t : ℕ) → List Item
start_clauses T starts e t =
    let s = in_block T starts e t in
    hard (y_at T e t ∷ (s + 1) ∷ []) ∷ hard (earlier T e t ++ (y_at T e t + 1) ∷ s ∷ []) ∷ []

-- X of a resource at each time: an OR over its users
unfoldable pub use_gates : (T : ℕ) → List ℕ → List Gate
use_gates T us = map (λ t. or (map (λ e. y_at T e t) us)) (up_to T)

module _ (T : ℕ) (L : Layout) (ds : List ℕ) (users group : ℕ → List ℕ) where
  -- constraints in file order, from the variable v on
  unfoldable pub constraint_items : List Constraint → ℕ → List Item
  constraint_items [] v = []
  constraint_items (c ∷ cs) v =
      let is = all_numbered c.weight (numbered T L ds users group c.kind) v in
      is ++ constraint_items cs (v + gates is)

  -- the durations of events and then the constraints
  unfoldable pub list_items : List Constraint → ℕ → List Item
  list_items cs v =
      let is = all_numbered 0 (duration_lists T 1 ds) v in
      is ++ constraint_items cs (v + gates is)

-- the formula of T times, E events and R resources
unfoldable pub numbered_formula : (T : ℕ) (users group : ℕ → List ℕ) (E R : ℕ) (ds : List ℕ) → List Constraint → List Item
numbered_formula T users group E R ds cs =
    let L : Layout = layout_at T E R in
    flat_map (λ e. flat_map (start_clauses T L.starts e) (up_to T)) (up_to E)
    ++ map gate (flat_map (λ r. use_gates T (users r)) (up_to R))
    ++ list_items T L ds users group cs (L.others + 1)
