-- The formula of an instance: its items in the order of clauses and variables, the tail for a bound, and their sizes.
use Rattle.std.specs.Prelude.{cond, ℕ, zero, suc, ◌+◌, ◌-◌, ◌*◌, min, length, leb, ltb}
use mathlib.Core.List.{List, [], ◌∷◌, ◌++◌, map, flat_map}
use Rattle.scope.specs.Kinds.{Event, Constraint, Atom, Y, S, Thing, an_atom, a_node, Ref, Node, some_of, all_of, entries, Rule, rule, between, from, up_to, users, takes_at}
use Rattle.scope.specs.Instance.{Instance}
use Rattle.scope.specs.Cnf.{pos, neg, opp, Gate, or, and, cell, Item, gate, hard, soft, hard_clauses, gates, soft_units}
use Rattle.scope.specs.Score.{layout, var, rules, event_count}

-- The literals of a counter's row by column. Column 0 is the constant true. Above the first row the others are the constant
-- false; in the row whose first variable is v, column j is variable v + j − 1
abbrev pub no_row : ℕ → ℕ
no_row zero = 1
no_row (suc k) = 0

abbrev pub row_at : ℕ → ℕ → ℕ
row_at v zero = 1
row_at v (suc k) = pos (v + k)

-- c(i, j) for k columns from j on, for a literal x of the weight w, under the row p: a is column j of p, b is column j − w
unfoldable pub row : (ℕ → ℕ) → ℕ → ℕ → ℕ → ℕ → List Gate
row p w x j zero = []
row p w x j (suc k) = cell x (p j) (p (j - w)) ∷ row p w x (suc j) k

-- a counter with J columns over literals with weights, row by row from the variable v on, under the row p
unfoldable pub counter : (ℕ → ℕ) → List (ℕ × ℕ) → ℕ → ℕ → List Gate
counter p [] J v = []
counter p (x ∷ xs) J v = row p x.0 x.1 1 J ++ counter (row_at v) xs J (v + J)

unfoldable pub last_row : (ℕ → ℕ) → List (ℕ × ℕ) → ℕ → ℕ → ℕ → ℕ
last_row p [] J v = p
last_row p (x ∷ xs) J v = last_row (row_at v) xs J (v + J)

-- "A counted list has weights 1 and J = min(n, hi + 1) if hard, n if soft."
abbrev pub ones : List ℕ → List (ℕ × ℕ)
ones xs = map (λ x. (1, x)) xs

abbrev pub columns : ℕ → ℕ → ℕ → ℕ
columns zero hi n = min n (hi + 1)
columns (suc w) hi n = n

-- a unit of the weight w: hard where w is 0
abbrev pub unit : ℕ → ℕ → Item
unit zero l = hard (l ∷ [])
unit (suc w) l = soft (suc w) l

-- The units of the weight w on a counter's last row q.
-- "Hard: unit c(n, lo) if lo ≥ 1 .. Soft: one unit of the constraint's weight for c(n, j), j = 1..lo"
unfoldable pub low_units : ℕ → (ℕ → ℕ) → ℕ → List Item
low_units zero q lo = cond (leb 1 lo) (hard (q lo ∷ []) ∷ []) []
low_units (suc w) q lo = map (λ j. soft (suc w) (q j)) (from 1 lo)

-- "then unit not c(n, hi + 1) if hi < n .. then for not c(n, j), j = hi + 1..n"
unfoldable pub high_units : ℕ → (ℕ → ℕ) → ℕ → ℕ → List Item
high_units zero q hi n = cond (ltb hi n) (hard (opp (q (hi + 1)) ∷ []) ∷ []) []
high_units (suc w) q hi n = map (λ j. soft (suc w) (opp (q j))) (from (hi + 1) (n - hi))

-- "Kind 6 replaces the low part: for j = 2..lo a variable v .. and the unit not v": v is true where the count is at least 1 and
-- below j; k columns from j on, from the variable v on
unfoldable pub short_units : ℕ → (ℕ → ℕ) → ℕ → ℕ → ℕ → List Item
short_units w q j zero v = []
short_units w q j (suc k) v = gate (and (q 1 ∷ opp (q j) ∷ [])) ∷ unit w (neg v) ∷ short_units w q (suc j) k (suc v)

-- the low part and the high part of a rule over n literals, from the variable v on
unfoldable pub bound_items : ℕ → Rule → (ℕ → ℕ) → ℕ → ℕ → List Item
bound_items w r q n v =
    cond r.zero_free (short_units w q 2 (r.lo - 1) v) (low_units w q r.lo) ++ high_units w q r.hi n

-- a counter with J columns over the literals xs, from the variable v on, and the bounds of a rule
unfoldable pub count_into : ℕ → ℕ → Rule → List ℕ → ℕ → List Item
count_into J w r xs v =
    map gate (counter no_row (ones xs) J v) ++ bound_items w r (last_row no_row (ones xs) J v) (length xs) (v + length xs * J)

abbrev pub count_items : ℕ → Rule → List ℕ → ℕ → List Item
count_items w r xs v = count_into (columns w r.hi (length xs)) w r xs v

-- where num gives the literal of an atom
module _ (num : Atom → ℕ) where
  -- the literal of a reference and the gate of a node, in a list whose first node is the variable v
  abbrev pub thing_literal : ℕ → Thing → ℕ
  thing_literal v (an_atom a) = num a
  thing_literal v (a_node k) = pos (v + k)

  abbrev pub ref_literal : ℕ → Ref → ℕ
  ref_literal v r = cond r.negated (opp (thing_literal v r.thing)) (thing_literal v r.thing)

  abbrev pub node_gate : ℕ → Node → Gate
  node_gate v (some_of rs) = or (map (ref_literal v) rs)
  node_gate v (all_of rs) = and (map (ref_literal v) rs)

  -- a rule of the weight w, from the variable v on: the gates of its nodes, and its members counted
  unfoldable pub rule_items : ℕ → Rule → ℕ → List Item
  rule_items w r v =
      map gate (map (node_gate v) r.list.nodes)
      ++ count_items w r (map (ref_literal v) r.list.members) (v + length r.list.nodes)

  -- rules with their weights, one after the other
  unfoldable pub rules_items : List (ℕ × Rule) → ℕ → List Item
  rules_items [] v = []
  rules_items (r ∷ rs) v = rule_items r.0 r.1 v ++ rules_items rs (v + gates (rule_items r.0 r.1 v))

module _ (i : Instance) where
  -- the literal of an atom
  abbrev pub num : Atom → ℕ
  num a = pos (var i a)

  -- the literal Y at time t − 1, none at time 1
  abbrev pub y_before : ℕ → ℕ → List ℕ
  y_before e zero = []
  y_before e (suc zero) = []
  y_before e (suc (suc t)) = num (Y e (suc t)) ∷ []

  -- 1. "for each e, t in turn: (Y, not S) and then (not Y, Y before, S)"
  abbrev pub start_items : ℕ → ℕ → List Item
  start_items e t =
      hard (num (Y e t) ∷ neg (var i (S e t)) ∷ []) ∷ hard (y_before e t ++ neg (var i (Y e t)) ∷ num (S e t) ∷ []) ∷ []

  unfoldable pub starts : List Item
  starts = flat_map (λ e. flat_map (start_items e) (up_to i.times)) (up_to (event_count i))

  -- 2. "each r, t: X is the OR of Y of its events"
  unfoldable pub uses : List Gate
  uses = flat_map (λ r. map (λ t. or (map (λ e. num (Y e t)) (users r i.events))) (up_to i.times)) (up_to i.resources)

  -- 3. "each event: Y counted, lo = hi = duration, hard"; the first of the list has the number e
  unfoldable pub duration_rules : ℕ → List Event → List (ℕ × Rule)
  duration_rules e [] = []
  duration_rules e (v ∷ vs) =
      (0, rule (between v.duration v.duration []) (entries (takes_at e (up_to i.times)))) ∷ duration_rules (suc e) vs

  -- 4. "constraints in file order"
  unfoldable pub constraint_rules : List Constraint → List (ℕ × Rule)
  constraint_rules cs = flat_map (λ c. map (λ r. (c.weight, r)) (rules i c)) cs

  abbrev pub all_rules : List (ℕ × Rule)
  all_rules = duration_rules 1 i.events ++ constraint_rules i.constraints

  -- the variables that are no gate's output: Y and S
  abbrev pub primary : ℕ
  primary = (layout i).primary

  unfoldable pub formula : List Item
  formula = starts ++ map gate uses ++ rules_items num all_rules ((layout i).others + 1)

  -- the number of variables, and the hard clauses in the order of their ids
  unfoldable pub variables : ℕ
  variables = primary + gates formula

  unfoldable pub hard_of : List (List ℕ)
  hard_of = hard_clauses (primary + 1) formula

  unfoldable pub soft_of : List (ℕ × ℕ)
  soft_of = soft_units formula

-- the negated soft units with their weights
abbrev pub negated : List (ℕ × ℕ) → List (ℕ × ℕ)
negated us = map (λ u. (u.0, opp u.1)) us

-- "Tail for bound B: a counter with J = B + 1 over the negated soft units with their weights, then the unit not c(m, B + 1)
-- .. empty if m = 0"
unfoldable pub tail : ℕ → List (ℕ × ℕ) → ℕ → List Item
tail B [] v = []
tail B (x ∷ xs) v =
    map gate (counter no_row (x ∷ xs) (B + 1) v) ++ hard (opp (last_row no_row (x ∷ xs) (B + 1) v (B + 1)) ∷ []) ∷ []

module _ (i : Instance) (B : ℕ) where
  -- the formula with its tail for the bound B
  unfoldable pub bounded : List Item
  bounded = formula i ++ tail B (negated (soft_of i)) (variables i + 1)

  unfoldable pub bounded_variables : ℕ
  bounded_variables = primary i + gates bounded

  unfoldable pub bounded_hard : List (List ℕ)
  bounded_hard = hard_clauses (primary i + 1) bounded

-- one word for each literal of some clauses
unfoldable pub words : List (List ℕ) → ℕ
words [] = 0
words (c ∷ cs) = length c + words cs

-- the limits of 7 and 8
abbrev pub most_bound : ℕ
most_bound = 4095

abbrev pub most_variables : ℕ
most_variables = 8000000
