-- The formula's blocks by numbers, and the whole formula.
use Prim.Native.Nat.{ℕ, zero, suc, ◌+◌, ◌-◌}
use mathlib.Core.Path.{◌≡◌, refl, sym, ap, fun_ext, ◌∙◌}
use mathlib.Core.List.{List, [], ◌∷◌, ◌++◌, map, flat_map, append_assoc}
use native.Mathlib.Omega.{arith}
use native.Mathlib.Nat.{add-zero}
use lib.ListN.{get_or-map}
use Rattle.scope.specs.Kinds.{Event, Constraint, Atom, Y, entries, Counted, between, Rule, takes_at, up_to, duration_of, users, group_at, counted_of}
use Rattle.scope.specs.Instance.{Instance}
use Rattle.scope.specs.Score.{layout, rules, event_count}
use Rattle.scope.specs.Cnf.{or, Item, gate, hard, soft, gates}
use Rattle.scope.specs.Formula.{num, y_before, start_items, starts, uses, duration_rules, constraint_rules, rules_items, rule_items, formula}
use Rattle.literals.specs.Variables.{y_at}
use Rattle.literals.specs.Tables.{duration_at}
use Rattle.literals.specs.Numbered.{plain, numbered_items, number_of, all_numbered, numbered, duration_lists, earlier, start_clauses, use_gates, constraint_items, list_items, numbered_formula}
use Rattle.literals.proofs.laws.Laws.{y_literal, s_literal, takes_add, rule-items, rules-items}

-- the same at each member
map_same : {A B : Type 0} (f g : A → B) → ((x : A) → f x ≡ g x) → (xs : List A) → map f xs ≡ map g xs
map_same f g e [] = refl
map_same f g e (x ∷ xs) = rw (e x, map_same f g e xs)

pub flat-same : {A B : Type 0} (f g : A → List B) → ((x : A) → f x ≡ g x) → (xs : List A) → flat_map f xs ≡ flat_map g xs
unfolding flat_map
flat-same f g e [] = refl
flat-same f g e (x ∷ xs) = rw (e x, flat-same f g e xs)

-- rules and then others
gates_both : (is js : List Item) → gates (is ++ js) ≡ gates is + gates js
gates_both [] js = omega arith
gates_both (gate g ∷ is) js = omega (arith, gates_both is js)
gates_both (hard c ∷ is) js = gates_both is js
gates_both (soft w l ∷ is) js = gates_both is js

rules-both : (f : Atom → ℕ) (rs ss : List (ℕ × Rule)) (v : ℕ)
    → rules_items f (rs ++ ss) v ≡ rules_items f rs v ++ rules_items f ss (v + gates (rules_items f rs v))
unfolding rules_items
rules-both f [] ss v = rw (add-zero v)
rules-both f (r ∷ rs) ss v =
    let is = rule_items f r.0 r.1 v in
    let js = rules_items f rs (v + gates is) in
    let e : v + gates is + gates js ≡ v + gates (is ++ js) = omega (arith, gates_both is js) in
    rw (rules-both f rs ss (v + gates is), e) (sym (append_assoc is js _))

-- the durations of events in a list of them
durations-listed : (es : List Event) → ◌≡◌ {A = ℕ → ℕ} (duration_of es) (duration_at (map (λ x. x.duration) es))
durations-listed es =
    fun_ext (λ e. sym (get_or-map (λ (x : Event). x.duration) es (e - 1) (record { duration = 0; resources = [] })))

module _ (i : Instance) where
  -- 1. the starts
  before_literal : (e t : ℕ) → y_before i e t ≡ earlier i.times e t
  before_literal e zero = refl
  before_literal e (suc zero) = refl
  before_literal e (suc (suc t)) = rw (← (y_literal i.times (layout i) e (suc t)))

  pub start-clauses : (e t : ℕ) → start_items i e t ≡ start_clauses i.times (layout i).starts e t
  unfolding start_clauses
  start-clauses e t = rw (before_literal e t, ← (y_literal i.times (layout i) e t), ← (s_literal i.times (layout i) e t))

  pub starts_clauses : starts i ≡ flat_map (λ e. flat_map (start_clauses i.times (layout i).starts e) (up_to i.times)) (up_to (event_count i))
  unfolding starts
  starts_clauses =
      flat-same (λ e. flat_map (start_items i e) (up_to i.times))
      (λ e. flat_map (start_clauses i.times (layout i).starts e) (up_to i.times))
      (λ e. flat-same (start_items i e) (start_clauses i.times (layout i).starts e) (start-clauses e) (up_to i.times))
      (up_to (event_count i))

  -- 2. the uses
  pub uses_gates : uses i ≡ flat_map (λ r. use_gates i.times (users r i.events)) (up_to i.resources)
  unfolding uses use_gates
  uses_gates =
      flat-same (λ r. map (λ t. or (map (λ e. num i (Y e t)) (users r i.events))) (up_to i.times))
      (λ r. map (λ t. or (map (λ e. y_at i.times e t) (users r i.events))) (up_to i.times))
      (λ r.
      map_same (λ t. or (map (λ e. num i (Y e t)) (users r i.events))) (λ t. or (map (λ e. y_at i.times e t) (users r i.events)))
      (λ t. ap or (map_same (λ e. num i (Y e t)) (λ e. y_at i.times e t) (λ e. y_literal i.times (layout i) e t) (users r i.events)))
      (up_to i.times))
      (up_to i.resources)

  -- 3. the durations
  duration_list : (d e w v : ℕ)
      → numbered_items w (number_of (num i) (between d d []) (entries (takes_at e (up_to i.times)))) v
      ≡ numbered_items w (plain d d (map (y_at i.times e) (up_to i.times))) v
  unfolding numbered_items
  duration_list d e w v = let a = takes_add i.times (layout i) e (up_to i.times) v 0 in rw (a.gates, a.literals)

  pub duration-items : (e : ℕ) (vs : List Event) (v : ℕ)
      → rules_items (num i) (duration_rules i e vs) v ≡ all_numbered 0 (duration_lists i.times e (map (λ x. x.duration) vs)) v
  unfolding duration_rules rules_items duration_lists all_numbered
  duration-items e [] v = refl
  duration-items e (x ∷ vs) v =
      let d = x.duration in
      let m = rule-items (num i) (between d d []) (entries (takes_at e (up_to i.times))) 0 v ∙ duration_list d e 0 v in
      rw (m, duration-items (suc e) vs _)

  -- 4. the constraints
  pub constraint-items : (cs : List Constraint) (v : ℕ)
      → rules_items (num i) (constraint_rules i cs) v
      ≡ constraint_items i.times (layout i) (map (λ x. x.duration) i.events) (λ r. users r i.events) (group_at i.groups) cs v
  unfolding constraint_rules rules_items constraint_items flat_map numbered
  constraint-items [] v = refl
  constraint-items (c ∷ cs) v =
      let k : Counted = counted_of i.times (duration_of i.events) (λ r. users r i.events) (group_at i.groups) c.kind in
      rules-both (num i) (map (λ r. (c.weight, r)) (rules i c)) (constraint_rules i cs) v
      ∙ rw (rules-items (num i) k k.lists c.weight v, constraint-items cs _, durations-listed i.events)

  -- the whole
  pub formula_numbers : formula i
      ≡ numbered_formula i.times (λ r. users r i.events) (group_at i.groups) (event_count i) i.resources
      (map (λ x. x.duration) i.events)
      i.constraints
  unfolding formula numbered_formula list_items
  formula_numbers =
      let v = (layout i).others + 1 in
      let r = rules-both (num i) (duration_rules i 1 i.events) (constraint_rules i i.constraints) v in
      rw (starts_clauses, uses_gates, r, duration-items 1 i.events v, constraint-items i.constraints _)
