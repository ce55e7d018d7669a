-- Timetables, refusals 10 to 12, and the score.
use Rattle.std.specs.Prelude.{Bool, true, false, not, ◌&&◌, ◌||◌, cond, List, [], ◌∷◌, ◌++◌, map, ℕ, zero, suc, ◌+◌, ◌-◌, ◌*◌, length, get_or, leb, ltb, eqb}
use Rattle.std.proofs.Math.Option.{Option, none, some}
use Rattle.scope.specs.Parsed.{Answer, refusal, provided}
use Rattle.scope.specs.Kinds.{Event, Constraint, Atom, Y, S, X, Thing, an_atom, a_node, Ref, Node, some_of, all_of, Listed, Rule, up_to, duration_of, users, group_at, rules_of}
use Rattle.scope.specs.Instance.{Instance}
use Rattle.scope.specs.Cnf.{bit}
use Rattle.scope.specs.declared.Infeasibility.{Infeasibility}
use Rattle.scope.specs.declared.Objective.{Objective}
use Rattle.scope.specs.declared.Layout.{Layout}

-- how many are true; whether any is, whether all are
unfoldable pub trues : List Bool → ℕ
trues [] = 0
trues (b ∷ bs) = cond b 1 0 + trues bs

unfoldable pub any : List Bool → Bool
any [] = false
any (b ∷ bs) = b || any bs

unfoldable pub all : List Bool → Bool
all [] = true
all (b ∷ bs) = b && all bs

-- "For a count c, deviation is lo − c if c < lo, c − hi if c > hi, else 0."
unfoldable pub deviation : ℕ → ℕ → ℕ → ℕ
deviation lo hi c = cond (ltb c lo) (lo - c) (cond (ltb hi c) (c - hi) 0)

-- what a rule charges for a count: in a busy limit nothing for 0
unfoldable pub charged : Rule → ℕ → ℕ
charged r c = cond (r.zero_free && eqb c 0) 0 (deviation r.lo r.hi c)

-- where τ says which atoms are true, and vs which of the nodes before
module _ (τ : Atom → Bool) where
  abbrev pub thing_true : List Bool → Thing → Bool
  thing_true vs (an_atom a) = τ a
  thing_true vs (a_node k) = get_or vs k false

  abbrev pub ref_true : List Bool → Ref → Bool
  ref_true vs r = cond r.negated (not (thing_true vs r.thing)) (thing_true vs r.thing)

  abbrev pub node_true : List Bool → Node → Bool
  node_true vs (some_of rs) = any (map (ref_true vs) rs)
  node_true vs (all_of rs) = all (map (ref_true vs) rs)

  -- the values of nodes, one after the other
  unfoldable pub values_after : List Bool → List Node → List Bool
  values_after vs [] = vs
  values_after vs (n ∷ ns) = values_after (vs ++ node_true vs n ∷ []) ns

  unfoldable pub count : Listed → ℕ
  count l = trues (map (ref_true (values_after [] l.nodes)) l.members)

  -- the deviations of some rules, summed
  unfoldable pub deviations : List Rule → ℕ
  deviations [] = 0
  deviations (r ∷ rs) = charged r (count r.list) + deviations rs

-- The numbering of variables, for T times, E events and R resources: E×T for Y, as many for S, R×T for X, then the others. The
-- primary ones are no gate's output: Y and S
abbrev pub layout_at : (T E R : ℕ) → Layout
layout_at T E R = record { starts = E * T; primary = 2 * (E * T); uses = 2 * (E * T); others = 2 * (E * T) + R * T }

-- the variables of atoms: row by row, each (e − 1)×T + t after those before its sort
abbrev pub var_at : (T : ℕ) → Layout → Atom → ℕ
var_at T L (Y e t) = (e - 1) * T + t
var_at T L (S e t) = L.starts + ((e - 1) * T + t)
var_at T L (X r t) = L.uses + ((r - 1) * T + t)

module _ (i : Instance) where
  abbrev pub event_count : ℕ
  event_count = length i.events

  -- a slot is an event at a time: E×T
  abbrev pub slots : ℕ
  slots = event_count * i.times

  abbrev pub layout : Layout
  layout = layout_at i.times event_count i.resources

  abbrev pub var : Atom → ℕ
  var a = var_at i.times layout a

  -- which atoms are true in the bytes of a timetable
  unfoldable pub truth : List ℕ → Atom → Bool
  truth b (Y e t) = bit b (var (Y e t))
  truth b (S e t) = bit b (var (S e t))
  truth b (X r t) = any (map (λ e. bit b (var (Y e t))) (users r i.events))

  abbrev pub rules : Constraint → List Rule
  rules c = rules_of i.times (duration_of i.events) (λ r. users r i.events) (group_at i.groups) c.kind

  module _ (τ : Atom → Bool) where
    -- time t − 1 is taken
    abbrev pub taken_before : ℕ → ℕ → Bool
    taken_before e zero = false
    taken_before e (suc zero) = false
    taken_before e (suc (suc t)) = τ (Y e (suc t))

    -- "a start is a taken time; a taken time whose predecessor isn't taken, or that is time 1, is a start"
    abbrev pub start_right : ℕ → ℕ → Bool
    start_right e t = (not (τ (S e t)) || τ (Y e t)) && (not (τ (Y e t)) || taken_before e t || τ (S e t))

    -- event number e takes exactly its duration in times, and its starts are right
    unfoldable pub event_right : ℕ → Event → Bool
    event_right e v =
        eqb (trues (map (λ t. τ (Y e t)) (up_to i.times))) v.duration
        && all (map (start_right e) (up_to i.times))

    -- the first event that breaks it, where the first of the list has the number e
    unfoldable pub first_wrong : ℕ → List Event → Option ℕ
    first_wrong e [] = none
    first_wrong e (v ∷ vs) = cond (event_right e v) (first_wrong (suc e) vs) (some e)

    -- "Infeasibility is the sum of deviations of hard constraints; objective, the cost, is the sum of weight × deviation
    -- of the others."
    unfoldable pub infeasibility_of : List Constraint → ℕ
    infeasibility_of [] = 0
    infeasibility_of (c ∷ cs) = cond (eqb c.weight 0) (deviations τ (rules c)) 0 + infeasibility_of cs

    unfoldable pub objective_of : List Constraint → ℕ
    objective_of [] = 0
    objective_of (c ∷ cs) = c.weight * deviations τ (rules c) + objective_of cs

-- the first byte above 1, where the first of the list has the offset k
unfoldable pub first_above : ℕ → List ℕ → Option ℕ
first_above k [] = none
first_above k (b ∷ bs) = cond (leb b 1) (first_above (suc k) bs) (some k)

-- refusal k with what was found, if anything was
abbrev pub unless_found : {A : Type 0} → ℕ → Option ℕ → Answer A → Answer A
unless_found k none a = a
unless_found k (some v) a = refusal k v

-- so many bytes, each 0 or 1, else 10 with the length wanted and 11 with the first offset
abbrev pub of_bytes : {A : Type 0} → ℕ → List ℕ → Answer A → Answer A
of_bytes n b a = provided (eqb (length b) n) 10 n (unless_found 11 (first_above 0 b) a)

-- a timetable of the instance: 10, 11, then 12 with the first event that breaks it
abbrev pub of_timetable : {A : Type 0} → Instance → List ℕ → Answer A → Answer A
of_timetable i b a = of_bytes (2 * slots i) b (unless_found 12 (first_wrong i (truth i b) 1 i.events) a)

abbrev pub infeasibility : Instance → List ℕ → Infeasibility
infeasibility i b = record { 0 = infeasibility_of i (truth i b) i.constraints }

abbrev pub objective : Instance → List ℕ → Objective
objective i b = record { 0 = objective_of i (truth i b) i.constraints }
