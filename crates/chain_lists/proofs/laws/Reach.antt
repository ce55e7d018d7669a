-- Kind 3's list by numbers: laws.
use Prim.Native.Nat.{ℕ, zero, suc, ◌+◌, ◌-◌}
use mathlib.Core.Path.{◌≡◌, refl, sym, ◌∙◌}
use mathlib.Core.List.{List, [], ◌∷◌, ◌++◌, map, map-append, append_assoc}
use mathlib.Core.Bool.{Bool, true, false, cond}
use native.Mathlib.Omega.{arith}
use native.Mathlib.Nat.{add-zero}
use lib.ListN.{length, length-append}
use Rattle.scope.specs.declared.Layout.{Layout}
use Rattle.scope.specs.Cnf.{pos, neg, opp}
use Rattle.scope.specs.Kinds.{Y, S, Ref, is, a_node, Reach, started, carried, both, member, reached, reach_ref, reach_nodes, reach_added, reaches_nodes, reaches_members, from_outside, up_to}
use Rattle.scope.specs.Formula.{ref_literal, node_gate}
use Rattle.parsing.specs.Each.{Each, each_none, each_more}
use Rattle.literals.specs.Variables.{base_of}
use Rattle.literals.proofs.laws.Proper.{each_both}
use Rattle.literals.specs.Numbered.{num_at}
use Rattle.chain_lists.specs.Reach.{reach_gates, reach_variable, reaches_gates, last_variable, reaches_literals, reach_at, near_after}

-- the gates and the literals of the list
module _ (T : ℕ) (L : Layout) (e v : ℕ) where
  -- the last variables before Y and S of the event
  abbrev pub y_base : ℕ
  y_base = base_of 0 T e

  abbrev pub s_base : ℕ
  s_base = base_of L.starts T e

  pub y_number : (t : ℕ) → num_at T L (Y e t) ≡ pos (y_base + t)
  unfolding base_of
  y_number t = omega arith

  s_number : (t : ℕ) → num_at T L (S e t) ≡ pos (s_base + t)
  unfolding base_of
  s_number t = omega arith

  not_s_number : (t : ℕ) → opp (num_at T L (S e t)) ≡ neg (s_base + t)
  not_s_number t = rw (s_number t) (omega arith)

  -- a time's literal and its gates, after k nodes
  reach_literal : (x : Reach) (k o : ℕ) → o ≡ v + k → ref_literal (num_at T L) v (reach_ref e x k) ≡ pos (reach_variable s_base x o)
  reach_literal (started t) k o q = s_number t
  reach_literal (carried t) k o q = omega arith
  reach_literal (both t) k o q = omega arith

  reach-gates : (x : Reach) (k o p : ℕ) (r : Ref) → o ≡ v + k → ref_literal (num_at T L) v r ≡ pos p
      → map (node_gate (num_at T L) v) (reach_nodes e x k r) ≡ reach_gates y_base s_base x o p
  reach-gates (started t) k o p r q l = refl
  reach-gates (carried t) k o p r q l = rw (l, y_number t, not_s_number t, q)
  reach-gates (both t) k o p r q l =
      let a : v + (k + 1) ≡ o + 1 = omega arith in
      rw (l, y_number t, not_s_number t, s_number t, a, q)

  pub reaches-gates : (xs : List Reach) (k o p : ℕ) (r : Ref) → o ≡ v + k → ref_literal (num_at T L) v r ≡ pos p
      → map (node_gate (num_at T L) v) (reaches_nodes e xs k r) ≡ reaches_gates y_base s_base xs o p
  unfolding reaches_nodes reaches_gates
  reaches-gates [] k o p r q l = refl
  reaches-gates (x ∷ xs) k o p r q l =
      map-append (node_gate (num_at T L) v) (reach_nodes e x k r) (reaches_nodes e xs (k + reach_added x) (reach_ref e x k))
      ∙ rw (
        reach-gates x k o p r q l,
        reaches-gates xs (k + reach_added x) (o + reach_added x) (reach_variable s_base x o) (reach_ref e x k) (omega arith) (reach_literal x k o q),
      )

  pub reaches-literals : (xs : List Reach) (k o : ℕ) → o ≡ v + k
      → map (ref_literal (num_at T L) v) (reaches_members e xs k) ≡ reaches_literals s_base xs o
  unfolding reaches_members reaches_literals
  reaches-literals [] k o q = refl
  reaches-literals (x ∷ xs) k o q =
      rw (reach_literal x k o q, reaches-literals xs (k + reach_added x) (o + reach_added x) (omega arith))

  -- the reference that the list begins with is never used: no time is before the first
  pub from_outside_gates : (d : ℕ) (g : List ℕ)
      → map (node_gate (num_at T L) v) (from_outside T e d g).nodes ≡ reaches_gates y_base s_base (reached d g 0 (up_to T)) v v
  unfolding from_outside
  from_outside_gates d g = reaches-gates (reached d g 0 (up_to T)) 0 v v (is (a_node 0)) (sym (add-zero v)) (rw (add-zero v))

  pub from_outside_literals : (d : ℕ) (g : List ℕ)
      → map (ref_literal (num_at T L) v) (from_outside T e d g).members ≡ reaches_literals s_base (reached d g 0 (up_to T)) v
  unfolding from_outside
  from_outside_literals d g = reaches-literals (reached d g 0 (up_to T)) 0 v (sym (add-zero v))

-- how many gates a time has
length-reach : (y s : ℕ) (x : Reach) (o p : ℕ) → length (reach_gates y s x o p) ≡ reach_added x
length-reach y s (started t) o p = refl
length-reach y s (carried t) o p = refl
length-reach y s (both t) o p = refl

pub length-step : (y s : ℕ) (x : Reach) (xs : List Reach) (o p : ℕ)
    → length (reaches_gates y s (x ∷ xs) o p) ≡ reach_added x + length (reaches_gates y s xs (o + reach_added x) (reach_variable s x o))
unfolding reaches_gates
length-step y s x xs o p =
    length-append (reach_gates y s x o p) (reaches_gates y s xs (o + reach_added x) (reach_variable s x o)) ∙ rw (length-reach y s x o p)

-- some times and then others
module _ (y s : ℕ) where
  pub gates_both : (xs ys : List Reach) (o p : ℕ)
      → reaches_gates y s (xs ++ ys) o p ≡ reaches_gates y s xs o p ++ reaches_gates y s ys (o + length (reaches_gates y s xs o p)) (last_variable s xs o p)
  unfolding reaches_gates last_variable
  gates_both [] ys o p = rw (add-zero o)
  gates_both (x ∷ xs) ys o p =
      let o' = o + reach_added x in
      let p' = reach_variable s x o in
      let e : o' + length (reaches_gates y s xs o' p') ≡ o + length (reaches_gates y s (x ∷ xs) o p) = omega (arith, length-step y s x xs o p) in
      rw (gates_both xs ys o' p', e) (sym (append_assoc (reach_gates y s x o p) (reaches_gates y s xs o' p') _))

  pub literals_both : (xs ys : List Reach) (o p : ℕ)
      → reaches_literals s (xs ++ ys) o ≡ reaches_literals s xs o ++ reaches_literals s ys (o + length (reaches_gates y s xs o p))
  unfolding reaches_literals reaches_gates
  literals_both [] ys o p = rw (add-zero o)
  literals_both (x ∷ xs) ys o p =
      let o' = o + reach_added x in
      let p' = reach_variable s x o in
      let e : o' + length (reaches_gates y s xs o' p') ≡ o + length (reaches_gates y s (x ∷ xs) o p) = omega (arith, length-step y s x xs o p) in
      rw (literals_both xs ys o' p', e)

-- the times that are reached: the first, and then the others
pub reached-step : (d : ℕ) (g : List ℕ) (near t : ℕ) (ts : List ℕ)
    → reached d g near (t ∷ ts) ≡ reach_at near (member t g) t ++ reached d g (near_after (d - 1) near (member t g)) ts
unfolding reached reach_at
reached-step d g zero t ts = by (member t g)
  where
    by : (b : Bool) → cond b (reached d g zero ts) (started t ∷ reached d g (d - 1) ts) ≡ reach_at zero b t ++ reached d g (near_after (d - 1) zero b) ts
    by true = refl
    by false = refl
reached-step d g (suc n) t ts = by (member t g)
  where
    by : (b : Bool)
        → cond b (carried t ∷ reached d g n ts) (both t ∷ reached d g (d - 1) ts) ≡ reach_at (suc n) b t ++ reached d g (near_after (d - 1) (suc n) b) ts
    by true = let e : suc n - 1 ≡ n = omega arith in rw e
    by false = refl

-- the time of an entry: it is one of those that are gone through
abbrev pub reach_time : Reach → ℕ
reach_time (started t) = t
reach_time (carried t) = t
reach_time (both t) = t

at_each : (P : ℕ → Type 0) (near : ℕ) (inside : Bool) (t : ℕ) → P t → Each (λ x. P (reach_time x)) (reach_at near inside t)
unfolding reach_at
at_each P zero true t p = each_none
at_each P zero false t p = each_more {x = started t} p each_none
at_each P (suc n) true t p = each_more {x = carried t} p each_none
at_each P (suc n) false t p = each_more {x = both t} p each_none

pub reached-each : (P : ℕ → Type 0) (d : ℕ) (g : List ℕ) (near : ℕ) {ts : List ℕ} → Each P ts → Each (λ x. P (reach_time x)) (reached d g near ts)
unfolding reached
reached-each P d g near each_none = each_none
reached-each P d g near (each_more {x = t} {xs = ts} p ps) =
    rw (reached-step d g near t ts)
    (each_both (at_each P near (member t g) t p) (reached-each P d g (near_after (d - 1) near (member t g)) ps))
