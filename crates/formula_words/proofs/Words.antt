-- An accepted file's formula, without and with its tail, has fewer than 2 ^ 32 words.
use mathlib.Core.Path.{◌≡◌, refl, ap}
use mathlib.Core.Bool.{Bool, true, false, cond}
use mathlib.Core.List.{List, [], ◌∷◌, map}
use Prim.Native.Nat.{ℕ, zero, suc, ◌+◌, ◌-◌, ◌*◌, ◌≤◌}
use native.Mathlib.Omega.{arith}
use lib.Dec.{ltb}
use lib.ListN.{length, get_or-eq_default}
use borrow.Author.Tests.{ltb-true, ltb-false}
use Rattle.laws.specs.Lists.{All, All-at}
use Rattle.scope.specs.Kinds.{Event, Constraint, Listed, Counted, rule, member, from, up_to, duration_of, users, users_from, group_at, counted_of}
use Rattle.scope.specs.Instance.{Instance}
use Rattle.scope.specs.Score.{event_count}
use Rattle.scope.specs.Formula.{words, variables, hard_of, bounded_variables, bounded_hard}
use Rattle.scope.specs.declared.FormulaSize.{FormulaSize}
use Rattle.parsing.specs.Numbers.{Ascending}
use Rattle.parsing.proofs.laws.Numbers.{ascending-length}
use Rattle.theory.specs.Accepted.{ValidInstance}
use Rattle.sizing.specs.declared.Size.{Size}
use Rattle.sizing.specs.Sums.{none, multiple, Within}
use Rattle.sizing.proofs.laws.Sums.{within_more, within-multiple}
use Rattle.sizing.specs.Gates.{or_size}
use Rattle.sizing.specs.Blocks.{use_size}
use Rattle.sizing.specs.Counts.{list_size}
use Rattle.sizing.proofs.laws.Limits.{or-within, starts-within}
use Rattle.sizing.specs.Tail.{tail_add}
use Rattle.sizing.specs.Whole.{stored}
use Rattle.measuring.specs.Rules.{rule_size, rules_size}
use Rattle.measuring.specs.Blocks.{uses_size, durations_size}
use Rattle.measuring.specs.Whole.{constraint_size, constraints_size, before_size, whole_size, tail_after, tail_of}
use Rattle.measuring.proofs.laws.Whole.{formula_of, whole-size, bounded_size}
use Rattle.formula_words.proofs.Inputs.{Modest, kind_few}
use Rattle.formula_words.proofs.Lean.{Lean, lean-more, lean-none, lean-sum, lean-within, count-lean, nodes-lean, tail-lean}

-- no more events use a resource than there are
users-few : (r e : ℕ) (es : List Event) → length (users_from r e es) ≤ length es
unfolding users_from
users-few r e [] = omega arith
users-few r e (v ∷ vs) = go (member r v.resources) (users-few r (suc e) vs)
  where
    go : (t : Bool) → length (users_from r (suc e) vs) ≤ length vs
        → length (cond t (e ∷ users_from r (suc e) vs) (users_from r (suc e) vs)) ≤ suc (length vs)
    go true h = omega arith
    go false h = omega arith

uses-lean : (T : ℕ) (es : List Event) → T ≤ 125 → length es ≤ 1024 → (rs : List ℕ) → Lean (384125 * length rs) (uses_size T es rs)
unfolding uses_size use_size
uses-lean T es h k [] = lean-more (omega arith) lean-none
uses-lean T es h k (r ∷ rs) =
    let n = length (users r es) in
    let one : Within 384125 (multiple T (or_size n)) =
    within_more (omega arith) (within-multiple T 3073 (or_size n) (or-within n (omega (arith, users-few r 1 es)))) in
    lean-more (omega arith) (lean-sum (lean-within one) (uses-lean T es h k rs))

durations-lean : (T : ℕ) (es : List Event) → Lean (2 * length es) (durations_size T es)
unfolding durations_size list_size
durations-lean T [] = lean-more (omega arith) lean-none
durations-lean T (v ∷ vs) = lean-more (omega arith) (lean-sum (count-lean 0 v.duration _ false T) (durations-lean T vs))

-- rules of one weight over lists with few inputs
rules-lean : (w : ℕ) (c : Counted) (ls : List Listed) → All Modest ls
    → Lean (2 * length ls) (rules_size (map (λ r. (w, r)) (map (rule c) ls)))
unfolding rules_size rule_size
rules-lean w c [] m = lean-more (omega arith) lean-none
rules-lean w c (l ∷ ls) m =
    lean-more (omega arith)
    (lean-sum (lean-sum (nodes-lean _ _ m.0.few) (count-lean w c.lo _ c.zero_free (length l.members)))
    (rules-lean w c ls m.1))

module _ (i : Instance) (v : ValidInstance i) where
  group_short : (g : ℕ) → length (group_at i.groups g) ≤ 125
  group_short g = go (ltb (g - 1) (length i.groups)) refl
    where
      go : (t : Bool) → ltb (g - 1) (length i.groups) ≡ t → length (group_at i.groups g) ≤ 125
      go true t =
          let a = All-at (Ascending i.times 0) [] i.groups (g - 1) (ltb-true (g - 1) (length i.groups) t) v.groups in
          omega (arith, ascending-length i.times 0 (group_at i.groups g) a (omega arith), v.times.high)
      go false t =
          let e = get_or-eq_default i.groups [] (ltb-false (g - 1) (length i.groups) t) in
          rw e (omega arith)

  constraint_lean : (c : Constraint) → Lean 250 (constraint_size i c)
  constraint_lean c =
      let few = kind_few i.times v.times.high (duration_of i.events) (λ r. users r i.events) (group_at i.groups) group_short c.kind in
      let counted = counted_of i.times (duration_of i.events) (λ r. users r i.events) (group_at i.groups) c.kind in
      lean-more (omega (arith, few.lists)) (rules-lean c.weight counted counted.lists few.inputs)

  constraints_lean : (cs : List Constraint) → Lean (250 * length cs) (constraints_size i cs)
  unfolding constraints_size
  constraints_lean [] = lean-more (omega arith) lean-none
  constraints_lean (c ∷ cs) = lean-more (omega arith) (lean-sum (constraint_lean c) (constraints_lean cs))

  length-up_to : (n k : ℕ) → length (from n k) ≡ k
  unfolding from
  length-up_to n zero = refl
  length-up_to n (suc k) = omega (arith, length-up_to (suc n) k)

  whole_lean : Lean 39694423 (whole_size i)
  unfolding whole_size before_size
  whole_lean =
      let starts = lean-within (starts-within (event_count i) i.times v.event-count.high v.times.high) in
      let uses = uses-lean i.times i.events v.times.high v.event-count.high (up_to i.resources) in
      let durations = durations-lean i.times i.events in
      let rest = constraints_lean i.constraints in
      lean-more
      (omega (arith, length-up_to 1 i.resources, v.resources.high, v.event-count.high, v.constraint_count.high))
      (lean-sum (lean-sum starts (lean-sum uses durations)) rest)

  tail-after : (cols : ℕ) (s : Size) (cs : List Constraint) → Lean 1 s → Lean 1 (tail_after i cols s cs)
  unfolding tail_after
  tail-after cols s [] l = l
  tail-after cols s (c ∷ cs) l = tail-after cols (tail_add cols s (constraint_size i c).units c.weight) cs (tail-lean cols s (constraint_size i c).units c.weight l)

  -- without the tail
  pub hard_words : variables i ≤ 8000000 → words (hard_of i) ≤ 4294967295
  unfolding formula_of
  hard_words h =
      let e = whole-size i v in
      omega (arith, whole_lean.few, ap (λ (z : Size). z.words) e, ap (λ (z : Size). z.variables) e)

  -- with the tail for a bound
  pub bounded_words : (B : ℕ) → bounded_variables i B ≤ 8000000 → words (bounded_hard i B) ≤ 4294967295
  unfolding tail_of stored
  bounded_words B h =
      let e = bounded_size i B v in
      let l = lean-sum whole_lean (tail-after (B + 1) none i.constraints (lean-more (omega arith) lean-none)) in
      omega (arith, l.few, ap (λ (z : FormulaSize). z.words) e, ap (λ (z : FormulaSize). z.variables) e)
