-- What is known of a constraint that is sized, and its size from that of its first counted list: laws.
use Prim.Native.Nat.{ℕ, ◌+◌, ◌≤◌}
use mathlib.Core.Path.{◌≡◌, sym, ◌∙◌}
use mathlib.Core.List.{List}
use native.Mathlib.Nat.{mul-le-mul}
use native.Mathlib.Omega.{arith}
use lib.ListN.{length}
use Rattle.scope.specs.Kinds.{Constraint, Node, Listed, Counted, rule}
use Rattle.parsing.specs.Each.{Each, each_none, each_more}
use Rattle.parsing.proofs.laws.Each.{each_at}
use Rattle.constraint.specs.declared.kinds.Head.{Head}
use Rattle.constraint.specs.declared.kinds.Bounds.{Bounds}
use Rattle.constraint.specs.Bounds.{low_of, high_of, free_of}
use Rattle.constraint.proofs.laws.Bounds.{bounds-right}
use Rattle.user_table.specs.Filled.{users_at}
use Rattle.literals.specs.Numbered.{no_list}
use Rattle.literals.specs.Tables.{group_in, duration_in}
use Rattle.list_nodes.specs.Stored.{Short, list_at, counted_in, list_in}
use Rattle.fitting.proofs.laws.Lists.{Shape, lists-shape, Small, lists_small, Like, lists_alike}
use Rattle.sizing.specs.declared.Size.{Size}
use Rattle.sizing.specs.Sums.{multiple, Within, Fits64}
use Rattle.sizing.proofs.laws.Sums.{within_more, within-multiple, multiple-zero, multiple-suc}
use Rattle.measuring.specs.Rules.{rule_size, rules_size}
use Rattle.measuring.proofs.laws.Rules.{listed-size}
use Rattle.part_sizes.specs.Listed.{ListSized}
use Rattle.part_sizes.proofs.laws.Listed.{BoundsOf}
use Rattle.part_sizes.specs.Sizable.{lists_size, Sizable, CountedSized}

module _ {durations users groups list : List ℕ} {h : Head} {c : Constraint} (s : Sizable durations users groups list h c) where
  -- what it counts
  abbrev counted_by : Counted
  counted_by = counted_in durations (users_at users) groups h c.kind

  pub sizable_bounds : {b : Bounds} → b ≡ record { lo = low_of c.kind; hi = high_of c.kind; free = free_of c.kind }
      → BoundsOf counted_by b
  sizable_bounds e =
      let r = bounds-right h.times (duration_in h.events durations) (users_at users) (group_in h.groups groups) c.kind in
      record { lo = rw (e, r.lo); hi = rw (e, r.hi); free = rw (e, r.free) }

  pub sizable_ordered : counted_by.lo ≤ counted_by.hi
  sizable_ordered =
      let r = bounds-right h.times (duration_in h.events durations) (users_at users) (group_in h.groups groups) c.kind in
      omega (arith, r.lo, r.hi, s.ordered)

  pub sizable_shape : Shape h.times counted_by
  sizable_shape = lists-shape h.times (duration_in h.events durations) (users_at users) (group_in h.groups groups) c.kind

  -- its first list is short, and so its nodes have small numbers
  pub sizable_short : Short counted_by (list_in durations (users_at users) groups h c.kind 1)
  sizable_short = each_at 0 no_list s.fits.short (omega (arith, s.some))

  pub sizable_small : 1 + length (list_in durations (users_at users) groups h c.kind 1).nodes ≤ 8000001
  sizable_small =
      let small : Small h.times (list_in durations (users_at users) groups h c.kind 1) =
      each_at 0 no_list (lists_small sizable_shape) (omega (arith, s.some))
      in
      omega (arith, small.few, sizable_short.most, s.fits.ground.times)

-- lists that are alike have one size
module _ (w : ℕ) (c : Counted) where
  like_size : {ns : List Node} {n : ℕ} (l m : Listed) → Like ns n l → Like ns n m → rule_size w (rule c l) ≡ rule_size w (rule c m)
  like_size l m p q = rw (listed-size w c l, listed-size w c m, p.nodes, p.members, q.nodes, q.members)

  lists_times : {ns : List Node} {n : ℕ} (z : Size) (m : Listed) → Like ns n m → z ≡ rule_size w (rule c m) → {ls : List Listed}
      → Each (Like ns n) ls
      → lists_size w c ls ≡ multiple (length ls) z
  unfolding rules_size
  lists_times z m q e each_none = sym (multiple-zero z)
  lists_times z m q e (each_more {x = l} {xs = ls} p ps) =
      rw (like_size l m p q, ← e, lists_times z m q e ps) (sym (multiple-suc (length ls) z))

  module _ {k : ℕ} {one : Size} (o : ListSized w c (list_at c.lists 1) one) (few : k ≤ 125) where
    times_within : Within 268435456 (multiple k one)
    times_within = within_more (omega arith) (within-multiple k 1454651 one o.within)

    pub times_fits : Fits64 (multiple k one)
    times_fits = within_more (omega arith) times_within

    -- the size of one of them, as often as there are lists
    pub times_sized : {T : ℕ} {z : Size} → Shape T c → k ≡ length c.lists → 1 ≤ k → z ≡ multiple k one → CountedSized w c z
    times_sized {z = z} s n h e =
        let a = lists_alike s in
        let q = each_at 0 no_list a.each (omega arith) in
        let m = mul-le-mul {n₁ = k} {m₁ = one.units} {n₂ = 125} {m₂ = 255} few o.few in
        record {
          eq = e ∙ rw n (sym (lists_times one (list_at c.lists 1) q o.eq a.each));
          within = rw e times_within;
          few = rw e (unfold multiple in omega (arith, m));
        }
