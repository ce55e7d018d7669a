-- The nodes and the members of a list are over literals of variables, and as many are counted as the bounds need.
use Prim.Native.Nat.{ℕ, zero, suc, ◌+◌, ◌-◌, ◌*◌, ◌≤◌, ◌<◌}
use mathlib.Core.Path.{refl}
use mathlib.Core.List.{List, [], ◌∷◌, map}
use native.Mathlib.Omega.{arith}
use lib.ListN.{length, get_or, take, drop, length-map}
use Rattle.scope.specs.Cnf.{pos, opp, Gate, or, and}
use Rattle.scope.specs.Kinds.{Kind, clash, unavailable, preferred, split, spread, busy, cluster, idle, distribute, lengths, precedence, Atom, Y, Entry, atom, entries, Listed, up_to, counted_of}
use Rattle.parsing.specs.Each.{Each, each_none, each_more}
use Rattle.parsing.proofs.laws.Each.{each_at, each-drop}
use Rattle.constraint.specs.declared.kinds.Head.{Head}
use Rattle.constraint.specs.Valid.{OneOf}
use Rattle.literals.specs.Variables.{base_of, Within}
use Rattle.literals.proofs.laws.Variables.{x_at}
use Rattle.user_table.specs.Filled.{users_at}
use Rattle.literals.specs.Proper.{Proper}
use Rattle.literals.proofs.laws.Proper.{each_both, times-proper, events-proper, spread-proper, every-proper, up_to-within, ascending-within}
use Rattle.literals.specs.Tables.{duration_in, group_in}
use Rattle.literals.specs.Numbered.{no_list}
use Rattle.literals.specs.NodeWords.{IsNode}
use Rattle.literals.proofs.laws.Entries.{Adds}
use Rattle.list_nodes.specs.Ground.{Ground, layout_of}
use Rattle.list_nodes.proofs.laws.Ground.{ground_sizes, ground_event, ground_resource, ground_ascends, ground_groups, ground_events}
use Rattle.list_nodes.specs.Stored.{counted_in, list_in, num_of, Short}
use Rattle.list_nodes.proofs.GroupRows.{known-row}
use Rattle.plain_lists.proofs.laws.Plain.{list-of-time}
use Rattle.plain_lists.proofs.laws.Atoms.{events_add, starts_add, uses_add, spread_add}
use Rattle.node_lists.specs.Cluster.{xs_of}
use Rattle.node_lists.proofs.laws.Cluster.{cluster-adds}
use Rattle.node_lists.specs.Idle.{gap_gates, inner_count}
use Rattle.node_lists.proofs.laws.Idle.{idle_gates, length-idle, idle-adds}
use Rattle.node_lists.specs.Lengths.{outside_count}
use Rattle.node_lists.proofs.laws.Lengths.{ByNumbers, of_length_lem, of-length-outside}
use Rattle.list.specs.Fillable.{Fillable}
pub use Rattle.list.proofs.laws.OverLiterals.{OverLiterals}
use Rattle.list.proofs.laws.LengthLiterals.{length_nodes, outside_nodes, last-proper, count-few, base-small}
use Rattle.list.proofs.laws.GapLiterals.{gap_over}
use Rattle.list.proofs.laws.ReachLiterals.{reach_literals}
use Rattle.list.proofs.laws.Proper.{opposite-proper, output-proper}
use Rattle.list.proofs.laws.Fillable.{clash-time, only_one, nodes_length}

adds-literals : {num : Atom → ℕ} {l : List Entry} {v : ℕ} {gs : List Gate} {xs : List ℕ}
    → Adds num l v 0 gs xs
    → Each IsNode gs
    → Each Proper xs
    → OverLiterals num (entries l) v
adds-literals a p q = record { nodes = rw a.gates p; members = rw a.literals q }

numbers-literals : {num : Atom → ℕ} {l : Listed} {v : ℕ} {gs : List Gate} {xs : List ℕ}
    → ByNumbers num v l gs xs
    → Each IsNode gs
    → Each Proper xs
    → OverLiterals num l v
numbers-literals b p q = record { nodes = rw b.gates p; members = rw b.literals q }

-- X of resource r in a group, and in each of some groups
module _ {groups : List ℕ} {h : Head} (g : Ground groups h) {r : ℕ} (x : OneOf h.resources r) where
  uses_proper : {n : ℕ} → OneOf h.groups n → Each Proper (map (x_at h.times (layout_of h) r) (group_in h.groups groups n))
  uses_proper {n} o =
      rw (known-row groups h n o)
      (times-proper (layout_of h).uses h.times r (ground_sizes g).uses g.times (ground_resource g x)
      (ascending-within 125 g.times (ground_ascends g o)))

  groups_proper : {hs : List ℕ} → Each (OneOf h.groups) hs → Each (Each Proper) (xs_of h.times (layout_of h).uses (group_in h.groups groups) r hs)
  groups_proper each_none = each_none
  groups_proper (each_more o os) = each_more (uses_proper o) (groups_proper os)

-- kind 7's nodes
ors-nodes : {xss : List (List ℕ)} → Each (Each Proper) xss → Each IsNode (map or xss)
ors-nodes each_none = each_none
ors-nodes (each_more {x = xs} p ps) = each_more {x = or xs} p (ors-nodes ps)

-- kind 8's nodes
each_take : {P : ℕ → Type 0} {xs : List ℕ} (n : ℕ) → Each P xs → Each P (take n xs)
each_take zero e = each_none
each_take (suc n) each_none = each_none
each_take (suc n) (each_more p ps) = each_more p (each_take n ps)

gaps-nodes : (xs : List ℕ) → Each Proper xs → (k n v : ℕ) → n ≤ length xs - k → 1 ≤ v → v + 3 * n ≤ 8000001 → Each IsNode (gap_gates xs k n v)
unfolding gap_gates
gaps-nodes xs p k zero v h a b = each_none
gaps-nodes xs p k (suc n) v h a b =
    let x = opposite-proper (get_or xs k 0) (each_at k 0 p (omega arith)) in
    let y = output-proper v a (omega arith) in
    let z = output-proper (v + 1) (omega arith) (omega arith) in
    each_more {x = or (take k xs)} (each_take k p)
    (each_more {x = or (drop (suc k) xs)} (each-drop (suc k) p)
    (each_more {x = and (opp (get_or xs k 0) ∷ pos v ∷ pos (v + 1) ∷ [])} (each_more x (each_more y (each_more z each_none)))
    (gaps-nodes xs p (suc k) n (v + 3) (omega arith) (omega arith) (omega arith))))

idle-nodes : (xss : List (List ℕ)) → Each (Each Proper) xss → (v : ℕ) → 1 ≤ v → v + 3 * inner_count xss ≤ 8000001 → Each IsNode (idle_gates xss v)
unfolding idle_gates inner_count
idle-nodes [] each_none v a b = each_none
idle-nodes (xs ∷ xss) (each_more p ps) v a b =
    each_both (gaps-nodes xs p 1 (length xs - 2) v (omega arith) a (omega arith))
    (idle-nodes xss ps (v + 3 * (length xs - 2)) (omega arith) (omega arith))

-- those of each kind
module _ (durations users groups list : List ℕ) (h : Head) (t v : ℕ) (words : List ℕ) (s : 1 ≤ v) where
  pub list_literals : (k : Kind) → Fillable durations users groups list h k t v words → OverLiterals (num_of h) (list_in durations (users_at users) groups h k t) v
  unfolding counted_of
  list_literals (clash r) f =
      let w = clash-time f in
      let g = f.fits.ground in
      rw (list-of-time (λ t. entries (map (λ e. atom (Y e t)) (users_at users r))) h.times t w)
      (adds-literals (events_add h.times (layout_of h) t (users_at users r) v 0) each_none
      (events-proper h.times t g.times (record { low = w.low; high = omega (arith, w.high, g.times) }) (f.fits.rows.within r)))
  list_literals (unavailable r m) f =
      rw (only_one f refl)
      (adds-literals (uses_add h.times (layout_of h) r (group_in h.groups groups m) v 0) each_none
      (uses_proper f.fits.ground f.fits.range.0 f.fits.range.1))
  list_literals (preferred e m) f =
      rw (only_one f refl)
      (reach_literals f.fits.ground f.fits.range.0 (duration_in h.events durations e) (group_in h.groups groups m) v s (rw (only_one f refl) at f.small))
  list_literals (split e lo hi) f =
      let g = f.fits.ground in
      rw (only_one f refl)
      (adds-literals (starts_add h.times (layout_of h) e (up_to h.times) v 0) each_none
      (times-proper (layout_of h).starts h.times e (omega (arith, (ground_sizes g).starts)) g.times (ground_event g f.fits.range.0)
      (up_to-within 125 h.times g.times)))
  list_literals (spread es m lo hi) f =
      let g = f.fits.ground in
      let ts : Each (Within 125) (group_in h.groups groups m) =
      rw (known-row groups h m f.fits.range.1) (ascending-within 125 g.times (ground_ascends g f.fits.range.1)) in
      rw (only_one f refl)
      (adds-literals (spread_add h.times (layout_of h) (group_in h.groups groups m) es v 0) each_none
      (spread-proper (layout_of h).starts h.times (omega (arith, (ground_sizes g).starts)) g.times (ground_events g f.fits.range.0) ts))
  list_literals (busy r m lo hi) f =
      rw (only_one f refl)
      (adds-literals (uses_add h.times (layout_of h) r (group_in h.groups groups m) v 0) each_none
      (uses_proper f.fits.ground f.fits.range.0 f.fits.range.1))
  list_literals (cluster r hs lo hi) f =
      let g = f.fits.ground in
      let xss = xs_of h.times (layout_of h).uses (group_in h.groups groups) r hs in
      let a = cluster-adds h.times (layout_of h) (group_in h.groups groups) r hs v in
      let b = rw (only_one f refl) at f.small in
      let c = length-map xss or in
      let d = length-map hs (λ g. map (x_at h.times (layout_of h) r) (group_in h.groups groups g)) in
      rw (only_one f refl)
      (adds-literals a (ors-nodes (groups_proper g f.fits.range.0 (ground_groups g f.fits.range.1)))
      (every-proper 1 v (length hs) s (omega (arith, nodes_length a))))
  list_literals (idle r hs lo hi) f =
      let g = f.fits.ground in
      let xss = xs_of h.times (layout_of h).uses (group_in h.groups groups) r hs in
      let a = idle-adds h.times (layout_of h) (group_in h.groups groups) r hs v in
      let b = rw (only_one f refl) at f.small in
      let c = length-idle xss v in
      rw (only_one f refl)
      (adds-literals a
      (idle-nodes xss (groups_proper g f.fits.range.0 (ground_groups g f.fits.range.1)) v s (omega (arith, nodes_length a)))
      (every-proper 3 (v + 2) (inner_count xss) (omega arith) (omega (arith, nodes_length a))))
  list_literals (distribute e n lo hi) f =
      let g = f.fits.ground in
      let b : v ≤ 8000001 = omega (arith, f.small) in
      rw (only_one f refl)
      (numbers-literals (of_length_lem h.times (layout_of h) e v n f.fits.range.1.low)
      (length_nodes h.times (layout_of h) e v (ground_sizes g) (ground_event g f.fits.range.0) s b n (omega (arith, f.fits.range.1.high, g.times)))
      (last-proper h.times v 1 g.times s b (omega arith) (omega arith)))
  list_literals (lengths e a b) f =
      let g = f.fits.ground in
      let m : v ≤ 8000001 = omega (arith, f.small) in
      rw (only_one f refl)
      (numbers-literals (of-length-outside h.times (layout_of h) e v a b f.fits.range.1.low)
      (outside_nodes h.times (layout_of h) e v (ground_sizes g) (ground_event g f.fits.range.0) s m a b (omega (arith, f.fits.range.1.high, g.times)))
      (last-proper h.times v (outside_count a) g.times s m (count-few a).0 (count-few a).1))
  list_literals (precedence a b lo hi) f =
      let g = f.fits.ground in
      let m : v ≤ 8000001 = omega (arith, f.small) in
      let base : (e : ℕ) → OneOf h.events e → base_of 0 h.times e < 524288 =
      λ e o. base-small 0 h.times e (omega arith) g.times (ground_event g o) in
      rw (only_one f refl)
      (gap_over h.times (layout_of h) a b lo hi v g.times (base a f.fits.range.0) (base b f.fits.range.1) s m
      f.fits.range.2.high f.fits.range.3.high)

  -- it has at most 255 members, and the low bound is no more than these
  pub list_short : (k : Kind) → Fillable durations users groups list h k t v words
      → Short (counted_in durations (users_at users) groups h k) (list_in durations (users_at users) groups h k t)
  list_short k f = each_at (t - 1) no_list f.fits.short (omega (arith, f.first, f.last))
