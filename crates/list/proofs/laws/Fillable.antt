-- What is given where a list is filled, and what it says of each kind: laws.
use Prim.Native.Nat.{ℕ, ◌+◌, ◌-◌, ◌*◌, ◌≤◌}
use mathlib.Core.Path.{◌≡◌, refl, sym, ap, ◌∙◌}
use mathlib.Core.List.{List, [], ◌∷◌, map, flat_map}
use native.Mathlib.Omega.{arith}
use lib.ListN.{length, length-append, length-map}
use Rattle.scope.specs.Cnf.{Gate, or}
use Rattle.scope.specs.Formula.{ref_literal, node_gate}
use Rattle.scope.specs.Kinds.{Kind, clash, preferred, spread, cluster, idle, Atom, Y, Entry, atom, entries, entries_nodes, entries_members, up_to, counted_of}
use Rattle.parsing.proofs.laws.Each.{each-head}
use Rattle.number.specs.Lists.{leading}
use Rattle.number.proofs.laws.Lists.{length-leading}
use Rattle.tables.specs.Rows.{row_at}
use Rattle.constraint.specs.declared.kinds.Head.{Head}
use Rattle.literals.specs.Variables.{Within}
use Rattle.literals.proofs.laws.Variables.{s_at, x_at}
use Rattle.user_table.specs.Filled.{users_at}
use Rattle.literals.specs.Tables.{group_in}
use Rattle.literals.proofs.laws.Entries.{Adds}
use Rattle.list_nodes.specs.Ground.{layout_of}
use Rattle.list_nodes.proofs.laws.Ground.{ground_groups}
use Rattle.list_nodes.proofs.GroupRows.{known-row}
use Rattle.list_nodes.proofs.laws.Runs.{length_from_lem, length-every}
use Rattle.list_nodes.specs.Stored.{counted_in, list_in, Fits}
use Rattle.plain_lists.proofs.laws.Atoms.{spread_add}
use Rattle.node_lists.specs.Cluster.{row_in, xs_of}
use Rattle.node_lists.proofs.laws.Cluster.{cluster-adds}
use Rattle.node_lists.proofs.XsRows.{xs-rows}
use Rattle.node_lists.specs.Idle.{inner_count}
use Rattle.node_lists.proofs.laws.Idle.{length-idle, idle-adds}
use Rattle.list.specs.Fillable.{Fillable}

-- how long a list of literals is
length-each : (f : ℕ → ℕ → ℕ) (ts es : List ℕ) → length (flat_map (λ e. map (f e) ts) es) ≡ length es * length ts
unfolding flat_map
length-each f ts [] = omega arith
length-each f ts (e ∷ es) =
    length-append (map (f e) ts) (flat_map (λ e. map (f e) ts) es) ∙ omega (arith, length-map ts (f e), length-each f ts es)

module _ {num : Atom → ℕ} {l : List Entry} {v k : ℕ} {gs : List Gate} {xs : List ℕ} (a : Adds num l v k gs xs) where
  pub nodes_length : length (entries_nodes l k) ≡ length gs
  nodes_length = sym (length-map (entries_nodes l k) (node_gate num v)) ∙ ap length a.gates

  pub members_length : length (entries_members l k) ≡ length xs
  members_length = sym (length-map (entries_members l k) (ref_literal num v)) ∙ ap length a.literals

-- the times of a clash
pub clash-time : {durations users groups list words : List ℕ} {h : Head} {r t v : ℕ} → Fillable durations users groups list h (clash r) t v words
    → Within h.times t
unfolding counted_of
clash-time {users = users} {h = h} {r = r} f =
    record {
      low = f.first;
      high =
          omega (
            arith,
            f.last,
            length-map (up_to h.times) (λ t. entries (map (λ e. atom (Y e t)) (users_at users r))),
            length_from_lem 1 h.times,
          );
    }

-- the list of a kind that has one
pub only_one : {durations users groups list words : List ℕ} {h : Head} {k : Kind} {t v : ℕ} → Fillable durations users groups list h k t v words
    → length (counted_in durations (users_at users) groups h k).lists ≡ 1
    → t ≡ 1
only_one f e = omega (arith, f.first, f.last)

-- the variables of a preferred time's nodes
pub preferred-small : {durations users groups list words : List ℕ} {h : Head} {e g t v : ℕ}
    → Fillable durations users groups list h (preferred e g) t v words
    → v + length (list_in durations (λ r. []) groups h (preferred e g) 1).nodes ≤ 8000001
unfolding counted_of
preferred-small f = rw (only_one f refl) at f.small

-- how many members a spread, a cluster and an idle limit have
module _ (durations users groups list : List ℕ) (h : Head) where
  pub spread_short : (n g lo hi : ℕ) → Fits durations users groups list h (spread (leading n list) g lo hi) → n * length (row_at groups (g - 1)) ≤ 255
  unfolding counted_of
  spread_short n g lo hi f =
      let s = (each-head f.short).most in
      let a = spread_add h.times (layout_of h) (group_in h.groups groups g) (leading n list) 0 0 in
      let c = rw (length-leading n list) at (length-each (s_at h.times (layout_of h)) (group_in h.groups groups g) (leading n list)) in
      rw (← (known-row groups h g f.range.1)) (omega (arith, s, members_length a, c))

  pub cluster_short : (r n lo hi : ℕ) → Fits durations users groups list h (cluster r (leading n list) lo hi) → n ≤ 255
  unfolding counted_of
  cluster_short r n lo hi f =
      let s = (each-head f.short).most in
      let a = cluster-adds h.times (layout_of h) (group_in h.groups groups) r (leading n list) 0 in
      omega (arith, s, members_length a, length-every 1 0 (length (leading n list)), length-leading n list)

  pub idle_short : (r n lo hi : ℕ) → Fits durations users groups list h (idle r (leading n list) lo hi)
      → inner_count (xs_of h.times (layout_of h).uses (row_in groups) r (leading n list)) ≤ 255
  unfolding counted_of
  idle_short r n lo hi f =
      let xss = xs_of h.times (layout_of h).uses (group_in h.groups groups) r (leading n list) in
      let s = (each-head f.short).most in
      let a = idle-adds h.times (layout_of h) (group_in h.groups groups) r (leading n list) 0 in
      let os = ground_groups f.ground f.range.1 in
      rw (← (xs-rows h.times (layout_of h).uses groups h r os)) (omega (arith, s, members_length a, length-every 3 2 (inner_count xss)))

  -- the variables of their nodes
  module _ (r n lo hi t v : ℕ) (words : List ℕ) where
    pub cluster_small : Fillable durations users groups list h (cluster r (leading n list) lo hi) t v words → v + n ≤ 8000001
    unfolding counted_of
    cluster_small f =
        let s = rw (only_one f refl) at f.small in
        let hs = leading n list in
        let xss = xs_of h.times (layout_of h).uses (group_in h.groups groups) r hs in
        let a = cluster-adds h.times (layout_of h) (group_in h.groups groups) r hs v in
        omega (
          arith,
          nodes_length a,
          length-map xss or,
          length-map hs (λ g. map (x_at h.times (layout_of h) r) (group_in h.groups groups g)),
          length-leading n list,
        )

    pub idle_small : Fillable durations users groups list h (idle r (leading n list) lo hi) t v words
        → v + 3 * inner_count (xs_of h.times (layout_of h).uses (row_in groups) r (leading n list)) ≤ 8000001
    unfolding counted_of
    idle_small f =
        let s = rw (only_one f refl) at f.small in
        let xss = xs_of h.times (layout_of h).uses (group_in h.groups groups) r (leading n list) in
        let a = idle-adds h.times (layout_of h) (group_in h.groups groups) r (leading n list) v in
        let os = ground_groups f.fits.ground f.fits.range.1 in
        rw (← (xs-rows h.times (layout_of h).uses groups h r os)) (omega (arith, nodes_length a, length-idle xss v))
