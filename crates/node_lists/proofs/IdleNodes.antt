-- Kind 8's nodes in the words, one idle time after another, and group by group.
use Prim.Native.Nat.{ℕ, zero, suc, ◌+◌, ◌-◌, ◌*◌, ◌≤◌, ◌<◌}
use mathlib.Core.Path.{◌≡◌, refl, sym, ap, ◌∙◌}
use mathlib.Core.List.{List, [], ◌∷◌, ◌++◌, map, append-nil, append_assoc}
use native.Mathlib.Omega.{arith}
use native.Mathlib.Nat.{add-zero}
use native.Mathlib.Numerals.{add-one}
use lib.ListN.{length, get_or, take, drop, length-map}
use lib.Seq.{take-take, get_or-take}
use Rattle.scope.specs.Cnf.{pos, opp, or, and}
use Rattle.scope.specs.Kinds.{idle, counted_of}
use Rattle.parsing.specs.Each.{Each}
use Rattle.number.specs.Lists.{leading}
use Rattle.constraint.specs.declared.kinds.Head.{Head}
use Rattle.constraint.specs.Valid.{OneOf}
use Rattle.literals.specs.Variables.{in_block}
use Rattle.literals.specs.Words.{Holds}
use Rattle.literals.proofs.laws.Words.{holds_as, holds-none}
use Rattle.literals.specs.Outputs.{every}
use Rattle.literals.specs.NodeWords.{node_words, nodes_words}
use Rattle.literals.proofs.laws.NodeWords.{nodes-words-both}
use Rattle.literals.specs.Tables.{group_in}
use Rattle.list_nodes.specs.Ground.{layout_of}
use Rattle.list_nodes.proofs.laws.Ground.{leading_at}
use Rattle.list_nodes.specs.Stored.{only_in, num_of, Stored}
use Rattle.list_nodes.proofs.laws.Stored.{adds-stored}
use Rattle.node_lists.specs.Cluster.{row_in, xs_of}
use Rattle.node_lists.specs.Idle.{gap_gates, inner_count}
use Rattle.node_lists.proofs.laws.Idle.{idle_gates, length-gaps, length-idle, idle-adds}
use Rattle.list_nodes.proofs.Nodes.{holds_then, holds_kept}
use Rattle.node_lists.proofs.XsRows.{xs-rows}
use Rattle.node_lists.proofs.ClusterNodes.{xs_to, xs_more}

-- G, H and I of member k
pub gap-stored : (row : List ℕ) (n k v : ℕ) → k < n → (out : List ℕ) (at : ℕ) {o1 o2 o3 : List ℕ} {a b e : ℕ}
    → Holds o1 a (take at out ++ node_words (or (drop 0 (take k row))) v)
    → Holds o2 b (take a o1 ++ node_words (or (drop (k + 1) (take n row))) (v + 1))
    → Holds o3 e (take b o2 ++ node_words (and (opp (get_or row k 0) ∷ pos v ∷ pos (v + 1) ∷ [])) (v + 2))
    → Holds o3 e (take at out ++ nodes_words v (gap_gates (take n row) k 1 v))
unfolding gap_gates nodes_words
gap-stored row n k v l out at p q r =
    let A = node_words (or (take k row)) v in
    let B = node_words (or (drop (k + 1) (take n row))) (v + 1) in
    let C = node_words (and (opp (get_or row k 0) ∷ pos v ∷ pos (v + 1) ∷ [])) (v + 2) in
    let s : suc (suc v) ≡ v + 2 = omega arith in
    let w : take at out ++ nodes_words v (gap_gates (take n row) k 1 v) ≡ ((take at out ++ A) ++ B) ++ C =
    rw (take-take k n row (omega arith), get_or-take n row k 0 l, ← (add-one k), s, ← (add-one v)) (simp (append_assoc, append-nil)) in
    holds_as (sym w) (holds_then C (holds_then B p q) r)

-- the idle times of the first j inner members of a group
pub record GapsTo (before xs : List ℕ) (v : ℕ) (words : List ℕ) (at j : ℕ) : Type 0 where
  pub holds : Holds words at (before ++ nodes_words v (gap_gates xs 1 j v))

pub gaps-none : (xs : List ℕ) (v : ℕ) (words : List ℕ) (at : ℕ) → at ≤ length words → GapsTo (take at words) xs v words at 0
unfolding gap_gates nodes_words
gaps-none xs v words at h = record { holds = holds_as (sym (append-nil (take at words))) (holds_kept words at h) }

gap_more : (xs : List ℕ) (k n v : ℕ) → gap_gates xs k (n + 1) v ≡ gap_gates xs k n v ++ gap_gates xs (k + n) 1 (v + 3 * n)
unfolding gap_gates
gap_more xs k n v = rw (add-one n) (by k n v)
  where
    by : (k n v : ℕ) → gap_gates xs k (suc n) v ≡ gap_gates xs k n v ++ gap_gates xs (k + n) 1 (v + 3 * n)
    by k zero v = let e : v + 3 * 0 ≡ v = omega arith in rw (add-zero k, e)
    by k (suc n) v =
        let e : suc k + n ≡ k + suc n = omega arith in
        let f : v + 3 + 3 * n ≡ v + 3 * suc n = omega arith in
        rw (by (suc k) n (v + 3), e, f)

pub gaps-more : (before xs : List ℕ) (v j : ℕ) {words after : List ℕ} {n m : ℕ}
    → GapsTo before xs v words n j
    → (k o : ℕ)
    → k ≡ 1 + j
    → o ≡ v + 3 * j
    → Holds after m (take n words ++ nodes_words o (gap_gates xs k 1 o))
    → (i : ℕ)
    → i ≡ j + 1
    → GapsTo before xs v after m i
gaps-more before xs v j h k o e f q i t =
    let A = nodes_words v (gap_gates xs 1 j v) in
    let B = nodes_words o (gap_gates xs k 1 o) in
    let s : nodes_words v (gap_gates xs 1 (j + 1) v) ≡ A ++ B =
    rw (gap_more xs 1 j v, nodes-words-both (gap_gates xs 1 j v) (gap_gates xs (1 + j) 1 (v + 3 * j)) v, length-gaps xs 1 j v, e, f) in
    rw t (record { holds = holds_as (append_assoc before A B ∙ ap (◌++◌ before) (sym s)) (holds_then B h.holds q) })

-- one group more
inner_more : (xss : List (List ℕ)) (xs : List ℕ) → inner_count (xss ++ (xs ∷ [])) ≡ inner_count xss + (length xs - 2)
unfolding inner_count
inner_more [] xs = omega arith
inner_more (ys ∷ xss) xs = omega (arith, inner_more xss xs)

idle-more : (xss : List (List ℕ)) (xs : List ℕ) (v : ℕ)
    → idle_gates (xss ++ (xs ∷ [])) v ≡ idle_gates xss v ++ gap_gates xs 1 (length xs - 2) (v + 3 * inner_count xss)
unfolding idle_gates inner_count
idle-more [] xs v = let e : v + 3 * 0 ≡ v = omega arith in rw (e, append-nil)
idle-more (ys ∷ xss) xs v =
    let n = length ys - 2 in
    let e : v + 3 * n + 3 * inner_count xss ≡ v + 3 * (n + inner_count xss) = omega arith in
    rw (idle-more xss xs (v + 3 * n), e) (sym (append_assoc (gap_gates ys 1 n v) (idle_gates xss (v + 3 * n)) _))

-- a group of n members, after groups that have so many idle times, from the variable v on
pub record NextGroup (n found v : ℕ) : Type 0 where
  pub short : n ≤ 125
  pub most : found + (n - 2) ≤ 255
  pub last : v + 3 * (found + (n - 2)) ≤ 8000001

module _ (T uses : ℕ) (group : ℕ → List ℕ) (r : ℕ) where
  inner_most : (i n : ℕ) (l : List ℕ) → i ≤ n → inner_count (xs_to T uses group r l i) ≤ inner_count (xs_to T uses group r l n)
  unfolding leading inner_count
  inner_most zero n l h = omega arith
  inner_most (suc i) zero l h = let z : ⊥ = omega arith in absurd z
  inner_most (suc i) (suc n) [] h = omega (arith, inner_most i n [] (omega arith))
  inner_most (suc i) (suc n) (x ∷ l) h = omega (arith, inner_most i n l (omega arith))

  module _ (l : List ℕ) where
    -- what is known of the groups of the whole list: they stand in it, they are short, and their idle times are few
    pub record IdleIn (v count : ℕ) : Type 0 where
      pub room : count ≤ length l
      pub short : Each (λ g. length (group g) ≤ 125) (leading count l)
      pub most : inner_count (xs_to T uses group r l count) ≤ 255
      pub last : v + 3 * inner_count (xs_to T uses group r l count) ≤ 8000001

    -- the nodes of the first i groups, which have so many idle times
    pub record IdleTo (v : ℕ) (words : List ℕ) (at found i : ℕ) : Type 0 where
      pub holds : Holds words at (nodes_words v (idle_gates (xs_to T uses group r l i) v))
      pub count : found ≡ inner_count (xs_to T uses group r l i)

    pub idle_none : (v : ℕ) (words : List ℕ) → IdleTo v words 0 0 0
    unfolding nodes_words idle_gates inner_count leading
    idle_none v words = record { holds = holds-none words; count = refl }

    module _ (v i : ℕ) {words row : List ℕ} {at found n : ℕ} (h : IdleTo v words at found i) (x : Holds row n (map (in_block T uses r) (group (get_or l i 0)))) where
      -- how many idle times there are with the next group
      inner_next : inner_count (xs_to T uses group r l (i + 1)) ≡ found + (n - 2)
      inner_next =
          rw (xs_more T uses group r l i)
          (inner_more (xs_to T uses group r l i) (map (in_block T uses r) (group (get_or l i 0))) ∙ rw (← x.count, ← h.count))

      -- the next group has few members, and with it the idle times stay few
      pub idle_next : {count : ℕ} → IdleIn v count → i < count → NextGroup n found v
      idle_next {count} a k =
          let m = inner_most (i + 1) count l (omega arith) in
          let ts = group (get_or l i 0) in
          record {
            short = omega (arith, x.count, length-map ts (in_block T uses r), leading_at l count i a.short k);
            most = omega (arith, inner_next, m, a.most);
            last = omega (arith, inner_next, m, a.last);
          }

      pub idle_turn : {after : List ℕ} {end : ℕ} (o : ℕ) → o ≡ v + 3 * found
          → Holds after end (take at words ++ nodes_words o (gap_gates (take n row) 1 (n - 2) o))
          → (k : ℕ) → k ≡ n - 2
          → IdleTo v after end (found + k) (i + 1)
      idle_turn o e q k f =
          let xs = map (in_block T uses r) (group (get_or l i 0)) in
          let xss = xs_to T uses group r l i in
          let B = nodes_words o (gap_gates (take n row) 1 (n - 2) o) in
          let t : nodes_words v (idle_gates (xs_to T uses group r l (i + 1)) v) ≡ nodes_words v (idle_gates xss v) ++ B =
          rw (
            xs_more T uses group r l i,
            idle-more xss xs v,
            nodes-words-both (idle_gates xss v) (gap_gates xs 1 (length xs - 2) (v + 3 * inner_count xss)) v,
            length-idle xss v,
            ← h.count,
            ← e,
            ← x.count,
            x.front,
          )
          in
          record { holds = holds_as (sym t) (holds_then B h.holds q); count = rw f (sym inner_next) }

-- the whole list
pub idle-stored : (h : Head) (groups : List ℕ) (r : ℕ) (list : List ℕ) (count lo hi v : ℕ) {words out : List ℕ} {at end found : ℕ}
    → Each (OneOf h.groups) (leading count list)
    → IdleTo h.times (layout_of h).uses (row_in groups) r list v words at found count
    → Holds out end (take at words ++ every 3 (v + 2) found)
    → (nodes : ℕ)
    → nodes ≡ 3 * found
    → Stored (num_of h) (only_in groups h (idle r (leading count list) lo hi)) v out (record { nodes = nodes; at = at; end = end })
unfolding counted_of
idle-stored h groups r list count lo hi v {found = found} os p q nodes e =
    let hs = leading count list in
    let xss = xs_of h.times (layout_of h).uses (row_in groups) r hs in
    let xs = xs-rows h.times (layout_of h).uses groups h r os in
    adds-stored (rw xs at (idle-adds h.times (layout_of h) (group_in h.groups groups) r hs v))
    (rw (← p.count) (holds_then (every 3 (v + 2) found) p.holds q))
    (omega (arith, length-idle xss v, p.count))
    p.holds.count
