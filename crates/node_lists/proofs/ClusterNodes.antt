-- Kind 7's nodes in the words, group by group.
use Prim.Native.Nat.{ℕ, zero, suc, ◌+◌}
use mathlib.Core.Path.{◌≡◌, refl, sym, ap, ◌∙◌}
use mathlib.Core.List.{List, [], ◌∷◌, ◌++◌, map, map-append, append-nil}
use native.Mathlib.Numerals.{add-one}
use lib.ListN.{length, get_or, take, length-map}
use Rattle.scope.specs.Cnf.{or}
use Rattle.scope.specs.Kinds.{cluster, counted_of}
use Rattle.parsing.specs.Each.{Each}
use Rattle.number.specs.Lists.{leading}
use Rattle.number.proofs.laws.Lists.{length-leading}
use Rattle.constraint.specs.declared.kinds.Head.{Head}
use Rattle.constraint.specs.Valid.{OneOf}
use Rattle.literals.specs.Variables.{in_block}
use Rattle.literals.specs.Words.{Holds}
use Rattle.literals.proofs.laws.Words.{holds_as, holds-none}
use Rattle.literals.specs.Outputs.{every}
use Rattle.literals.specs.NodeWords.{node_words, nodes_words}
use Rattle.literals.proofs.laws.NodeWords.{nodes-words-both}
use Rattle.literals.specs.Tables.{group_in}
use Rattle.list_nodes.specs.Ground.{layout_of}
use Rattle.list_nodes.specs.Stored.{only_in, num_of, Stored}
use Rattle.list_nodes.proofs.laws.Stored.{adds-stored}
use Rattle.node_lists.specs.Cluster.{row_in, xs_of}
use Rattle.node_lists.proofs.laws.Cluster.{cluster-adds}
use Rattle.list_nodes.proofs.Nodes.{holds_then}
use Rattle.node_lists.proofs.XsRows.{xs-rows}

-- one member more of a list in a store
pub leading-more : (n : ℕ) (l : List ℕ) → leading (n + 1) l ≡ leading n l ++ (get_or l n 0 ∷ [])
unfolding leading
leading-more n l = rw (add-one n) (by n l)
  where
    by : (n : ℕ) (l : List ℕ) → leading (suc n) l ≡ leading n l ++ (get_or l n 0 ∷ [])
    by zero [] = refl
    by zero (x ∷ l) = refl
    by (suc n) [] = ap (◌∷◌ 0) (by n [])
    by (suc n) (x ∷ l) = ap (◌∷◌ x) (by n l)

module _ (T uses : ℕ) (group : ℕ → List ℕ) (r : ℕ) (l : List ℕ) where
  -- X of the first i groups, and of one more
  abbrev pub xs_to : (i : ℕ) → List (List ℕ)
  xs_to i = xs_of T uses group r (leading i l)

  pub xs_more : (i : ℕ) → xs_to (i + 1) ≡ xs_to i ++ (map (in_block T uses r) (group (get_or l i 0)) ∷ [])
  xs_more i =
      rw (leading-more i l) (map-append (λ g. map (in_block T uses r) (group g)) (leading i l) (get_or l i 0 ∷ []))

  length_ors : (i : ℕ) → length (map or (xs_to i)) ≡ i
  length_ors i =
      length-map (xs_to i) or ∙ length-map (leading i l) (λ g. map (in_block T uses r) (group g)) ∙ length-leading i l

  -- the nodes of the first i groups
  pub record OrsTo (v : ℕ) (words : List ℕ) (at i : ℕ) : Type 0 where
    pub holds : Holds words at (nodes_words v (map or (xs_to i)))

  pub ors_none : (v : ℕ) (words : List ℕ) → OrsTo v words 0 0
  unfolding nodes_words leading
  ors_none v words = record { holds = holds-none words }

  pub ors_more : (v i : ℕ) (xs : List ℕ) {words after : List ℕ} {n m : ℕ}
      → OrsTo v words n i
      → xs ≡ map (in_block T uses r) (group (get_or l i 0))
      → (o : ℕ)
      → o ≡ v + i
      → Holds after m (take n words ++ node_words (or xs) o)
      → OrsTo v after m (i + 1)
  unfolding nodes_words
  ors_more v i xs h e o q k =
      let f : map or (xs_to (i + 1)) ≡ map or (xs_to i) ++ (or xs ∷ []) = rw (xs_more i, e) (map-append or (xs_to i) _) in
      let s : nodes_words v (map or (xs_to (i + 1))) ≡ nodes_words v (map or (xs_to i)) ++ node_words (or xs) o =
      rw (f, nodes-words-both (map or (xs_to i)) (or xs ∷ []) v, length_ors i, q, append-nil) in
      record { holds = holds_as (sym s) (holds_then (node_words (or xs) o) h.holds k) }

-- the whole list
pub cluster-stored : (h : Head) (groups : List ℕ) (r : ℕ) (list : List ℕ) (count lo hi v : ℕ) {words out : List ℕ} {at end : ℕ}
    → Each (OneOf h.groups) (leading count list)
    → OrsTo h.times (layout_of h).uses (row_in groups) r list v words at count
    → Holds out end (take at words ++ every 1 v count)
    → Stored (num_of h) (only_in groups h (cluster r (leading count list) lo hi)) v out (record { nodes = count; at = at; end = end })
unfolding counted_of
cluster-stored h groups r list count lo hi v os p q =
    let hs = leading count list in
    let e : length hs ≡ count = length-leading count list in
    let xs = xs-rows h.times (layout_of h).uses groups h r os in
    adds-stored (rw xs at (cluster-adds h.times (layout_of h) (group_in h.groups groups) r hs v))
    (rw e (holds_then (every 1 v count) p.holds q))
    (sym (length_ors h.times (layout_of h).uses (row_in groups) r list count))
    p.holds.count
