-- The entries of kinds 1 to 8, valued in a timetable: their nodes and members count the same.
use mathlib.Core.Path.{subst}
use mathlib.Core.Path.{◌≡◌, refl, sym, ap, ap₂, ◌∙◌}
use mathlib.Core.Bool.{Bool, true, false, not, cond, ◌&&◌, and-true, and_assoc}
use mathlib.Core.List.{List, [], ◌∷◌, ◌++◌, map, flat_map, sum, map-append}
use Prim.Native.Nat.{ℕ, ◌+◌}
use native.Mathlib.Omega.{arith}
use native.Mathlib.Nat.{zero-add, add_assoc}
use lib.ListN.{length, get_or, get_or-append}
use Rattle.scope.specs.Kinds.{Atom, Entry, atom, any_of, gap, Node, atoms, entry_nodes, entry_member, added, entries_nodes, entries_members, entries}
use Rattle.scope.specs.Score.{any, all, trues, ref_true, values_after, count}
use Rattle.theory.proofs.laws.Nodes.{length-entry}
use Rattle.theory.proofs.laws.Values.{length_more, length-values, values_append, values_keep, value-last}

-- an idle time is false itself, with a true one earlier and a true one later
unfoldable pub entry_true : (Atom → Bool) → Entry → Bool
entry_true τ (atom a) = τ a
entry_true τ (any_of xs) = any (map τ xs)
entry_true τ (gap earlier here later) = not (τ here) && any (map τ earlier) && any (map τ later)

trues-append : (xs ys : List Bool) → trues (xs ++ ys) ≡ trues xs + trues ys
unfolding trues
trues-append [] ys = sym (zero-add (trues ys))
trues-append (x ∷ xs) ys = rw (trues-append xs ys) (sym (add_assoc (cond x 1 0) (trues xs) (trues ys)))

-- a count over a list of lists is a sum of counts
pub trues-flat : {A : Type 0} (f : A → Bool) (g : ℕ → List A) (xs : List ℕ)
    → trues (map f (flat_map g xs)) ≡ sum ◌+◌ 0 (map (λ x. trues (map f (g x))) xs)
unfolding flat_map trues sum
trues-flat f g [] = refl
trues-flat f g (x ∷ xs) =
    ap trues (map-append f (g x) (flat_map g xs)) ∙ trues-append (map f (g x)) (map f (flat_map g xs)) ∙ rw (trues-flat f g xs)

module _ (τ : Atom → Bool) where
  atoms_true : (vs : List Bool) (xs : List Atom) → map (ref_true τ vs) (atoms xs) ≡ map τ xs
  atoms_true vs [] = refl
  atoms_true vs (x ∷ xs) = ap (◌∷◌ (τ x)) (atoms_true vs xs)

  -- an entry's member, whatever nodes follow its own
  entry-true : (x : Entry) (vs : List Bool) (k : ℕ) (ms : List Node) → length vs ≡ k
      → ref_true τ (values_after τ (values_after τ vs (entry_nodes x k)) ms) (entry_member x k) ≡ entry_true τ x
  unfolding values_after entry_true any all
  entry-true (atom a) vs k ms e = refl
  entry-true (any_of xs) vs k ms e =
      let b = any (map (ref_true τ vs) (atoms xs)) in
      values_keep τ (vs ++ b ∷ []) ms k (omega (arith, length_more vs b)) ∙ value-last vs b k e ∙ ap any (atoms_true vs xs)
  entry-true (gap earlier here later) vs k ms e =
      let g = any (map (ref_true τ vs) (atoms earlier)) in
      let ws = vs ++ g ∷ [] in
      let h = any (map (ref_true τ ws) (atoms later)) in
      let us = ws ++ h ∷ [] in
      let i = not (τ here) && (get_or us k false && (get_or us (k + 1) false && true)) in
      let lw = length_more vs g in
      let lu = length_more ws h in
      let atG : get_or us k false ≡ any (map τ earlier) =
      get_or-append ws (h ∷ []) false k (omega (arith, lw)) ∙ value-last vs g k e ∙ ap any (atoms_true vs earlier) in
      let atH : get_or us (k + 1) false ≡ any (map τ later) = value-last ws h (k + 1) (omega (arith, lw)) ∙ ap any (atoms_true ws later) in
      values_keep τ (us ++ i ∷ []) ms (k + 2) (omega (arith, lw, lu, length_more us i)) ∙ value-last us i (k + 2) (omega (arith, lw, lu))
      ∙ rw (atG, atH, and-true) (sym (and_assoc (not (τ here)) (any (map τ earlier)) (any (map τ later))))

  entries_true : (xs : List Entry) (vs : List Bool) (k : ℕ) → length vs ≡ k
      → map (ref_true τ (values_after τ vs (entries_nodes xs k))) (entries_members xs k) ≡ map (entry_true τ) xs
  unfolding entries_nodes entries_members
  entries_true [] vs k e = refl
  entries_true (x ∷ xs) vs k e =
      let ms = entries_nodes xs (k + added x) in
      let ws = values_after τ vs (entry_nodes x k) in
      let l : length ws ≡ k + added x = omega (arith, length-values τ vs (entry_nodes x k), length-entry x k) in
      subst
      (λ (us : List Bool). map (ref_true τ us) (entry_member x k ∷ entries_members xs (k + added x)) ≡ map (entry_true τ) (x ∷ xs))
      (sym (values_append τ vs (entry_nodes x k) ms))
      (ap₂ (λ b bs. b ∷ bs) (entry-true x vs k ms e) (entries_true xs ws (k + added x) l))

  -- as many members are true as entries
  pub entries_count : (xs : List Entry) → count τ (entries xs) ≡ trues (map (entry_true τ) xs)
  unfolding count
  entries_count xs = ap trues (entries_true xs [] 0 refl)
