-- The values of nodes in a row: of a chain of ORs, and of nodes that refer to what stands before the row.
use mathlib.Core.Path.{◌≡◌, sym, ap, ◌∙◌}
use mathlib.Core.Bool.{Bool, false, ◌||◌, or-false}
use mathlib.Core.List.{List, [], ◌∷◌, ◌++◌, map, map-map, append-nil, append_assoc}
use Prim.Native.Nat.{ℕ, zero, suc, ◌+◌, ◌-◌, ◌≤◌, ◌<◌}
use native.Mathlib.Omega.{arith}
use lib.ListN.{length, get_or}
use Rattle.scope.specs.Kinds.{Atom, is, an_atom, atoms, Node, from, or_more, or_chain}
use Rattle.scope.specs.Score.{any, ref_true, node_true, values_after}
use Rattle.theory.proofs.laws.Values.{length_more, value-last}

module _ (τ : Atom → Bool) where
  -- an OR of atoms
  pub any_atoms : (vs : List Bool) (xs : List Atom) → any (map (ref_true τ vs) (atoms xs)) ≡ any (map τ xs)
  any_atoms vs xs = ap any (map-map (ref_true τ vs) (λ a. is (an_atom a)) xs)

  -- g says from i on what a chain says: with each atom more
  abbrev pub Grows : (g : ℕ → Bool) → ℕ → List Atom → Type 0
  Grows g i [] = Unit {0}
  Grows g i (x ∷ xs) = ((τ x || g i) ≡ g (suc i)) × Grows g (suc i) xs

  more_values : (g : ℕ → Bool) (xs : List Atom) (i k : ℕ) (vs : List Bool) → length vs ≡ suc k → get_or vs k false ≡ g i → Grows g i xs
      → values_after τ vs (or_more k xs) ≡ vs ++ map g (from (suc i) (length xs))
  unfolding values_after or_more any from
  more_values g [] i k vs l h grows = sym (append-nil vs)
  more_values g (x ∷ xs) i k vs l h grows =
      let e : (τ x || (get_or vs k false || false)) ≡ g (suc i) = rw (or-false, h) grows.0 in
      let ws = vs ++ g (suc i) ∷ [] in
      ap (λ b. values_after τ (vs ++ b ∷ []) (or_more (suc k) xs)) e
      ∙ (more_values g xs (suc i) (suc k) ws (length_more vs (g (suc i)) ∙ ap suc l) (value-last vs (g (suc i)) (suc k) l) grows.1
      ∙ append_assoc vs (g (suc i) ∷ []) (map g (from (suc (suc i)) (length xs))))

  pub chain_values : (g : ℕ → Bool) (i k n : ℕ) (xs ys : List Atom) (vs : List Bool) → length vs ≡ k → any (map τ xs) ≡ g i
      → Grows g i ys → length ys ≡ n - 1 → values_after τ vs (or_chain k n xs ys) ≡ vs ++ map g (from i n)
  unfolding values_after or_chain from
  chain_values g i k zero xs ys vs l h grows m = sym (append-nil vs)
  chain_values g i k (suc n) xs ys vs l h grows m =
      let e : any (map (ref_true τ vs) (atoms xs)) ≡ g i = any_atoms vs xs ∙ h in
      let c : length ys ≡ n = omega (arith, m) in
      let ws = vs ++ g i ∷ [] in
      ap (λ b. values_after τ (vs ++ b ∷ []) (or_more k ys)) e
      ∙ more_values g ys i k ws (length_more vs (g i) ∙ ap suc l) (value-last vs (g i) k l) grows
      ∙ append_assoc vs (g i ∷ []) (map g (from (suc i) (length ys)))
      ∙ ap (λ m. vs ++ g i ∷ map g (from (suc i) m)) c

  -- a node for each number from n on, whose value the nodes between do not change
  pub mapped_values : (f : ℕ → Node) (g : ℕ → Bool) (vs : List Bool) (n m : ℕ)
      → ((ws : List Bool) (t : ℕ) → n ≤ t → t < n + m → node_true τ (vs ++ ws) (f t) ≡ g t)
      → values_after τ vs (map f (from n m)) ≡ vs ++ map g (from n m)
  unfolding values_after from
  mapped_values f g vs n m h = rw append-nil at (go m n [] (λ ws t l k. h ws t l k))
    where
      go : (j u : ℕ) (us : List Bool) → ((ws : List Bool) (t : ℕ) → u ≤ t → t < u + j → node_true τ (vs ++ ws) (f t) ≡ g t)
          → values_after τ (vs ++ us) (map f (from u j)) ≡ vs ++ us ++ map g (from u j)
      go zero u us p = sym (append-nil (vs ++ us))
      go (suc j) u us p =
          let q = append_assoc vs us (g u ∷ []) in
          ap (λ b. values_after τ (vs ++ us ++ b ∷ []) (map f (from (suc u) j))) (p us u (omega arith) (omega arith))
          ∙ ap (λ ws. values_after τ ws (map f (from (suc u) j))) q
          ∙ go j (suc u) (us ++ g u ∷ []) (λ ws t l k. p ws t (omega arith) (omega arith))
          ∙ ap (λ ws. ws ++ map g (from (suc u) j)) (sym q)
          ∙ append_assoc (vs ++ us) (g u ∷ []) (map g (from (suc u) j))
