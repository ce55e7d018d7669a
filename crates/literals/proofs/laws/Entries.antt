-- The gates and the literals of the entries of a counted list.
use Prim.Native.Nat.{ℕ, ◌+◌}
use mathlib.Core.Path.{◌≡◌, refl, sym, ap, ◌∙◌}
use mathlib.Core.List.{List, [], ◌∷◌, ◌++◌, map, flat_map, map-append, append_assoc}
use native.Mathlib.Omega.{arith}
use native.Mathlib.Nat.{add-zero}
use lib.ListN.{length, length-append, length-map}
use Rattle.scope.specs.Kinds.{Atom, atoms, Entry, atom, any_of, gap, entry_nodes, entry_member, added, entries_nodes, entries_members}
use Rattle.scope.specs.Cnf.{Gate}
use Rattle.scope.specs.Formula.{ref_literal, node_gate}

-- in a list whose first node is the variable v, the entries that stand after k nodes have the gates gs and the literals xs
pub record Adds (num : Atom → ℕ) (l : List Entry) (v k : ℕ) (gs : List Gate) (xs : List ℕ) : Type 0 where
  pub gates : map (node_gate num v) (entries_nodes l k) ≡ gs
  pub literals : map (ref_literal num v) (entries_members l k) ≡ xs

length-entry : (x : Entry) (k : ℕ) → length (entry_nodes x k) ≡ added x
length-entry (atom a) k = refl
length-entry (any_of xs) k = refl
length-entry (gap earlier here later) k = refl

length-step : (x : Entry) (l : List Entry) (k : ℕ) → length (entries_nodes (x ∷ l) k) ≡ added x + length (entries_nodes l (k + added x))
unfolding entries_nodes
length-step x l k = length-append (entry_nodes x k) (entries_nodes l (k + added x)) ∙ rw (length-entry x k)

-- some entries and then others
nodes-both : (l m : List Entry) (k : ℕ) → entries_nodes (l ++ m) k ≡ entries_nodes l k ++ entries_nodes m (k + length (entries_nodes l k))
unfolding entries_nodes
nodes-both [] m k = rw (add-zero k)
nodes-both (x ∷ l) m k =
    let e : k + added x + length (entries_nodes l (k + added x)) ≡ k + length (entries_nodes (x ∷ l) k) = omega (arith, length-step x l k) in
    rw (nodes-both l m (k + added x), e) (sym (append_assoc (entry_nodes x k) (entries_nodes l (k + added x)) _))

members-both : (l m : List Entry) (k : ℕ)
    → entries_members (l ++ m) k ≡ entries_members l k ++ entries_members m (k + length (entries_nodes l k))
unfolding entries_members entries_nodes
members-both [] m k = rw (add-zero k)
members-both (x ∷ l) m k =
    let e : k + added x + length (entries_nodes l (k + added x)) ≡ k + length (entries_nodes (x ∷ l) k) = omega (arith, length-step x l k) in
    rw (members-both l m (k + added x), e)

module _ (num : Atom → ℕ) where
  pub adds_none : (v k : ℕ) → Adds num [] v k [] []
  unfolding entries_nodes entries_members
  adds_none v k = record { gates = refl; literals = refl }

  -- an entry and then others
  pub adds_more : (x : Entry) {l : List Entry} {v k : ℕ} {gs : List Gate} {xs : List ℕ}
      → Adds num l v (k + added x) gs xs
      → Adds num (x ∷ l) v k (map (node_gate num v) (entry_nodes x k) ++ gs) (ref_literal num v (entry_member x k) ∷ xs)
  unfolding entries_nodes entries_members
  adds_more x {l} {v} {k} a =
      record {
        gates = map-append (node_gate num v) (entry_nodes x k) (entries_nodes l (k + added x)) ∙ rw a.gates;
        literals = rw a.literals;
      }

  -- atoms are literals as they are
  pub atoms_literals : (v : ℕ) (xs : List Atom) → map (ref_literal num v) (atoms xs) ≡ map num xs
  atoms_literals v [] = refl
  atoms_literals v (x ∷ xs) = ap (◌∷◌ (num x)) (atoms_literals v xs)

pub adds-both : {num : Atom → ℕ} {l m : List Entry} {v k : ℕ} {gs hs : List Gate} {xs ys : List ℕ}
    → Adds num l v k gs xs
    → Adds num m v (k + length gs) hs ys
    → Adds num (l ++ m) v k (gs ++ hs) (xs ++ ys)
adds-both {num} {l} {m} {v} {k} {gs} {hs} {xs} {ys} a b =
    let n : length (entries_nodes l k) ≡ length gs = sym (length-map (entries_nodes l k) (node_gate num v)) ∙ ap length a.gates in
    record {
      gates =
          ap (map (node_gate num v)) (nodes-both l m k)
          ∙ map-append (node_gate num v) (entries_nodes l k) (entries_nodes m (k + length (entries_nodes l k)))
          ∙ rw (a.gates, n, b.gates);
      literals =
          ap (map (ref_literal num v)) (members-both l m k)
          ∙ map-append (ref_literal num v) (entries_members l k) (entries_members m (k + length (entries_nodes l k)))
          ∙ rw (a.literals, n, b.literals);
    }

module _ {num : Atom → ℕ} where
  -- atoms have no gate, and their literals are counted
  pub adds_atoms : (f : ℕ → Atom) (h : ℕ → ℕ) → ((x : ℕ) → num (f x) ≡ h x) → (xs : List ℕ) (v k : ℕ)
      → Adds num (map (λ x. atom (f x)) xs) v k [] (map h xs)
  adds_atoms f h e [] v k = adds_none num v k
  adds_atoms f h e (x ∷ xs) v k = rw (← (e x)) (adds_more num (atom (f x)) (rw (add-zero k) (adds_atoms f h e xs v k)))

  -- lists without gates, one after another
  pub adds_lists : (f : ℕ → List Entry) (h : ℕ → List ℕ) → ((x v k : ℕ) → Adds num (f x) v k [] (h x)) → (xs : List ℕ) (v k : ℕ)
      → Adds num (flat_map f xs) v k [] (flat_map h xs)
  unfolding flat_map
  adds_lists f h e [] v k = adds_none num v k
  adds_lists f h e (x ∷ xs) v k = adds-both (e x v k) (rw (add-zero k) (adds_lists f h e xs v k))
