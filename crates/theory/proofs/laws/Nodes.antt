-- What the nodes and members of a list may refer to: atoms of which P holds, and earlier nodes.
use mathlib.Core.Path.{◌≡◌, refl, ap}
use mathlib.Core.List.{List, [], ◌∷◌, ◌++◌}
use Prim.Native.Nat.{ℕ, suc, ◌+◌, ◌<◌, ◌≤◌}
use native.Mathlib.Omega.{arith}
use lib.ListN.{length, length-append}
use Rattle.laws.specs.Lists.{All, All-map, All-weaken}
use Rattle.scope.specs.Kinds.{Atom, Thing, an_atom, a_node, Ref, is, Node, some_of, all_of, Listed, Entry, atom, any_of, gap, atoms, entry_nodes, entry_member, added, entries_nodes, entries_members, entries}

module _ (P : Atom → Type 0) where
  -- what may be referred to after k nodes
  abbrev pub ThingKnown : ℕ → Thing → Type 0
  ThingKnown k (an_atom a) = P a
  ThingKnown k (a_node j) = j < k

  abbrev pub Known : ℕ → Ref → Type 0
  Known k r = ThingKnown k r.thing

  abbrev pub NodeKnown : ℕ → Node → Type 0
  NodeKnown k (some_of rs) = All (Known k) rs
  NodeKnown k (all_of rs) = All (Known k) rs

  -- each node of a list after k others
  abbrev pub NodesKnown : ℕ → List Node → Type 0
  NodesKnown k [] = Unit {0}
  NodesKnown k (n ∷ ns) = NodeKnown k n × NodesKnown (suc k) ns

  pub record ListKnown (l : Listed) : Type 0 where
    pub nodes : NodesKnown 0 l.nodes
    pub members : All (Known (length l.nodes)) l.members

-- a weaker predicate
module _ (P Q : Atom → Type 0) (f : (a : Atom) → P a → Q a) where
  ref_weaken : (k : ℕ) (r : Ref) → Known P k r → Known Q k r
  ref_weaken k r h = go r.thing h
    where
      go : (x : Thing) → ThingKnown P k x → ThingKnown Q k x
      go (an_atom a) h = f a h
      go (a_node j) h = h

  node_weaken : (k : ℕ) (n : Node) → NodeKnown P k n → NodeKnown Q k n
  node_weaken k (some_of rs) h = All-weaken (Known P k) (Known Q k) (ref_weaken k) rs h
  node_weaken k (all_of rs) h = All-weaken (Known P k) (Known Q k) (ref_weaken k) rs h

  nodes_weaken : (k : ℕ) (ns : List Node) → NodesKnown P k ns → NodesKnown Q k ns
  nodes_weaken k [] h = tt
  nodes_weaken k (n ∷ ns) h = (node_weaken k n h.0, nodes_weaken (suc k) ns h.1)

  pub list_weaken : (l : Listed) → ListKnown P l → ListKnown Q l
  list_weaken l h =
      let k = length l.nodes in
      record { nodes = nodes_weaken 0 l.nodes h.nodes; members = All-weaken (Known P k) (Known Q k) (ref_weaken k) l.members h.members }

-- P at each atom of an entry
abbrev pub Atoms : (Atom → Type 0) → Entry → Type 0
Atoms P (atom a) = P a
Atoms P (any_of xs) = All P xs
Atoms P (gap earlier here later) = All P earlier × P here × All P later

-- how many nodes and members entries have
pub length-entry : (x : Entry) (k : ℕ) → length (entry_nodes x k) ≡ added x
length-entry (atom a) k = refl
length-entry (any_of xs) k = refl
length-entry (gap earlier here later) k = refl

pub length-members : (xs : List Entry) (k : ℕ) → length (entries_members xs k) ≡ length xs
unfolding entries_members
length-members [] k = refl
length-members (x ∷ xs) k = ap suc (length-members xs (k + added x))

module _ (P : Atom → Type 0) where
  pub atoms_known : (k : ℕ) (xs : List Atom) → All P xs → All (Known P k) (atoms xs)
  atoms_known k xs h = All-map P (Known P k) (λ a. is (an_atom a)) (λ a p. p) xs h

  entry_known : (x : Entry) (k : ℕ) → Atoms P x → NodesKnown P k (entry_nodes x k)
  entry_known (atom a) k h = tt
  entry_known (any_of xs) k h = (atoms_known k xs h, tt)
  entry_known (gap earlier here later) k h =
      (atoms_known k earlier h.0, (atoms_known (suc k) later h.2, ((h.1, (omega arith, (omega arith, tt))), tt)))

  member_known : (x : Entry) (k n : ℕ) → k + added x ≤ n → Atoms P x → Known P n (entry_member x k)
  member_known (atom a) k n l h = h
  member_known (any_of xs) k n l h = omega arith
  member_known (gap earlier here later) k n l h = omega arith

  pub known_append : (k : ℕ) (ns ms : List Node) → NodesKnown P k ns → NodesKnown P (k + length ns) ms → NodesKnown P k (ns ++ ms)
  known_append k [] ms a b = let e : k + 0 ≡ k = omega arith in rw e at b
  known_append k (n ∷ ns) ms a b =
      let e : k + suc (length ns) ≡ suc k + length ns = omega arith in
      (a.0, known_append (suc k) ns ms a.1 (rw e at b))

  nodes_known : (xs : List Entry) (k : ℕ) → All (Atoms P) xs → NodesKnown P k (entries_nodes xs k)
  unfolding entries_nodes
  nodes_known [] k h = tt
  nodes_known (x ∷ xs) k h =
      known_append k (entry_nodes x k) (entries_nodes xs (k + added x)) (entry_known x k h.0)
      (rw (length-entry x k) (nodes_known xs (k + added x) h.1))

  members_known : (xs : List Entry) (k n : ℕ) → k + length (entries_nodes xs k) ≤ n → All (Atoms P) xs → All (Known P n) (entries_members xs k)
  unfolding entries_nodes entries_members
  members_known [] k n l h = tt
  members_known (x ∷ xs) k n l h =
      let e = length-append (entry_nodes x k) (entries_nodes xs (k + added x)) in
      let a = length-entry x k in
      (member_known x k n (omega (arith, e, a)) h.0, members_known xs (k + added x) n (omega (arith, e, a)) h.1)

  pub entries_known : (xs : List Entry) → All (Atoms P) xs → ListKnown P (entries xs)
  entries_known xs h = record { nodes = nodes_known xs 0 h; members = members_known xs 0 (length (entries_nodes xs 0)) (omega arith) h }
