-- Where the gates of the nodes hold, and the literals of atoms say whether they are true, the literals of the members say whether
-- the members are true: whatever the kind, the count of the clauses is that of the timetable.
use mathlib.Core.Path.{◌≡◌, refl, sym, ap, ap₂, ◌∙◌}
use mathlib.Core.Bool.{Bool, true, false, not, ◌&&◌, cond}
use mathlib.Core.List.{List, [], ◌∷◌, ◌++◌, map}
use Prim.Native.Nat.{ℕ, suc, ◌+◌, ◌<◌}
use native.Mathlib.Nat.{add-zero}
use native.Mathlib.Omega.{arith}
use lib.Dec.{ltb}
use lib.ListN.{length, get_or, length-append, get_or-append}
use lib.Seq.{get_or-append_seam}
use borrow.Author.Tests.{ltb-true, ltb-false}
use Rattle.laws.specs.Lists.{All, All-weaken}
use Rattle.scope.specs.Kinds.{Atom, Thing, an_atom, a_node, Ref, Node, some_of, all_of, Listed}
use Rattle.scope.specs.Cnf.{opp, Assignment, lit, gate}
use Rattle.theory.proofs.laws.Outputs.{cube, value}
use Rattle.scope.specs.Score.{all, thing_true, ref_true, node_true, values_after}
use Rattle.scope.specs.Formula.{thing_literal, ref_literal, node_gate}
use Rattle.theory.proofs.laws.Gates.{lit_pos, lit_opp, clause_any}
use Rattle.theory.proofs.laws.Circuit.{Holds}
use Rattle.theory.proofs.laws.Nodes.{ThingKnown, Known, NodeKnown, NodesKnown, ListKnown}

-- the literal of an atom says whether it is true
abbrev pub Agrees : (Atom → ℕ) → Assignment → (Atom → Bool) → Atom → Type 0
Agrees num ν τ a = lit ν (num a) ≡ τ a

pub length_more : (vs : List Bool) (b : Bool) → length (vs ++ b ∷ []) ≡ suc (length vs)
length_more vs b = length-append vs (b ∷ []) ∙ omega arith

pub length-values : (τ : Atom → Bool) (vs : List Bool) (ns : List Node) → length (values_after τ vs ns) ≡ length vs + length ns
unfolding values_after
length-values τ vs [] = sym (add-zero (length vs))
length-values τ vs (n ∷ ns) =
    let b = node_true τ vs n in
    omega (arith, length-values τ (vs ++ b ∷ []) ns, length_more vs b)

module _ (τ : Atom → Bool) where
  -- nodes one after the other; the values before them stay
  pub values_append : (vs : List Bool) (ns ms : List Node) → values_after τ vs (ns ++ ms) ≡ values_after τ (values_after τ vs ns) ms
  unfolding values_after
  values_append vs [] ms = refl
  values_append vs (n ∷ ns) ms = values_append (vs ++ node_true τ vs n ∷ []) ns ms

  pub values_keep : (vs : List Bool) (ns : List Node) (j : ℕ) → j < length vs → get_or (values_after τ vs ns) j false ≡ get_or vs j false
  unfolding values_after
  values_keep vs [] j h = refl
  values_keep vs (n ∷ ns) j h =
      let b = node_true τ vs n in
      values_keep (vs ++ b ∷ []) ns j (omega (arith, length_more vs b)) ∙ get_or-append vs (b ∷ []) false j h

-- the value put last
pub value-last : (vs : List Bool) (b : Bool) (k : ℕ) → length vs ≡ k → get_or (vs ++ b ∷ []) k false ≡ b
value-last vs b k e = rw (← e) (get_or-append_seam vs b [] false)

-- an AND over literals that say what some things are
cube-all : (ν : Assignment) {A : Type 0} (f : A → ℕ) (g : A → Bool) (xs : List A) → All (λ x. lit ν (f x) ≡ g x) xs
    → cube ν (map f xs) ≡ all (map g xs)
unfolding cube all
cube-all ν f g [] h = refl
cube-all ν f g (x ∷ xs) h = ap₂ (λ a b. a && b) h.0 (cube-all ν f g xs h.1)

module _ (num : Atom → ℕ) (ν : Assignment) (τ : Atom → Bool) (v : ℕ) where
  -- the variables from v on have these values
  abbrev Valued : List Bool → Type 0
  Valued vs = (j : ℕ) → j < length vs → ν (v + j) ≡ get_or vs j false

  valued_more : (vs : List Bool) (b : Bool) → Valued vs → ν (v + length vs) ≡ b → Valued (vs ++ b ∷ [])
  valued_more vs b w e j h = go (ltb j (length vs)) refl
    where
      go : (t : Bool) → ltb j (length vs) ≡ t → ν (v + j) ≡ get_or (vs ++ b ∷ []) j false
      go true q = w j (ltb-true j (length vs) q) ∙ sym (get_or-append vs (b ∷ []) false j (ltb-true j (length vs) q))
      go false q =
          let k : j ≡ length vs = omega (arith, ltb-false j (length vs) q, length_more vs b) in
          rw k (e ∙ sym (get_or-append_seam vs b [] false))

  module _ (vs : List Bool) (w : Valued vs) where
    thing_agrees : (x : Thing) → ThingKnown (Agrees num ν τ) (length vs) x → lit ν (thing_literal num v x) ≡ thing_true τ vs x
    thing_agrees (an_atom a) k = k
    thing_agrees (a_node j) k = lit_pos ν (v + j) ∙ w j k

    ref_agrees : (r : Ref) → Known (Agrees num ν τ) (length vs) r → lit ν (ref_literal num v r) ≡ ref_true τ vs r
    ref_agrees r k = go r.negated (thing_agrees r.thing k)
      where
        go : (b : Bool) → lit ν (thing_literal num v r.thing) ≡ thing_true τ vs r.thing
            → lit ν (cond b (opp (thing_literal num v r.thing)) (thing_literal num v r.thing)) ≡ cond b (not (thing_true τ vs r.thing)) (thing_true τ vs r.thing)
        go true e = lit_opp ν (thing_literal num v r.thing) ∙ ap not e
        go false e = e

    refs_agree : (rs : List Ref) → All (Known (Agrees num ν τ) (length vs)) rs → All (λ r. lit ν (ref_literal num v r) ≡ ref_true τ vs r) rs
    refs_agree rs k = All-weaken _ _ ref_agrees rs k

    node_agrees : (n : Node) → NodeKnown (Agrees num ν τ) (length vs) n → value ν (node_gate num v n) ≡ node_true τ vs n
    unfolding value
    node_agrees (some_of rs) k = clause_any ν (ref_literal num v) (ref_true τ vs) rs (refs_agree rs k)
    node_agrees (all_of rs) k = cube-all ν (ref_literal num v) (ref_true τ vs) rs (refs_agree rs k)

    members_agree : (rs : List Ref) → All (Known (Agrees num ν τ) (length vs)) rs
        → map (lit ν) (map (ref_literal num v) rs) ≡ map (ref_true τ vs) rs
    members_agree [] k = refl
    members_agree (r ∷ rs) k = ap₂ (λ b bs. b ∷ bs) (ref_agrees r k.0) (members_agree rs k.1)

  nodes_agree : (vs : List Bool) (ns : List Node) → Valued vs → NodesKnown (Agrees num ν τ) (length vs) ns
      → Holds ν (v + length vs) (map gate (map (node_gate num v) ns)) → Valued (values_after τ vs ns)
  unfolding values_after
  nodes_agree vs [] w k h = w
  nodes_agree vs (n ∷ ns) w k h =
      let b = node_true τ vs n in
      let e = h.0 ∙ node_agrees vs w n k.0 in
      let l = length_more vs b in
      let s : v + length (vs ++ b ∷ []) ≡ suc (v + length vs) = omega (arith, l) in
      nodes_agree (vs ++ b ∷ []) ns (valued_more vs b w e) (rw l k.1) (rw s h.1)

  -- the law of lists
  pub list_agrees : (l : Listed) → ListKnown (Agrees num ν τ) l → Holds ν v (map gate (map (node_gate num v) l.nodes))
      → map (lit ν) (map (ref_literal num v) l.members) ≡ map (ref_true τ (values_after τ [] l.nodes)) l.members
  list_agrees l k h =
      let vs = values_after τ [] l.nodes in
      let n : length vs ≡ length l.nodes = length-values τ [] l.nodes ∙ omega arith in
      let w = nodes_agree [] l.nodes (λ j q. absurd (omega arith)) k.nodes (rw add-zero h) in
      members_agree vs w l.members (rw n k.members)
