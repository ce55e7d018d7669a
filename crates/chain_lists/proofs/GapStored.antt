-- Kind 11's list in the words: its nodes one after another, and O counted.
use Prim.Native.Nat.{ℕ, ◌+◌, ◌-◌}
use mathlib.Core.Path.{◌≡◌, refl, sym, ◌∙◌}
use mathlib.Core.List.{List, [], ◌∷◌, ◌++◌}
use mathlib.Core.Bool.{true, false}
use native.Mathlib.Omega.{arith}
use native.Mathlib.Nat.{add_assoc}
use lib.ListN.{take}
use Rattle.scope.specs.Cnf.{pos, Gate, or}
use Rattle.scope.specs.Kinds.{precedence, counted_of, early, late, before_g, before_q}
use Rattle.constraint.specs.declared.kinds.Head.{Head}
use Rattle.literals.specs.Outputs.{every}
use Rattle.literals.specs.Variables.{base_of}
use Rattle.literals.specs.Words.{Holds}
use Rattle.literals.specs.NodeWords.{node_words, nodes_words}
use Rattle.list_nodes.proofs.Nodes.{holds_then}
use Rattle.list_nodes.specs.Ground.{layout_of}
use Rattle.list_nodes.specs.Stored.{only_in, num_of, Stored}
use Rattle.chain_lists.specs.Gap.{stepping, chain_gates, soon_gates, late_gates, either_inputs, begun_gates, lasting_gates, gap_gates}
use Rattle.chain_lists.proofs.laws.Gap.{length-chain, length-soon, length-late, length-gap, gap-gates, gap_literals}
use Rattle.chain_lists.proofs.Ahead.{ahead-start, ahead_some, ahead_more, ahead_all}

-- the times that P and Q go up to, as they are computed, and the first variables of G and Q
module _ (T lo hi v e n s : ℕ) (i : e ≡ T - (lo + 1)) (j : n ≡ T - (hi + 2)) (k : s ≡ e - 1) where
  early_is : e ≡ early T lo
  early_is = omega arith

  late_is : n ≡ late T hi
  late_is = omega arith

  g_is : v + e + s ≡ v + before_g T lo
  g_is = rw (k, early_is) (add_assoc v (early T lo) (early T lo - 1))

  q_is : v + e + s + n ≡ v + before_q T lo hi
  q_is = rw (g_is, late_is) (add_assoc v (before_g T lo) (late T hi))

  -- the nodes
  pub nodes_stored : (y z : ℕ) (out : List ℕ) {o1 o2 o3 o4 o5 : List ℕ} {a b c d m : ℕ}
      → Holds o1 a (take 0 out ++ nodes_words v (chain_gates e (every 1 (z + 1) (lo + 1)) (stepping true (z + lo + 2) (e - 1)) v))
      → Holds o2 b (take a o1 ++ nodes_words (v + e) (soon_gates y e v))
      → Holds o3 c (take b o2 ++ nodes_words (v + e + s) (chain_gates n (every 1 (y + n + 1) (T - n)) (stepping false (y + n) (n - 1)) (v + e + s)))
      → Holds o4 d (take c o3 ++ nodes_words (v + e + s + n) (late_gates lo hi n v (v + e + s + n)))
      → Holds o5 m (take d o4 ++ node_words (or (either_inputs T y e n v (v + e + s + n))) (v + e + s + n + n))
      → Holds o5 m (nodes_words v (gap_gates T y z lo hi v))
  unfolding gap_gates
  nodes_stored y z out h1 h2 h3 h4 h5 =
      let G = v + before_g T lo in
      let Q = v + before_q T lo hi in
      let E = early T lo in
      let N = late T hi in
      let os : List Gate = or (either_inputs T y E N v Q) ∷ [] in
      let qs = late_gates lo hi N v Q in
      let gs = lasting_gates T y z lo hi v in
      let ps = soon_gates y E v in
      let fs = begun_gates T y z lo hi v in
      let z1 : z + lo + 2 ≡ z + (lo + 2) = omega arith in
      let y1 : y + N + 1 ≡ y + (N + 1) = omega arith in
      let a0 = ahead-start v (fs ++ (ps ++ (gs ++ (qs ++ os)))) out 0 (omega arith) in
      let a1 = ahead_some a0 fs (ps ++ (gs ++ (qs ++ os))) refl (rw (early_is, z1) at h1) (v + E)
      (omega (arith, length-chain E (every 1 (z + 1) (lo + 1)) true (z + (lo + 2)) v)) in
      let a2 = ahead_some a1 ps (gs ++ (qs ++ os)) refl (rw early_is at h2) G (omega (arith, length-soon y E v)) in
      let a3 = ahead_some a2 gs (qs ++ os) refl (rw (g_is, late_is, y1) at h3) Q
      (omega (arith, length-chain N (every 1 (y + (N + 1)) (T - N)) false (y + N) G)) in
      let a4 = ahead_some a3 qs os refl (rw (q_is, late_is) at h4) (Q + N) (omega (arith, length-late lo hi N v Q)) in
      ahead_all (ahead_more a4 (or (either_inputs T y E N v Q)) [] refl (rw (q_is, early_is, late_is) at h5) (Q + N + 1) refl) refl

one-after : (v x : ℕ) → v + x + 1 - v ≡ x + 1
one-after v x = omega arith

-- the whole list
pub precedence-stored : (h : Head) (v a b lo hi e n s : ℕ) → e ≡ h.times - (lo + 1)
    → n ≡ h.times - (hi + 2)
    → s ≡ e - 1
    → {words out : List ℕ} {at end : ℕ}
    → Holds words at (nodes_words v (gap_gates h.times (base_of 0 h.times a) (base_of 0 h.times b) lo hi v))
    → Holds out end (take at words ++ every 1 (v + e + s + n + n) 1)
    → (nodes : ℕ)
    → nodes ≡ v + e + s + n + n + 1 - v
    → Stored (num_of h) (only_in [] h (precedence a b lo hi)) v out (record { nodes = nodes; at = at; end = end })
unfolding counted_of every
precedence-stored h v a b lo hi e n s i j k w m nodes d =
    let T = h.times in
    let L = layout_of h in
    let N = late T hi in
    let q = q_is T lo hi v e n s i j k in
    let f : v + e + s + n + n ≡ v + (before_q T lo hi + N) = rw (q, late_is T lo hi v e n s i j k) (add_assoc v (before_q T lo hi) N) in
    let x = gap-gates T L v a b lo hi in
    record {
      holds = rw (x, gap_literals T L v a b lo hi, ← f) (holds_then (pos (v + e + s + n + n) ∷ []) w m);
      nodes = rw x (d ∙ rw f (one-after v (before_q T lo hi + N)) ∙ sym (length-gap T (base_of 0 T a) (base_of 0 T b) lo hi v));
      at = rw x w.count;
    }
