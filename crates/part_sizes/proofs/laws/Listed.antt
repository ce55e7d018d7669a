-- The size of a counted list from what the store holds of it: how many nodes, where its members begin and where they end: laws.
use Prim.Native.Nat.{ℕ, suc, ◌+◌, ◌-◌, ◌*◌, ◌≤◌}
use mathlib.Core.Path.{◌≡◌, refl, sym, ap, ◌∙◌}
use mathlib.Core.List.{List, [], ◌∷◌, map}
use native.Mathlib.Omega.{arith}
use lib.ListN.{length, length-map, length-append, length-take}
use Rattle.scope.specs.Cnf.{or, and}
use Rattle.scope.specs.Kinds.{Atom, Node, some_of, all_of, Listed, Counted, rule}
use Rattle.scope.specs.Formula.{ref_literal, node_gate}
use Rattle.literals.specs.Words.{Holds}
use Rattle.literals.specs.NodeWords.{node_words, nodes_words}
use Rattle.literals.proofs.laws.NodeWords.{or-words, and-words}
use Rattle.list_nodes.specs.declared.filled.Filled.{Filled}
use Rattle.list_nodes.specs.Stored.{Stored, Short}
use Rattle.constraint.specs.declared.kinds.Bounds.{Bounds}
use Rattle.sizing.specs.declared.Size.{Size}
use Rattle.sizing.proofs.laws.Limits.{listed_within, listed_most}
use Rattle.measuring.specs.NodeSizes.{inputs, all_inputs}
use Rattle.measuring.specs.Rules.{rule_size}
use Rattle.measuring.proofs.laws.Rules.{listed-size}
use Rattle.part_sizes.specs.Listed.{filled_size, Measurable, ListSized}

-- how many words a node takes, and some nodes
or_long : (ls : List ℕ) (o : ℕ) → length (node_words (or ls) o) ≡ length ls + 2
or_long ls o = rw (or-words ls o, length-append) (omega arith)

and-long : (ls : List ℕ) (o : ℕ) → length (node_words (and ls) o) ≡ length ls + 2
and-long ls o = rw (and-words ls o, length-append, length-map) (omega arith)

module _ (num : Atom → ℕ) (v : ℕ) where
  node_long : (n : Node) (o : ℕ) → length (node_words (node_gate num v n) o) ≡ inputs n + 2
  node_long (some_of rs) o = or_long (map (ref_literal num v) rs) o ∙ ap (λ k. k + 2) (length-map rs (ref_literal num v))
  node_long (all_of rs) o = and-long (map (ref_literal num v) rs) o ∙ ap (λ k. k + 2) (length-map rs (ref_literal num v))

  nodes_long : (ns : List Node) (o : ℕ) → length (nodes_words o (map (node_gate num v) ns)) ≡ 2 * length ns + all_inputs ns
  unfolding nodes_words all_inputs
  nodes_long [] o = refl
  nodes_long (n ∷ ns) o =
      rw (length-append, node_long n o, nodes_long ns (suc o)) (omega arith)

-- what a filled list tells of its list
pub record Told (l : Listed) (f : Filled) : Type 0 where
  pub nodes : f.nodes ≡ length l.nodes
  pub inputs : f.at ≡ 2 * length l.nodes + all_inputs l.nodes
  pub members : f.end ≡ f.at + length l.members
  pub room : f.end ≤ 34816

front-room : {words : List ℕ} {n : ℕ} {xs : List ℕ} → Holds words n xs → n ≤ length words
front-room {words} {n} {xs} h = omega (arith, h.count, ap length h.front, length-take n words)

pub stored-told : {num : Atom → ℕ} {l : Listed} {v : ℕ} {words : List ℕ} {f : Filled} → Stored num l v words f
    → length words ≡ 34816 → Told l f
stored-told {num} {l} {v} {words} {f} s e =
    let ns = map (node_gate num v) l.nodes in
    let ms = map (ref_literal num v) l.members in
    let all = length-append (nodes_words v ns) ms in
    let count = length-map l.members (ref_literal num v) in
    record {
      nodes = s.nodes ∙ length-map l.nodes (node_gate num v);
      inputs = s.at ∙ nodes_long num v l.nodes v;
      members = omega (arith, s.holds.count, all, count, s.at);
      room = omega (arith, front-room s.holds);
    }

-- the bounds of what is counted
pub record BoundsOf (c : Counted) (b : Bounds) : Type 0 where
  pub lo : b.lo ≡ c.lo
  pub hi : b.hi ≡ c.hi
  pub free : b.free ≡ c.zero_free

module _ {w : ℕ} {c : Counted} {l : Listed} {b : Bounds} {f : Filled} (t : Told l f) (q : BoundsOf c b) (h : w ≤ 1000) (o : c.lo ≤ c.hi) (s : Short c l) where
  pub measurable : Measurable w b f
  measurable =
      record {
        weight = h;
        nodes = omega (arith, t.nodes, t.inputs);
        ahead = omega (arith, t.members);
        room = t.room;
        short = omega (arith, t.members, s.most);
        ordered = omega (arith, q.lo, q.hi);
        reached = omega (arith, t.members, s.reached, q.lo);
      }

  filled_rule : filled_size w b f ≡ rule_size w (rule c l)
  filled_rule =
      let k : f.at - 2 * f.nodes ≡ all_inputs l.nodes = omega (arith, t.nodes, t.inputs) in
      let n : f.end - f.at ≡ length l.members = omega (arith, t.members) in
      rw (k, n, t.nodes, q.lo, q.hi, q.free) (sym (listed-size w c l))

  pub filled_sized : {z : Size} → z ≡ filled_size w b f → ListSized w c l z
  filled_sized {z} e =
      let m = measurable in
      let n = f.end - f.at in
      let k = f.at - 2 * f.nodes in
      record {
        eq = e ∙ filled_rule;
        within =
            rw e
            (listed_within w b.lo b.hi b.free n f.nodes k m.short m.reached h
            (omega (arith, m.nodes, m.ahead, m.room))
            (omega (arith, m.ahead, m.room)));
        few = rw e (listed_most w b.lo b.hi b.free n f.nodes k m.short m.reached m.ordered);
      }
