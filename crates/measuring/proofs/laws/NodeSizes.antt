-- The size of a list's nodes is that of their gates: laws.
use mathlib.Core.Path.{◌≡◌, ap, ◌∙◌}
use mathlib.Core.List.{List, [], ◌∷◌, map}
use Prim.Native.Nat.{ℕ, suc, ◌+◌}
use native.Mathlib.Omega.{arith}
use lib.ListN.{length, length-map}
use Rattle.scope.specs.Kinds.{Atom, Node, some_of, all_of}
use Rattle.scope.specs.Formula.{ref_literal, node_gate}
use Rattle.sizing.specs.Sums.{none, sum}
use Rattle.sizing.proofs.laws.Sums.{equal}
use Rattle.sizing.specs.Gates.{or_size}
use Rattle.sizing.specs.NodeSizes.{node_sizes}
use Rattle.measuring.proofs.laws.Measure.{gate_size, size-nil, size-gate}
use Rattle.measuring.proofs.laws.Gates.{or-size, and-size}
use Rattle.measuring.proofs.laws.Rows.{gates_size}
use Rattle.measuring.specs.NodeSizes.{inputs, all_inputs, nodes_size}

-- one node more
node-more : (n k j : ℕ) → sum (or_size j) (node_sizes n k) ≡ node_sizes (suc n) (j + k)
unfolding or_size node_sizes sum
node-more n k j = equal (omega arith)

module _ (num : Atom → ℕ) (v : ℕ) where
  node_size : (n : Node) → gate_size (node_gate num v n) ≡ or_size (inputs n)
  node_size (some_of rs) = or-size (map (ref_literal num v) rs) ∙ ap or_size (length-map rs (ref_literal num v))
  node_size (all_of rs) = and-size (map (ref_literal num v) rs) ∙ ap or_size (length-map rs (ref_literal num v))

  pub nodes-size : (ns : List Node) → gates_size (map (node_gate num v) ns) ≡ nodes_size ns
  unfolding all_inputs node_sizes none
  nodes-size [] = size-nil
  nodes-size (n ∷ ns) =
      rw (size-gate, node_size n, nodes-size ns) (node-more (length ns) (all_inputs ns) (inputs n))
