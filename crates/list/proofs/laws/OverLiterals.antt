-- The nodes and the members of a list are over literals of variables.
use Prim.Native.Nat.{ℕ}
use mathlib.Core.List.{map}
use Rattle.scope.specs.Formula.{ref_literal, node_gate}
use Rattle.scope.specs.Kinds.{Atom, Listed}
use Rattle.parsing.specs.Each.{Each}
use Rattle.literals.specs.Proper.{Proper}
use Rattle.literals.specs.NodeWords.{IsNode}

-- its first node is the variable v
pub record OverLiterals (num : Atom → ℕ) (l : Listed) (v : ℕ) : Type 0 where
  pub nodes : Each IsNode (map (node_gate num v) l.nodes)
  pub members : Each Proper (map (ref_literal num v) l.members)
