-- `list_nodes::node::store_or` meets its contract.
use Rattle.list_nodes.proofs.Nodes.{or_stored, part_length_lem}
use lib.ListN.{length-set, take, drop}
use native.Mathlib.Omega.{arith}
use mathlib.Core.Path.{refl, sym}
use Prim.Native.Nat.{◌-◌}
use Rattle.list_nodes.proofs.node.store_or.Goals as goal

pub store_words-last-requires : goal.store_words-last-requires
store_words-last-requires c = (c.requires.0, (c.requires.1.1.0, simp length-set (omega arith)))

pub bounds-out-last : goal.bounds-out-last
bounds-out-last c = omega (arith, simp length-set at c.out-1.given)

pub shape_of-out : goal.shape_of-out
shape_of-out c = simp length-set (simp length-set at c.out-1.given)

pub returns : goal.returns
returns c = let a = c.args in
    let ys = drop a.from (take a.to a.row.now) in
    let e = part_length_lem a.row.now a.from a.to c.requires.1.1.0 in
    let h = c.store_words-last.ensures in record { holds = or_stored a.out.now a.at (a.to - a.from) ys (omega arith) (sym e) h.holds (omega (arith, simp length-set at c.out-1.given)) a.o _ refl; value = omega (arith, h.value) }
