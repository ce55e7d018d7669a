-- `list_nodes::node::store_group` meets its contract.
use Rattle.list_nodes.proofs.Nodes.{or_stored, or-place}
use Rattle.literals.specs.Variables.{literal_at}
use Rattle.tables.specs.Rows.{row_at}
use lib.ListN.{length-set, length-map}
use native.Mathlib.Omega.{arith}
use mathlib.Core.Path.{refl, sym, ◌∙◌}
use Prim.Native.Nat.{◌-◌}
use mathlib.Core.List.{map}
use Rattle.list_nodes.proofs.node.store_group.Goals as goal

pub group_times-last-requires : goal.group_times-last-requires
group_times-last-requires c = let p = c.requires in
    (p.0, (p.1.0, simp length-set (omega (arith, p.0.row.count))))

pub offset_bounds-out-last : goal.offset_bounds-out-last
offset_bounds-out-last c = let a = c.args in
    omega (arith, or-place a.out.now a.at c.row_len-n.result (map (literal_at a.base) (row_at a.groups.now (a.g - 1))) (omega arith) c.group_times-last.ensures, length-map (row_at a.groups.now (a.g - 1)) (literal_at a.base), c.requires.0.row.count)

pub bounds-out-last : goal.bounds-out-last
bounds-out-last c = let a = c.args in
    omega (arith, or-place a.out.now a.at c.row_len-n.result (map (literal_at a.base) (row_at a.groups.now (a.g - 1))) (omega arith) c.group_times-last.ensures, length-map (row_at a.groups.now (a.g - 1)) (literal_at a.base), c.requires.0.row.count, simp length-set at c.out-1.given)

pub overflow_add-result : goal.overflow_add-result
overflow_add-result c = let a = c.args in
    omega (arith, or-place a.out.now a.at c.row_len-n.result (map (literal_at a.base) (row_at a.groups.now (a.g - 1))) (omega arith) c.group_times-last.ensures, length-map (row_at a.groups.now (a.g - 1)) (literal_at a.base), c.requires.0.row.count)

pub shape_of-out : goal.shape_of-out
shape_of-out c = simp length-set (simp length-set at c.out-1.given)

pub returns : goal.returns
returns c = let a = c.args in
    let p = c.requires in
    let n = c.row_len-n in
    let m = c.group_times-last in
    let ts = row_at a.groups.now (a.g - 1) in
    let ys = map (literal_at a.base) ts in record { holds = or_stored a.out.now a.at n.result ys (omega arith) (n.ensures ∙ sym (length-map ts (literal_at a.base))) m.ensures (omega (arith, or-place a.out.now a.at n.result (map (literal_at a.base) (row_at a.groups.now (a.g - 1))) (omega arith) m.ensures, length-map (row_at a.groups.now (a.g - 1)) (literal_at a.base), p.0.row.count, simp length-set at c.out-1.given)) a.o _ refl; upper_bound = omega (arith, or-place a.out.now a.at n.result (map (literal_at a.base) (row_at a.groups.now (a.g - 1))) (omega arith) m.ensures, length-map (row_at a.groups.now (a.g - 1)) (literal_at a.base), p.0.row.count) }
