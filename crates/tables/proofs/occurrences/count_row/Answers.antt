use Rattle.std.proofs.Common.{◌∙◌, arith}
use lib.ListN.{length-set}
use Rattle.tables.proofs.Counting.{counted_start, counted_more, counted_end, counted-small}
use Rattle.tables.proofs.occurrences.count_row.Goals as goal

pub row_len-n-requires : goal.row_len-n-requires
row_len-n-requires c = (c.requires.rows_in.each c.args.row (omega arith)).room

pub loop-k-init : goal.loop-k-init
loop-k-init c = (c.row_len-n.ensures, omega arith, counted_start _ _ _ c.requires.counted)

pub row_member-requires : goal.row_member-requires
row_member-requires c = record { row_in = c.requires.rows_in.each c.args.row (omega arith); k_in_bounds = omega (arith, c.loop-k.invariant.0) }

pub overflow_add-counts : goal.overflow_add-counts
overflow_add-counts c = let l = c.loop-k in
    let small = counted-small _ _ _ c.from-x.result _ l.invariant.2 c.requires.rows_in in
    omega (arith, small, l.invariant.0, (c.requires.rows_in.each c.args.row (omega arith)).count)

pub loop-k-preserved : goal.loop-k-preserved
loop-k-preserved c = let l = c.loop-k in (
  l.invariant.0,
  simp length-set l.invariant.1,
  counted_more _ _ _ _ _ l.invariant.2 (omega (arith, l.invariant.0)) (c.from-x.ensures ∙ c.row_member.ensures) (omega (arith, c.row_member.type_inv, c.from-x.ensures)),
)

pub returns : goal.returns
returns c = let l = c.loop-k in counted_end _ _ _ _ l.invariant.2 (omega (arith, l.invariant.0))
