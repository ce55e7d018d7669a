use Rattle.std.proofs.Common.{◌≡◌, arith}
use Rattle.tables.specs.Rows.{rows}
use Rattle.tables.specs.Occurrences.{occurrences_in}
use Rattle.tables.proofs.occurrences.count_members.Goals as goal

pub loop-row-init : goal.loop-row-init
unfolding rows occurrences_in
loop-row-init c = (omega arith, record { each = c.requires.by_index })

pub count_row-requires : goal.count_row-requires
count_row-requires c = let l = c.loop-row in record { row_bound = omega arith; rows_in = record { each = λ g h. c.requires.rows_in.each g (omega arith) }; counts_len = l.invariant.0; counted = l.invariant.1 }

pub returns : goal.returns
returns c = let l = c.loop-row in
    let e : l.row ≡ c.args.n = omega arith in
    rw e at l.invariant.1
