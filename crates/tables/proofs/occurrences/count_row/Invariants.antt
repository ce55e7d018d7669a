-- `tables::occurrences::count_row` meets its contract. The loop's invariant: the counts are those of the rows before and of the
-- members passed, so they stay small.
use Rattle.std.proofs.Common.{◌≡◌, length}
use Rattle.tables.specs.Rows.{row_at}
use Rattle.tables.proofs.Counting.{CountedTo}
use Rattle.tables.proofs.occurrences.count_row.Given as goal

abbrev pub invariant-loop-k : goal.invariant-loop-k
invariant-loop-k l = (l.n ≡ length (row_at l.table l.row)) × (length l.counts ≡ 256) × CountedTo l.table l.row l.k l.counts
