-- `tables::occurrences::count_members` meets its contract. The loop's invariant: the counts are those of the rows passed.
use Rattle.std.proofs.Common.{◌≡◌, length}
use Rattle.tables.specs.Occurrences.{Counted}
use Rattle.tables.proofs.occurrences.count_members.Given as goal

abbrev pub invariant-loop-row : goal.invariant-loop-row
invariant-loop-row l = (length l.counts ≡ 256) × Counted l.table l.row l.counts
