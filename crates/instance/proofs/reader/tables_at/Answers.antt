-- `instance::reader::tables_at` meets its contract: sizes, events and groups, a step of the sequence each.
use Rattle.std.proofs.Common.{arith}
use Rattle.number.proofs.laws.Sequence.{sequence, handed-on}
use Rattle.instance.specs.File.{tables_at}
use Rattle.instance.proofs.laws.Start.{sizes-value, times-value}
use Rattle.instance.proofs.reader.tables_at.Goals as goal

pub returns-in_err-w : goal.returns-in_err-w
unfolding tables_at
returns-in_err-w c = rw (handed-on _ _ c.from_residual.ensures) (search (sequence, c.in_err-w.ensures))

pub events_at-requires : goal.events_at-requires
events_at-requires c = let p = c.requires in
    let w = sizes-value _ c.in_ok-w.ensures in record { durations_len = p.durations_long; table_len = p.resources_long; count_bound = w.events_high; times_bound = w.times_high; resources_bound = omega (arith, w.resources_high) }

pub returns-in_err-b : goal.returns-in_err-b
unfolding tables_at
returns-in_err-b c = rw (handed-on _ _ c.from_residual-in_err-b.ensures) (search (sequence, c.in_ok-w.ensures, c.in_err-b.ensures) depth 14)

pub all_groups_at-requires : goal.all_groups_at-requires
all_groups_at-requires c = record { s_in_bounds = c.requires.groups_long; times_read = times-value _ c.in_ok-w.ensures }

pub returns-in_err-count : goal.returns-in_err-count
unfolding tables_at
returns-in_err-count c = rw (handed-on _ _ c.from_residual-in_err-count.ensures) (search (sequence, c.in_ok-w.ensures, c.in_ok-b.ensures, c.in_err-count.ensures) depth 14)

pub returns : goal.returns
unfolding tables_at
returns c = search (sequence, c.in_ok-w.ensures, c.in_ok-b.ensures, c.in_ok-count.ensures) depth 14
