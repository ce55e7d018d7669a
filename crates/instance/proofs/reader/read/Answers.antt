-- `instance::reader::read` meets its contract: the tables, and then the rest.
use Rattle.std.proofs.Common.{◌∙◌}
use Rattle.number.proofs.laws.Sequence.{handed-on}
use Rattle.tables.proofs.laws.Room.{room-kept}
use Rattle.instance.proofs.laws.Checked.{start-lent, tables-stopped}
use Rattle.instance.proofs.laws.Start.{tables_start}
use Rattle.instance.proofs.reader.read.Goals as goal

pub rest_at-requires : goal.rest_at-requires
rest_at-requires c = λ count start.
    let f = c.tables_at in
    let s = c.args.file.now in
    let p = c.requires in
    let i = tables_start s f.new.durations f.new.resources f.new.groups _ c.in_ok-w.ensures in
    start-lent s _ _ _ _ _ i (f.auto.resources ∙ p.tables.resources_long) (room-kept s f.auto.groups p.tables.groups_long) p.list_long

pub returns : goal.returns
returns c = c.rest_at.ensures c.tables_at.new.durations c.in_ok-w.ensures

pub returns-in_err-w : goal.returns-in_err-w
returns-in_err-w c = rw (handed-on _ _ c.from_residual.ensures) (tables-stopped _ c.in_err-w.ensures)
