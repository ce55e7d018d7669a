-- `size::first_size` meets its contract: what the store holds of the list tells its size.
use mathlib.Core.Path.{◌∙◌}
use native.Mathlib.Omega.{arith}
use Rattle.constraint.specs.Answers.{kind_of}
use Rattle.user_table.specs.Filled.{users_at}
use Rattle.list_nodes.specs.Stored.{list_in}
use Rattle.part_sizes.proofs.laws.Listed.{stored-told, measurable, filled_sized}
use Rattle.part_sizes.proofs.laws.Sizable.{sizable_bounds, sizable_ordered, sizable_short, sizable_small}
use Rattle.part_sizes.proofs.size.first_size.Goals as goal

pub fill-f-requires : goal.fill-f-requires
fill-f-requires c = let p = c.requires in
    record {
      fits = p.0.fits;
      first = omega arith;
      last = p.0.some;
      small = sizable_small p.0;
      room = p.1;
    }

pub filled_size-requires : goal.filled_size-requires
filled_size-requires c = let a = c.args in
    let p = c.requires in
    let f = c.fill-f in
    let l = list_in a.durations.now (users_at a.users.now) a.groups.now a.head (kind_of a.list.now a.c.kind) 1 in
    let told = stored-told {l = l} f.ensures (f.auto.out ∙ p.1) in
    measurable {l = l} told (sizable_bounds p.0 (c.bounds_of-b.ensures a.list.now)) p.0.weight (sizable_ordered p.0) (sizable_short p.0)

pub returns : goal.returns
returns c = let a = c.args in
    let p = c.requires in
    let f = c.fill-f in
    let l = list_in a.durations.now (users_at a.users.now) a.groups.now a.head (kind_of a.list.now a.c.kind) 1 in
    let told = stored-told {l = l} f.ensures (f.auto.out ∙ p.1) in
    filled_sized {l = l} told (sizable_bounds p.0 (c.bounds_of-b.ensures a.list.now)) p.0.weight (sizable_ordered p.0)
    (sizable_short p.0) c.filled_size.ensures
