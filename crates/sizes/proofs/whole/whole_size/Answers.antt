-- `whole::whole_size` meets its contract: the table of users, what stands before the constraints, and the walk over them.
use mathlib.Core.Path.{refl}
use Rattle.instance.proofs.laws.Ready.{zeros}
use Rattle.sizes.proofs.laws.Opened.{opened_rows, opened_users, opened_begun, opened_tabled, opened_walkable, opened_whole}
use Rattle.sizes.proofs.whole.whole_size.Goals as goal

pub fill_users-requires : goal.fill_users-requires
fill_users-requires c = let o = c.requires in record { events_bound = o.accepted.sizes.events_high; event_rows = opened_rows o; users_len = refl; by_index = λ x. zeros 102500 x }

pub before_size-before-requires : goal.before_size-before-requires
before_size-before-requires c = opened_begun c.requires c.fill_users.ensures

pub constraints_total-requires : goal.constraints_total-requires
constraints_total-requires c = opened_walkable c.requires c.fill_users.ensures c.before_size-before.ensures.0 refl refl

pub returns : goal.returns
returns c = let o = c.requires in
    let f = c.fill_users.ensures in
    opened_whole o f (c.before_size-before.ensures.1 _ (opened_users o f)) (c.constraints_total.ensures _ (opened_tabled o f))
