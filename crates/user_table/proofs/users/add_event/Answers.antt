use mathlib.Core.Path.{refl, ◌∙◌}
use native.Mathlib.Omega.{arith}
use Rattle.user_table.proofs.Filling.{filled_start, filled_turn, filled_end, member_few, count_small}
use Rattle.user_table.proofs.users.add_event.Goals as goal

pub row_len-n-requires : goal.row_len-n-requires
row_len-n-requires c = (c.requires.event_rows.rows.each c.args.row (omega arith)).room

pub loop-k-init : goal.loop-k-init
loop-k-init c = (c.row_len-n.ensures, refl, filled_start _ _ c.requires.filled)

pub row_member-requires : goal.row_member-requires
row_member-requires c = record { row_in = c.requires.event_rows.rows.each c.args.row (omega arith); k_in_bounds = omega (arith, c.loop-k.invariant.0) }

pub returns : goal.returns
returns c = let a = c.args in
    let l = c.loop-k in
    filled_end a.resources.now a.row l.k l.invariant.2 (omega (arith, l.invariant.0))

pub push-requires : goal.push-requires
push-requires c = let l = c.loop-k in
    (l.invariant.2.long, (member_few c.args.resources.now c.args.row _ l.invariant.2 c.from.result c.requires.event_rows c.requires.row_bound (omega (arith, l.invariant.0)) (c.from.ensures ∙ c.row_member.ensures), count_small c.args.resources.now c.args.row _ l.invariant.2 c.from.result c.requires.event_rows c.requires.row_bound (omega (arith, l.invariant.0)) (c.from.ensures ∙ c.row_member.ensures)))

pub loop-k-preserved : goal.loop-k-preserved
loop-k-preserved c = let l = c.loop-k in
    (l.invariant.0, l.invariant.1, rw (c.push.ensures, l.invariant.1) (filled_turn c.args.resources.now c.args.row _ l.invariant.2 c.from.result c.requires.event_rows c.requires.row_bound (omega (arith, l.invariant.0)) (c.from.ensures ∙ c.row_member.ensures)))
