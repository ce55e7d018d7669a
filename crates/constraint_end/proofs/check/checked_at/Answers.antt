-- `constraint_end::check::checked_at` meets its contract: a constraint is decoded, its list measured, then the checks at its end.
use mathlib.Core.Path.{sym, ◌∙◌}
use Rattle.number.specs.Lists.{leading}
use Rattle.number.proofs.laws.Sequence.{handed-on}
use Rattle.fields.specs.Kind.{number_of}
use Rattle.fields.specs.Made.{kind_from}
use Rattle.constraint.specs.Decoded.{checked_at}
use Rattle.constraint.proofs.laws.Valid.{decoded-got}
use Rattle.constraint_end.proofs.Faults.{ends_same}
use Rattle.constraint_end.proofs.laws.Ready.{ready-kept}
use Rattle.constraint_end.proofs.check.checked_at.Goals as goal

pub list_length-n-requires : goal.list_length-n-requires
list_length-n-requires c = let f = c.flat_at in
    record { ready = ready-kept c.requires f.auto.list; in_range = (decoded-got _ _ _ (sym c.in_ok-c.ensures)).fields }

pub returns-in_err-c : goal.returns-in_err-c
unfolding checked_at
returns-in_err-c c = rw (handed-on _ _ c.from_residual.ensures, ← c.in_err-c.ensures)

pub returns : goal.returns
unfolding checked_at
returns c = let f = c.flat_at in
    let w = c.in_ok-c.c in
    let l = leading w.fields.list f.new.list in
    let k = kind_from (number_of w.kind) w.fields l in
    let q = rw (c.end_of-e.ensures l) at c.ended.ensures in
    rw (← c.in_ok-c.ensures, ← c.list_length-n.ensures) (q ∙ ends_same _ k _ w.weight _)
