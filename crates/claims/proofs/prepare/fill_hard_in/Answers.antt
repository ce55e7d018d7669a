-- `prepare::fill_hard_in` meets its contract: the file is measured, then the stores are judged, then the hard clauses are written.
use borrow.Author.Rules.{rules}
use mathlib.Core.Path.{refl, sym, ap, ◌∙◌}
use native.Mathlib.Omega.{arith}
use Rattle.std.proofs.Common.{Ok, Err}
use Rattle.tables.proofs.laws.Room.{room-kept}
use Rattle.claims.proofs.laws.Bounded.{hard-writable}
use Rattle.claims.proofs.laws.Prepared.{hard_refused, hard_short, hard_in, handed-on, left-same}
use Rattle.claims.proofs.prepare.fill_hard_in.Goals as goal

pub write_hard-requires : goal.write_hard-requires
write_hard-requires c = let g = room-kept c.args.file.now c.measure.auto.groups c.requires in
    hard-writable c.in_ok-head.ensures (search rules)

pub returns-in_err-head : goal.returns-in_err-head
returns-in_err-head c =
    let whole = left-same (handed-on _ _ c.from_residual.ensures) (hard_refused _ _ c.in_err-head.ensures _) in
    record { value = whole.0; words_after = whole.1 }

pub returns-then-not-fits : goal.returns-then-not-fits
returns-then-not-fits c =
    let whole = left-same (ap Err c.too_short.ensures) (hard_short _ _ c.in_ok-head.ensures c.stored_size-all.ensures (sym c.fits.ensures ∙ c.if-not-fits.true) _) in
    record { value = whole.0; words_after = whole.1 }

pub returns : goal.returns
returns c =
    let whole =
    left-same (ap Ok c.formula_of.ensures)
    (hard_in _ _ c.in_ok-head.ensures c.stored_size-all.ensures (sym c.fits.ensures ∙ c.if-not-fits.false) c.write_hard.ensures refl (omega arith))
    in
    record { value = whole.0; words_after = whole.1 }
