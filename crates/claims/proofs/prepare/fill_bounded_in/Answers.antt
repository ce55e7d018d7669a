-- `prepare::fill_bounded_in` meets its contract: the file is measured, then the stores are judged, then the formula is written.
use borrow.Author.Rules.{rules}
use mathlib.Core.Path.{refl, sym, ap, ◌∙◌}
use native.Mathlib.Omega.{arith}
use Rattle.std.proofs.Common.{Ok, Err}
use Rattle.tables.proofs.laws.Room.{room-kept}
use Rattle.claims.proofs.laws.Bounded.{bounding}
use Rattle.claims.proofs.laws.Prepared.{bounded_refused, bounded_short, bounded_in, handed-on, left-same}
use Rattle.claims.proofs.prepare.fill_bounded_in.Goals as goal

pub write_bounded-requires : goal.write_bounded-requires
write_bounded-requires c = let g = room-kept c.args.file.now c.measure_bound.auto.groups c.requires in
    bounding c.in_ok-head.ensures (search rules)

pub returns-in_err-head : goal.returns-in_err-head
returns-in_err-head c =
    let whole = left-same (handed-on _ _ c.from_residual.ensures) (bounded_refused _ _ _ c.in_err-head.ensures _) in
    record { value = whole.0; words_after = whole.1 }

pub returns-then-not-fits : goal.returns-then-not-fits
returns-then-not-fits c =
    let whole = left-same (ap Err c.too_short.ensures) (bounded_short _ _ _ c.in_ok-head.ensures (sym c.fits.ensures ∙ c.if-not-fits.true) _) in
    record { value = whole.0; words_after = whole.1 }

pub returns : goal.returns
returns c =
    let whole =
    left-same (ap Ok c.formula_of.ensures)
    (bounded_in _ _ _ c.in_ok-head.ensures (sym c.fits.ensures ∙ c.if-not-fits.false) c.write_bounded.ensures refl (omega arith))
    in
    record { value = whole.0; words_after = whole.1 }
