-- `sized::measure_bound` meets its contract: the file is read, then the bound is judged, then the formula with its tail.
use mathlib.Core.Path.{sym, ◌∙◌}
use borrow.Author.Tests.{leb-true}
use Rattle.number.proofs.laws.Sequence.{handed-on}
use Rattle.instance.proofs.laws.Laws.{accepted}
use Rattle.sizes.proofs.laws.Whole.{total-fits}
use Rattle.sizes.proofs.laws.Opened.{stores-kept}
use Rattle.sizes.proofs.laws.Measured.{bound_refused, bound_high, bound_judged}
use Rattle.sizes.proofs.sized.measure_bound.Goals as goal

pub judge_total-requires : goal.judge_total-requires
judge_total-requires c = total-fits c.whole_size-t.ensures

pub returns-in_err-head : goal.returns-in_err-head
returns-in_err-head c = rw (handed-on _ _ c.from_residual.ensures) (bound_refused _ c.in_err-head.ensures _)

pub returns-then-not-within_bound : goal.returns-then-not-within_bound
returns-then-not-within_bound c = let r = c.read in
    let a = accepted _ r.new.durations r.new.resources r.new.groups _ c.in_ok-head.ensures in
    bound_high a _ (sym c.within_bound.ensures ∙ c.if-not-within_bound.true)

pub returns : goal.returns
returns c = let r = c.read in
    let a = accepted _ r.new.durations r.new.resources r.new.groups _ c.in_ok-head.ensures in
    let low = leb-true _ _ (sym c.within_bound.ensures ∙ c.if-not-within_bound.false) in
    bound_judged a c.whole_size-t.ensures low c.judge_total.ensures

pub whole_size-t-requires : goal.whole_size-t-requires
whole_size-t-requires c = let r = c.read in
    let k = r.auto in
    record {
      accepted = accepted _ r.new.durations r.new.resources r.new.groups _ c.in_ok-head.ensures;
      stores = stores-kept c.requires k.durations k.resources k.groups k.list;
      bound = leb-true _ _ (sym c.within_bound.ensures ∙ c.if-not-within_bound.false);
    }
