-- `sized::measure` meets its contract: the file is read, then its formula is sized.
use native.Mathlib.Omega.{arith}
use Rattle.number.proofs.laws.Sequence.{handed-on}
use Rattle.instance.proofs.laws.Laws.{accepted}
use Rattle.sizes.proofs.laws.Opened.{stores-kept}
use Rattle.sizes.proofs.laws.Measured.{size_refused, size_judged}
use Rattle.sizes.proofs.sized.measure.Goals as goal

pub returns-in_err-head : goal.returns-in_err-head
returns-in_err-head c = rw (handed-on _ _ c.from_residual.ensures) (size_refused _ c.in_err-head.ensures)

pub returns : goal.returns
returns c = let r = c.read in
    size_judged (accepted _ r.new.durations r.new.resources r.new.groups _ c.in_ok-head.ensures) c.whole_size-t.ensures c.judge_size.ensures

pub whole_size-t-requires : goal.whole_size-t-requires
whole_size-t-requires c = let r = c.read in
    let k = r.auto in
    record {
      accepted = accepted _ r.new.durations r.new.resources r.new.groups _ c.in_ok-head.ensures;
      stores = stores-kept c.requires k.durations k.resources k.groups k.list;
      bound = omega arith;
    }
