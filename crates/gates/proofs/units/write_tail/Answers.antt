use mathlib.Core.Path.{sym, refl}
use native.Mathlib.Omega.{arith}
use Rattle.counters.proofs.laws.Literals.{literal-opposite}
use Rattle.gates.proofs.Softs.{none_first, none_before, none_next, tail-ran}
use Rattle.gates.proofs.units.write_tail.Goals as goal

pub returns-then-first-eq0 : goal.returns-then-first-eq0
returns-then-first-eq0 c = sym (none_first _ _ _ _ c.if-first-eq0.true)

pub returns-then-prev-cols-gt1073741824 : goal.returns-then-prev-cols-gt1073741824
returns-then-prev-cols-gt1073741824 c = sym (none_before _ _ _ _ c.if-prev-cols-gt1073741824.true)

pub returns-then-first-cols-gt1073741824 : goal.returns-then-first-cols-gt1073741824
returns-then-first-cols-gt1073741824 c = sym (none_next _ _ _ _ c.if-first-cols-gt1073741824.true)

pub write_row-r-requires : goal.write_row-r-requires
write_row-r-requires c = (rw c.opposite.ensures (literal-opposite _ c.requires), omega arith, omega arith, omega arith)

pub returns : goal.returns
returns c = tail-ran _ _ _ _ c.args.l _ c.args.s _ _ _ _ _ c.opposite.ensures refl (omega arith) (omega arith) (omega arith) c.write_row-r.ensures
