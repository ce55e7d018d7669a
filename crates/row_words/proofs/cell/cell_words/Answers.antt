-- `cell::cell_words` meets its contract: the words of two to four clauses, one after another.
use mathlib.Core.Path.{refl}
use Prim.Native.Nat.{◌+◌}
use native.Mathlib.Omega.{arith}
use Rattle.row_words.proofs.laws.Literals.{Variable}
use Rattle.row_words.proofs.laws.Cells.{stored, words-then, start_block, none_block, least_block, both_block}
use Rattle.row_words.proofs.cell.cell_words.Goals as goal

pub returns-then-j-w : goal.returns-then-j-w
returns-then-j-w c = let o : Variable (c.args.first + c.args.j) = record { some = omega (arith, c.requires); small = omega (arith, c.requires) } in
    stored (words-then c.pair-p.ensures c.pair.ensures) (start_block c.requires.0 o c.opposite.ensures c.if-prev-eq0.true c.if-j-w.true) (omega arith)

pub returns-then-prev-eq0 : goal.returns-then-prev-eq0
returns-then-prev-eq0 c = let o : Variable (c.args.first + c.args.j) = record { some = omega (arith, c.requires); small = omega (arith, c.requires) } in
    stored c.triple.ensures (none_block c.requires.0 o refl c.if-prev-eq0.true c.if-j-w.false) (omega arith)

pub returns-then-j-w-2 : goal.returns-then-j-w-2
returns-then-j-w-2 c = let o : Variable (c.args.first + c.args.j) = record { some = omega (arith, c.requires); small = omega (arith, c.requires) } in
    stored (words-then c.pair-p-2.ensures (words-then c.pair-q.ensures c.triple-then-j-w-2.ensures))
    (least_block c.requires.0 o c.opposite-then-j-w-2.ensures c.if-prev-eq0.false c.requires.3 c.if-j-w-2.true) (omega arith)

pub returns : goal.returns
returns c = let o : Variable (c.args.first + c.args.j) = record { some = omega (arith, c.requires); small = omega (arith, c.requires) } in
    stored (words-then c.pair-p-2.ensures (words-then c.triple-q.ensures (words-then c.triple-r.ensures c.triple-2.ensures)))
    (both_block c.requires.0 o c.opposite-2.ensures c.if-prev-eq0.false c.requires.3 c.if-j-w-2.false) (omega arith)
