use native.Mathlib.Omega.{arith}
use Rattle.sink.proofs.laws.Lend.{base-within, lent, lent-before}
use borrow.Author.Rules.{rules}
use Rattle.clauses.proofs.part.write_constraint.Goals as goal

pub overflow_sub-s : goal.overflow_sub-s
overflow_sub-s c = omega (arith, base-within c.args.job.mode c.args.s.at)

pub returns : goal.returns
returns c = let a = c.args in
    let p = c.part_base-base in
    let l = c.write_lists-r.new in
    let w = c.write_lists-r.ensures in
    let t = c.min-t.ensures in
    let u = c.min-w.ensures in record {
      wrote = rw c.placed-last.ensures
          (record {
            ran =
                lent a.job _ _ a.s _ a.text.now a.words.now _ _ p.result _ _ _ (omega (arith, c)) (omega (arith, c)) c.requires.at_bound.0 p.ensures t u c.advance.ensures
                (rw c.placed-z.ensures at w.ran);
            next = w.next;
          });
      before = (lent-before p.result _ a.text.now _ l.text p.ensures t, lent-before p.result _ a.words.now _ l.words p.ensures u);
    }
