-- `size::text_size_in` meets its contract: the stores are long enough, and each case of `measure` is a case of the answer.
use mathlib.Core.Path.{ap, ◌∙◌}
use Rattle.scope.specs.Parsed.{answered}
use Rattle.std.proofs.lemmas.Result.{err_from_is_err_and}
use Rattle.tables.proofs.laws.Room.{room-kept}
use Rattle.text.proofs.laws.Written.{size_answered, size_refused}
use borrow.Author.Rules.{rules}
use Rattle.text.proofs.size.text_size_in.Goals as goal

pub text_length-n-requires : goal.text_length-n-requires
text_length-n-requires c = let g = room-kept c.args.file.now c.measure.auto.groups c.requires in
    record { sized = c.in_ok-head.ensures; stores = search rules }

pub returns : goal.returns
returns c = ap answered c.text_length-n.ensures ∙ size_answered c.in_ok-head.ensures

pub returns-in_err-head : goal.returns-in_err-head
returns-in_err-head c = let p = err_from_is_err_and c.from_residual.result c.from_residual.ensures.1 in
    rw (p.1, p.2) (size_refused _ c.in_err-head.ensures)
