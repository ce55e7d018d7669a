use Rattle.std.proofs.Common.{refl, ap, ◌∙◌, arith, length}
use Rattle.scope.specs.Answers.{means}
use Rattle.claims.proofs.laws.Prepared.{handed-on}
use Rattle.checker.proofs.laws.Checked.{checked, refused-checked}
use Rattle.checker.proofs.answer.follow.Goals as goal

pub returns-in_err-ready : goal.returns-in_err-ready
returns-in_err-ready c =
    let a = c.args in
    ap means (handed-on _ _ c.from_residual.ensures)
    ∙ refused-checked a.file.now a.claim a.proof.now _ _ _ refl c.in_err-ready.ensures.value

pub returns : goal.returns
returns c =
    let a = c.args in
    let p = c.prepare in
    let b = c.build_directory-n.ensures in
    checked a.file.now a.claim a.proof.now a.words.now p.new.words (length a.rows.now) p.new.marks (length a.marks.now) c.drive.result
    c.in_ok-ready.ensures.marks_after p.auto.words (omega arith) c.in_ok-ready.ready _ refl c.in_ok-ready.ensures.value c.in_ok-ready.ensures.words_after
    (record { lent = a.rows.now; rows = c.build_directory-n.new.rows; words = c.build_directory-n.new.words; count = c.build_directory-n.result; room = refl; long = c.build_directory-n.auto.words; built = record { count = b.value; words = b.words_after; rows = b.rows_after }; same = c.build_directory-n.auto.rows; few = record { bytes = omega arith; words = omega arith; rows = omega arith }; rows_left = c.drive.new.rows; words_left = c.drive.new.words; marks_left = c.drive.new.marks; driven = c.drive.ensures })
