-- `verdict::scored::score_read` meets its contract. The verdict first, then the score.
use Rattle.std.proofs.lemmas.Result.{err_from_is_err_and}
use Rattle.verdict.proofs.laws.Answers.{timetable-long, score_passed, score_refused, score_scored}
use Rattle.score.proofs.laws.Ready.{scorable}
use Rattle.verdict.proofs.scored.score_read.Goals as goal

pub returns-in_err-verdict_of : goal.returns-in_err-verdict_of
returns-in_err-verdict_of c =
    let p = err_from_is_err_and c.from_residual.result c.from_residual.ensures.1 in
    rw (p.1, p.2) (score_refused c.requires.0 c.verdict_of.ensures c.in_err-verdict_of.was)

pub score_of-s-requires : goal.score_of-s-requires
score_of-s-requires c = let p = c.requires in
    scorable p.0 _ _ p.1.tables.resources_long p.1.tables.groups_long p.1.list_long (timetable-long c.verdict_of.ensures c.in_ok-verdict_of.was)

pub returns : goal.returns
returns c = let a = c.requires.0 in
    let o = c.verdict_of.ensures in
    let t = c.in_ok-verdict_of.was in
    score_scored a o t (c.score_of-s.ensures _ a (score_passed a o t))
