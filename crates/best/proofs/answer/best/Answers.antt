-- `best` meets its contract: a model is evaluated, a claim made of its cost and checked, and both are judged.
use Rattle.best.proofs.laws.Best.{best_answered}
use Rattle.best.proofs.answer.best.Goals as goal

pub returns-clause-result_value : goal.returns-clause-result_value
returns-clause-result_value c =
    best_answered _ _ _ _ c.evaluate-e.ensures c.claim_for-claim.ensures c.check-c.ensures.result_value c.judge.ensures
