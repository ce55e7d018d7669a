-- `score::scored::score_of` meets its contract. The counted uses and the marks are those of the definitions, so the sums are the score.
use Prim.Native.Nat.{ℕ}
use mathlib.Core.Path.{◌≡◌, ◌∙◌}
use lib.ListN.{length, replicate, length-replicate}
use Rattle.instance.proofs.laws.Ready.{zeros}
use Rattle.score.proofs.laws.Ready.{scorable_counts}
use Rattle.score.proofs.laws.Right.{infeasibility_right, objective_right}
use Rattle.score.proofs.scored.score_of.Goals as goal

-- the length of a store by its law: antt would count it
zeros-long : length (replicate {A = ℕ} 12375 0) ≡ 12375
zeros-long = length-replicate {A = ℕ} 12375 0

pub count_uses-requires : goal.count_uses-requires
count_uses-requires c = (scorable_counts c.requires (replicate 12375 0) zeros-long, zeros 12375)

pub returns : goal.returns
returns c = λ d a t.
    let p = c.requires in
    let u = c.count_uses in
    let m = c.mark_used in
    let r = c.charge_all.ensures in
    let l = u.auto.uses ∙ zeros-long in
    (infeasibility_right a p t l u.ensures m.ensures r.0, objective_right a p t l u.ensures m.ensures r.1)
