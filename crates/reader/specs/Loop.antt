-- A loop whose state says whether it goes on.
use Rattle.std.specs.Prelude.{Bool, cond, ℕ, zero, suc}

-- a loop's state once it does not go on, after at most k turns
unfoldable pub while_more : {S : Type 0} → (S → Bool) → (S → S) → ℕ → S → S
while_more more turn zero x = x
while_more more turn (suc k) x = cond (more x) (while_more more turn k (turn x)) x
