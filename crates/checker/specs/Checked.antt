-- What a check answers, from what is ready and what the driver leaves.
use Rattle.std.specs.Prelude.{◌≡◌, List, ℕ, length, Result}
use Rattle.scope.specs.declared.refusal.Refusal.{Refusal}
use Rattle.directory.specs.declared.Row.{Row}
use Rattle.building.specs.Marked.{Built}
use Rattle.run.specs.Turned.{outcome, driven_by}
use Rattle.run.proofs.Turning.{Few}

-- the directory was built of the words, and the proof s driven to its end
pub record Followed (s ws : List ℕ) (cap : ℕ) (ms : List ℕ) (used last : ℕ) (r : Result ℕ Refusal) : Type 0 where
  pub lent : List Row
  pub rows : List Row
  pub words : List ℕ
  pub count : ℕ
  pub room : length lent ≡ cap
  pub long : length words ≡ length ws
  pub built : Built ws words lent rows used count
  pub same : length rows ≡ length lent
  pub few : Few s words (length rows)
  pub rows_left : List Row
  pub words_left : List ℕ
  pub marks_left : List ℕ
  pub driven : outcome r rows_left words_left marks_left ≡ driven_by s last count used rows words ms
