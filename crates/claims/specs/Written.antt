-- What the writers leave in the words.
use Rattle.std.specs.Prelude.{◌≡◌, List, ℕ, length}
use Rattle.sink.specs.Run.{Ran, out, put}
use Rattle.sink.specs.Tails.{tail_words, last_first}
use Rattle.sink.specs.declared.Sink.{Sink}

-- the tail's rows were put into the words
pub record RowsPut (us : List (ℕ × ℕ)) (cols first at : ℕ) (ws : List ℕ) (r : Sink) (ws' : List ℕ) : Type 0 where
  pub ran : Ran put (tail_words cols 0 first us) (out at ws) (out r.at ws')
  pub last : r.prev ≡ last_first cols 0 first (length us)
