-- How text, its length and a model's truth go through a block, word by word.
use Rattle.std.specs.Prelude.{false, ◌||◌, List, ◌∷◌, ◌++◌, ℕ, length}
use Rattle.scope.specs.Cnf.{bit, lit}
use Rattle.scope.specs.Text.{decimal, space, newline, literal_text}
use Rattle.sink.specs.Run.{run, Out, put, further}
use Rattle.sink.specs.Block.{Parts}
use Rattle.sink.specs.World.{bad_after}
use Rattle.sink.specs.declared.Judgement.{Judgement}

-- the text of hard lines
abbrev pub text_parts : ℕ → Parts Out
text_parts top =
    record { start = run put (decimal top ++ space); literal = λ l. run put (literal_text l); end = run put (48 ∷ newline) }

-- a position moved on by their length, where a line has so many bytes beside its literals
abbrev pub size_parts : ℕ → Parts ℕ
size_parts beside =
    record { start = λ a. a; literal = λ l a. further a (length (literal_text l)); end = λ a. further a beside }

-- the truth of clauses in a model
abbrev pub judge_parts : List ℕ → Parts Judgement
judge_parts m =
    record {
      start = λ j. j;
      literal = λ l j. record { at = j.at; bad = j.bad; holds = j.holds || lit (bit m) l };
      end = λ j. record { at = further j.at 1; bad = bad_after j.holds (further j.at 1) j.bad; holds = false };
    }
