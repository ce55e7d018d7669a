-- The world of a run over a formula's lines, and the step for one line by mode.
use Rattle.std.specs.Prelude.{Bool, cond, ◌&&◌, ℕ, zero, suc, ◌+◌, length, eqb, leb}
use mathlib.Core.List.{List, [], ◌∷◌, flat_map}
use Rattle.scope.specs.Cnf.{bit, lit, clause, opp}
use Rattle.scope.specs.Formula.{no_row, row_at, row}
use Rattle.scope.specs.Text.{line}
use Rattle.sink.specs.Run.{run, Out, out, put, further}
use Rattle.sink.specs.Lines.{Line, clause_line, soft_line, gates_clauses}
use Rattle.sink.specs.Block.{mark}
use Rattle.sink.specs.declared.Sink.{Sink}
use Rattle.sink.specs.declared.Job.{Job}
use Rattle.sink.specs.declared.Mode.{Mode}
use Rattle.sink.specs.declared.Mode.TheVariants.{Measure, Text, SoftText, Words, Evaluate, Tail}

-- where a run stands, with the outputs lent
pub record World : Type 0 where
  pub at : ℕ
  pub text : List ℕ
  pub words : List ℕ
  pub bad : ℕ
  pub lost : ℕ
  pub prev : ℕ
  pub row : ℕ

abbrev pub world : Sink → List ℕ → List ℕ → World
world s t w = record { at = s.at; text = t; words = w; bad = s.bad; lost = s.lost; prev = s.prev; row = s.row }

-- the sink at another position
abbrev pub sink_at : ℕ → Sink → Sink
sink_at a s = record { at = a; bad = s.bad; lost = s.lost; prev = s.prev; row = s.row }

-- the sink after a soft unit, with its truth and weight
abbrev pub charged_sink : Bool → ℕ → Sink → Sink
charged_sink t n s = record { at = s.at; bad = s.bad; lost = cond t s.lost (further s.lost n); prev = s.prev; row = s.row }

-- the world at another position, and moved on
abbrev pub placed : ℕ → World → World
placed a w =
    record { at = a; text = w.text; words = w.words; bad = w.bad; lost = w.lost; prev = w.prev; row = w.row }

abbrev pub moved : ℕ → World → World
moved n w = placed (further w.at n) w

-- the world with an output in place of its text or its words

abbrev pub in_text : Out → World → World
in_text o w = record { at = o.at; text = o.buf; words = w.words; bad = w.bad; lost = w.lost; prev = w.prev; row = w.row }

abbrev pub in_words : Out → World → World
in_words o w = record { at = o.at; text = w.text; words = o.buf; bad = w.bad; lost = w.lost; prev = w.prev; row = w.row }

-- bytes put into the text, words into the words, from the position on
abbrev pub put_text : List ℕ → World → World
put_text xs w = in_text (run put xs (out w.at w.text)) w

abbrev pub put_words : List ℕ → World → World
put_words xs w = in_words (run put xs (out w.at w.words)) w

-- the lowest false clause so far, or 0, after a clause with its truth and id
abbrev pub bad_after : Bool → ℕ → ℕ → ℕ
bad_after t id bad = cond (eqb bad 0) (cond t 0 id) bad

-- a clause passed, with its truth
abbrev pub judged : Bool → World → World
judged t w =
    record {
      at = further w.at 1;
      text = w.text;
      words = w.words;
      bad = bad_after t (further w.at 1) w.bad;
      lost = w.lost;
      prev = w.prev;
      row = w.row;
    }

-- a soft unit passed, with its truth and weight
abbrev pub charged : Bool → ℕ → World → World
charged t n w =
    record {
      at = w.at;
      text = w.text;
      words = w.words;
      bad = w.bad;
      lost = cond t w.lost (further w.lost n);
      prev = w.prev;
      row = w.row;
    }

-- the row whose first variable is v, and no row where v is 0
abbrev pub row_over : ℕ → ℕ → ℕ
row_over zero = no_row
row_over (suc v) = row_at (suc v)

-- the clauses of a counter's row with so many columns, over the row at prev, for a soft unit of a weight that is falsified
unfoldable pub row_clauses : ℕ → ℕ → ℕ → ℕ → ℕ → List (List ℕ)
row_clauses cols prev first weight l = gates_clauses first (row (row_over prev) weight (opp l) 1 cols)

-- the tail's next row, written where its variables are above 0, and they and those of the row before it are below 2 ^ 30
abbrev pub rows_fit : ℕ → World → Bool
rows_fit cols w = leb 1 w.row && leb (w.prev + cols) 1073741824 && leb (w.row + cols) 1073741824

abbrev pub next_row : ℕ → World → World
next_row cols w =
    record { at = w.at; text = w.text; words = w.words; bad = w.bad; lost = w.lost; prev = w.row; row = w.row + cols }

unfoldable pub tail_row : ℕ → ℕ → ℕ → World → World
tail_row cols weight l w =
    cond (rows_fit cols w)
    (next_row cols (put_words (flat_map mark (row_clauses cols w.prev w.row weight l)) w))
    w

-- the step for a hard clause
abbrev pub clause_step : Mode → ℕ → List ℕ → List ℕ → World → World
clause_step Measure top m c w = moved (length (line top c)) w
clause_step Text top m c w = put_text (line top c) w
clause_step SoftText top m c w = w
clause_step Words top m c w = put_words (mark c) w
clause_step Evaluate top m c w = judged (clause (bit m) c) w
clause_step Tail top m c w = w

-- the step for a soft unit
abbrev pub soft_step : Mode → ℕ → List ℕ → ℕ → ℕ → World → World
soft_step Measure cols m n l w = moved (length (line n (l ∷ []))) w
soft_step Text cols m n l w = w
soft_step SoftText cols m n l w = put_text (line n (l ∷ [])) w
soft_step Words cols m n l w = w
soft_step Evaluate cols m n l w = charged (lit (bit m) l) n w
soft_step Tail cols m n l w = tail_row cols n l w

-- the step for a line, with a model
unfoldable pub step : Job → List ℕ → Line → World → World
step k m (clause_line c) w = clause_step k.mode k.top m c w
step k m (soft_line n l) w = soft_step k.mode k.cols m n l w
