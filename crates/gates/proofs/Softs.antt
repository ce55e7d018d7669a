-- The step for a soft unit, mode by mode, and the tail's row.
use mathlib.Core.Path.{◌≡◌, ap, ◌∙◌, sym}
use mathlib.Core.Bool.{◌&&◌, and-false}
use mathlib.Core.List.{List, [], ◌∷◌, map, flat_map}
use Prim.Native.Nat.{ℕ, ◌+◌, ◌≤◌, ◌<◌}
use lib.Dec.{leb}
use borrow.Author.Tests.{lt-leb}
use Rattle.scope.specs.Cnf.{bit, lit, opp, gate}
use Rattle.scope.specs.Formula.{row}
use Rattle.sink.specs.Run.{Ran}
use Rattle.sink.specs.Lines.{clause_line, soft_line, lines, gates_clauses}
use Rattle.sink.specs.Block.{mark, split, Marks}
use Rattle.sink.specs.World.{World, world, charged_sink, put_words, row_over, row_clauses, tail_row, step}
use Rattle.sink.proofs.laws.Meaning.{words_lines}
use Rattle.sink.proofs.laws.Tails.{row_fits}
use Rattle.sink.specs.declared.Sink.{Sink}
use Rattle.sink.specs.declared.Job.{Job}
use Rattle.sink.specs.declared.Mode.{Mode}
use Rattle.sink.specs.declared.Mode.TheVariants.{Measure, Text, SoftText, Words, Evaluate, Tail}

module _ (k : Job) (m : List ℕ) (n l : ℕ) where
  -- the job for the line of a soft unit by itself
  abbrev line_job : Mode → Job
  line_job md = record { mode = md; top = n; cols = k.cols }

  pub soft_measure : {b : List ℕ} {w w' : World} → k.mode ≡ Measure → Marks b ((l ∷ []) ∷ [])
      → Ran (step (line_job Measure) m) (map clause_line (split b)) w w' → Ran (step k m) (soft_line n l ∷ []) w w'
  unfolding step
  soft_measure e h r = record { eq = rw e (rw h.clauses at r).eq }

  pub soft-text : {b : List ℕ} {w w' : World} → k.mode ≡ SoftText → Marks b ((l ∷ []) ∷ [])
      → Ran (step (line_job Text) m) (map clause_line (split b)) w w' → Ran (step k m) (soft_line n l ∷ []) w w'
  unfolding step
  soft-text e h r = record { eq = rw e (rw h.clauses at r).eq }

  pub soft_passed : {w : World} → k.mode ≡ Text → Ran (step k m) (soft_line n l ∷ []) w w
  unfolding step
  soft_passed e = record { eq = rw e }

  pub soft_wordless : {w : World} → k.mode ≡ Words → Ran (step k m) (soft_line n l ∷ []) w w
  unfolding step
  soft_wordless e = record { eq = rw e }

  pub soft_charged : (s r : Sink) (t w : List ℕ) → k.mode ≡ Evaluate → r ≡ charged_sink (lit (bit m) l) n s
      → Ran (step k m) (soft_line n l ∷ []) (world s t w) (world r t w)
  unfolding step
  soft_charged s r t w e p = record { eq = rw (e, p) }

  pub soft_tail : {w w' : World} → k.mode ≡ Tail → w' ≡ tail_row k.cols n l w → Ran (step k m) (soft_line n l ∷ []) w w'
  unfolding step
  soft_tail e p = record { eq = rw e p }

-- a row that does not fit
module _ (cols n l : ℕ) (w : World) where
  pub none_first : w.row ≡ 0 → tail_row cols n l w ≡ w
  unfolding tail_row
  none_first e = rw e

  pub none_before : 1073741824 < w.prev + cols → tail_row cols n l w ≡ w
  unfolding tail_row
  none_before h = rw (lt-leb (w.prev + cols) 1073741824 h, and-false (leb 1 w.row))

  pub none_next : 1073741824 < w.row + cols → tail_row cols n l w ≡ w
  unfolding tail_row
  none_next h = rw (lt-leb (w.row + cols) 1073741824 h, and-false (leb 1 w.row && leb (w.prev + cols) 1073741824))

-- a row as words, and the next row after it
pub tail-ran : (m : List ℕ) (k : Job) (cols n l x : ℕ) (s r : Sink) (t w t' w' : List ℕ) → x ≡ opp l
    → k.mode ≡ Words → 1 ≤ s.row → s.prev + cols ≤ 1073741824 → s.row + cols ≤ 1073741824
    → Ran (step k m) (lines s.row (map gate (row (row_over s.prev) n x 1 cols))) (world s t w) (world r t' w')
    → world (record { at = r.at; bad = r.bad; lost = r.lost; prev = s.row; row = s.row + cols }) t' w'
    ≡ tail_row cols n l (world s t w)
unfolding row_clauses gates_clauses
tail-ran m k cols n l x s r t w t' w' ex e h g f p =
    let q : world r t' w' ≡ put_words (flat_map mark (row_clauses cols s.prev s.row n l)) (world s t w) =
    p.eq ∙ words_lines k m s.row (map gate (row (row_over s.prev) n x 1 cols)) (world s t w) e ∙ rw ex in
    ap (λ (y : World). record { at = y.at; text = y.text; words = y.words; bad = y.bad; lost = y.lost; prev = s.row; row = s.row + cols }) q
    ∙ sym (row_fits cols n l (world s t w) h g f)
