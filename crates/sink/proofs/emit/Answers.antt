use mathlib.Core.Logic.{⊎_elim}
use mathlib.Core.Path.{◌≡◌}
use Rattle.sink.specs.declared.Mode.TheVariants.{SoftText, Tail}
use Rattle.sink.proofs.Emitted.{emit_measure, emit_text, emit_soft_text, emit_words, emit_evaluate, emit_tail}
use Rattle.sink.proofs.emit.Goals as goal

pub returns-in-Measure : goal.returns-in-Measure
returns-in-Measure c = rw c.placed.ensures (emit_measure _ _ _ _ _ _ c.requires _ _ c.in-Measure.is c.number_size-beside.ensures.0 c.size_block-at.ensures)

pub returns-in-Text : goal.returns-in-Text
returns-in-Text c = rw c.placed-in-Text.ensures (emit_text _ _ _ _ _ _ c.requires _ _ c.in-Text.is c.text_block-at.ensures)

pub returns-in-SoftText : goal.returns-in-SoftText
returns-in-SoftText c = let a = c.args in
    ⊎_elim (λ (e : a.job.mode ≡ SoftText). emit_soft_text _ _ _ _ _ _ e) (λ (e : a.job.mode ≡ Tail). emit_tail _ _ _ _ _ _ e) c.in-SoftText.is

pub returns-in-Words : goal.returns-in-Words
returns-in-Words c = rw c.placed-in-Words.ensures (emit_words _ _ _ _ _ _ c.requires _ _ c.in-Words.is c.words_block-at.ensures)

pub returns-in-Evaluate : goal.returns-in-Evaluate
returns-in-Evaluate c = emit_evaluate _ _ _ _ _ _ c.requires _ c.in-Evaluate.is c.judge_block-j.ensures
