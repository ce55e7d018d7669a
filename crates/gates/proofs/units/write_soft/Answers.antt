use mathlib.Core.Logic.{⊎_elim}
use mathlib.Core.Path.{◌≡◌}
use Rattle.sink.specs.declared.Mode.TheVariants.{Text, Words}
use Rattle.gates.proofs.laws.Blocks.{unit-block}
use Rattle.gates.proofs.Softs.{soft_measure, soft_passed, soft-text, soft_wordless, soft_charged, soft_tail}
use Rattle.gates.proofs.units.write_soft.Goals as goal

pub returns-in-Measure : goal.returns-in-Measure
returns-in-Measure c = soft_measure _ _ _ _ c.in-Measure.is (unit-block c.requires.small) c.emit.ensures

pub returns-in-Text : goal.returns-in-Text
returns-in-Text c = let k = c.args.job in
    ⊎_elim (λ (e : k.mode ≡ Text). soft_passed _ _ _ _ e) (λ (e : k.mode ≡ Words). soft_wordless _ _ _ _ e) c.in-Text.is

pub returns-in-SoftText : goal.returns-in-SoftText
returns-in-SoftText c = soft-text _ _ _ _ c.in-SoftText.is (unit-block c.requires.small) c.emit-in-SoftText.ensures

pub returns-in-Evaluate : goal.returns-in-Evaluate
returns-in-Evaluate c = soft_charged _ _ _ _ _ _ _ _ c.in-Evaluate.is c.charge.ensures

pub returns-in-Tail : goal.returns-in-Tail
returns-in-Tail c = soft_tail _ _ _ _ c.in-Tail.is c.write_tail.ensures
