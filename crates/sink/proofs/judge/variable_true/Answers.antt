use mathlib.Core.Path.{sym}
use Rattle.sink.proofs.Truth.{bit-none, bit_at, bit_past}
use Rattle.sink.proofs.judge.variable_true.Goals as goal

pub returns-then-v-eq0 : goal.returns-then-v-eq0
returns-then-v-eq0 c = sym (bit-none _ _ c.if-v-eq0.true)

pub returns-then-i-model : goal.returns-then-i-model
returns-then-i-model c = sym (bit_at _ _ c.if-v-eq0.false)

pub returns : goal.returns
returns c = sym (bit_past _ _ c.if-v-eq0.false c.if-i-model.false)
