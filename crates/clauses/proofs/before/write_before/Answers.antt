-- `before::write_before` meets its contract.
use mathlib.Core.Path.{ap}
use Prim.Native.Nat.{◌+◌}
use native.Mathlib.Omega.{arith}
use lib.ListN.{take}
use Rattle.scope.specs.declared.Layout.{Layout}
use Rattle.literals.proofs.laws.Variables.{starts-block}
use Rattle.user_table.specs.Filled.{users_at}
use Rattle.clauses.specs.Before.{blocks_wrote}
use Rattle.clauses.proofs.laws.Blocks.{begun_sizes, begun_uses, begun_durations}
use Rattle.clauses.proofs.before.write_before.Goals as goal

pub numbering-l-requires : goal.numbering-l-requires
numbering-l-requires c = let p = c.requires in (p.durations.times, (p.durations.events, omega (arith, p.resources)))

pub write_starts-a-requires : goal.write_starts-a-requires
write_starts-a-requires c = let p = c.requires in (rw c.numbering-l.ensures (starts-block (begun_sizes p)), p.durations.events)

pub overflow_add-v : goal.overflow_add-v
overflow_add-v c = omega (arith, ap (λ (l : Layout). l.primary) c.numbering-l.ensures, (begun_sizes c.requires).primary)

pub write_uses-b-requires : goal.write_uses-b-requires
write_uses-b-requires c = begun_uses c.requires (ap (λ (l : Layout). l.primary + 1) c.numbering-l.ensures)

pub overflow_add-next : goal.overflow_add-next
overflow_add-next c = omega (arith, ap (λ (l : Layout). l.others) c.numbering-l.ensures, (begun_sizes c.requires).others)

pub write_durations-requires : goal.write_durations-requires
write_durations-requires c = begun_durations c.requires (ap (λ (l : Layout). l.others + 1) c.numbering-l.ensures)

pub shape_of-text : goal.shape_of-text
shape_of-text c = omega (arith, c.write_durations.auto.text, c.write_uses-b.auto.text, c.write_starts-a.auto.text)

pub shape_of-words : goal.shape_of-words
shape_of-words c = omega (arith, c.write_durations.auto.words, c.write_uses-b.auto.words, c.write_starts-a.auto.words)

pub returns : goal.returns
returns c = let a = c.args in
    let h = a.head in
    let n = c.numbering-l.ensures in
    blocks_wrote h.times (users_at a.users.now) h.events h.resources (take h.events a.durations.now)
    (ap (λ (l : Layout). l.primary + 1) n)
    (ap (λ (l : Layout). l.others + 1) n)
    (rw n at c.write_starts-a.ensures)
    c.write_uses-b.ensures
    c.write_durations.ensures
