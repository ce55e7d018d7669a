use Rattle.chain_lists.proofs.Walked.{bounded-start, bounded-more, left_start, told, left-next, preferred-stored}
use Rattle.list_nodes.proofs.laws.Ground.{ground_sizes, ground_event, ground_group, ground_ascends}
use Rattle.literals.proofs.laws.Passed.{passed_none, passed_more}
use Rattle.literals.proofs.laws.Words.{indicator-most, indicator-byte}
use lib.Dec.{eqb}
use lib.ListN.{length-set}
use native.Mathlib.Omega.{arith}
use mathlib.Core.Path.{refl, sym, ◌∙◌}
use Rattle.chain_lists.proofs.preferred.fill_preferred.Goals as goal

pub numbering-l-requires : goal.numbering-l-requires
numbering-l-requires c = let p = c.requires.0 in (p.times, (p.events, p.resources))

pub overflow_sub-row : goal.overflow_sub-row
overflow_sub-row c = omega (arith, c.requires.1.0.1.low)

pub base-y-requires : goal.base-y-requires
base-y-requires c = let p = c.requires in (omega arith, (p.0.times, ground_event p.0 p.1.0.0))

pub base-s-requires : goal.base-s-requires
base-s-requires c = let p = c.requires in (rw c.numbering-l.ensures (omega (arith, (ground_sizes p.0).starts)), (p.0.times, ground_event p.0 p.1.0.0))

pub times_after-after-requires : goal.times_after-after-requires
times_after-after-requires c = let p = c.requires in (p.1.1.0, ground_event p.0 p.1.0.0)

pub loop-passed-init : goal.loop-passed-init
loop-passed-init c = let p = c.requires in
    (omega arith, p.1.1.1.0, refl, bounded-start _ (omega (arith, p.1.1.1.1)), passed_none _ _ (ground_ascends p.0 p.1.0.1), left_start _ _ _ _ _ _ _ _)

pub member_is-inside-requires : goal.member_is-inside-requires
member_is-inside-requires c = (ground_group c.requires.0 c.requires.1.0.1).row

pub pass-w-requires : goal.pass-w-requires
pass-w-requires c = let p = c.requires in
    let l = c.loop-passed in
    let b = l.invariant.3 in
    let h = p.0.times in
    let m = p.1.1.1.1 in
    let j = c.loop-passed-test.true in
    record { words = omega (arith, l.invariant.1, b.words, h, j); takes = omega (arith, c.base-y.ensures.small, h, j); starts = omega (arith, c.base-s.ensures.small, h, j); last = omega (arith, b.last); next = omega (arith, b.next, m, h, j); members = omega (arith, b.members, h, j) }

pub overflow_mul-members : goal.overflow_mul-members
overflow_mul-members c = let p = c.requires in
    omega (arith, (bounded-more c.member_is-inside.result c.loop-passed.invariant.3 (omega (arith, p.1.1.1.1)) (omega (arith, p.0.times, c.loop-passed-test.true)) c.base-s.ensures.small c.pass-w.ensures).last)

pub offset_bounds-members-n : goal.offset_bounds-members-n
offset_bounds-members-n c = omega (arith, c.loop-passed.invariant.3.members, c.requires.0.times, c.loop-passed-test.true)

pub bounds-members-n : goal.bounds-members-n
bounds-members-n c = omega (arith, c.loop-passed.invariant.3.members, c.requires.0.times, c.loop-passed-test.true)

pub overflow_add-k : goal.overflow_add-k
overflow_add-k c = omega (arith, c.loop-passed.invariant.0, c.requires.0.times, indicator-most (indicator-byte c.member_is-inside.ensures c.from-k.ensures))

pub loop-passed-preserved : goal.loop-passed-preserved
loop-passed-preserved c = let p = c.requires in
    let l = c.loop-passed in
    let j = c.loop-passed-test.true in
    let m = c.member_is-inside in
    let o = indicator-byte m.ensures c.from-k.ensures in
    let q = c.pass-w.ensures in
    (omega (arith, l.invariant.0, indicator-most o), c.out-1.given ∙ l.invariant.1, simp length-set l.invariant.2, bounded-more m.result l.invariant.3 (omega (arith, p.1.1.1.1)) (omega (arith, p.0.times, j)) c.base-s.ensures.small q, passed_more l.invariant.4 o, left-next _ _ _ m.result l.invariant.5 j c.times_after-after.ensures (told l.invariant.4 m.ensures) q (omega (arith, l.invariant.2, l.invariant.3.members, p.0.times, j)))

pub store_words-end-requires : goal.store_words-end-requires
store_words-end-requires c = let l = c.loop-passed in
    let b = l.invariant.3 in
    let h = c.requires.0.times in
    (omega arith, (omega (arith, l.invariant.2, b.members, h), omega (arith, l.invariant.1, b.words, b.members, h)))

pub overflow_sub-result : goal.overflow_sub-result
overflow_sub-result c = omega (arith, c.loop-passed.invariant.3.first)

pub shape_of-out : goal.shape_of-out
shape_of-out c = c.out-2-1.given ∙ c.loop-passed.invariant.1 ∙ sym c.requires.1.1.1.0

pub returns : goal.returns
returns c = let a = c.args in
    let p = c.requires in
    let l = c.loop-passed in
    let q = c.store_words-end.ensures in
    preferred-stored a.head a.durations.now a.groups.now a.f.event a.f.group a.v p.1.0.0 p.1.0.1 l.passed (omega arith) (rw (c.base-y.ensures.value, c.base-s.ensures.value, c.numbering-l.ensures) at l.invariant.5) (omega (arith, l.invariant.1, l.invariant.3.words, p.0.times)) q.holds _ refl
