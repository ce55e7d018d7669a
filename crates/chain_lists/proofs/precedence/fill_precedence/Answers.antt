-- `chain_lists::precedence::fill_precedence` meets its contract.
use Rattle.chain_lists.proofs.GapStored.{nodes_stored, precedence-stored}
use native.Mathlib.Omega.{arith}
use mathlib.Core.Path.{refl}
use Rattle.chain_lists.proofs.precedence.fill_precedence.Goals as goal

pub store_too_late-d-requires : goal.store_too_late-d-requires
store_too_late-d-requires c = let p = c.requires in
    let m = c.saturating_sub-late.ensures in
    (omega (arith, p.0.times, m), (p.1.0.3.high, (p.1.1.0, (omega arith, (omega (arith, p.0.times, p.1.1.0, c.saturating_sub-early.ensures, m, c.saturating_sub.ensures), omega (arith, p.0.times, p.1.0.2.high, p.1.1.1, c.saturating_sub-early.ensures, m, c.store_chain-a.ensures.upper_bound, c.store_too_soon-b.ensures.upper_bound, c.store_chain-c.ensures.upper_bound, c.out-1.given, c.out-2-1.given, c.out-3-1.given))))))

pub store_either_way-at-requires : goal.store_either_way-at-requires
store_either_way-at-requires c = let p = c.requires in
    let e = c.saturating_sub-early.ensures in
    let m = c.saturating_sub-late.ensures in
    (p.0.times, (omega (arith, e), (omega (arith, m), (c.base-y.ensures.small, (p.1.1.0, (omega (arith, p.0.times, p.1.1.0, e, m, c.saturating_sub.ensures), omega (arith, p.0.times, p.1.0.2.high, p.1.1.1, e, m, c.store_chain-a.ensures.upper_bound, c.store_too_soon-b.ensures.upper_bound, c.store_chain-c.ensures.upper_bound, c.store_too_late-d.ensures.value, c.out-1.given, c.out-2-1.given, c.out-3-1.given, c.out-4-1.given)))))))

pub store_run-end-requires : goal.store_run-end-requires
store_run-end-requires c = let p = c.requires in
    let e = c.saturating_sub-early.ensures in
    let m = c.saturating_sub-late.ensures in
    (omega (arith, p.0.times, p.1.0.2.high, p.1.1.1, e, m, c.store_chain-a.ensures.upper_bound, c.store_too_soon-b.ensures.upper_bound, c.store_chain-c.ensures.upper_bound, c.store_too_late-d.ensures.value, c.store_either_way-at.ensures.value, c.out-1.given, c.out-2-1.given, c.out-3-1.given, c.out-4-1.given, c.out-5-1.given), omega (arith, p.0.times, p.1.1.0, e, m, c.saturating_sub.ensures))

pub returns : goal.returns
returns c = let a = c.args in
    let y = c.base-y in
    let z = c.base-z in
    let e = c.saturating_sub-early in
    let n = c.saturating_sub-late in
    let s = c.saturating_sub in
    let w = nodes_stored a.head.times a.f.lo a.f.hi a.v e.result n.result s.result e.ensures n.ensures s.ensures y.result z.result a.out.now c.store_chain-a.ensures.holds c.store_too_soon-b.ensures.holds c.store_chain-c.ensures.holds c.store_too_late-d.ensures.holds c.store_either_way-at.ensures.holds in
    precedence-stored a.head a.v a.f.first a.f.second a.f.lo a.f.hi e.result n.result s.result e.ensures n.ensures s.ensures (rw (y.ensures.value, z.ensures.value) at w) c.store_run-end.ensures.holds _ refl
