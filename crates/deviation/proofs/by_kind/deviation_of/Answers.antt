-- `deviation::by_kind::deviation_of` meets its contract. Each case hands its part of what is known to the function of its kind.
use native.Mathlib.Omega.{arith}
use Rattle.deviation.proofs.laws.Charge.{listed_in}
use Rattle.deviation.proofs.by_kind.deviation_of.Goals as goal

pub of_spread-requires : goal.of_spread-requires
of_spread-requires c = let p = c.requires in
    let v = rw c.in-Spread.is at p.1.1.1 in
    (p.0.bytes, (p.0.groups, (listed_in _ _ _ p.1.0 (omega (arith, p.0.bytes.sizes.events)) v.0, v)))

pub of_cluster-requires : goal.of_cluster-requires
of_cluster-requires c = let p = c.requires in
    let v = rw c.in-Cluster.is at p.1.1.1 in
    (p.0.used, (p.0.groups, (listed_in _ _ _ p.1.0 p.1.1.0 v.1, v)))

pub of_idle-requires : goal.of_idle-requires
of_idle-requires c = let p = c.requires in
    let v = rw c.in-Idle.is at p.1.1.1 in
    (p.0.used, (p.0.groups, (listed_in _ _ _ p.1.0 p.1.1.0 v.1, v)))
