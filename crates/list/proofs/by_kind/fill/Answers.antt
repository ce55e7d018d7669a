-- `list::by_kind::fill` meets its contract: a case for each kind.
use Rattle.list.proofs.laws.Fillable.{clash-time, only_one, preferred-small, spread_short, cluster_short, cluster_small, idle_short, idle_small}
use Rattle.list_nodes.proofs.laws.Ground.{sized}
use Rattle.scope.specs.Kinds.{counted_of}
use native.Mathlib.Omega.{arith}
use mathlib.Core.Path.{◌≡◌, refl}
use Rattle.list.proofs.by_kind.fill.Goals as goal

pub fill_clash-requires : goal.fill_clash-requires
fill_clash-requires c = let f = rw c.in-Clash.is at c.requires in
    (f.fits.rows, (omega (arith, f.fits.resources, f.fits.range.high), (f.fits.ground.times, (clash-time f, f.room))))

pub fill_unavailable-requires : goal.fill_unavailable-requires
fill_unavailable-requires c = let f = rw c.in-Unavailable.is at c.requires in
    (f.fits.ground, (f.fits.range, f.room))

pub fill_preferred-requires : goal.fill_preferred-requires
fill_preferred-requires c = let f = rw c.in-Preferred.is at c.requires in
    (f.fits.ground, (f.fits.range, (f.fits.lasts, (f.room, preferred-small f))))

pub fill_split-requires : goal.fill_split-requires
fill_split-requires c = let f = rw c.in-Split.is at c.requires in
    (sized f.fits.ground, (f.fits.range, f.room))

pub fill_spread-requires : goal.fill_spread-requires
fill_spread-requires c = let f = rw c.in-Spread.is at c.requires in
    (f.fits.ground, (f.fits.range, (f.fits.store, (spread_short _ _ _ _ _ _ _ _ _ f.fits, f.room))))

pub fill_busy-requires : goal.fill_busy-requires
fill_busy-requires c = let f = rw c.in-Busy.is at c.requires in
    (f.fits.ground, (f.fits.range, f.room))

pub fill_cluster-requires : goal.fill_cluster-requires
fill_cluster-requires c = let f = rw c.in-Cluster.is at c.requires in
    (f.fits.ground, (f.fits.range, (f.fits.store, (cluster_short _ _ _ _ _ _ _ _ _ f.fits, (cluster_small _ _ _ _ _ _ _ _ _ _ _ _ f, f.room)))))

pub fill_idle-requires : goal.fill_idle-requires
fill_idle-requires c = let f = rw c.in-Idle.is at c.requires in
    (f.fits.ground, (f.fits.range, (f.fits.store, (idle_short _ _ _ _ _ _ _ _ _ f.fits, (idle_small _ _ _ _ _ _ _ _ _ _ _ _ f, f.room)))))

pub fill_distribute-requires : goal.fill_distribute-requires
fill_distribute-requires c = let f = rw c.in-Distribute.is at c.requires in
    (sized f.fits.ground, (f.fits.range, (omega (arith, f.small), f.room)))

pub fill_lengths-requires : goal.fill_lengths-requires
fill_lengths-requires c = let f = rw c.in-Lengths.is at c.requires in
    (sized f.fits.ground, (f.fits.range, (omega (arith, f.small), f.room)))

pub fill_precedence-requires : goal.fill_precedence-requires
fill_precedence-requires c = let f = rw c.in-Precedence.is at c.requires in
    (sized f.fits.ground, (f.fits.range, (omega (arith, f.small), f.room)))

pub returns-in-Clash : goal.returns-in-Clash
unfolding counted_of
returns-in-Clash c = rw c.in-Clash.is (c.fill_clash.ensures.stored c.args.v)

pub returns-in-Unavailable : goal.returns-in-Unavailable
unfolding counted_of
returns-in-Unavailable c = let f = rw c.in-Unavailable.is at c.requires in
    let e : c.args.t ≡ 1 = only_one f refl in
    rw (c.in-Unavailable.is, e) (c.fill_unavailable.ensures.stored c.args.v)

pub returns-in-Preferred : goal.returns-in-Preferred
unfolding counted_of
returns-in-Preferred c = let f = rw c.in-Preferred.is at c.requires in
    let e : c.args.t ≡ 1 = only_one f refl in
    rw (c.in-Preferred.is, e) c.fill_preferred.ensures

pub returns-in-Split : goal.returns-in-Split
unfolding counted_of
returns-in-Split c = let f = rw c.in-Split.is at c.requires in
    let e : c.args.t ≡ 1 = only_one f refl in
    rw (c.in-Split.is, e) (c.fill_split.ensures.stored c.args.v)

pub returns-in-Spread : goal.returns-in-Spread
unfolding counted_of
returns-in-Spread c = let f = rw c.in-Spread.is at c.requires in
    let e : c.args.t ≡ 1 = only_one f refl in
    rw (c.in-Spread.is, e) (c.fill_spread.ensures.stored c.args.v)

pub returns-in-Busy : goal.returns-in-Busy
unfolding counted_of
returns-in-Busy c = let f = rw c.in-Busy.is at c.requires in
    let e : c.args.t ≡ 1 = only_one f refl in
    rw (c.in-Busy.is, e) (c.fill_busy.ensures.stored c.args.v)

pub returns-in-Cluster : goal.returns-in-Cluster
unfolding counted_of
returns-in-Cluster c = let f = rw c.in-Cluster.is at c.requires in
    let e : c.args.t ≡ 1 = only_one f refl in
    rw (c.in-Cluster.is, e) c.fill_cluster.ensures

pub returns-in-Idle : goal.returns-in-Idle
unfolding counted_of
returns-in-Idle c = let f = rw c.in-Idle.is at c.requires in
    let e : c.args.t ≡ 1 = only_one f refl in
    rw (c.in-Idle.is, e) c.fill_idle.ensures

pub returns-in-Distribute : goal.returns-in-Distribute
unfolding counted_of
returns-in-Distribute c = let f = rw c.in-Distribute.is at c.requires in
    let e : c.args.t ≡ 1 = only_one f refl in
    rw (c.in-Distribute.is, e) c.fill_distribute.ensures

pub returns-in-Lengths : goal.returns-in-Lengths
unfolding counted_of
returns-in-Lengths c = let f = rw c.in-Lengths.is at c.requires in
    let e : c.args.t ≡ 1 = only_one f refl in
    rw (c.in-Lengths.is, e) c.fill_lengths.ensures

pub returns-in-Precedence : goal.returns-in-Precedence
unfolding counted_of
returns-in-Precedence c = let f = rw c.in-Precedence.is at c.requires in
    let e : c.args.t ≡ 1 = only_one f refl in
    rw (c.in-Precedence.is, e) c.fill_precedence.ensures
