-- `before::before_size` meets its contract.
use mathlib.Core.Path.{refl}
use native.Mathlib.Omega.{arith}
use Rattle.sizing.proofs.laws.Sums.{within_more}
use Rattle.before_sizes.proofs.laws.Before.{rest-within, blocks-within, blocks-size}
use Rattle.before_sizes.proofs.before.before_size.Goals as goal

pub plus-rest-requires : goal.plus-rest-requires
plus-rest-requires c = let p = c.requires in
    within_more (omega arith) (rest-within _ _ p.resources p.events c.uses_size-uses.ensures.0 c.durations_size-durations.ensures.0 refl)

pub plus-requires : goal.plus-requires
plus-requires c = let p = c.requires in
    let w = rest-within _ _ p.resources p.events c.uses_size-uses.ensures.0 c.durations_size-durations.ensures.0 c.plus-rest.ensures in
    within_more (omega arith) (blocks-within _ _ p.events p.times_high c.starts_size-starts.ensures w refl)

pub returns : goal.returns
returns c = let p = c.requires in
    let w = rest-within _ _ p.resources p.events c.uses_size-uses.ensures.0 c.durations_size-durations.ensures.0 c.plus-rest.ensures in (
      blocks-within _ _ p.events p.times_high c.starts_size-starts.ensures w c.plus.ensures,
      λ t u.
          blocks-size c.args.head _ c.starts_size-starts.ensures (c.uses_size-uses.ensures.1 _ u) (c.durations_size-durations.ensures.1 t)
          c.plus-rest.ensures c.plus.ensures,
    )
