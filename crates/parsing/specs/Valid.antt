-- The fields of a kind within their limits: each is a reference to something, an ascending list of them, a length from 1 to T, a bound
-- of a count up to 255, or of a gap up to 124.
use Rattle.std.specs.Prelude.{ℕ, ◌≤◌}
use Rattle.scope.specs.Kinds.{Kind, clash, unavailable, preferred, split, spread, busy, cluster, idle, distribute, lengths, precedence}
use Rattle.scope.specs.Instance.{Counts}
use Rattle.parsing.specs.Numbers.{Ascending}

-- a number within its limits
pub record Within (lo hi v : ℕ) : Type 0 where
  pub low : lo ≤ v
  pub high : v ≤ hi

-- a number of one of n things, from 1
abbrev pub OneOf : ℕ → ℕ → Type 0
OneOf n x = Within 1 n x

-- lo and hi
pub record BoundsIn (lo hi : ℕ) : Type 0 where
  pub low : lo ≤ 255
  pub high : hi ≤ 255

-- the fields of a kind, in their order
abbrev pub InRange : Counts → Kind → Type 0
InRange n (clash r) = OneOf n.resources r
InRange n (unavailable r g) = OneOf n.resources r × OneOf n.groups g
InRange n (preferred e g) = OneOf n.events e × OneOf n.groups g
InRange n (split e lo hi) = OneOf n.events e × BoundsIn lo hi
InRange n (spread vs g lo hi) = Ascending n.events 0 vs × OneOf n.groups g × BoundsIn lo hi
InRange n (busy r g lo hi) = OneOf n.resources r × OneOf n.groups g × BoundsIn lo hi
InRange n (cluster r hs lo hi) = OneOf n.resources r × Ascending n.groups 0 hs × BoundsIn lo hi
InRange n (idle r hs lo hi) = OneOf n.resources r × Ascending n.groups 0 hs × BoundsIn lo hi
InRange n (distribute e l lo hi) = OneOf n.events e × Within 1 n.times l × BoundsIn lo hi
InRange n (lengths e a b) = OneOf n.events e × Within 1 n.times a × Within 1 n.times b
InRange n (precedence a b lo hi) = OneOf n.events a × OneOf n.events b × Within 0 124 lo × Within 0 124 hi
