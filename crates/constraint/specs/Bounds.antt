-- The bounds of a kind's count as written: fixed for the kinds without them, kind 11 among them, whose lo and hi are of a gap; in a
-- busy limit a count of 0 is free.
use Rattle.std.specs.Prelude.{ℕ, Bool, true, false}
use Rattle.scope.specs.Kinds.{Kind, clash, unavailable, preferred, split, spread, busy, cluster, idle, distribute, lengths, precedence}

abbrev pub low_of : Kind → ℕ
low_of (clash r) = 0
low_of (unavailable r g) = 0
low_of (preferred e g) = 0
low_of (split e lo hi) = lo
low_of (spread vs g lo hi) = lo
low_of (busy r g lo hi) = lo
low_of (cluster r hs lo hi) = lo
low_of (idle r hs lo hi) = lo
low_of (distribute e n lo hi) = lo
low_of (lengths e a b) = 0
low_of (precedence a b lo hi) = 0

abbrev pub high_of : Kind → ℕ
high_of (clash r) = 1
high_of (unavailable r g) = 0
high_of (preferred e g) = 0
high_of (split e lo hi) = hi
high_of (spread vs g lo hi) = hi
high_of (busy r g lo hi) = hi
high_of (cluster r hs lo hi) = hi
high_of (idle r hs lo hi) = hi
high_of (distribute e n lo hi) = hi
high_of (lengths e a b) = 0
high_of (precedence a b lo hi) = 0

abbrev pub free_of : Kind → Bool
free_of (clash r) = false
free_of (unavailable r g) = false
free_of (preferred e g) = false
free_of (split e lo hi) = false
free_of (spread vs g lo hi) = false
free_of (busy r g lo hi) = true
free_of (cluster r hs lo hi) = false
free_of (idle r hs lo hi) = false
free_of (distribute e n lo hi) = false
free_of (lengths e a b) = false
free_of (precedence a b lo hi) = false
