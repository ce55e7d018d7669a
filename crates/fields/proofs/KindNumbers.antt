-- The numbers of the kinds: one each, from 1 to 11.
use Prim.Native.Nat.{ℕ, ◌≤◌}
use mathlib.Core.Path.{◌≡◌, refl, sym, ap, ◌∙◌}
use mathlib.Core.Bool.{cond}
use lib.Dec.{eqb}
use native.Mathlib.Omega.{arith}
use Rattle.fields.specs.declared.kind.KindName.{KindName}
use Rattle.fields.specs.Kind.{number_of}

kind_at : ℕ → KindName
kind_at n =
    cond (eqb n 1) KindName.Clash
    (cond (eqb n 2) KindName.Unavailable
    (cond (eqb n 3) KindName.Preferred
    (cond (eqb n 4) KindName.Split
    (cond (eqb n 5) KindName.Spread
    (cond (eqb n 6) KindName.Busy
    (cond (eqb n 7) KindName.Cluster
    (cond (eqb n 8) KindName.Idle (cond (eqb n 9) KindName.Distribute (cond (eqb n 10) KindName.Lengths KindName.Precedence)))))))))

back : (k : KindName) → kind_at (number_of k) ≡ k
unfolding kind_at
back KindName.Clash = refl
back KindName.Unavailable = refl
back KindName.Preferred = refl
back KindName.Split = refl
back KindName.Spread = refl
back KindName.Busy = refl
back KindName.Cluster = refl
back KindName.Idle = refl
back KindName.Distribute = refl
back KindName.Lengths = refl
back KindName.Precedence = refl

-- two kinds of one number are one
pub same_kind : (k j : KindName) → number_of k ≡ number_of j → k ≡ j
same_kind k j e = sym (back k) ∙ ap kind_at e ∙ back j

-- and other kinds have other numbers
pub other_number : (k j : KindName) → (k ≡ j → ⊥) → number_of k ≡ number_of j → ⊥
other_number k j n e = n (same_kind k j e)

pub number_low : (k : KindName) → 1 ≤ number_of k
number_low KindName.Clash = omega arith
number_low KindName.Unavailable = omega arith
number_low KindName.Preferred = omega arith
number_low KindName.Split = omega arith
number_low KindName.Spread = omega arith
number_low KindName.Busy = omega arith
number_low KindName.Cluster = omega arith
number_low KindName.Idle = omega arith
number_low KindName.Distribute = omega arith
number_low KindName.Lengths = omega arith
number_low KindName.Precedence = omega arith

pub number_high : (k : KindName) → number_of k ≤ 11
number_high KindName.Clash = omega arith
number_high KindName.Unavailable = omega arith
number_high KindName.Preferred = omega arith
number_high KindName.Split = omega arith
number_high KindName.Spread = omega arith
number_high KindName.Busy = omega arith
number_high KindName.Cluster = omega arith
number_high KindName.Idle = omega arith
number_high KindName.Distribute = omega arith
number_high KindName.Lengths = omega arith
number_high KindName.Precedence = omega arith
