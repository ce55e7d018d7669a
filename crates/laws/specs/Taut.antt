-- Equations between Boolean expressions, proved by one computed test over all values.
use Rattle.std.specs.Prelude.{◌≡◌, refl, Bool, true, false, ◌&&◌, ℕ, zero, suc, T}
use Rattle.std.specs.Bool.{beq}

-- a Boolean function of n Booleans
abbrev pub Fn : ℕ → Type 0
Fn zero = Bool
Fn (suc n) = Bool → Fn n

-- whether two of them agree at all values; that they do
abbrev pub same : (n : ℕ) → Fn n → Fn n → Bool
same zero a b = beq a b
same (suc n) f g = same n (f true) (g true) && same n (f false) (g false)

abbrev pub Same : (n : ℕ) → Fn n → Fn n → Type 0
Same zero a b = a ≡ b
Same (suc n) f g = (b : Bool) → Same n (f b) (g b)

and_left : (a b : Bool) → T (a && b) → T a
and_left true b t = tt
and_left false b t = t

and_right : (a b : Bool) → T (a && b) → T b
and_right true b t = t
and_right false b t = absurd t

-- the test, which computes, proves the equation: taut 2 (λ a b. a && b) (λ a b. b && a) tt x y
pub taut : (n : ℕ) (f g : Fn n) → T (same n f g) → Same n f g
taut zero true true t = refl
taut zero true false t = absurd t
taut zero false true t = absurd t
taut zero false false t = refl
taut (suc n) f g t =
    elim [
      | true ↦ taut n (f true) (g true) (and_left (same n (f true) (g true)) (same n (f false) (g false)) t)
      | false ↦ taut n (f false) (g false) (and_right (same n (f true) (g true)) (same n (f false) (g false)) t)
    ]
