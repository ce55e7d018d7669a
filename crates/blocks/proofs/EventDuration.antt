-- The counted lists of the events that are left.
use mathlib.Core.Path.{◌≡◌, ◌∙◌}
use mathlib.Core.List.{List, [], ◌∷◌, map}
use Prim.Native.Nat.{ℕ, suc, ◌+◌, ◌≤◌, ◌<◌}
use native.Mathlib.Numerals.{add-one}
use native.Mathlib.Omega.{arith}
use lib.ListN.{length, take, drop, get_or, drop_of_length-le, length-map}
use lib.Seq.{drop-cons, get_or-take, length-take-le}
use Rattle.scope.specs.Kinds.{up_to}
use Rattle.parsing.specs.Each.{Each}
use Rattle.literals.specs.Variables.{y_at, Within}
use Rattle.literals.specs.Proper.{Proper}
use Rattle.literals.proofs.laws.Proper.{times-proper, up_to-within}
use Rattle.literals.specs.Numbered.{Numbered, plain, duration_lists}
use Rattle.items.specs.Numbers.{length-up_to}

-- Y of an event at all times
abbrev pub ys_of : (T e : ℕ) → List ℕ
ys_of T e = map (y_at T e) (up_to T)

pub ys-length : (T e : ℕ) → length (ys_of T e) ≡ T
ys-length T e = length-map (up_to T) (y_at T e) ∙ length-up_to T

pub ys-proper : (T e : ℕ) → T ≤ 125 → Within 1024 e → Each Proper (ys_of T e)
ys-proper T e h w = times-proper 0 T e (omega arith) h w (up_to-within 125 T h)

module _ (T E : ℕ) (d : List ℕ) where
  -- after e events
  abbrev pub durations_left : (e : ℕ) → List Numbered
  durations_left e = duration_lists T (e + 1) (drop e (take E d))

  pub durations_turn : (e : ℕ) → E ≤ length d → e < E
      → durations_left e ≡ plain (get_or d e 0) (get_or d e 0) (ys_of T (e + 1)) ∷ durations_left (e + 1)
  unfolding duration_lists
  durations_turn e h l =
      let k : e < length (take E d) = omega (arith, length-take-le E d h) in
      let s : e + 1 + 1 ≡ suc (e + 1) = omega arith in
      rw (s, drop-cons (take E d) e 0 k, get_or-take E d e 0 l, add-one e)

  pub durations_end : (e : ℕ) → E ≤ length d → E ≤ e → durations_left e ≡ []
  unfolding duration_lists
  durations_end e h l =
      let k : length (take E d) ≤ e = omega (arith, length-take-le E d h) in rw (drop_of_length-le (take E d) k)
