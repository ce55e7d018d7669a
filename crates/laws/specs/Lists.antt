-- Lists: a predicate at every element, maps, and elements by their place.
use Rattle.std.specs.Prelude.{◌≡◌, refl, get_or, take, drop}
use Rattle.std.proofs.Math.Path.{sym}
use Rattle.std.proofs.Common.{ap, ◌∙◌, zero-mul, zero-add, get_or-append-add}
use mathlib.Core.List.{List, [], ◌∷◌, ◌++◌, map, flat_map}
use Prim.Native.Nat.{ℕ, zero, suc, ◌+◌, ◌*◌, ◌<◌}
use Rattle.std.proofs.Math.Nat.{suc-mul}
use native.Mathlib.Omega.{arith}
use Rattle.std.proofs.Math.ListN.{length, length-append, get_or-append}

-- P holds of each element
abbrev pub All : {A : Type 0} → (A → Type 0) → List A → Type 0
All P [] = Unit {0}
All P (x ∷ xs) = P x × All P xs

module _ {A : Type 0} (P : A → Type 0) where
  -- one list after another: together, and taken apart
  pub All-append : (xs ys : List A) → All P xs → All P ys → All P (xs ++ ys)
  All-append [] ys a b = b
  All-append (x ∷ xs) ys a b = (a.0, All-append xs ys a.1 b)

  pub All-split : (xs ys : List A) → All P (xs ++ ys) → All P xs × All P ys
  All-split [] ys h = (tt, h)
  All-split (x ∷ xs) ys h = let p = All-split xs ys h.1 in ((h.0, p.0), p.1)

  -- a first and a last part
  pub All-take : (n : ℕ) (xs : List A) → All P xs → All P (take n xs)
  All-take zero xs h = tt
  All-take (suc n) [] h = tt
  All-take (suc n) (x ∷ xs) h = (h.0, All-take n xs h.1)

  pub All-drop : (n : ℕ) (xs : List A) → All P xs → All P (drop n xs)
  All-drop zero xs h = h
  All-drop (suc n) [] h = tt
  All-drop (suc n) (x ∷ xs) h = All-drop n xs h.1

  -- what holds of each element holds at each place
  pub All-at : (d : A) (xs : List A) (k : ℕ) → k < length xs → All P xs → P (get_or xs k d)
  All-at d [] k l h = let f : ⊥ = omega arith in absurd f
  All-at d (x ∷ xs) zero l h = h.0
  All-at d (x ∷ xs) (suc k) l h = All-at d xs k (omega arith) h.1

  -- and past the end, where the default has it
  pub All-everywhere : (d : A) → P d → (xs : List A) → All P xs → (k : ℕ) → P (get_or xs k d)
  All-everywhere d p [] h k = p
  All-everywhere d p (x ∷ xs) h zero = h.0
  All-everywhere d p (x ∷ xs) h (suc k) = All-everywhere d p xs h.1 k

  -- what holds at each place holds of each element
  pub All-places : (d : A) (xs : List A) → ((k : ℕ) → k < length xs → P (get_or xs k d)) → All P xs
  All-places d [] h = tt
  All-places d (x ∷ xs) h = (h 0 (omega arith), All-places d xs (λ k l. h (suc k) (omega arith)))

-- a weaker predicate
pub All-weaken : {A : Type 0} (P Q : A → Type 0) → ((x : A) → P x → Q x) → (xs : List A) → All P xs → All Q xs
All-weaken P Q f [] h = tt
All-weaken P Q f (x ∷ xs) h = (f x h.0, All-weaken P Q f xs h.1)

module _ {A B : Type 0} where
  -- a step from P at x to Q at f x, or at each element of f x
  pub All-map : (P : A → Type 0) (Q : B → Type 0) (f : A → B) → ((x : A) → P x → Q (f x)) → (xs : List A) → All P xs
      → All Q (map f xs)
  All-map P Q f step [] h = tt
  All-map P Q f step (x ∷ xs) h = (step x h.0, All-map P Q f step xs h.1)

  pub All-flatMap : (P : A → Type 0) (Q : B → Type 0) (f : A → List B) → ((x : A) → P x → All Q (f x)) → (xs : List A) → All P xs
      → All Q (flat_map f xs)
  unfolding flat_map
  All-flatMap P Q f step [] h = tt
  All-flatMap P Q f step (x ∷ xs) h = All-append Q (f x) (flat_map f xs) (step x h.0) (All-flatMap P Q f step xs h.1)

  -- a map of one list after another
  pub map-append : (f : A → B) (xs ys : List A) → map f (xs ++ ys) ≡ map f xs ++ map f ys
  map-append f [] ys = refl
  map-append f (x ∷ xs) ys = ap (λ zs. f x ∷ zs) (map-append f xs ys)

  -- rows of the length n, one after the other: their length together, and element t of row r
  module _ (f : A → List B) (n : ℕ) (rows : (x : A) → length (f x) ≡ n) where
    pub length_rows : (xs : List A) → length (flat_map f xs) ≡ length xs * n
    unfolding flat_map
    length_rows [] = sym (zero-mul n)
    length_rows (x ∷ xs) = length-append (f x) (flat_map f xs) ∙ rw (rows x, length_rows xs, suc-mul) (omega arith)

    pub get_d_rows : (d : A) (e : B) (xs : List A) (r t : ℕ) → r < length xs → t < n
        → get_or (flat_map f xs) (r * n + t) e ≡ get_or (f (get_or xs r d)) t e
    unfolding flat_map
    get_d_rows d e [] r t h k = let f : ⊥ = omega arith in absurd f
    get_d_rows d e (x ∷ xs) zero t h k =
        rw (zero-mul, zero-add) (get_or-append (f x) (flat_map f xs) e t (omega (arith, rows x)))
    get_d_rows d e (x ∷ xs) (suc r) t h k =
        let p : suc r * n + t ≡ length (f x) + (r * n + t) = omega (arith, rows x, suc-mul r n) in
        rw p (get_or-append-add (f x) (flat_map f xs) (r * n + t) e ∙ get_d_rows d e xs r t (omega arith) k)
