-- The numbers up to n that are left after i of them, as a loop's turns take them.
use Rattle.std.specs.Prelude.{◌≡◌, refl, ℕ, zero, suc, length}
use Rattle.std.proofs.Common.{ap}
use Rattle.scope.specs.Kinds.{from, up_to}

-- there are n numbers up to n
length_from_lem : (n k : ℕ) → length (from n k) ≡ k
unfolding from
length_from_lem n zero = refl
length_from_lem n (suc k) = ap suc (length_from_lem (suc n) k)

pub length-up_to : (n : ℕ) → length (up_to n) ≡ n
length-up_to n = length_from_lem 1 n
