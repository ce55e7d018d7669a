-- Numbers and lists that are spelled out read back: the bytes of a number below 16,384 as it, those of an ascending list as that list.
use Prim.Native.Nat.{ℕ, ◌<◌}
use mathlib.Core.List.{List, [], ◌∷◌, flat_map}
use native.Mathlib.Omega.{arith}
use lib.ListN.{length}
use Rattle.scope.specs.Parsed.{cons, repeat}
use Rattle.scope.specs.Number.{number, limited, reference, references, listed}
use Rattle.scope.specs.SpelledOut.{spelt, spelt_list}
use Rattle.parsing.specs.Numbers.{Ascending, none, more}
use Rattle.parsing.specs.Each.{Each, each_none, each_more}
use Rattle.parsing.proofs.laws.Numbers.{ascending-length}
use Rattle.spelled_out.proofs.laws.Reads.{Reads, reads-got, reads-and_then, reads-cons, reads_none, reads_more, reads-number, reads-limited, reads-reference}
use Rattle.spelled_out.proofs.laws.Spelt.{front-spelt}

pub reads-spelt : (v : ℕ) → v < 16384 → Reads number (spelt v) v
reads-spelt v h = reads-number (spelt v) v (omega arith) (λ q. front-spelt v q h)

-- the members of a list, and the list with its count
reads-references : (n before : ℕ) (xs : List ℕ) → n < 16384 → Ascending n before xs → Reads (references (length xs) before n) (flat_map spelt xs) xs
unfolding references flat_map
reads-references n before [] l none = reads-got []
reads-references n before (x ∷ xs) l (more a b h) =
    reads-and_then (reference before n) (λ v s next. cons v (references (length xs) v n s next))
    (reads-reference before n a b (reads-spelt x (omega arith)))
    (reads-cons x (references (length xs) x n) (reads-references n x xs l h))

reads-list : (n : ℕ) (xs : List ℕ) → n < 16384 → Ascending n 0 xs → Reads (listed n) (spelt_list xs) xs
unfolding listed
reads-list n xs l h =
    let few = ascending-length n 0 xs h (omega arith) in
    reads-and_then (limited 0 n) (λ count s next. references count 0 n s next)
    (reads-limited 0 n (omega arith) (omega arith) (reads-spelt (length xs) (omega arith))) (reads-references n 0 xs l h)

-- so many lists
pub reads-lists : (n : ℕ) (ws : List (List ℕ)) → n < 16384 → Each (Ascending n 0) ws
    → Reads (λ s at. repeat (length ws) (listed n s) at) (flat_map spelt_list ws) ws
unfolding flat_map
reads-lists n [] l each_none = reads_none (listed n)
reads-lists n (w ∷ ws) l (each_more h hs) = reads_more (listed n) (length ws) (reads-list n w l h) (reads-lists n ws l hs)
