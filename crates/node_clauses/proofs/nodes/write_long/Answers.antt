use borrow.Author.Rules.{rules}
use mathlib.Core.Path.{◌≡◌, sym}
use mathlib.Core.List.{List, [], ◌∷◌, ◌++◌, flat_map, append-nil}
use Prim.Native.Nat.{ℕ, ◌-◌, ◌<◌}
use native.Mathlib.Omega.{arith}
use lib.ListN.{length, get_or}
use lib.Seq.{length-take-le}
use Rattle.scope.specs.Text.{line}
use Rattle.sink.specs.Run.{same}
use Rattle.sink.specs.Meaning.{hard_text}
use Rattle.sink.proofs.AtOnce.{text_at_once}
use Rattle.node_clauses.specs.LongClauses.{others, last_of}
use Rattle.node_clauses.proofs.laws.LongClauses.{long_whole, long_split}
use Rattle.node_clauses.proofs.nodes.write_long.Goals as goal

one_line : (top : ℕ) (c : List ℕ) → hard_text top (c ∷ []) ≡ line top c
unfolding flat_map
one_line top c = append-nil (line top c)

pub slice_bounds-fits-end : goal.slice_bounds-fits-end
slice_bounds-fits-end c = sym (length-take-le _ _ (omega arith))

pub slice_bounds-long_text-end : goal.slice_bounds-long_text-end
slice_bounds-long_text-end c = sym (length-take-le _ _ (omega arith))

pub returns-then-fits : goal.returns-then-fits
returns-then-fits c = let a = c.args in
    let ws = a.clause.now in
    let b : get_or ws (length ws - 1) 0 < 4294967296 = omega (arith, c.type_inv.clause (length ws - 1)) in
    let x : List ℕ = others ws ++ last_of ws ∷ [] in
    rw (c.placed.ensures, long_split c.requires b)
    (text_at_once a.job a.model.now a.s a.text.now a.words.now (x ∷ []) _ _ (search rules) (same (one_line a.job.top x) c.long_text.ensures))

pub emit-requires : goal.emit-requires
emit-requires c = long_whole c.requires (omega (arith, c.type_inv.clause (length c.args.clause.now - 1)))

pub returns : goal.returns
returns c = c.emit.ensures
