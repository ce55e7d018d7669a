use Rattle.std.proofs.Common.{◌≡◌, ◌≤◌, ◌<◌, ◌+◌, List, ℕ, min, length, take, drop, arith, refl}
use Rattle.std.proofs.Math.Seq.{slice, length-slice}
use Rattle.standing.proofs.laws.Clauses.{take_min, drop_min}
use Rattle.directory.specs.declared.Row.{Row}
use Rattle.building.specs.Marked.{first_clause, Built}
use Rattle.building.proofs.Building.{Building, build-start, build_next, build_end, clause-long}
use Rattle.building.proofs.build_directory.Goals as goal

-- the next clause has a word at least, and ends with the words
onward : (ws : List ℕ) (first end next : ℕ) → first < end → end ≤ length ws → next ≡ first + length (first_clause (slice first end ws))
    → (first < next) × (next ≤ end)
onward ws first end next h k e =
    let z = length-slice first end ws k in
    let on = clause-long (slice first end ws) (omega arith) in
    (omega (arith, on.0), omega (arith, on.1))

-- every clause is passed
built-all : (ws us : List ℕ) (ys zs : List Row) (total end n first : ℕ) → end ≡ min total (length ws) → Building ws us ys zs end n first → end ≤ first → first ≤ end
    → Built ws us ys zs total n
built-all ws us ys zs total end n first e b h l =
    let m : end ≡ min (length ws) total = omega (arith, e) in
    let t : take end ws ≡ take total ws = rw m (take_min total ws) in
    let d : drop end ws ≡ drop total ws = rw m (drop_min total ws) in
    let z = build_end ws us ys zs end n first b h l in
    record { count = rw t at z.0; words = rw (t, d) at z.1.0; rows = rw t at z.1.1 }

pub loop-first-init : goal.loop-first-init
loop-first-init c =
    record {
      words_long = refl;
      few = omega arith;
      near = omega arith;
      built = build-start c.args.words.now c.args.rows.now c.min-end.result;
    }

pub row_between-requires : goal.row_between-requires
row_between-requires c =
    let l = c.loop-first in
    let on = onward l.words l.first c.min-end.result _ c.loop-first-test.true (omega arith) c.unmark-next.ensures.value in
    (l.invariant.few, on.0)

pub loop-first-smaller : goal.loop-first-smaller
loop-first-smaller c =
    let l = c.loop-first in
    let on = onward l.words l.first c.min-end.result _ c.loop-first-test.true (omega arith) c.unmark-next.ensures.value in
    omega (arith, on.0)

pub loop-first-preserved : goal.loop-first-preserved
loop-first-preserved c =
    let l = c.loop-first in
    let ws = c.args.words.now in
    let ys = c.args.rows.now in
    let end = c.min-end.result in
    let on = onward l.words l.first end _ c.loop-first-test.true (omega arith) c.unmark-next.ensures.value in
    record {
      words_long = omega arith;
      few = omega (arith, on.0);
      near = on.1;
      built =
          build_next ws l.words ys l.rows end l.n l.first l.invariant.built c.loop-first-test.true (omega arith) c.unmark-next.result _ _
          c.row_between.result c.unmark-next.ensures.value c.unmark-next.ensures.words_after c.row_between.ensures c.append.ensures;
    }

pub returns : goal.returns
returns c =
    let l = c.loop-first in
    let z =
    built-all c.args.words.now l.words c.args.rows.now l.rows c.args.total c.min-end.result l.n l.first c.min-end.ensures
    l.invariant.built c.loop-first-test.false l.invariant.near
    in
    record { value = z.count; words_after = z.words; rows_after = z.rows }
