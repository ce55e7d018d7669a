use Rattle.std.proofs.Common.{◌≡◌, ◌≤◌, ◌<◌, ◌-◌, suc, List, ℕ, Bool, true, false, cond, length, refl, sym, ap, subst, ◌∙◌, arith}
use borrow.Author.Rules.{rules}
use Rattle.scope.specs.Number.{number}
use Rattle.scope.specs.Answers.{said}
use Rattle.laws.specs.Booleans.{never_true}
use Rattle.directory.specs.declared.Row.{Row}
use Rattle.directory.specs.Directory.{with_dead}
use Rattle.lookup.specs.declared.Probe.{Probe}
use Rattle.lookup.specs.Lookup.{look_up}
use Rattle.reader.proofs.Loops.{Left, left_over, left_more}
use Rattle.hints.specs.declared.machine.Turn.{Turn}
use Rattle.hints.specs.declared.machine.Machine.{Machine}
use Rattle.hints.specs.Machine.{turn_of}
use Rattle.deletion.specs.Passed.{passed_id}
use Rattle.run.specs.Turned.{deletion, is_delete, deletes, id_deleted, ids_deleted}
use Rattle.run.proofs.Deletions.{to_delete, delete_falls}
use Rattle.run.proofs.deleting.delete_ids.Goals as goal

most-left : (n : ℕ) (t : Bool) (k : ℕ) → cond t (suc (n - k)) 0 ≤ suc n
most-left n true k = omega arith
most-left n false k = omega arith

-- one id more
turned : (s : List ℕ) (n : ℕ) (m d : Machine) (ys zs : List Row) (p : Probe) → p ≡ look_up ys n m.want → d ≡ passed_id (number s m.at) m p.hit → zs ≡ with_dead ys p.at
    → deletion d zs ≡ id_deleted s n (deletion m ys)
unfolding id_deleted
turned s n m d ys zs p found e dies = rw (e, dies, found)

on : (m : Machine) (ys : List Row) → turn_of m.phase ≡ Turn.Delete → deletes (deletion m ys) ≡ true
on m ys h = ap is_delete h

no-delete : (t : Turn) → (t ≡ Turn.Delete → ⊥) → is_delete t ≡ false
no-delete Turn.Look e = refl
no-delete Turn.Delete e = absurd (e refl)
no-delete Turn.Keep e = refl
no-delete Turn.Judge e = refl
no-delete Turn.Read e = refl
no-delete Turn.End e = refl

pub loop-r-init : goal.loop-r-init
unfolding ids_deleted
loop-r-init c =
    let s = c.args.proof.now in
    let m = c.args.m in
    record {
      bytes_same = ap (λ b. b.now) c.new-r.ensures.0;
      place_same = c.new-r.ensures.1;
      left = record { fuel = suc (length s); enough = most-left (length s) (is_delete (turn_of m.phase)) m.at; todo = refl };
    }

pub loop-r-smaller : goal.loop-r-smaller
loop-r-smaller c =
    let s = c.args.proof.now in
    let is : c.turn_of.result ≡ Turn.Delete = search rules in
    let m = c.loop-r.d in
    let ys = c.loop-r.rows in
    let read : said c.number.result ≡ number s m.at = cc in
    let e = turned s c.args.n m _ ys _ c.find-p.result c.find-p.ensures (c.pass_id-d.ensures ∙ ap (λ x. passed_id x m c.find-p.result.hit) read) c.mark_dead.ensures in
    subst (λ x. to_delete s x < to_delete s (deletion m ys)) (sym e) (delete_falls s c.args.n (deletion m ys) (on m ys (sym c.turn_of.ensures ∙ is)))

pub loop-r-preserved : goal.loop-r-preserved
loop-r-preserved c =
    let s = c.args.proof.now in
    let n = c.args.n in
    let is : c.turn_of.result ≡ Turn.Delete = search rules in
    let m = c.loop-r.d in
    let ys = c.loop-r.rows in
    let read : said c.number.result ≡ number s m.at = cc in
    let e = turned s n m _ ys _ c.find-p.result c.find-p.ensures (c.pass_id-d.ensures ∙ ap (λ x. passed_id x m c.find-p.result.hit) read) c.mark_dead.ensures in
    record {
      bytes_same = cc;
      place_same = cc;
      left =
          subst (Left deletes (id_deleted s n) (to_delete s) _) (sym e)
          (left_more deletes (id_deleted s n) (to_delete s) _ (deletion m ys) c.loop-r.invariant.left (on m ys (sym c.turn_of.ensures ∙ is)) (delete_falls s n (deletion m ys) (on m ys (sym c.turn_of.ensures ∙ is))));
    }

pub returns : goal.returns
returns c =
    let s = c.args.proof.now in
    let d = deletion c.loop-r.d c.loop-r.rows in
    left_over deletes (id_deleted s c.args.n) (to_delete s) _ d c.loop-r.invariant.left
    (no-delete (turn_of c.loop-r.d.phase) (λ h.
    let e : c.turn_of.result ≡ Turn.Delete = c.turn_of.ensures ∙ h in
    let t : c.eq.result ≡ true = c.eq.ensures ∙ rw e in
    never_true (sym c.loop-r-test.false ∙ t)))
