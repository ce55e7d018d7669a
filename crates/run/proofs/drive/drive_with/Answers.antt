use Rattle.std.proofs.Common.{◌≡◌, refl, sym, ap, ◌∙◌, arith}
use Rattle.scope.specs.Number.{number}
use Rattle.scope.specs.Answers.{said}
use Rattle.run.specs.Turned.{ended, at_first, to_go}
use Rattle.run.proofs.Driving.{looked, deleted, kept, judged-on, stepped-on, answered}
use Rattle.run.proofs.drive.drive_with.Goals as goal

pub loop-rows-init : goal.loop-rows-init
unfolding ended
loop-rows-init c =
    let a = c.args in
    record {
      bytes_same = ap (λ b. b.now) c.new-r.ensures.0;
      past = rw (c.begin-c.ensures, c.stop-m.ensures) (omega arith);
      onto =
          rw (c.begin-c.ensures, c.stop-m.ensures)
          (record { fuel = to_go a.proof.now (at_first a.n a.used a.rows.now a.words.now a.marks.now a.trail.now); enough = omega arith; todo = refl });
    }

pub loop-rows-smaller-in-Look : goal.loop-rows-smaller-in-Look
loop-rows-smaller-in-Look c =
    let s = c.args.proof.now in
    let l = c.loop-rows in
    let read : said c.number.result ≡ number s l.m.at = cc in
    let x =
    looked s c.args.last _ l.c l.m l.rows l.words l.marks l.trail l.invariant.past l.invariant.onto c.find-p.result _
    (sym c.turn_of.ensures ∙ c.in-Look.is) c.find-p.ensures read c.advance-m.ensures.value c.advance-m.ensures.marks_after
    c.advance-m.ensures.trail_after
    in
    x.near

pub loop-rows-preserved-in-Look : goal.loop-rows-preserved-in-Look
loop-rows-preserved-in-Look c =
    let s = c.args.proof.now in
    let l = c.loop-rows in
    let read : said c.number.result ≡ number s l.m.at = cc in
    let x =
    looked s c.args.last _ l.c l.m l.rows l.words l.marks l.trail l.invariant.past l.invariant.onto c.find-p.result _
    (sym c.turn_of.ensures ∙ c.in-Look.is) c.find-p.ensures read c.advance-m.ensures.value c.advance-m.ensures.marks_after
    c.advance-m.ensures.trail_after
    in
    record { bytes_same = cc; past = x.past; onto = x.onto }

pub loop-rows-smaller-in-Delete : goal.loop-rows-smaller-in-Delete
loop-rows-smaller-in-Delete c =
    let l = c.loop-rows in
    let x =
    deleted c.args.proof.now c.args.last _ l.c l.m l.rows l.words l.marks l.trail l.invariant.past l.invariant.onto _ _
    (sym c.turn_of.ensures ∙ c.in-Delete.is) c.delete_ids-m.ensures
    in
    x.near

pub loop-rows-preserved-in-Delete : goal.loop-rows-preserved-in-Delete
loop-rows-preserved-in-Delete c =
    let l = c.loop-rows in
    let x =
    deleted c.args.proof.now c.args.last _ l.c l.m l.rows l.words l.marks l.trail l.invariant.past l.invariant.onto _ _
    (sym c.turn_of.ensures ∙ c.in-Delete.is) c.delete_ids-m.ensures
    in
    record { bytes_same = cc; past = x.past; onto = x.onto }

pub loop-rows-smaller-in-Keep : goal.loop-rows-smaller-in-Keep
loop-rows-smaller-in-Keep c =
    let l = c.loop-rows in
    let x =
    kept c.args.proof.now c.args.last _ l.c l.m l.rows l.words l.marks l.trail l.invariant.past l.invariant.onto c.row_of.result
    (sym c.turn_of.ensures ∙ c.in-Keep.is) c.row_of.ensures c.append.ensures c.keep-c.ensures.value
    c.keep-c.ensures.words_after c.unwind-m.ensures.value c.unwind-m.ensures.marks_after
    in
    x.near

pub loop-rows-preserved-in-Keep : goal.loop-rows-preserved-in-Keep
loop-rows-preserved-in-Keep c =
    let l = c.loop-rows in
    let x =
    kept c.args.proof.now c.args.last _ l.c l.m l.rows l.words l.marks l.trail l.invariant.past l.invariant.onto c.row_of.result
    (sym c.turn_of.ensures ∙ c.in-Keep.is) c.row_of.ensures c.append.ensures c.keep-c.ensures.value
    c.keep-c.ensures.words_after c.unwind-m.ensures.value c.unwind-m.ensures.marks_after
    in
    record { bytes_same = cc; past = x.past; onto = x.onto }

pub loop-rows-smaller-in-Judge : goal.loop-rows-smaller-in-Judge
loop-rows-smaller-in-Judge c =
    let l = c.loop-rows in
    let x =
    judged-on c.args.proof.now c.args.last _ l.c l.m l.rows l.words l.marks l.trail l.invariant.past l.invariant.onto
    (sym c.turn_of.ensures ∙ c.in-Judge.is) c.judge-c.ensures c.proceed-m.ensures
    in
    x.near

pub loop-rows-preserved-in-Judge : goal.loop-rows-preserved-in-Judge
loop-rows-preserved-in-Judge c =
    let l = c.loop-rows in
    let x =
    judged-on c.args.proof.now c.args.last _ l.c l.m l.rows l.words l.marks l.trail l.invariant.past l.invariant.onto
    (sym c.turn_of.ensures ∙ c.in-Judge.is) c.judge-c.ensures c.proceed-m.ensures
    in
    record { bytes_same = cc; past = x.past; onto = x.onto }

pub loop-rows-smaller : goal.loop-rows-smaller
loop-rows-smaller c =
    let l = c.loop-rows in
    let x =
    stepped-on c.args.proof.now c.args.last _ l.c l.m l.rows l.words l.marks l.trail l.invariant.past l.invariant.onto
    (sym c.turn_of.ensures ∙ c.in-Read.is) c.next_step-c.ensures.value c.next_step-c.ensures.marks_after
    c.enter-m.ensures
    in
    x.near

pub loop-rows-preserved : goal.loop-rows-preserved
loop-rows-preserved c =
    let l = c.loop-rows in
    let x =
    stepped-on c.args.proof.now c.args.last _ l.c l.m l.rows l.words l.marks l.trail l.invariant.past l.invariant.onto
    (sym c.turn_of.ensures ∙ c.in-Read.is) c.next_step-c.ensures.value c.next_step-c.ensures.marks_after
    c.enter-m.ensures
    in
    record { bytes_same = cc; past = x.past; onto = x.onto }

pub returns-in-End : goal.returns-in-End
returns-in-End c =
    let a = c.args in
    let l = c.loop-rows in
    answered a.proof.now a.last a.n a.used a.rows.now a.words.now a.marks.now a.trail.now l.c l.m l.rows l.words l.marks l.trail
    c.answer.result l.invariant.onto (sym c.turn_of.ensures ∙ c.in-End.is) c.answer.ensures
