-- `print_text` meets its contract: a longer file, the text, or a refusal.
use Rattle.std.proofs.Common.{length, arith}
use Rattle.text_program.proofs.laws.Prints.{long-ran, accepted_ran, refused_ran}
use Rattle.text_program.proofs.print_text.Goals as goal

pub returns-then-input-gt65536 : goal.returns-then-input-gt65536
returns-then-input-gt65536 c = let a = c.args in
    long-ran a.input.now (length a.buffer.now) c.if-input-gt65536.true c.put_refusal.ensures

pub returns-in-Ok : goal.returns-in-Ok
returns-in-Ok c = accepted_ran _ c.args.buffer.now (omega arith) (omega arith) c.text.auto.out c.in-Ok.ensures

pub returns-in-Err : goal.returns-in-Err
returns-in-Err c = refused_ran _ c.args.buffer.now (omega arith) c.in-Err.ensures c.put_refusal-in-Err.ensures
