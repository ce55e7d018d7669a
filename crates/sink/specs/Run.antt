-- Runs and runs of stores, passed on from the crate digits.
pub use Rattle.digits.specs.Run.{run, run_append, Ran, Todo, none, then, same, todo_start, todo_step, todo_end, todo_turn, todo_done}
pub use Rattle.digits.specs.Store.{Out, out, further, put}
