use Rattle.std.proofs.Common.{arith, length-drop}
use Rattle.stab_io.proofs.Known.{appends_more, appends_kept, front_of, on_err}
use Rattle.stab_io.proofs.adapters.write_whole.Goals as goal

pub returns-in_err-taken-clause-err : goal.returns-in_err-taken-clause-err
returns-in_err-taken-clause-err g c =
    on_err _ (front_of _ _ _ c.loop-done.done (appends_kept _ (g.W.Write.contents c.loop-done.writer) _ _ c.loop-done.invariant.added c.in_err-taken.ensures.bytes))

pub returns-then-taken-eq0-clause-err : goal.returns-then-taken-eq0-clause-err
returns-then-taken-eq0-clause-err g c =
    front_of _ _ _ _ (appends_more _ (g.W.Write.contents c.loop-done.writer) _ c.args.bytes.now c.loop-done.done _ c.loop-done.invariant.added c.in_ok-taken.ensures.bytes)

pub loop-done-preserved : goal.loop-done-preserved
loop-done-preserved g c = record {
  within = omega (arith, c.in_ok-taken.ensures.within, length-drop c.loop-done.done c.args.bytes.now);
  added = appends_more _ (g.W.Write.contents c.loop-done.writer) _ c.args.bytes.now c.loop-done.done _ c.loop-done.invariant.added c.in_ok-taken.ensures.bytes;
}
