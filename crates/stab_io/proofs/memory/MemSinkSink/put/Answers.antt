use Rattle.std.proofs.Common.{ap}
use Rattle.stab_io.specs.Memory.{Holding}
use Rattle.stab_io.proofs.Known.{added_front}
use Rattle.stab_io.proofs.memory.MemSinkSink.put.Goals as goal

pub returns-then-fails-clause-err : goal.returns-then-fails-clause-err
returns-then-fails-clause-err c =
    added_front _ _ _ _ _ _ (ap (λ (r : Holding). r.holds) c.self.view_is) c.extend_from_slice.ensures.items
