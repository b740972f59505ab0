use Rattle.std.proofs.Common.{refl}
use Rattle.simba_top.proofs.Turns.{stands_new}
use Rattle.simba_top.proofs.Underway.{underway_new}
use Rattle.simba_top.proofs.turn.Run.new.Goals as goal

pub returns-clause-stands : goal.returns-clause-stands
returns-clause-stands g c = λ input is_out none. stands_new g.D.Disk.state input _ is_out c.new.ensures c.new-2.ensures refl refl c.new-3.ensures c.new-4.ensures.held none

pub returns-clause-held : goal.returns-clause-held
returns-clause-held g c = λ is_out none. underway_new g.D.Disk.state is_out _ c.new-4.ensures.held (c.new-4.ensures.plans 0) none
