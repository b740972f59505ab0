use Rattle.std.proofs.Common.{◌∷◌, [], refl, ap, ⊎_elim}
use Rattle.step_tables.specs.Messages as messages
use Rattle.step_tables.specs.Facts as facts
use Rattle.world_tables.specs.World.{busy_table}
use Rattle.node_steps.proofs.Moved.{write_well, well_answered, badly_answered}
use Rattle.node_steps.proofs.moves.work_once.Goals as goal

pub returns-in-Ok-clause-done : goal.returns-in-Ok-clause-done
returns-in-Ok-clause-done g c w h =
    let k = c.in-Ok.ensures.done w h in (messages.Done ∷ [], well_answered g.D.Disk.state _ _ _ _ _ k.0 (write_well c.args.store w (busy_table w c.args.store)) (ap facts.Did k.1))

pub returns-in-Err-Disk-clause-done : goal.returns-in-Err-Disk-clause-done
returns-in-Err-Disk-clause-done g c w h =
    let bad = c.in-Err-Disk.ensures.faulty w h (let is = c.in-Err-Disk.field-0-is in cc) in
    ⊎_elim
    (λ k. (messages.FailedBefore ∷ [], badly_answered g.D.Disk.state _ _ _ _ _ k bad.0 refl))
    (λ k. (messages.FailedAfter ∷ [], badly_answered g.D.Disk.state _ _ _ _ _ k bad.1 refl))
    (c.in-Err-Disk.ensures.failed w h (let is = c.in-Err-Disk.field-0-is in cc))
