use Rattle.std.proofs.lemmas.Result.{err_from_is_err_and}
use Rattle.wire_steps.proofs.Told.{told_sender, told_is, told_over}
use Rattle.wire_steps.proofs.world.World.tell.Goals as goal

pub tell_outs-requires : goal.tell_outs-requires
tell_outs-requires g c = record { sent = told_sender g.D.Disk.state c.args.self.now c.args.told c.requires.told }

pub returns-in_err-tell_outs-clause-over : goal.returns-in_err-tell_outs-clause-over
returns-in_err-tell_outs-clause-over g c x =
    let p = err_from_is_err_and c.from_residual.result c.from_residual.ensures.1 in
    rw (p.1, p.2) (told_over g.D.Disk.state c.args.self.now c.args.told x c.in_err-tell_outs.field-0.0
    (c.in_err-tell_outs.ensures.over x.s.world x.kept.packets x.held x.packets))

pub returns-clause-told : goal.returns-clause-told
returns-clause-told g c x =
    told_is g.D.Disk.state c.args.self.now c.args.told x c.tell_outs.new.lines c.tell_outs.new.network
    (c.in_ok-tell_outs.ensures.told x.s.world x.kept.packets x.held x.packets)
