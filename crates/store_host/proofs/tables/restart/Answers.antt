use Rattle.std.proofs.Common.{true, false}
use Rattle.std.proofs.lemmas.Result.{on_ok_weaker}
use Rattle.world_tables.specs.World.{tables_fall}
use Rattle.store_host.proofs.Moving.{restarted, later_cause}
use Rattle.store_host.proofs.Froms.{SameDisk, falls_from}
use Rattle.store_host.proofs.Lefts.{still_then}
use Rattle.store_host.proofs.tables.restart.Goals as goal

pub start_all-requires : goal.start_all-requires
start_all-requires g c = let n = c.requires in (_, c.halt_all.ensures.fallen n.0 n.1)

pub returns-clause-started : goal.returns-clause-started
returns-clause-started g c w h =
    on_ok_weaker c.start_all.result (λ a. (a.0, restarted g.D.Disk.state w c.args.numbers.now c.start_all.new.tables c.args.outs.now c.start_all.new.outs false a.0 a.1))
    (c.start_all.ensures.started (tables_fall c.args.numbers.now w).world (c.halt_all.ensures.fallen w h))

pub returns-clause-refused : goal.returns-clause-refused
returns-clause-refused g c w h failed =
    let a = c.start_all.ensures.refused (tables_fall c.args.numbers.now w).world (c.halt_all.ensures.fallen w h) failed in
    (a.0, restarted g.D.Disk.state w c.args.numbers.now c.start_all.new.tables c.args.outs.now c.start_all.new.outs true a.0 a.1)

pub returns-clause-cause : goal.returns-clause-cause
returns-clause-cause g c =
    later_cause g.D.Disk.state c.args.tables.now c.halt_all.new.tables c.start_all.new.tables c.start_all.result c.halt_all.ensures.counted c.start_all.ensures.cause

pub returns-clause-left : goal.returns-clause-left
returns-clause-left g c w h =
    let ns = c.args.numbers.now in
    let v = (tables_fall ns w).world in
    let held = c.halt_all.ensures.fallen w h in
    still_then g.D.Disk.state g.D.Disk.images SameDisk w v c.args.tables.now c.halt_all.new.tables c.start_all.new.tables h held (falls_from ns w) (λ s t q. q)
    (c.halt_all.ensures.left w h) (c.start_all.ensures.left v held)
