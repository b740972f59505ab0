use Rattle.std.proofs.Common.{true, refl, ◌∙◌}
use Rattle.store_host.specs.Steps.{started_at}
use Rattle.store_host.proofs.Hosting.{starting, not_started, told_cause}
use Rattle.store_host.proofs.Lefts.{rows_told}
use Rattle.store_host.proofs.hosted.Hosted.start.Goals as goal

pub returns-in-Ok-clause-started : goal.returns-in-Ok-clause-started
returns-in-Ok-clause-started g c store schema table hosted h =
    c.tell.ensures.told store schema table (record hosted { made = true }) (started_at store schema table hosted)
    (starting g.D.Disk.state store schema table g.D.Disk.images hosted.store hosted.history hosted.made c.args.self.now c.start.new.self h (c.in-Ok.ensures.starts hosted.store h.node) c.in-Ok.ensures.up)

pub returns-in-Ok-clause-cause : goal.returns-in-Ok-clause-cause
returns-in-Ok-clause-cause g c =
    let n = c.requires in
    told_cause g.D.Disk.state c.args.self.now.node c.start.new.self c.tell.new.self.node ((c.in-Ok.ensures.starts n.0 n.1).counted (λ e. absurd cc)) c.tell.ensures.devs c.tell.result
    c.tell.ensures.memory

pub returns-in-Err-clause-refused : goal.returns-in-Err-clause-refused
returns-in-Err-clause-refused g c store schema table hosted h failed =
    (not_started g.D.Disk.state store schema table hosted c.args.self.now c.start.new.self h (c.in-Err.ensures.starts hosted.store h.node).refused c.in-Err.ensures.kept, refl)

pub returns-in-Err-clause-cause : goal.returns-in-Err-clause-cause
returns-in-Err-clause-cause g c =
    let n = c.requires in
    let k = c.in-Err.ensures.starts n.0 n.1 in
    record { counted = k.counted; cause = k.cause; only = k.only }

pub returns-in-Ok-clause-left : goal.returns-in-Ok-clause-left
returns-in-Ok-clause-left g c store schema table hosted h made =
    rows_told g.D.Disk.state g.D.Disk.images c.args.self.now.node c.start.new.self c.tell.new.self.node hosted.store.disk hosted.store.disk c.tell.ensures.devs
    ((c.in-Ok.ensures.starts hosted.store h.node).rows_left (h.made ∙ made))

pub returns-in-Err-clause-left : goal.returns-in-Err-clause-left
returns-in-Err-clause-left g c store schema table hosted h made = (c.in-Err.ensures.starts hosted.store h.node).rows_left (h.made ∙ made)
