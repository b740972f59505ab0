use Rattle.std.proofs.Common.{false}
use Rattle.world_tables.specs.World.{new_hosted}
use Rattle.store_host.proofs.Hosting.{made_here, not_made, made_blank, made_schema}
use Rattle.store_host.proofs.hosted.Hosted.declare.Goals as goal

pub returns-clause-declared : goal.returns-clause-declared
returns-clause-declared g c store declared table stage h =
    made_here g.D.Disk.state store declared table stage c.args.self.now h g.D.Disk.images c.declare.new.self c.declare.result (c.declare.ensures.declares (new_hosted stage false).store h.node) c.declare.ensures.up

pub returns-clause-refused : goal.returns-clause-refused
returns-clause-refused g c store declared table stage h =
    not_made g.D.Disk.state store declared table stage c.args.self.now h g.D.Disk.images c.declare.new.self c.declare.result (c.declare.ensures.declares (new_hosted stage false).store h.node) c.declare.ensures.kept

pub returns-clause-cause : goal.returns-clause-cause
returns-clause-cause g c =
    let n = c.requires.node in
    let k = c.declare.ensures.declares n.0 n.1 in
    record { counted = k.counted; cause = k.cause; only = k.only }

pub returns-clause-blank : goal.returns-clause-blank
returns-clause-blank g c blank = let n = c.requires.node in made_blank g.D.Disk.state g.D.Disk.images n.0 c.args.self.now.node c.declare.new.self c.declare.result (c.declare.ensures.declares n.0 n.1) blank

pub returns-clause-schema : goal.returns-clause-schema
returns-clause-schema g c = let n = c.requires.node in made_schema g.D.Disk.state g.D.Disk.images n.0 c.args.self.now.node c.declare.new.self c.declare.result (c.declare.ensures.declares n.0 n.1)
