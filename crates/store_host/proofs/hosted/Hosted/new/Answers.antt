use Rattle.store_host.proofs.Blanks.{blank_node}
use Rattle.store_host.proofs.hosted.Hosted.new.Goals as goal

pub returns-clause-blank : goal.returns-clause-blank
returns-clause-blank g c blank =
    let n = c.new.ensures in
    blank_node g.D.Disk.state c.new.result c.args.chunk_disk c.args.row_disk c.args.log_disk n.chunks n.rows n.log blank
