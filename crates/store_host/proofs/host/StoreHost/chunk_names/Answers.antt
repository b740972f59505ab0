use Rattle.std.proofs.Common.{rules}
use Rattle.store_host.proofs.Moving.{found_up}
use Rattle.store_host.proofs.Named.{names_at}
use Rattle.store_host.proofs.Serving.{up_table}
use Rattle.store_host.proofs.host.StoreHost.chunk_names.Goals as goal

pub chunk_names-requires-clause-up : goal.chunk_names-requires-clause-up
chunk_names-requires-clause-up g c =
    let n = c.requires.held in
    found_up c.args.self.now.tables c.args.table c.unwrap.result.now (up_table g.D.Disk.state n.0 c.args.self.now n.1 c.args.table c.requires.up) (search rules)

pub returns-clause-names : goal.returns-clause-names
returns-clause-names g c w hosted h there =
    names_at g.D.Disk.state w c.args.self.now.tables c.args.table c.unwrap.result.now h.tables (search rules) hosted there c.chunk_names.result c.chunk_names.ensures.names
