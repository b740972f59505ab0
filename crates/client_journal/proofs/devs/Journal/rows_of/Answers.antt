use Rattle.std.proofs.Common.{inl, refl}
use Rattle.client_journal.proofs.Asking.{asks_down, asks_reads}
use Rattle.client_journal.proofs.devs.Journal.rows_of.Goals as goal

pub returns-then-is_down-clause-asks : goal.returns-then-is_down-clause-asks
returns-then-is_down-clause-asks g c = asks_down g.D.Disk.state g.D.Disk.images g.met.D.Disk.only_now c.args.self.now c.if-is_down.ensures

pub returns-clause-asks : goal.returns-clause-asks
returns-clause-asks g c =
    let up = c.if-is_down.ensures in
    asks_reads g.D.Disk.state g.D.Disk.images g.met.D.Disk.only_now c.args.self.now up (c.requires up) c.read_rows.new.self c.read_rows.result c.read_rows.ensures.reads

pub returns-then-is_down-clause-once : goal.returns-then-is_down-clause-once
returns-then-is_down-clause-once g c = record { chunks = refl; slots = inl refl; journal = inl refl }
