use Rattle.disk_trait.specs.Fuse.{behind, inner_of}
use Rattle.device_tests.proofs.Stands.{chunks_opened, rows_opened, log_opened}
use Rattle.device_tests.proofs.updates.start_table.Goals as goal

pub loop-ordinal-init : goal.loop-ordinal-init
loop-ordinal-init g c = chunks_opened (behind g.D.Disk.state) (λ f. g.D.Disk.images (inner_of f)) c.format.new.self c.in_ok-format.ensures.opened

pub put_row-requires-clause-stands : goal.put_row-requires-clause-stands
put_row-requires-clause-stands g c = rows_opened (behind g.D.Disk.state) (λ f. g.D.Disk.images (inner_of f)) c.format-2.new.self c.in_ok-format-2.ensures.formats.opened

pub returns-clause-log : goal.returns-clause-log
returns-clause-log g c = log_opened (behind g.D.Disk.state) (λ f. g.D.Disk.images (inner_of f)) c.format-3.new.self c.in_ok-format-3.ensures.opened
