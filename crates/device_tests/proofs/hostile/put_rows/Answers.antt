use Rattle.std.proofs.Common.{sym, subst}
use Rattle.disk_trait.specs.Fuse.{behind, inner_of}
use Rattle.device_tests.specs.Standing.{RowsStand}
use Rattle.device_tests.proofs.Stands.{rows_opened}
use Rattle.device_tests.proofs.hostile.put_rows.Goals as goal
use Rattle.device_tests.proofs.hostile.put_rows.Goals.{then-has_table+in_ok-put_table, else-has_table}

pub put_table-requires : goal.put_table-requires
put_table-requires g c = rows_opened (behind g.D.Disk.state) (λ f. g.D.Disk.images (inner_of f)) c.format.new.self c.in_ok-format.ensures.formats.opened

pub loop-row-init : goal.loop-row-init
loop-row-init g c =
    let state = behind g.D.Disk.state in
    elim c.if-has_table.branch [
      | then-has_table+in_ok-put_table w ↦ subst (RowsStand state) (sym w.rows-is) w.in_ok-put_table.ensures
      | else-has_table w ↦ subst (RowsStand state) (sym w.rows-is) (rows_opened state (λ f. g.D.Disk.images (inner_of f)) c.format.new.self c.in_ok-format.ensures.formats.opened)
    ]
