use Rattle.client_journal.proofs.Scans.{put_other, put_its}
use Rattle.client_journal.proofs.scan.put_copied.Goals as goal

pub returns-then-not-is_row : goal.returns-then-not-is_row
returns-then-not-is_row c held = put_other c.args.commit.now c.args.key.now.table c.args.key.now.row c.if-not-is_row.ensures held

pub returns : goal.returns
returns c = put_its c.args.commit.now c.args.key.now.table c.args.key.now.row c.if-not-is_row.ensures c.row_slots.result c.row_slots.ensures
