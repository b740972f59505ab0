use Rattle.std.proofs.Common.{ap}
use Rattle.part_tables.specs.ClientParts.{Whole}
use Rattle.part_client.proofs.Stands.{row_gone, torn_gone}
use Rattle.part_client.proofs.table.TableParts.answer_gone.Goals as goal

pub returns : goal.returns
returns c opened a k = record {
  taken = ap Whole c.answer.ensures;
  kept = record {
    pull = k.pull;
    rows = row_gone c.args.head.table c.args.head.row c.args.self.now.rows c.remove.new.self a.rows k.rows c.remove.ensures.updates.0;
    torn = torn_gone c.args.head.table c.args.head.row c.args.self.now.torn c.remove-3.new.self a.torn k.torn c.remove-3.ensures.updates.0;
  };
}
