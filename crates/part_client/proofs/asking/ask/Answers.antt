use Rattle.std.proofs.Common.{◌∙◌}
use Rattle.part_client.proofs.Risings.{tears_are, asks_are, asked}
use Rattle.part_client.proofs.asking.ask.Goals as goal

pub returns-clause-asked : goal.returns-clause-asked
returns-clause-asked c table a k =
    let tears_sorted = c.list_of.ensures.rising in
    let torn_sorted = c.list_of-2.ensures.rising in
    record {
      asks = record {
        tears = c.in_ok-list_of.ensures.list ∙ tears_are table a c.args.it.now k c.in_ok-tears.tears c.in_ok-tears.ensures tears_sorted;
        whole = c.in_ok-list_of-2.ensures.list ∙ asks_are table a c.args.it.now k c.in_ok-tears.tears c.in_ok-tears.ensures tears_sorted c.in_ok-torn.torn c.in_ok-torn.ensures torn_sorted;
      };
      kept = asked table a c.args.it.now k c.in_ok-tears.tears c.in_ok-tears.ensures tears_sorted c.in_ok-torn.torn c.in_ok-torn.ensures;
    }
