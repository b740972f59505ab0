use Rattle.std.proofs.Common.{rules}
use Rattle.send_laws.proofs.widths.know_torn_answer.Goals as goal

pub returns : goal.returns
returns c = record {
  table = search rules;
  row = search rules;
  header = search rules;
}
