use Rattle.std.proofs.Common.{rules}
use Rattle.send_laws.proofs.widths.know_pull.Goals as goal

pub returns : goal.returns
returns c = record {
  table = search rules;
  position = search rules;
}
