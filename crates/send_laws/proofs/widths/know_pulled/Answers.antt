use Rattle.std.proofs.Common.{rules}
use Rattle.send_laws.proofs.widths.know_pulled.Goals as goal

pub returns : goal.returns
returns c = record {
  table = search rules;
  from = search rules;
  to = search rules;
  latest = search rules;
  header = search rules;
}
