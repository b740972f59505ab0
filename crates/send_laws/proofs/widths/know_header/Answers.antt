use Rattle.std.proofs.Common.{rules}
use Rattle.send_laws.proofs.widths.know_header.Goals as goal

pub returns : goal.returns
returns c = record {
  row = search rules;
  version = search rules;
  number = search rules;
  accepted = search rules;
  words = search rules;
  names = search rules;
}
