use Rattle.script_text.proofs.LineLemmas.{read-passed, read-event, read-fault}
use Rattle.script_text.proofs.parse.parse_line.Goals as goal

pub returns : goal.returns
returns c = record {
  passed = read-passed c.args.names.now c.args.line.now c.read_line.result c.read_line.ensures;
  event = read-event c.args.names.now c.args.line.now c.read_line.result c.read_line.ensures;
  fault = read-fault c.args.names.now c.args.line.now c.read_line.result c.read_line.ensures;
}
