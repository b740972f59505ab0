use Rattle.std.proofs.Common.{◌∙◌, ap}
use Rattle.chunk_store.specs.Payload.{change_of}
use Rattle.chunk_store.proofs.Heads.{drop_again}
use Rattle.chunk_store.proofs.payload.write_drop.Goals as goal

pub returns-clause-change : goal.returns-clause-change
returns-clause-change c = ap change_of c.write_head.ensures.items ∙ drop_again c.args.name c.requires.version c.write_head.ensures.ordinal
