use Rattle.std.proofs.Common.{sym, ◌∙◌, ap}
use Rattle.std.specs.Prelude.{option_copied}
use Rattle.store_node.proofs.Pieced.{said_some, said_none}
use Rattle.store_node.proofs.update.pieces_at.Goals as goal

pub returns-in-Some : goal.returns-in-Some
returns-in-Some c = said_some c.args.pieces.now c.args.place c.in-Some.pieces.now (sym c.get.ensures ∙ ap option_copied c.in-Some.is)

pub returns-in-None : goal.returns-in-None
returns-in-None c = c.requires ∙ sym (said_none c.args.pieces.now c.args.place (sym c.get.ensures ∙ ap option_copied c.in-None.is))
