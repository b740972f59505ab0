use Rattle.part_laws.proofs.Lengths.{spelled_by_lens, named_by_lens, pieces_back, names_back}
use Rattle.part_laws.proofs.lengths_tell_how_contents_are_spelled.Goals as goal

pub returns-clause-spelled : goal.returns-clause-spelled
returns-clause-spelled c = spelled_by_lens

pub returns-clause-named : goal.returns-clause-named
returns-clause-named c = named_by_lens

pub returns-clause-pieces : goal.returns-clause-pieces
returns-clause-pieces c = pieces_back

pub returns-clause-names : goal.returns-clause-names
returns-clause-names c = names_back
