use Rattle.client_laws.proofs.Spelling.{spelled_spells, whole_spells, whole_is_there, read_apart, accepted_apart}
use Rattle.client_laws.proofs.writes_spell_their_chunks.Goals as goal

pub returns-clause-against : goal.returns-clause-against
returns-clause-against c = spelled_spells

pub returns-clause-whole : goal.returns-clause-whole
returns-clause-whole c = whole_spells

pub returns-clause-there : goal.returns-clause-there
returns-clause-there c = whole_is_there

pub returns-clause-read : goal.returns-clause-read
returns-clause-read c = read_apart

pub returns-clause-accepted : goal.returns-clause-accepted
returns-clause-accepted c = accepted_apart
