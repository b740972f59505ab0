use Rattle.wire_laws.proofs.Carried.{untaken_as, store_as, client_as}
use Rattle.wire_laws.proofs.parts_are_handed_on_as_packets.Goals as goal

pub returns-clause-untaken : goal.returns-clause-untaken
returns-clause-untaken c = untaken_as

pub returns-clause-store : goal.returns-clause-store
returns-clause-store c = store_as

pub returns-clause-client : goal.returns-clause-client
returns-clause-client c = client_as
