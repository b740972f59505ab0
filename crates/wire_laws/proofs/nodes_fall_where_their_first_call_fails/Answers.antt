use Rattle.wire_laws.proofs.Carried.{store_fails, client_fails}
use Rattle.wire_laws.proofs.nodes_fall_where_their_first_call_fails.Goals as goal

pub returns-clause-store : goal.returns-clause-store
returns-clause-store c = store_fails

pub returns-clause-client : goal.returns-clause-client
returns-clause-client c = client_fails
