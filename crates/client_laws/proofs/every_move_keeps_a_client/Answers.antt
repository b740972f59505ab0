use Rattle.client_laws.proofs.Law.{client_law}
use Rattle.client_laws.proofs.every_move_keeps_a_client.Goals as goal

pub returns : goal.returns
returns c = client_law
