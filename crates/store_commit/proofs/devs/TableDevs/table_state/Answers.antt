use Rattle.store_commit.proofs.Works.{up_or_down}
use Rattle.store_commit.proofs.devs.TableDevs.table_state.Goals as goal

pub returns-clause-down : goal.returns-clause-down
returns-clause-down g c = (λ is. cc, λ down. absurd (up_or_down c.args.self.now c.if-is_down.ensures down))
