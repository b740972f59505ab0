use Rattle.gate_tables.proofs.Waiting.{all_wait}
use Rattle.gate_tables.proofs.laws.a_marked_timer_waits_no_longer.Goals as goal

pub returns : goal.returns
returns c = all_wait
