use Rattle.stab_base.proofs.Fields.{counted_again}
use Rattle.stab_base.proofs.codec.counted_bytes_are_read_again.Goals as goal

pub returns : goal.returns
returns c = counted_again
