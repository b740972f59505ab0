use Rattle.std.proofs.Common.{◌^◌}
use Rattle.std.specs.Int.{w32, w64}
use Rattle.stab_base.proofs.Fields.{wide32, wide64, byte_again, number_again}
use Rattle.stab_base.proofs.codec.number_is_read_again.Goals as goal

pub returns-clause-byte : goal.returns-clause-byte
returns-clause-byte c = byte_again

pub returns-clause-four : goal.returns-clause-four
returns-clause-four c = number_again w32 (2 ^ 32) wide32

pub returns-clause-eight : goal.returns-clause-eight
returns-clause-eight c = number_again w64 (2 ^ 64) wide64
