-- The names of the three faults are three, and `Absent` is none of them.
use Rattle.std.proofs.Common.{◌≡◌}
use Rattle.vault.specs.declared.fault.VaultFault.{VaultFault}
use Rattle.vault.specs.declared.fault.VaultFault.TheVariants as vaults
use Rattle.vault.specs.Calls.{AreApart}
use Rattle.chunk_store.specs.declared.fault.ChunkFault.{ChunkFault}
use Rattle.chunk_store.specs.declared.fault.ChunkFault.TheVariants.{Absent}
use Rattle.chunk_store.specs.Fault.{fault_of}

pub apart : AreApart fault_of
apart = record { down = λ same. cc; memory = λ same. cc; disk = λ same. cc }

pub absent_apart : (f : VaultFault) → Absent ≡ fault_of f → ⊥
absent_apart vaults.Disk same = cc
absent_apart vaults.Down same = cc
absent_apart vaults.Memory same = cc
