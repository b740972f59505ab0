use Rattle.std.proofs.Common.{◌≡◌, take, length}
use Rattle.vault.specs.Standing as vaults
use Rattle.vault.proofs.start.note_all.Given as goal

abbrev pub invariant-loop-index : goal.invariant-loop-index
invariant-loop-index g l = record {
  count : l.count ≡ length (vaults.payloads g.D.Disk.state l.initial.vault);
  looked : vaults.IsLookedAt g.D.Disk.state l.vault;
  stays : vaults.Stays g.D.Disk.state l.initial.vault l.vault;
  fits : g.F.Fold.fits l.memory (take l.index (vaults.payloads g.D.Disk.state l.initial.vault));
  moment : vaults.IsSound g.D.Disk.state l.initial.vault → vaults.Leaves g.D.Disk.state g.D.Disk.images l.initial.vault l.vault (λ list. list ≡ vaults.payloads g.D.Disk.state l.initial.vault);
  faults : vaults.faults g.D.Disk.state l.vault ≡ vaults.faults g.D.Disk.state l.initial.vault;
  fuse : vaults.SameFuse g.D.Disk.state l.initial.vault l.vault;
}
