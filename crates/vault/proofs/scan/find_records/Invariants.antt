use Rattle.std.proofs.Common.{◌≡◌, ◌-◌, length}
use Rattle.disk_trait.specs.Calls.{SameFile, Elapses}
use Rattle.vault.specs.Scan.{HasFound}
use Rattle.vault.proofs.scan.find_records.Given as goal

abbrev pub invariant-records : goal.invariant-records
invariant-records g l = record {
  found : HasFound (g.D.Disk.state l.fn.disk).seen l.gate l.places.items;
  same : SameFile (g.D.Disk.state l.fn.disk) (g.D.Disk.state l.disk);
  time : Elapses (g.D.Disk.state l.fn.disk) (g.D.Disk.state l.disk) (g.D.Disk.images l.fn.disk) (g.D.Disk.images l.disk);
  faults : (g.D.Disk.state l.disk).faults ≡ (g.D.Disk.state l.fn.disk).faults;
}

abbrev pub decreases-records : goal.decreases-records
decreases-records g l = length (g.D.Disk.state l.fn.disk).seen - l.gate
