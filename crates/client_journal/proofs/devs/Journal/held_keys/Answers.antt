use Rattle.std.proofs.Common.{List}
use Rattle.std.specs.Map.{keys_of}
use Rattle.std.specs.List.Sorted.{IsStrictlySortedBy}
use Rattle.slot_store.specs.declared.held.RowKey.{RowKey}
use Rattle.slot_store.specs.Data.{key_cmp}
use Rattle.client_journal.specs.Fault.{slot_cause}
use Rattle.client_journal.specs.Standing.{devs}
use Rattle.client_journal.proofs.Asking.{slots_listed}
use Rattle.client_journal.proofs.Scans.{caused_ok}
use Rattle.client_journal.proofs.devs.Journal.held_keys.Goals as goal

pub returns-clause-reads : goal.returns-clause-reads
returns-clause-reads g c =
    let e = c.keys.ensures in
    rw c.of_slots.ensures (slots_listed g.D.Disk.state g.D.Disk.images g.met.D.Disk.only_now c.args.self.now c.requires.up c.requires.looked c.keys.new.self e.stays e.vault c.keys.result e.not_no_row e.not_disk e.down.0)

pub returns-clause-keys : goal.returns-clause-keys
returns-clause-keys g c = rw c.of_slots.ensures (caused_ok slot_cause _ c.keys.result c.keys.ensures.keys)

pub returns-clause-rising : goal.returns-clause-rising
returns-clause-rising g c = rw c.of_slots.ensures (caused_ok slot_cause _ c.keys.result c.keys.ensures.rising)
