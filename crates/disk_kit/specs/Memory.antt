-- A disk in memory as its trait sees it.
use Rattle.std.specs.Prelude.{ℕ, ◌-◌, ◌^◌, min, false, List, [], length}
use Rattle.std.specs.Vec.{vec_capacity, vec_len}
use Rattle.disk_trait.specs.Image.{settled}
use Rattle.disk_trait.specs.Calls.{DiskState}
use Rattle.disk_kit.specs.declared.memory.MemDisk.{MemDisk}
use Rattle.disk_kit.specs.Record.{Held, file_of, noted, LeftSince}

abbrev pub held_in : MemDisk → Held
held_in m = record { bytes = m.bytes.items; len = m.len }

abbrev pub memory_state : MemDisk → DiskState
memory_state m = record {
  seen = file_of (held_in m);
  pending = noted (settled []) m.calls.items m.pool.items (held_in m);
  room = min (vec_capacity m.bytes) (2 ^ 60);
  -- a place is left for a restart
  calls = (vec_capacity m.calls - vec_len m.calls) - 1;
  bytes = vec_capacity m.pool - vec_len m.pool;
  faults = 0;
  stops = 0;
  is_armed = false;
  passes = 0;
  pick = 0;
  moment = length m.calls.items;
}

abbrev pub memory_images : MemDisk → ℕ → List ℕ → Type 0
memory_images m = LeftSince m.calls.items m.pool.items (held_in m)
