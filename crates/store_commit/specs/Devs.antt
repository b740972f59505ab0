-- What the three devices of a table hold, and what one write makes of it.
use Rattle.std.specs.Prelude.{◌≡◌, ◌⊎◌, ℕ, List, [], ◌∷◌, Option, Some, None}
use Rattle.std.specs.BTreeMap.{insert_entry}
use Rattle.spare_map.specs.Late.{without}
use Rattle.stab_base.specs.declared.chunk_name.ChunkName.{ChunkName}
use Rattle.row_value.specs.declared.schema.Schema.{Schema}
use Rattle.chunk_store.specs.Payload.{name_cmp}
use Rattle.row_store.specs.declared.stored.StoredRow.{StoredRow}
use Rattle.row_store.specs.declared.stored.Terms.{Terms}
use Rattle.row_store.specs.Data.{TableData, with_row, with_table, with_sub}
use Rattle.status_log.specs.Entry.{Entry}

-- the chunks by name, what is held of the table, and the open entry of the log
pub record Devs : Type 0 where
  pub chunks : List (ChunkName × List ℕ)
  pub held : TableData
  pub pending : Option Entry

-- One write of one device. A vault is opened before its first write since a start, which changes nothing that it holds.
pub data Write : Type 0 where
  OpenChunks : Write
  OpenRows : Write
  OpenLog : Write
  OpenEntry : Entry → Write
  PutChunk : ChunkName → List ℕ → Write
  PutRow : StoredRow → Write
  DropChunk : ChunkName → Write
  CloseEntry : Write
  PutTable : Schema → ℕ → Write
  PutSub : ℕ → Option Terms → Write

abbrev pub changed_by : Devs → Write → Devs
changed_by d OpenChunks = d
changed_by d OpenRows = d
changed_by d OpenLog = d
changed_by d (OpenEntry entry) = record { chunks = d.chunks; held = d.held; pending = Some entry }
changed_by d (PutChunk name bytes) =
    record { chunks = insert_entry name_cmp d.chunks name bytes; held = d.held; pending = d.pending }
changed_by d (PutRow stored) = record { chunks = d.chunks; held = with_row d.held stored; pending = d.pending }
changed_by d (DropChunk name) = record { chunks = without name_cmp d.chunks name; held = d.held; pending = d.pending }
changed_by d CloseEntry = record { chunks = d.chunks; held = d.held; pending = None }
changed_by d (PutTable schema state) =
    record { chunks = d.chunks; held = with_table d.held schema state; pending = d.pending }
changed_by d (PutSub client terms) =
    record { chunks = d.chunks; held = with_sub d.held client terms; pending = d.pending }

-- after all of them, one after the other
abbrev pub changed_by_all : Devs → List Write → Devs
changed_by_all d [] = d
changed_by_all d (w ∷ ws) = changed_by_all (changed_by d w) ws

-- a crash inside a write leaves what was there before it or what is there after it
abbrev pub IsBeforeOrAfter : Devs → Write → Devs → Type 0
IsBeforeOrAfter d w left = (left ≡ d) ⊎ (left ≡ changed_by d w)
