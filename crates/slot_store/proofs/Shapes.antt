-- What a payload says, from what is to be noted of it.
use Rattle.std.proofs.Common.{◌≡◌, ℕ, List, refl, ap}
use Rattle.slot_store.specs.declared.held.RowSlots.{RowSlots}
use Rattle.slot_store.specs.declared.held.TableRecord.{TableRecord}
use Rattle.slot_store.specs.declared.change.RowChange.{RowChange}
use Rattle.slot_store.specs.declared.change.TableChange.{TableChange}
use Rattle.slot_store.specs.declared.change.Change.TheVariants as changes
use Rattle.slot_store.specs.Reading.{Said, SaysRow, SaysTable, SaysNothing}
use Rattle.slot_store.specs.Memory.{shape_of}

abbrev pub noted_of : RowSlots → RowChange
noted_of row = record { table = row.table; row = row.row; last = row.last }

abbrev pub told_of : TableRecord → TableChange
told_of table = record { table = table.table; state = table.state; position = table.position }

pub row_shape : (said : Said) (change : RowChange) → shape_of said ≡ changes.Row change → (row : RowSlots) × (said ≡ SaysRow row) × (noted_of row ≡ change)
row_shape (SaysRow row) change e = let same : noted_of row ≡ change = cc in (row, refl, same)
row_shape (SaysTable table) change e = absurd cc
row_shape SaysNothing change e = absurd cc

pub table_shape : (said : Said) (change : TableChange) → shape_of said ≡ changes.Table change → (table : TableRecord) × (said ≡ SaysTable table) × (told_of table ≡ change)
table_shape (SaysRow row) change e = absurd cc
table_shape (SaysTable table) change e = let same : told_of table ≡ change = cc in (table, refl, same)
table_shape SaysNothing change e = absurd cc

pub nothing_shape : (said : Said) → shape_of said ≡ changes.Nothing → said ≡ SaysNothing
nothing_shape (SaysRow row) e = absurd cc
nothing_shape (SaysTable table) e = absurd cc
nothing_shape SaysNothing e = refl
