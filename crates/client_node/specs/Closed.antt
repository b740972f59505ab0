-- Whether a client has closed a table.
use Rattle.std.specs.Prelude.{◌==◌, Bool, false, Option, Some, None}
use Rattle.slot_store.specs.declared.held.TableRecord.{TableRecord}
use Rattle.step_tables.specs.ClientMoves.{TableDisk}

abbrev pub closed_in : Option TableDisk → Bool
closed_in None = false
closed_in (Some table) = table.closed

-- as the devices have it
abbrev pub is_closed_record : Option TableRecord → Bool
is_closed_record None = false
is_closed_record (Some found) = found.state == 2
