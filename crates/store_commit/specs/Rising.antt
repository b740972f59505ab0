-- The writes of a recovery, in one order alone.
use Rattle.std.specs.Prelude.{◌≡◌, List, is_some}
use Rattle.std.specs.List.Sorted.{IsStrictlySortedBy}
use Rattle.stab_base.specs.declared.chunk_name.ChunkName.{ChunkName}
use Rattle.chunk_store.specs.Payload.{name_cmp}
use Rattle.store_commit.specs.Devs.{Devs, Write}
use Rattle.store_commit.specs.Agenda.{recovery_writes, AreLeftovers}

-- These are the writes that recover what the devices hold: what is left and still there is dropped in rising order.
abbrev pub AreRisingWrites : Devs → List Write → Type 0
AreRisingWrites d ws = (names : List ChunkName) × AreLeftovers d names × IsStrictlySortedBy name_cmp names
    × (ws ≡ recovery_writes names (is_some d.pending))
