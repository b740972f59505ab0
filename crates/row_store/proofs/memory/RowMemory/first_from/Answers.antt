use Rattle.std.proofs.Common.{sym, ◌∙◌}
use Rattle.spare_map.specs.Late.{entries_of}
use Rattle.stab_base.specs.declared.row_version.RowVersion.{RowVersion}
use Rattle.row_store.specs.Data.{version_cmp}
use Rattle.row_store.proofs.Firsts.{none_from, first_from}
use Rattle.row_store.proofs.memory.RowMemory.first_from.Goals as goal

pub returns-in-Some-clause-first : goal.returns-in-Some-clause-first
returns-in-Some-clause-first c =
    let least : RowVersion = record { version = c.args.version; row = c.from_bytes.result } in
    first_from (entries_of version_cmp c.args.self.now.versions) least c.from_bytes.ensures c.in_ok-row.ensures.rising (c.in-Some.row, c.in-Some.field-0-1) (sym c.in-Some.is ∙ c.in_ok-row.ensures.first)

pub returns-in-None-clause-first : goal.returns-in-None-clause-first
returns-in-None-clause-first c =
    let least : RowVersion = record { version = c.args.version; row = c.from_bytes.result } in
    none_from (entries_of version_cmp c.args.self.now.versions) least c.from_bytes.ensures c.in_ok-row.ensures.rising (sym c.in-None.is ∙ c.in_ok-row.ensures.first)
