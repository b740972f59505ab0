use Rattle.std.proofs.Common.{◌≡◌, ◌∙◌, ap}
use Rattle.std.specs.Prelude.{filter, nat_lt}
use Rattle.std.specs.Map.{keys_of}
use Rattle.spare_map.specs.Late.{entries_of}
use Rattle.stab_base.specs.declared.row_version.RowVersion.{RowVersion}
use Rattle.row_store.specs.Data.{version_cmp}
use Rattle.row_store.proofs.Versions.{Versions}
use Rattle.row_store.proofs.Above.{are_above}
use Rattle.row_store.proofs.memory.RowMemory.rows_above.Goals as goal

pub returns-clause-rows : goal.returns-clause-rows
returns-clause-rows c =
    let found : Versions = c.in_ok-found.found.items in
    let p = λ (row : RowVersion). nat_lt c.args.version row.version in
    let from : c.from_vec.result ≡ filter p (keys_of found) = c.from_vec.ensures ∙ (c.in_ok-versions_above.ensures ∙ ap (λ (es : Versions). filter p (keys_of es)) c.deref.ensures.value) in
    are_above (entries_of version_cmp c.args.self.now.versions) found (record { version = c.args.version; row = c.from_bytes.result }) c.in_ok-found.ensures.found c.in_ok-found.ensures.rising c.from_vec.result from
