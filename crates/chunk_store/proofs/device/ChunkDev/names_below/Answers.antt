use Rattle.std.proofs.Common.{◌≡◌, List, sym, ◌∙◌, ap}
use Rattle.std.specs.Prelude.{◌==◌, ◌&&◌, nat_lt, filter}
use Rattle.std.specs.Map.{keys_of}
use Rattle.stab_base.specs.declared.chunk_name.ChunkName.{ChunkName}
use Rattle.spare_map.specs.Late.{entries_of}
use Rattle.vault.specs.Standing.{payloads}
use Rattle.chunk_store.specs.Payload.{name_cmp}
use Rattle.chunk_store.specs.Standing.{vault_of}
use Rattle.chunk_store.proofs.Finds.{keys_are}
use Rattle.chunk_store.proofs.Below.{names_below_are}
use Rattle.chunk_store.proofs.device.ChunkDev.names_below.Goals as goal

pub returns-clause-names : goal.returns-clause-names
returns-clause-names g c =
    let self = c.args.self.now in
    let keys = keys_of (entries_of name_cmp self.inner.memory.places) in
    let fit = (c.requires.ready c.if-is_down.ensures).memory in
    c.from_vec.ensures
    ∙ (c.in_ok-names.ensures.found
    ∙ (names_below_are c.args.version c.args.count keys
    ∙ ap (λ (names : List ChunkName). filter (λ name. (name.version == c.args.version) && nat_lt name.ordinal c.args.count) names) (sym (keys_are self.inner.memory (payloads g.D.Disk.state (vault_of self)) fit))))
