use Rattle.std.proofs.Common.{List, ◌∙◌, ap, Some}
use Rattle.stab_base.specs.declared.chunk_name.ChunkName.{ChunkName}
use Rattle.status_log.specs.Entry.{Entry}
use Rattle.status_log.specs.Payload.{names_in}
use Rattle.status_log.proofs.Fields.{all_behind}
use Rattle.status_log.proofs.memory.LogMemory.open.Goals as goal

pub returns-clause-pending : goal.returns-clause-pending
returns-clause-pending c =
    let o = c.args.opening in
    let entry : List ChunkName → Entry = λ old. record { version = o.version; row = o.row; client = o.client; number = o.number; base = o.base; fresh = o.fresh; old = old } in
    ap (λ (old : List ChunkName). Some (entry old)) (c.read_names.ensures.items ∙ ap (names_in o.count) (all_behind 53 c.args.payload.now))
