use Rattle.std.proofs.Common.{◌≡◌, ◌++◌, ◌∷◌, [], sym, subst, List}
use Rattle.std.specs.Prelude.{IsSome}
use Rattle.std.specs.BTreeSet.{keys, insert_key}
use Rattle.stab_base.specs.declared.chunk_name.ChunkName.{ChunkName}
use Rattle.chunk_store.specs.Payload.{name_cmp}
use Rattle.chunk_store.specs.Standing.{chunks, chunk_in}
use Rattle.client_journal.specs.Devs.{chunk_of}
use Rattle.client_journal.specs.Recover.{AreStillThere}
use Rattle.client_journal.proofs.Leftovers.{there_more, there_none}
use Rattle.client_journal.proofs.recover.note_there.Goals as goal

pub returns-in_ok-insert : goal.returns-in_ok-insert
returns-in_ok-insert g c old s =
    let map = chunks g.D.Disk.state c.args.device.now in
    let there : IsSome (chunk_in map (chunk_of c.args.name)) = (c.has.ensures c.requires.up).0 c.if-has.true in
    let same : keys c.insert.new.self ≡ insert_key name_cmp (keys c.args.found.now) (chunk_of c.args.name) = c.in_ok-insert.ensures.keys in
    subst (λ (l : List ChunkName). AreStillThere map (old ++ c.args.name ∷ []) l) (sym same) (there_more map old (keys c.args.found.now) c.args.name s there)

pub returns-else-has : goal.returns-else-has
returns-else-has g c old s =
    let map = chunks g.D.Disk.state c.args.device.now in
    let back = (c.has.ensures c.requires.up).1 in
    let not = c.if-has.false in
    there_none map old (keys c.args.found.now) c.args.name s (λ some. let yes = back some in absurd cc)
