use Rattle.std.proofs.Common.{◌≡◌, ◌∙◌, ap, rules}
use Rattle.chunk_store.specs.Payload.{change_of, put_payload}
use Rattle.chunk_store.proofs.Heads.{put_again}
use Rattle.chunk_store.proofs.payload.write_put.Goals as goal

pub returns-clause-change : goal.returns-clause-change
returns-clause-change c =
    let items : c.extend_from_slice.new.self.items ≡ put_payload c.args.name c.args.bytes.now = search rules in
    ap change_of items ∙ put_again c.args.name c.args.bytes.now c.requires.version c.write_head.ensures.ordinal
