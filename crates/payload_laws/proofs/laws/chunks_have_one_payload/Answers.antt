use Rattle.chunk_store.proofs.Heads.{put_again, drop_again}
use Rattle.payload_laws.proofs.Chunks.{only_put, only_drop}
use Rattle.payload_laws.proofs.laws.chunks_have_one_payload.Goals as goal

pub returns-clause-put : goal.returns-clause-put
returns-clause-put c = put_again

pub returns-clause-only_put : goal.returns-clause-only_put
returns-clause-only_put c = only_put

pub returns-clause-gone : goal.returns-clause-gone
returns-clause-gone c = drop_again

pub returns-clause-only_gone : goal.returns-clause-only_gone
returns-clause-only_gone c = only_drop
