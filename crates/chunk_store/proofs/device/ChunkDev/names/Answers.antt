use Rattle.std.proofs.Common.{sym, ◌∙◌}
use Rattle.vault.specs.Standing.{payloads}
use Rattle.chunk_store.specs.Standing.{vault_of}
use Rattle.chunk_store.proofs.Finds.{keys_are}
use Rattle.chunk_store.proofs.device.ChunkDev.names.Goals as goal

pub returns-clause-names : goal.returns-clause-names
returns-clause-names g c up =
    let self = c.args.self.now in
    c.from_vec.ensures ∙ (c.in_ok-keys.ensures.keys ∙ sym (keys_are self.inner.memory (payloads g.D.Disk.state (vault_of self)) (c.requires.ready up).memory))
