use Rattle.std.proofs.Common.{◌≡◌, ◌∙◌, ap, length, rules}
use Rattle.vault.specs.Standing.{payloads}
use Rattle.vault.proofs.Lists.{length-places}
use Rattle.vault.proofs.vault.Vault.records.Goals as goal

pub returns : goal.returns
returns g c up =
    let len : c.len.result ≡ length c.args.self.now.places.items = search rules in
    len ∙ (ap length (c.requires.ready up).places ∙ length-places 0 (payloads g.D.Disk.state c.args.self.now))
