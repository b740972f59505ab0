use Rattle.std.proofs.Common.{◌≡◌, refl, sym, ap, ◌∙◌, arith}
use Rattle.disk_trait.proofs.Moments.{leaves_weaker}
use Rattle.vault.specs.File.{payloads_of, places_from, StandsFor, StandsForOne}
use Rattle.vault.specs.Standing.{payloads}
use Rattle.vault.proofs.Lists.{shut_at}
use Rattle.vault.proofs.Openings.{closed_at}
use Rattle.vault.proofs.Quiet.{still}
use Rattle.vault.proofs.Repairs.{closed_stands}
use Rattle.vault.proofs.vault.Vault.open_write.Goals as goal

pub returns-in-Ok-clause-opened : goal.returns-in-Ok-clause-opened
returns-in-Ok-clause-opened g c =
    let s = c.requires.ready c.if-self.false in
    let seen = (g.D.Disk.state c.close_gate.new.disk).seen in
    let at = closed_at seen c.args.self.now.gate (payloads g.D.Disk.state c.args.self.now) c.in-Ok.ensures.written s.ends.front.short s.ends.front.size in
    record {
      looked = record {
        up = s.up;
        synced = c.in-Ok.ensures.durable;
        ends = at.ends;
        within = omega (arith, at.length_is);
        small = s.small;
        places = s.places ∙ ap (places_from 0) (sym at.list);
      };
      file = at.file;
      gate = at.length_is;
    }

pub returns-in-Ok-clause-same : goal.returns-in-Ok-clause-same
returns-in-Ok-clause-same g c =
    let s = c.requires.ready c.if-self.false in
    (closed_at (g.D.Disk.state c.close_gate.new.disk).seen c.args.self.now.gate (payloads g.D.Disk.state c.args.self.now) c.in-Ok.ensures.written s.ends.front.short s.ends.front.size).list

pub returns-in-Ok-clause-any_moment : goal.returns-in-Ok-clause-any_moment
returns-in-Ok-clause-any_moment g c up sound =
    let s = c.requires.ready up in
    let file = (g.D.Disk.state c.args.self.now.disk).seen in
    let ps = payloads_of file in
    leaves_weaker g.D.Disk.state g.D.Disk.images c.args.self.now.disk c.close_gate.new.disk (λ image. StandsFor image ps) (StandsForOne (λ list. list ≡ ps)) (c.close_gate.ensures.any_moment (shut_at file c.args.self.now.gate ps ps s.ends sound))
    (λ image stands. (ps, stands, refl))

pub returns-in-Err-clause-any_moment : goal.returns-in-Err-clause-any_moment
returns-in-Err-clause-any_moment g c up sound =
    let s = c.requires.ready up in
    let file = (g.D.Disk.state c.args.self.now.disk).seen in
    let ps = payloads_of file in
    leaves_weaker g.D.Disk.state g.D.Disk.images c.args.self.now.disk c.close_gate.new.disk (λ image. StandsFor image ps) (StandsForOne (λ list. list ≡ ps)) (c.close_gate.ensures.any_moment (shut_at file c.args.self.now.gate ps ps s.ends sound))
    (λ image stands. (ps, stands, refl))

pub returns-in-Ok-clause-durable : goal.returns-in-Ok-clause-durable
returns-in-Ok-clause-durable g c =
    let s = c.requires.ready c.if-self.false in
    let ps = payloads g.D.Disk.state c.args.self.now in
    still g.D.Disk.state g.D.Disk.images g.met.D.Disk.only_now c.close_gate.new.disk c.in-Ok.ensures.durable (StandsForOne (λ list. list ≡ ps)) (ps, closed_stands (g.D.Disk.state c.close_gate.new.disk).seen ps c.in-Ok.ensures.written s.ends.front.short, refl)

pub returns-in-Ok-clause-keeps : goal.returns-in-Ok-clause-keeps
returns-in-Ok-clause-keeps g c up = c.close_gate.ensures.keeps

pub returns-in-Err-clause-keeps : goal.returns-in-Err-clause-keeps
returns-in-Err-clause-keeps g c up = c.close_gate.ensures.keeps
