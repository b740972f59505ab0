use Rattle.std.proofs.Common.{◌≡◌, [], ap, sym, ◌∙◌, refl, arith}
use Rattle.vault.specs.File.{places_from, StandsForOne}
use Rattle.disk_trait.proofs.Moments.{leaves_weaker}
use Rattle.vault.proofs.Blanks.{IsShort, short_stands}
use Rattle.vault.proofs.Openings.{closed_at}
use Rattle.vault.proofs.Quiet.{still}
use Rattle.vault.proofs.Repairs.{closed_stands}
use Rattle.vault.proofs.vault.Vault.format.Goals as goal

pub returns-in-Ok-clause-opened : goal.returns-in-Ok-clause-opened
returns-in-Ok-clause-opened g c =
    let seen = (g.D.Disk.state c.format_disk.new.disk).seen in
    let at = closed_at seen 0 [] c.in-Ok.ensures.written tt refl in
    record {
      looked = record {
        up = c.if-self.false;
        synced = c.in-Ok.ensures.durable;
        ends = at.ends;
        within = omega arith;
        small = omega arith;
        places = c.clear.ensures.items ∙ ap (places_from 0) (sym at.list);
      };
      file = at.file;
      gate = at.length_is;
    }

pub returns-in-Ok-clause-empty : goal.returns-in-Ok-clause-empty
returns-in-Ok-clause-empty g c = (closed_at (g.D.Disk.state c.format_disk.new.disk).seen 0 [] c.in-Ok.ensures.written tt refl).list

pub returns-in-Ok-clause-durable : goal.returns-in-Ok-clause-durable
returns-in-Ok-clause-durable g c =
    still g.D.Disk.state g.D.Disk.images g.met.D.Disk.only_now c.format_disk.new.disk c.in-Ok.ensures.durable (StandsForOne (λ list. list ≡ [])) ([], closed_stands (g.D.Disk.state c.format_disk.new.disk).seen [] c.in-Ok.ensures.written tt, refl)

pub returns-in-Ok-clause-blank : goal.returns-in-Ok-clause-blank
returns-in-Ok-clause-blank g c up blank =
    leaves_weaker g.D.Disk.state g.D.Disk.images c.args.self.now.disk c.format_disk.new.disk IsShort (StandsForOne (λ list. list ≡ [])) (c.format_disk.ensures.blank blank.synced blank.short) short_stands

pub returns-in-Err-clause-blank : goal.returns-in-Err-clause-blank
returns-in-Err-clause-blank g c up blank =
    leaves_weaker g.D.Disk.state g.D.Disk.images c.args.self.now.disk c.format_disk.new.disk IsShort (StandsForOne (λ list. list ≡ [])) (c.format_disk.ensures.blank blank.synced blank.short) short_stands
