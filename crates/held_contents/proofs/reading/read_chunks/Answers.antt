use Rattle.std.proofs.Common.{◌≡◌, ap, ◌∙◌, List, ℕ}
use Rattle.std.specs.Option.{option_copied}
use Rattle.held_value.specs.declared.content.HeldPiece.{HeldPiece}
use Rattle.client_journal.specs.Standing.{devs}
use Rattle.held_contents.specs.Reading.{stands_in, chunks_in}
use Rattle.held_contents.proofs.Objects.{if_ok}
use Rattle.held_contents.proofs.Readings.{reads_nothing, shown_mean}
use Rattle.held_contents.proofs.reading.read_chunks.Goals as goal

pub returns-in-None-clause-asks : goal.returns-in-None-clause-asks
returns-in-None-clause-asks g c = let up = c.if-is_down.ensures in reads_nothing g.D.Disk.state g.D.Disk.images g.met.D.Disk.only_now c.args.devs.now up (c.requires.looked up) c.new.result

pub returns-in-Some-clause-chunks : goal.returns-in-Some-clause-chunks
returns-in-Some-clause-chunks g c =
    let d = devs g.D.Disk.state c.args.devs.now in
    if_ok (λ (chunks : List (List (HeldPiece × List ℕ))). chunks ≡ chunks_in (stands_in d.chunks) c.in-Some.held.now) _ c.read_content.result
    (λ chunks is meaning there. is ∙ shown_mean meaning d (option_copied c.args.shown) c.in-Some.held.now (ap (λ o. option_copied o) c.in-Some.is) there) c.read_content.ensures.chunks
