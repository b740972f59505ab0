use Rattle.std.proofs.Common.{◌≡◌, ℕ, ◌<◌, List, Option, Err, length, sym, ◌∙◌, ap, subst}
use Rattle.std.specs.Prelude.{◌^◌}
use Rattle.std.proofs.lemmas.Result.{err_from_is_err_and}
use Rattle.held_value.specs.declared.content.HeldContent.{HeldContent}
use Rattle.held_value.specs.declared.content.HeldPiece.{HeldPiece}
use Rattle.client_journal.specs.Standing.{devs}
use Rattle.step_tables.specs.Chunks.{flat}
use Rattle.held_contents.specs.Reading.{AreThereIf, chunks_shown}
use Rattle.held_contents.specs.Request.{request_pieces}
use Rattle.client_node.specs.Spelling.{cuts_of}
use Rattle.client_node.specs.declared.fault.CallFault.TheVariants as call
use Rattle.client_node.proofs.Serving.{looks_ok, looks_fault, ask_fault}
use Rattle.client_node.proofs.spelling.spell_content.Goals as goal

pub returns-in_err-read-clause-looks : goal.returns-in_err-read-clause-looks
returns-in_err-read-clause-looks g c =
    let p = err_from_is_err_and c.from_residual.result c.from_residual.ensures.1 in
    rw (p.1, p.2) (looks_fault g.D.Disk.state g.D.Disk.images c.args.devs.now c.read_chunks.new.devs c.requires.up c.requires.ready c.in_err-read.field-0.0 c.in_err-read.ensures.asks)

pub returns-in_err-read-clause-refused : goal.returns-in_err-read-clause-refused
returns-in_err-read-clause-refused g c =
    let p = err_from_is_err_and c.from_residual.result c.from_residual.ensures.1 in
    rw (p.1, p.2) (ask_fault g.D.Disk.state g.D.Disk.images c.args.devs.now c.read_chunks.new.devs c.requires.up c.requires.ready c.in_err-read.field-0.0 c.in_err-read.ensures.asks)

pub returns-in_err-now-clause-looks : goal.returns-in_err-now-clause-looks
returns-in_err-now-clause-looks g c =
    let p = err_from_is_err_and c.from_residual-in_err-now.result c.from_residual-in_err-now.ensures.1 in
    rw (p.1, p.2) (looks_ok g.D.Disk.state g.D.Disk.images c.args.devs.now c.read_chunks.new.devs c.requires.up c.requires.ready _ c.in_ok-read.ensures.asks (Err call.Memory) (λ no. cc))

pub spell-requires : goal.spell-requires
spell-requires g c = subst (λ (l : List (List (List ℕ))). length (flat l) < 2 ^ 32) (sym c.in_ok-now.ensures) c.requires.few

pub returns-in_err-pieces-clause-looks : goal.returns-in_err-pieces-clause-looks
returns-in_err-pieces-clause-looks g c =
    let p = err_from_is_err_and c.from_residual-in_err-pieces.result c.from_residual-in_err-pieces.ensures.1 in
    rw (p.1, p.2) (looks_ok g.D.Disk.state g.D.Disk.images c.args.devs.now c.read_chunks.new.devs c.requires.up c.requires.ready _ c.in_ok-read.ensures.asks (Err call.Memory) (λ no. cc))

pub returns-clause-looks : goal.returns-clause-looks
returns-clause-looks g c = looks_ok g.D.Disk.state g.D.Disk.images c.args.devs.now c.read_chunks.new.devs c.requires.up c.requires.ready _ c.in_ok-read.ensures.asks _ (λ no. cc)

pub returns-clause-spells : goal.returns-clause-spells
returns-clause-spells g c =
    let cuts = cuts_of c.args.size c.args.content.now in
    record {
      are = λ meaning there.
          let read = c.in_ok-read.ensures.chunks meaning (subst (λ (o : Option HeldContent). AreThereIf meaning (devs g.D.Disk.state c.args.devs.now) o) (sym c.content_read.ensures) there) in
          let shown = read ∙ ap (chunks_shown meaning) c.content_read.ensures in
          c.in_ok-pieces.ensures.pieces ∙ (ap (request_pieces c.in_ok-read.read) c.in_ok-now.ensures ∙ ap (λ (l : List (List (HeldPiece × List ℕ))). request_pieces l cuts) shown);
      spelled = c.in_ok-pieces.ensures.spelled;
    }
