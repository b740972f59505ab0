use Rattle.std.proofs.Common.{ap, ◌∙◌, sym, List, [], ◌∷◌, ◌++◌, ℕ, map}
use Rattle.std.specs.List.{concat}
use Rattle.std.proofs.lemmas.Result.{err_from_is_err_and}
use Rattle.held_value.specs.declared.content.HeldPiece.{HeldPiece}
use Rattle.client_journal.specs.Standing.{devs}
use Rattle.client_journal.proofs.ShownRows.{asks_err}
use Rattle.held_contents.specs.Reading.{stands_in, with_bytes}
use Rattle.held_contents.proofs.Readings.{object_bytes}
use Rattle.held_contents.proofs.reading.read_joined.Goals as goal

pub returns-in_err-chunks-clause-asks : goal.returns-in_err-chunks-clause-asks
returns-in_err-chunks-clause-asks g c =
    let p = err_from_is_err_and c.from_residual.result c.from_residual.ensures.1 in
    rw (p.1, p.2) (asks_err g.D.Disk.state g.D.Disk.images c.args.devs.now c.read_object.new.devs c.in_err-chunks.field-0.0 c.in_err-chunks.ensures.asks)

pub returns-clause-adds : goal.returns-clause-adds
returns-clause-adds g c =
    let means = stands_in (devs g.D.Disk.state c.args.devs.now).chunks in
    c.in_ok-add_whole.ensures
    ∙ (ap (λ (l : List (HeldPiece × List ℕ)). c.args.read.now ++ concat (map (λ (chunk : HeldPiece × List ℕ). chunk.1) l) ∷ []) (c.as_slice-2.ensures ∙ (c.in_ok-chunks.ensures.chunks ∙ ap (with_bytes means) c.as_slice.ensures))
    ∙ ap (λ (b : List ℕ). c.args.read.now ++ b ∷ []) (sym (object_bytes means c.args.object.now)))
