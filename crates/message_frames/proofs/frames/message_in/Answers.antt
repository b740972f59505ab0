use Rattle.std.proofs.Common.{[], ◌∷◌, length, refl, sym, ap, ◌∙◌}
use Rattle.sim_frame.specs.Stream.Left.{Open}
use Rattle.message_frames.specs.Frames.{frame_with}
use Rattle.message_frames.proofs.Readings.{reads_its_frame, frames_are_its, frame_has_five_more}
use Rattle.message_frames.proofs.frames.message_in.Goals as goal

-- src/frames.rt:77:1
pub returns-in-Err-clause-only : goal.returns-in-Err-clause-only
returns-in-Err-clause-only c message f =
    (tt, c.in-Err.ensures.refused (frame_with message ∷ []) (Open []) (reads_its_frame c.args.bytes.now message f) (λ none. absurd cc))

-- src/frames.rt:77:1
pub returns-in-None-clause-only : goal.returns-in-None-clause-only
returns-in-None-clause-only c message f =
    let frames = frames_are_its c.args.bytes.now message c.in-Ok.frames.items c.in-Ok.ensures.found.0 f c.in-Ok.ensures.found.1 in
    let size = frame_has_five_more message ∙ sym (ap length f.is) in
    absurd (c.in-None.ensures.none refl (frame_with message) (c.as_slice.ensures.value ∙ frames) size)
