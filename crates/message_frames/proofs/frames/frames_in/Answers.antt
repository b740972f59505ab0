use Rattle.message_frames.proofs.Readings.{no_frame_is_broken, refused_piece_is_broken}
use Rattle.message_frames.proofs.frames.frames_in.Goals as goal

-- src/frames.rt:53:1
pub returns-in-Err-BadLength-clause-refused : goal.returns-in-Err-BadLength-clause-refused
returns-in-Err-BadLength-clause-refused c frames left read some =
    let broken = refused_piece_is_broken c.new.result c.feed.new.self c.args.bytes.now c.in-Err-BadLength.field-0 c.in-Err-BadLength.field-0-0 c.new.ensures c.in-Err-BadLength.field-0-is c.in-Err-BadLength.ensures.refused in
    absurd (no_frame_is_broken c.args.bytes.now c.in-Err-BadLength.field-0-0 frames left broken read some)
