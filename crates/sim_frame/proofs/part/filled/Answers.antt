use Rattle.std.proofs.Common.{◌≡◌, ◌++◌, ◌-◌, min, length, take, ◌∙◌, rules}
use Rattle.sim_frame.proofs.Fronts.{five_of}
use Rattle.sim_frame.proofs.part.filled.Goals as goal

pub returns : goal.returns
returns c =
    let made : c.try_extend_from_slice-2.new.self.items ≡ c.args.head.now ++ take (min (5 - length c.args.head.now) (length c.args.piece.now)) c.args.piece.now = search rules in
    made ∙ five_of c.args.head.now c.args.piece.now c.requires
