use Rattle.std.proofs.Common.{◌≡◌, ◌∷◌, ℕ, List, drop, subst, rules}
use Rattle.sim_frame.specs.Opening.{left_of, held_of, IsBehind}
use Rattle.sim_frame.specs.Stream.{IsFed}
use Rattle.sim_frame.proofs.Feeds.{none_is, front_fed, whole_fed, whole_rest}
use Rattle.sim_frame.proofs.framer.Framer.feed.Goals as goal

pub returns-in_ok-keep-in-Front-clause-frames : goal.returns-in_ok-keep-in-Front-clause-frames
returns-in_ok-keep-in-Front-clause-frames c =
    front_fed c.args.self.now c.self.inside.broken (held_of c.self.inside.part) (held_of c.keep.new.self) c.args.piece.now c.new.result.items c.self.view_is
    (none_is c.self.inside.broken c.in_default.not-Some) c.in_ok-keep-in-Front.ensures.ok c.in-Front.ensures c.new.ensures.items

pub returns-in_ok-first-in-Whole-clause-frames : goal.returns-in_ok-first-in-Whole-clause-frames
returns-in_ok-first-in-Whole-clause-frames c =
    let found = c.in_ok-frames-in-Whole in
    let all : c.insert.new.self.items ≡ c.in_ok-first-in-Whole.first ∷ found.field-0.frames.items = search rules in
    let part = c.in_ok-next-in-Whole.next in
    let old : left_of c.self.inside.broken (held_of c.self.inside.part) ≡ c.args.self.now = c.self.view_is in
    let kept : IsBehind found.field-0.broken (drop found.field-0.behind c.split_at.result.1.now) part =
    subst (λ (l : List ℕ). IsBehind found.field-0.broken l part) (whole_rest found.field-0.behind c.split_at.result.1.now) c.in_ok-next-in-Whole.ensures in
    let fed : IsFed c.args.self.now c.args.piece.now (c.in_ok-first-in-Whole.first ∷ found.field-0.frames.items) (left_of found.field-0.broken (held_of part)) =
    whole_fed c.args.self.now c.self.inside.broken (held_of c.self.inside.part) c.args.piece.now c.split_at.result.0.now c.split_at.result.1.now c.in-Whole.need c.in_ok-first-in-Whole.first
    found.field-0.frames.items found.field-0.behind found.field-0.broken part old (none_is c.self.inside.broken c.in_default.not-Some) c.split_at.ensures.front c.split_at.ensures.back
    c.in_ok-first-in-Whole.ensures.frame c.in_ok-first-in-Whole.ensures.spelled found.ensures kept in
    rw (all, c.in_ok-first-in-Whole.ensures.ok) fed
