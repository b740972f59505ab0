use Rattle.std.proofs.Common.{◌∙◌, sym}
use Rattle.net_steps.proofs.Requested.{away_busy, away_cut, away_none}
use Rattle.net_steps.proofs.world.World.away.Goals as goal

pub plan_at-requires : goal.plan_at-requires
plan_at-requires g c = let k = c.requires.here in (k.1.wire, k.2.held.wire)

pub returns-in-Some : goal.returns-in-Some
returns-in-Some g c is_out n x = away_busy n c.args.client c.in-Some.with (sym (c.in-Some.ensures.busy n.wire x.held.wire))

pub returns-then-is_cut : goal.returns-then-is_cut
returns-then-is_cut g c is_out n x =
    away_cut n c.args.client (sym (c.in_default.ensures.busy n.wire x.held.wire)) (sym (c.is_cut.ensures n.wire x.held.wire) ∙ c.if-is_cut.true)

pub returns : goal.returns
returns g c is_out n x =
    away_none n c.args.client (sym (c.in_default.ensures.busy n.wire x.held.wire)) (sym (c.is_cut.ensures n.wire x.held.wire) ∙ c.if-is_cut.false)
