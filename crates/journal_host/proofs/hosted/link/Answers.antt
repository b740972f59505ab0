use Rattle.std.proofs.Common.{refl, sym, ap, ◌∙◌}
use Rattle.client_node.specs.Node.{told_by, sent_by}
use Rattle.journal_host.specs.Holds.{node_faults}
use Rattle.journal_host.proofs.Cuts.{not_not}
use Rattle.client_node.specs.Phases.{is_open}
use Rattle.journal_host.proofs.hosted.link.Goals as goal

pub returns-then-is_up-clause-linked : goal.returns-then-is_up-clause-linked
returns-then-is_up-clause-linked g c cut s h up =
    let same = c.link.ensures.same in (
      record {
        client = c.link.ensures.kept s h.client;
        number = ap (λ n. n.number) same ∙ h.number;
        linked = c.link.ensures.linked ∙ not_not c.args.up;
        told = ap (λ n. told_by n) same ∙ h.told;
        sent = ap (λ n. sent_by n) same ∙ h.sent;
      },
      refl,
    )

pub returns-then-is_up-clause-down : goal.returns-then-is_up-clause-down
returns-then-is_up-clause-down g c down = let up = sym c.is_up.ensures ∙ c.if-is_up.true in absurd cc

pub returns-then-is_up-clause-counted : goal.returns-then-is_up-clause-counted
returns-then-is_up-clause-counted g c = ap (λ n. node_faults g.D.Disk.state n) c.link.ensures.same

pub returns-clause-linked : goal.returns-clause-linked
returns-clause-linked g c cut s h up = let down = sym c.is_up.ensures ∙ c.if-is_up.false in absurd cc

pub returns-clause-down : goal.returns-clause-down
returns-clause-down g c down = (refl, refl)

pub returns-clause-counted : goal.returns-clause-counted
returns-clause-counted g c = refl

pub returns-then-is_up-clause-plans : goal.returns-then-is_up-clause-plans
returns-then-is_up-clause-plans g c n below = c.link.ensures.plans n below

pub returns-clause-plans : goal.returns-clause-plans
returns-clause-plans g c n below = below

pub returns-then-is_up-clause-phases : goal.returns-then-is_up-clause-phases
returns-then-is_up-clause-phases g c table = ap (λ n. is_open n table) c.link.ensures.same

pub returns-clause-phases : goal.returns-clause-phases
returns-clause-phases g c table = refl
