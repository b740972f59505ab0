use Rattle.std.proofs.Common.{inl, refl, sym, ◌∙◌}
use Rattle.journal_host.proofs.Hosting.{up_starts}
use Rattle.journal_host.proofs.hosted.start.Goals as goal

pub start_down-requires : goal.start_down-requires
start_down-requires g c = record { node = c.requires.node; down = sym c.is_up.ensures ∙ c.if-is_up.false; quiet = c.requires.quiet }

pub returns-then-is_up-clause-started : goal.returns-then-is_up-clause-started
returns-then-is_up-clause-started g c cut s h = inl (up_starts g.D.Disk.state cut c.args.client s.disk s.agenda c.args.node.now c.args.outs.now.items h (sym c.is_up.ensures ∙ c.if-is_up.true))

pub returns-then-is_up-clause-kept : goal.returns-then-is_up-clause-kept
returns-then-is_up-clause-kept g c cut s h = tt

pub returns-then-is_up-clause-cause : goal.returns-then-is_up-clause-cause
returns-then-is_up-clause-cause g c = record { counted = λ is. refl; cause = λ bad. absurd cc }

pub returns-then-is_up-clause-memory : goal.returns-then-is_up-clause-memory
returns-then-is_up-clause-memory g c = tt

pub returns-clause-started : goal.returns-clause-started
returns-clause-started g c cut s h = c.start_down.ensures.started cut s h

pub returns-clause-kept : goal.returns-clause-kept
returns-clause-kept g c cut s h = c.start_down.ensures.kept cut s h

pub returns-clause-cause : goal.returns-clause-cause
returns-clause-cause g c = c.start_down.ensures.cause

pub returns-clause-memory : goal.returns-clause-memory
returns-clause-memory g c = c.start_down.ensures.memory

pub returns-then-is_up-clause-plans : goal.returns-then-is_up-clause-plans
returns-then-is_up-clause-plans g c n below = below

pub returns-clause-plans : goal.returns-clause-plans
returns-clause-plans g c n below = c.start_down.ensures.plans n below

pub returns-then-is_up-clause-phases : goal.returns-then-is_up-clause-phases
returns-then-is_up-clause-phases g c up = refl

pub returns-clause-phases : goal.returns-clause-phases
returns-clause-phases g c = c.start_down.ensures.phases
