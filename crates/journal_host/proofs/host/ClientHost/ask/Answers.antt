use Rattle.world_tables.specs.World.{client_at}
use Rattle.journal_host.specs.declared.asking.Request.TheVariants as requests
use Rattle.journal_host.proofs.Clients.{fits_at}
use Rattle.journal_host.proofs.host.ClientHost.ask.Goals as goal

pub call-requires : goal.call-requires
call-requires g c = record { clients = c.requires; may = tt }

pub returns-clause-called : goal.returns-clause-called
returns-clause-called g c w h = c.call.ensures.called w h (fits_at (client_at w c.args.client) (requests.Ask c.args.ask) (λ d. tt))

pub returns-clause-spent : goal.returns-clause-spent
returns-clause-spent g c w n h below = c.call.ensures.spent w n h below (fits_at (client_at w c.args.client) (requests.Ask c.args.ask) (λ d. tt))

pub returns-clause-kept : goal.returns-clause-kept
returns-clause-kept g c w h = c.call.ensures.kept w h

pub returns-clause-cause : goal.returns-clause-cause
returns-clause-cause g c = c.call.ensures.cause

pub returns-clause-plans : goal.returns-clause-plans
returns-clause-plans g c n below = c.call.ensures.plans n below
