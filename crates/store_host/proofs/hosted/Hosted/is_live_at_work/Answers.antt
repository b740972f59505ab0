use Rattle.std.proofs.Common.{sym, ap, ◌∙◌}
use Rattle.std.specs.Prelude.{◌&&◌}
use Rattle.table_model.specs.declared.table_state.TableState.{TableState}
use Rattle.store_node.specs.Node.{has_task}
use Rattle.world_tables.specs.World.{is_live_state}
use Rattle.store_host.proofs.Hosting.{live_work, down_work}
use Rattle.store_host.proofs.hosted.Hosted.is_live_at_work.Goals as goal

pub returns-in-Some-Live : goal.returns-in-Some-Live
returns-in-Some-Live g c s t =
    live_work s.disk s.agenda c.in-Some-Live.field-0 c.is_busy.result (sym c.in-Some-Live.is ∙ c.state.ensures s t)
    (c.is_busy.ensures s t ∙ ap (λ (l : TableState). is_live_state l && has_task s.agenda) (sym c.in-Some-Live.field-0-is))

pub returns-in-Some-Draft : goal.returns-in-Some-Draft
returns-in-Some-Draft g c s t =
    live_work s.disk s.agenda c.in-Some-Draft.field-0 _ (sym c.in-Some-Draft.is ∙ c.state.ensures s t)
    (ap (λ (l : TableState). is_live_state l && has_task s.agenda) (sym c.in-Some-Draft.field-0-is))

pub returns-in-Some-Dropped : goal.returns-in-Some-Dropped
returns-in-Some-Dropped g c s t =
    live_work s.disk s.agenda c.in-Some-Dropped.field-0 _ (sym c.in-Some-Dropped.is ∙ c.state.ensures s t)
    (ap (λ (l : TableState). is_live_state l && has_task s.agenda) (sym c.in-Some-Dropped.field-0-is))

pub returns-in-None : goal.returns-in-None
returns-in-None g c s t = down_work s.disk s.agenda (sym c.in-None.is ∙ c.state.ensures s t)
