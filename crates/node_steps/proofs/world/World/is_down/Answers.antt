use Rattle.std.proofs.Common.{sym, ◌∙◌, ap, subst}
use Rattle.std.specs.Prelude.{not}
use Rattle.stab_base.specs.declared.node.Node.{Node}
use Rattle.world_tables.specs.World.{is_down}
use Rattle.journal_host.proofs.Cuts.{not_not}
use Rattle.node_steps.specs.Holds.{IsUpStore}
use Rattle.node_steps.proofs.Done.{up_now}
use Rattle.node_steps.proofs.world.World.is_down.Goals as goal

pub returns-in-Store-clause-held : goal.returns-in-Store-clause-held
returns-in-Store-clause-held g c w h =
    ap not (c.is_up.ensures.held w h.store) ∙ (sym (not_not _) ∙ ap (λ (n : Node). is_down w n) (sym c.in-Store.is))

pub returns-in-Store-clause-up : goal.returns-in-Store-clause-up
returns-in-Store-clause-up g c is =
    subst (λ (n : Node). IsUpStore c.args.self.now.store n) (sym c.in-Store.is) (sym c.is_up.ensures.up ∙ up_now c.is_up.result is)
