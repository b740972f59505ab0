use Rattle.std.proofs.Common.{sym, ◌∙◌}
use Rattle.journal_host.proofs.ReadyClients.{ready_up}
use Rattle.journal_host.proofs.hosted.is_ready.Goals.{then-is_linked, else-is_linked}
use Rattle.journal_host.proofs.hosted.is_ready.Goals as goal

pub returns-then-is_up : goal.returns-then-is_up
returns-then-is_up g c cut client s h = elim c.if-is_linked.branch [
  | then-is_linked w ↦ ready_up g.D.Disk.state cut client s c.args.node.now h (sym c.is_linked.ensures ∙ w.if-is_linked.true) (sym w.is_up.ensures ∙ (sym w.value-is ∙ c.if-is_up.true)) c.is_busy.result
      (c.is_busy.ensures s h.client)
  | else-is_linked w ↦ absurd (let bad = sym w.value-is ∙ c.if-is_up.true in cc bad)
]
