use Rattle.std.proofs.Common.{◌≡◌, inl, inr, true, Some, refl, sym, ◌∙◌}
use Rattle.table_model.specs.declared.line.Answer.TheVariants as answers
use Rattle.table_model.specs.declared.line.Refusal.TheVariants as refusals
use Rattle.stab_base.specs.declared.node.Node.TheVariants as nodes
use Rattle.client_node.specs.Phases.{is_open}
use Rattle.step_tables.specs.Facts as facts
use Rattle.journal_host.specs.Asks.{asked_by}
use Rattle.journal_host.specs.Steps.{IsMade}
use Rattle.journal_host.proofs.Phased.{refusal_leaves}
use Rattle.journal_host.proofs.NodeCalls.{ends_none, asked_where}
use Rattle.journal_host.proofs.hosted.call.Goals as goal

pub call_guarded-requires : goal.call_guarded-requires
call_guarded-requires g c = record { node = c.requires.node; up = sym c.is_up.ensures ∙ c.if-is_up.true; may = c.requires.may }

pub returns-then-is_up-clause-asked : goal.returns-then-is_up-clause-asked
returns-then-is_up-clause-asked g c =
    asked_where (c.args.node.now.is_up ≡ true) g.D.Disk.state c.args.client c.args.node.now c.call_guarded.new.node c.args.outs.now.items c.call_guarded.new.outs.items c.call_guarded.new.pairs
    c.call_guarded.result c.args.request
    (λ cut s answer. IsMade g.D.Disk.state (is_open c.args.node.now) cut c.args.client s (asked_by (Some s) c.args.request) c.call_guarded.new.node c.args.outs.now.items c.call_guarded.new.outs.items answer)
    c.call_guarded.ensures

pub returns-then-is_up-clause-down : goal.returns-then-is_up-clause-down
returns-then-is_up-clause-down g c down = let up = sym c.is_up.ensures ∙ c.if-is_up.true in absurd cc

pub returns-clause-asked : goal.returns-clause-asked
returns-clause-asked g c = let down = sym c.is_up.ensures ∙ c.if-is_up.false in record {
  made = λ cut s h fits. inl (λ up. absurd cc);
  dropped = λ cut s h unfit. inr (inl (λ up. absurd cc));
  spent = λ cut s n h below fits. tt;
  pairs = λ cut s count h is. absurd cc;
  phases = λ s up table. sym (refusal_leaves (asked_by s c.args.request) (facts.NodeDown (nodes.Client c.args.client)) (is_open c.args.node.now) table);
  ends = ends_none g.D.Disk.state c.args.client c.args.node.now c.args.outs.now.items (answers.Refused (refusals.Down (nodes.Client c.args.client))) (λ bad. absurd cc);
}

pub returns-clause-down : goal.returns-clause-down
returns-clause-down g c down = (refl, refl, refl)
