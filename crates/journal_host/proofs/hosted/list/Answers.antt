use Rattle.std.proofs.Common.{◌≡◌, inl, inr, true, false, refl, sym, ◌∙◌}
use Rattle.table_model.specs.declared.line.Answer.TheVariants as answers
use Rattle.table_model.specs.declared.line.Refusal.TheVariants as refusals
use Rattle.stab_base.specs.declared.node.Node.TheVariants as nodes
use Rattle.step_tables.specs.ClientMoves.{Conflicts}
use Rattle.client_node.specs.Phases.{is_open}
use Rattle.journal_host.specs.Steps.{IsMade, IsListing, IsShut}
use Rattle.journal_host.proofs.NodeCalls.{ends_none, listed_where}
use Rattle.journal_host.proofs.hosted.list.Goals as goal

pub list_guarded-requires : goal.list_guarded-requires
list_guarded-requires g c = record { node = c.requires; up = sym c.is_up.ensures ∙ c.if-is_up.true }

pub returns-then-is_up-clause-listed : goal.returns-then-is_up-clause-listed
returns-then-is_up-clause-listed g c =
    listed_where (c.args.node.now.is_up ≡ true) g.D.Disk.state c.args.client c.args.node.now c.list_guarded.new.node c.args.outs.now.items c.list_guarded.new.outs.items c.list_guarded.new.pairs
    c.list_guarded.result c.args.pairs.now
    (λ cut s answer. IsShut s (Conflicts c.args.table) false
    × IsListing g.D.Disk.state (is_open c.args.node.now) cut c.args.client s c.args.table c.list_guarded.new.node c.args.outs.now.items c.list_guarded.new.outs.items c.list_guarded.new.pairs answer)
    (λ cut s answer. IsMade g.D.Disk.state (is_open c.args.node.now) cut c.args.client s (Conflicts c.args.table) c.list_guarded.new.node c.args.outs.now.items c.list_guarded.new.outs.items answer)
    c.list_guarded.ensures

pub returns-then-is_up-clause-down : goal.returns-then-is_up-clause-down
returns-then-is_up-clause-down g c down = let up = sym c.is_up.ensures ∙ c.if-is_up.true in absurd cc

pub returns-clause-listed : goal.returns-clause-listed
returns-clause-listed g c = let down = sym c.is_up.ensures ∙ c.if-is_up.false in record {
  listed = λ cut s h. inr (refl, inl (λ up. absurd cc));
  spent = λ cut s n h below. tt;
  phases = λ up. refl;
  ends = ends_none g.D.Disk.state c.args.client c.args.node.now c.args.outs.now.items (answers.Refused (refusals.Down (nodes.Client c.args.client))) (λ bad. absurd cc);
}

pub returns-clause-down : goal.returns-clause-down
returns-clause-down g c down = (refl, refl, refl, refl)
