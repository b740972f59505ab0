use Rattle.std.proofs.Common.{◌++◌, ◌∷◌, List, [], ap, ◌∙◌}
use Rattle.stab_base.specs.declared.node.Node.TheVariants as nodes
use Rattle.step_tables.specs.Facts.{Fact}
use Rattle.step_tables.specs.Messages.{Send}
use Rattle.world_tables.specs.World.{packets_from}
use Rattle.journal_host.specs.Holds.{outs_in, outbox_of, said}
use Rattle.journal_host.proofs.hosted.tell.Goals as goal

pub returns-clause-told : goal.returns-clause-told
returns-clause-told g c cut s t =
    let k = c.take_out-out.ensures in
    record {
      behind = record { client = k.kept s.client t.client; number = k.same.number ∙ t.number; linked = k.same.linked ∙ t.linked; told = k.told; sent = k.sent };
      outs = λ owners. c.put.ensures owners
          ∙ (ap (λ (l : List Fact). outs_in owners c.args.outs.now.items ++ said (record (outbox_of owners (record { client = c.args.client; out = c.take_out-out.result })) { facts = l } ∷ [])) (k.facts ∙ t.told)
          ∙ ap (λ (l : List Send). outs_in owners c.args.outs.now.items ++ said (record { facts = s.facts; packets = packets_from owners (nodes.Client c.args.client) l } ∷ [])) (k.messages ∙ t.sent));
    }

pub returns-clause-plans : goal.returns-clause-plans
returns-clause-plans g c n below = c.take_out-out.ensures.plans n below

pub returns-clause-phases : goal.returns-clause-phases
returns-clause-phases g c = c.take_out-out.ensures.phases
