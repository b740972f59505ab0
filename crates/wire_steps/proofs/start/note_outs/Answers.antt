use Rattle.std.proofs.Common.{ℕ, List, sym, ◌∙◌, ap, subst}
use Rattle.node_steps.specs.declared.told.Outs.{Outs}
use Rattle.wire_tables.specs.Wire.{noting, torn_told}
use Rattle.part_client.specs.Keeping.{Keeps}
use Rattle.wire_steps.specs.Sending.{outs_of}
use Rattle.wire_steps.proofs.Started.{store_torn}
use Rattle.wire_steps.proofs.start.note_outs.Goals as goal

pub returns-in-OfStore : goal.returns-in-OfStore
returns-in-OfStore c owners a k =
    subst (λ (torn : List (ℕ × List ℕ)). Keeps c.args.it.now (noting torn a))
    (sym (ap (λ (o : Outs). torn_told (outs_of owners o)) c.in-OfStore.is ∙ store_torn c.in-OfStore.field-0)) k
