use Rattle.std.proofs.Common.{List, sym, ◌∙◌, ap}
use Rattle.assemblies.specs.Gathering.{Slot}
use Rattle.message_parts.specs.Parts.{fragment_of}
use Rattle.part_tables.specs.StoreParts.{Gathering}
use Rattle.part_store.specs.Gathered.{head_in, gathering_in}
use Rattle.part_store.proofs.Finds.{grown_none}
use Rattle.part_store.proofs.waiting.Waiting.take.Goals as goal

pub returns-then-not-take-clause-grown : goal.returns-then-not-take-clause-grown
returns-then-not-take-clause-grown c =
    let make : List Slot → Gathering = λ slots. record { head = head_in c.args.self.now.head; slots = slots } in
    grown_none (fragment_of c.args.f) (gathering_in c.args.self.now) _ (ap make c.take.ensures.slots) (sym c.take.ensures.took ∙ c.if-not-take.true)
