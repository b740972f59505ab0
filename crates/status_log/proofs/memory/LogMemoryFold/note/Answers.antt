use Rattle.std.proofs.Common.{◌≡◌, Option, sym, ◌∙◌, ap, subst}
use Rattle.status_log.specs.declared.payload.Change.TheVariants.{Open, Close, Nothing}
use Rattle.status_log.specs.Entry.{Entry}
use Rattle.status_log.specs.Payload.{without}
use Rattle.status_log.specs.Memory.{Says, IsOpening}
use Rattle.status_log.proofs.Steps.{step_open, step_close, step_nothing}
use Rattle.status_log.proofs.memory.LogMemoryFold.note.Goals as goal

pub returns-in_ok-reserve-in-Open-clause-noted : goal.returns-in_ok-reserve-in-Open-clause-noted
returns-in_ok-reserve-in-Open-clause-noted c list at fit =
    let is : c.args.change ≡ Open c.in-Open.opening = c.in-Open.is in
    let said : IsOpening c.args.payload.now c.in-Open.opening = subst (Says c.args.payload.now) is c.requires in
    record { pending = step_open list c.args.payload.now _ said.entry ∙ sym c.open.ensures.pending }

pub returns-in-Close-clause-noted : goal.returns-in-Close-clause-noted
returns-in-Close-clause-noted c list at fit =
    let is : c.args.change ≡ Close c.in-Close.version = c.in-Close.is in
    let said : Says c.args.payload.now (Close c.in-Close.version) = subst (Says c.args.payload.now) is c.requires in
    record { pending = step_close list c.args.payload.now c.in-Close.version said.0 said.1 ∙ (ap (λ (o : Option Entry). without o c.in-Close.version) fit.pending ∙ sym c.close.ensures.closed) }

pub returns-in-Nothing-clause-noted : goal.returns-in-Nothing-clause-noted
returns-in-Nothing-clause-noted c list at fit =
    let is : c.args.change ≡ Nothing = c.in-Nothing.is in
    let said : Says c.args.payload.now Nothing = subst (Says c.args.payload.now) is c.requires in
    record { pending = step_nothing list c.args.payload.now said.0 said.1 ∙ fit.pending }
