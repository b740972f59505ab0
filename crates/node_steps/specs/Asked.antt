-- The calls among the events of a script, but for pulls.
use Rattle.std.specs.Prelude.{ℕ, Option, Some, None}
use Rattle.table_model.specs.declared.event.Event.{Event}
use Rattle.table_model.specs.declared.event.Event.TheVariants as events
use Rattle.journal_host.specs.declared.asking.Ask.{Ask}
use Rattle.journal_host.specs.declared.asking.Ask.TheVariants as asks

-- what an event asks of which client
abbrev pub ask_of : Event → Option (ℕ × Ask)
ask_of (events.Write client table row content) = Some (client, asks.Write table row content)
ask_of (events.Edit client table row edit) = Some (client, asks.Edit table row edit)
ask_of (events.Show client table row) = Some (client, asks.Show table row)
ask_of (events.Sum client table row) = Some (client, asks.Sum table row)
ask_of (events.Sync client table) = Some (client, asks.Sync table)
ask_of (events.BeginCr client table) = Some (client, asks.BeginCr table)
ask_of (events.EndCr client table) = Some (client, asks.EndCr table)
ask_of (events.Resolve client table row seen choice) = Some (client, asks.Resolve table row seen choice)
ask_of other = None
