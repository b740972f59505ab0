-- What comes from the Store, as what comes to a row's slots.
use Rattle.std.specs.Prelude.{ℕ, List, [], ◌∷◌, Option, Some, None, option_map, option_to_list, IfSome}
use Rattle.table_model.specs.declared.message.Outcome.{Outcome as RowOutcome}
use Rattle.table_model.specs.declared.message.Outcome.TheVariants as rows
use Rattle.table_model.specs.declared.message.Yours.{Yours as RowYours}
use Rattle.held_value.specs.declared.local_name.LocalName.{LocalName}
use Rattle.held_value.specs.declared.slots.Out.{Out as HeldOut}
use Rattle.held_value.specs.declared.slots.Slots.{Slots as HeldSlots}
use Rattle.client_tables.specs.declared.change.Change.{Change}
use Rattle.client_tables.specs.declared.change.Sending.{Sending}
use Rattle.client_tables.specs.declared.change.Sending.TheVariants as sends
use Rattle.client_journal.specs.Devs.{ClientDevs}
use Rattle.step_tables.specs.declared.message.Outcome.{Outcome}
use Rattle.step_tables.specs.declared.message.Outcome.TheVariants as outcomes
use Rattle.step_tables.specs.declared.message.Yours.{Yours}
use Rattle.step_tables.specs.Messages.{Send}
use Rattle.step_tables.specs.ClientMoves.{request_for, pull_from}
use Rattle.journal_laws.specs.Whole.{whole_out}
use Rattle.held_contents.specs.Reading.{AreThere}

abbrev pub outcome_in : Outcome → RowOutcome
outcome_in (outcomes.Accepted version) = rows.Accepted version
outcome_in (outcomes.Again version) = rows.Again version
outcome_in (outcomes.Late last) = rows.Late last
outcome_in (outcomes.Stale latest) = rows.Stale latest
outcome_in (outcomes.Conflict latest) = rows.Conflict latest
outcome_in outcomes.NeedWhole = rows.NeedWhole

-- the write that waits for its answer in new slots
abbrev pub out_behind : Option HeldSlots → Option HeldOut
out_behind None = None
out_behind (Some slots) = slots.out

-- the chunks of a write that waits, if there is one, are there
abbrev pub IsThere : (LocalName → List ℕ) → ClientDevs → Option HeldOut → Type 0
IsThere meaning d out = IfSome out (λ out. AreThere meaning d out.content)

-- its request, where the names stand for this
abbrev pub request_behind : (LocalName → List ℕ) → ℕ → ℕ → List ℕ → Option HeldOut → List Send
request_behind meaning c table row out = option_to_list (option_map (λ out. request_for c table row (whole_out meaning out)) out)

-- what a change of a row's slots asks the Store for, at this position of the table
abbrev pub asked_for : (LocalName → List ℕ) → ℕ → ℕ → List ℕ → ℕ → Option HeldOut → Sending → List Send
asked_for meaning c table row position out sends.Nothing = []
asked_for meaning c table row position out sends.Request = request_behind meaning c table row out
asked_for meaning c table row position out sends.Pull = pull_from c table position ∷ []

abbrev pub asked_by : (LocalName → List ℕ) → ℕ → ℕ → List ℕ → ℕ → Change → List Send
asked_by meaning c table row position change =
    asked_for meaning c table row position (out_behind change.slots) change.sends

abbrev pub yours_in : Yours → RowYours
yours_in yours = record { number = yours.number; version = yours.version }
