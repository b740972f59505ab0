-- What the table of a gateway keeps, in a gateway's own words.
use Rattle.std.specs.Prelude.{◌≡◌, ℕ, ◌+◌, ◌<◌, true, false, Some}
use Rattle.std.specs.List.{AllByRecursion}
use Rattle.stab_base.specs.declared.node.Node.{Node}
use Rattle.stab_base.specs.declared.node.Node.TheVariants as nodes
use Rattle.table_model.specs.declared.message.Message.{Message}
use Rattle.gate_tables.specs.declared.timer.Timer.{Timer}
use Rattle.gate_tables.specs.declared.timer.Placed.{Placed}
use Rattle.gate_tables.specs.declared.timer.Asked.{Asked}
use Rattle.gate_tables.specs.Gate.{Session, Running, Directory, placed, session_of, has_token, asked, passed}

abbrev pub IsToClient : Node × Message → Type 0
IsToClient (nodes.Client client, message) = Unit {0}
IsToClient (nodes.Gate gate, message) = ⊥
IsToClient (nodes.Store store, message) = ⊥

-- a client's message, where it asks something with a token that no session has
abbrev pub IsUnregistered : Running → Message → Type 0
IsUnregistered running message =
    (a : Asked) × (asked message ≡ Some a) × (has_token (session_of running a.client) a.token ≡ false)

-- goes to the owner of the table that it names: itself, or the subscription that it asks for
abbrev pub GoesToOwner : Directory → ℕ → Message → Node × Message → Type 0
GoesToOwner directory number message (nodes.Client client, sent) = Unit {0}
GoesToOwner directory number message (nodes.Gate gate, sent) = ⊥
GoesToOwner directory number message (nodes.Store store, sent) =
    (a : Asked) × (place : Placed) × (asked message ≡ Some a) × (placed directory a.table ≡ Some place)
    × (store ≡ place.owner) × (sent ≡ passed number a a.wish message)

-- no timer that is marked has waited for its period and its tolerance
abbrev pub Waits : ℕ × Timer → Type 0
Waits e = e.1.marked ≡ true → e.1.count < e.1.period + e.1.tolerance

abbrev pub AllWait : ℕ × Session → Type 0
AllWait e = AllByRecursion Waits e.1.timers
