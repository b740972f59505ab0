-- What each event makes of a gateway. It holds sessions and timers in memory alone.
use Rattle.std.specs.Prelude.{ℕ, ◌+◌, ◌*◌, Bool, true, false, ◌==◌, ◌&&◌, ◌||◌, not, nat_lt, if◌then◌else◌, List, []}
use Rattle.std.specs.Prelude.{◌∷◌, ◌++◌, map, Option, Some, None, is_some, option_to_list}
use Rattle.std.specs.Ordering.{nat_cmp}
use Rattle.std.specs.Map.{lookup, remove_entry}
use Rattle.std.specs.BTreeMap.{is_at, insert_entry}
use Rattle.stab_base.specs.declared.node.Node.{Node}
use Rattle.stab_base.specs.declared.node.Node.TheVariants as nodes
use Rattle.row_value.specs.declared.schema.Scheme.{Scheme}
use Rattle.row_value.specs.declared.schema.Scheme.TheVariants.{Strong, Causal, Eventual}
use Rattle.table_model.specs.declared.message.TableSubscription.{TableSubscription}
use Rattle.table_model.specs.declared.message.OperationResponse.{OperationResponse}
use Rattle.table_model.specs.declared.message.Message.{Message}
use Rattle.table_model.specs.declared.message.Message.TheVariants as messages
use Rattle.gate_tables.specs.declared.timer.Timer.{Timer}
use Rattle.gate_tables.specs.declared.timer.Placed.{Placed}
use Rattle.gate_tables.specs.declared.timer.Asked.{Asked}
use Rattle.gate_tables.specs.declared.timer.Wish.{Wish}
use Rattle.gate_tables.specs.declared.timer.Wish.TheVariants as wishes
use Rattle.gate_tables.specs.Timers.{Timers, timer_of, as_counted, as_marked, each, after_firing, told, as_fired}
use Rattle.gate_tables.specs.Timers.{bitmap}

-- ---- what a gateway holds

pub record Session : Type 0 where
  pub token : ℕ
  pub timers : Timers

-- since it started: how many tokens it has drawn, and its sessions by rising client
pub record Running : Type 0 where
  pub drawn : ℕ
  pub sessions : List (ℕ × Session)

-- how often it has started, and what it holds where it is up
pub record Gateway : Type 0 where
  pub starts : ℕ
  pub running : Option Running

-- where tables are, by rising table, and the Stores that own one, by rising number
pub record Directory : Type 0 where
  pub tables : List (ℕ × Placed)
  pub owners : List ℕ

abbrev pub placed : Directory → ℕ → Option Placed
placed directory table = lookup (is_at (nat_cmp table)) directory.tables

abbrev pub session_of : Running → ℕ → Option Session
session_of running client = lookup (is_at (nat_cmp client)) running.sessions

abbrev pub with_session : Running → ℕ → Session → Running
with_session running client session = record running { sessions = insert_entry nat_cmp running.sessions client session }

abbrev pub with_timer : Session → ℕ → Timer → Session
with_timer session table timer = record session { timers = insert_entry nat_cmp session.timers table timer }

abbrev pub without_timer : Session → ℕ → Session
without_timer session table = record session { timers = remove_entry (is_at (nat_cmp table)) session.timers }

-- ---- what it sends

abbrev pub Sends : Type 0
Sends = List (Node × Message)

-- what is held afterwards, and what is sent
pub record Done : Type 0 where
  pub running : Running
  pub sends : Sends

abbrev pub quiet : Running → Done
quiet running = record { running = running; sends = [] }

abbrev pub answer : ℕ → ℕ → ℕ → ℕ → ℕ → Node × Message
answer client table kind status token = (
  nodes.Client client,
  messages.OperationResponse (record {
    client = client;
    table = table;
    answered = kind;
    status = status;
    token = token;
    schema = None;
  }),
)

abbrev pub notify : ℕ → ℕ → Node × Message
notify client tables = (nodes.Client client, messages.Notify (record { client = client; bitmap = tables }))

-- ---- a client's messages

-- a session of its own, whatever it had before
abbrev pub token_of : ℕ → ℕ → ℕ
token_of starts drawn = starts * 4294967296 + drawn

abbrev pub asks : ℕ → ℕ → ℕ → Node × Message
asks number client store = (
  nodes.Store store,
  messages.RestoreClientSubscriptions (record {
    client = client;
    gate = number;
    reply = false;
    subscriptions = [];
  }),
)

-- how many tokens a gateway draws between two starts, at most
abbrev pub tokens : ℕ
tokens = 4294967295

abbrev pub has_token_left : Running → Bool
has_token_left running = nat_lt running.drawn tokens

abbrev pub drawing : Directory → ℕ → ℕ → Running → ℕ → Done
drawing directory number starts running client =
    let drawn = running.drawn + 1 in
    let token = token_of starts drawn in
    record {
      running = record {
        drawn = drawn;
        sessions = insert_entry nat_cmp running.sessions client (record { token = token; timers = [] });
      };
      sends = answer client 0 1 0 token ∷ map (asks number client) directory.owners;
    }

-- nothing where the last token is drawn
abbrev pub registered : Directory → ℕ → ℕ → Running → ℕ → Done
registered directory number starts running client =
    if has_token_left running then drawing directory number starts running client else quiet running

-- a client asks for a session, and the last token is drawn
abbrev pub is_spent : Running → Node → Message → Bool
is_spent running (nodes.Client client) (messages.RegisterDevice m) = not (has_token_left running)
is_spent running from message = false

abbrev pub ask_of : ℕ → ℕ → ℕ → ℕ → Wish → Option Asked
ask_of client token table kind wish =
    Some (record { client = client; token = token; table = table; kind = kind; wish = wish })

-- what a client's message asks of the owner of a table; None of every other message
abbrev pub asked : Message → Option Asked
asked (messages.RegisterDevice m) = None
asked (messages.CreateTable m) = ask_of m.client m.token m.table 2 wishes.Pass
asked (messages.DropTable m) = ask_of m.client m.token m.table 3 wishes.Pass
asked (messages.SubscribeTable m) = ask_of m.client m.token m.table 4 (wishes.Subscribe m.period m.tolerance)
asked (messages.UnsubscribeTable m) = ask_of m.client m.token m.table 5 wishes.Unsubscribe
asked (messages.Notify m) = None
asked (messages.ObjectFragment m) = if m.down then None else ask_of m.client m.token m.table 7 wishes.Pass
asked (messages.PullRequest m) = ask_of m.client m.token m.table 8 wishes.Pass
asked (messages.PullResponse m) = None
asked (messages.SyncRequest m) = ask_of m.client m.token m.table 10 wishes.Pass
asked (messages.SyncResponse m) = None
asked (messages.TornRowRequest m) = ask_of m.client m.token m.table 12 wishes.Pass
asked (messages.TornRowResponse m) = None
asked (messages.OperationResponse m) = None
asked (messages.SaveClientSubscription m) = None
asked (messages.RestoreClientSubscriptions m) = None
asked (messages.TableVersionUpdateNotification m) = None

abbrev pub has_token : Option Session → ℕ → Bool
has_token None token = false
has_token (Some session) token = session.token == token

abbrev pub saved : ℕ → Asked → Bool → ℕ → ℕ → Message
saved number a on period tolerance = messages.SaveClientSubscription (record {
  client = a.client;
  gate = number;
  table = a.table;
  on = on;
  period = period;
  tolerance = tolerance;
})

-- the message that goes to the owner: the client's own, or what its subscription is
abbrev pub passed : ℕ → Asked → Wish → Message → Message
passed number a wishes.Pass message = message
passed number a (wishes.Subscribe period tolerance) message = saved number a true period tolerance
passed number a wishes.Unsubscribe message = saved number a false 0 0

-- what a client's message makes of its session's timers
abbrev pub wished : Running → Asked → Session → Wish → Running
wished running a session wishes.Pass = running
wished running a session (wishes.Subscribe period tolerance) =
    with_session running a.client (with_timer session a.table (timer_of period tolerance false))
wished running a session wishes.Unsubscribe = with_session running a.client (without_timer session a.table)

abbrev pub refused : Running → Asked → ℕ → Done
refused running a status =
    record { running = running; sends = answer a.client a.table a.kind status a.token ∷ [] }

abbrev pub goes_on : ℕ → Running → Asked → Session → Placed → Message → Done
goes_on number running a session place message = record {
  running = wished running a session a.wish;
  sends = (nodes.Store place.owner, passed number a a.wish message) ∷ [];
}

-- to the owner, where the table is in the directory
abbrev pub to_owner : ℕ → Running → Asked → Session → Message → Option Placed → Done
to_owner number running a session message None = refused running a 18
to_owner number running a session message (Some place) = goes_on number running a session place message

-- for a session of the message's token alone
abbrev pub by_session : Directory → ℕ → Running → Asked → Message → Option Session → Done
by_session directory number running a message None = refused running a 19
by_session directory number running a message (Some session) =
    if session.token == a.token then to_owner number running a session message (placed directory a.table)
    else refused running a 19

abbrev pub by_asked : Directory → ℕ → Running → Message → Option Asked → Done
by_asked directory number running message None = quiet running
by_asked directory number running message (Some a) =
    by_session directory number running a message (session_of running a.client)

abbrev pub from_client : Directory → ℕ → Running → Message → Done
from_client directory number running message = by_asked directory number running message (asked message)

-- ---- a Store's messages

-- the client that a Store's message is for; None of every other message
abbrev pub client_of : Message → Option ℕ
client_of (messages.RegisterDevice m) = None
client_of (messages.CreateTable m) = None
client_of (messages.DropTable m) = None
client_of (messages.SubscribeTable m) = None
client_of (messages.UnsubscribeTable m) = None
client_of (messages.Notify m) = None
client_of (messages.ObjectFragment m) = if m.down then Some m.client else None
client_of (messages.PullRequest m) = None
client_of (messages.PullResponse m) = Some m.client
client_of (messages.SyncRequest m) = None
client_of (messages.SyncResponse m) = Some m.client
client_of (messages.TornRowRequest m) = None
client_of (messages.TornRowResponse m) = Some m.client
client_of (messages.OperationResponse m) = Some m.client
client_of (messages.SaveClientSubscription m) = None
client_of (messages.RestoreClientSubscriptions m) = None
client_of (messages.TableVersionUpdateNotification m) = None

-- an answer that refuses a subscription, or its end
abbrev pub refuses : OperationResponse → Bool
refuses m = (m.answered == 4 || m.answered == 5) && nat_lt 0 m.status

-- the table whose subscription a message refuses
abbrev pub refused_table : Message → Option ℕ
refused_table (messages.OperationResponse m) = if refuses m then Some m.table else None
refused_table message = None

-- a subscription that was refused has no timer
abbrev pub answered : Running → ℕ → Session → Option ℕ → Running
answered running client session None = running
answered running client session (Some table) = with_session running client (without_timer session table)

abbrev pub to_client : Running → ℕ → Message → Done
to_client running client message = elim (session_of running client) [
  | None ↦ quiet running
  | Some session ↦ record {
    running = answered running client session (refused_table message);
    sends = (nodes.Client client, message) ∷ [];
  }
]

-- subscriptions that a Store has kept: their timers are marked
abbrev pub restored : List TableSubscription → Session → Session
restored [] session = session
restored (s ∷ some) session = restored some (with_timer session s.table (timer_of s.period s.tolerance true))

abbrev pub restore : Running → ℕ → List TableSubscription → Done
restore running client some = elim (session_of running client) [
  | None ↦ quiet running
  | Some session ↦ quiet (with_session running client (restored some session))
]

-- ---- changes of a table

abbrev pub is_strong_scheme : Scheme → Bool
is_strong_scheme Strong = true
is_strong_scheme Causal = false
is_strong_scheme Eventual = false

abbrev pub is_strong : Option Placed → Bool
is_strong None = false
is_strong (Some place) = is_strong_scheme place.scheme

-- what each client is told, by rising client
abbrev pub notices : (Session → Option ℕ) → List (ℕ × Session) → Sends
notices tells [] = []
notices tells (e ∷ sessions) =
    map (λ tables. notify e.0 tables) (option_to_list (tells e.1)) ++ notices tells sessions

-- each session told so, and changed so
abbrev pub all_sessions : (Session → Option ℕ) → (Session → Session) → Running → Done
all_sessions tells changes running = record {
  running = record running { sessions = map (λ e. (e.0, changes e.1)) running.sessions };
  sends = notices tells running.sessions;
}

abbrev pub mark : ℕ → ℕ × Timer → ℕ × Timer
mark table e = (e.0, if e.0 == table then as_marked e.1 else e.1)

abbrev pub marked : ℕ → Timers → Timers
marked table timers = map (mark table) timers

-- whether a change of a table is told at once
abbrev pub fires_at_once : ℕ → Bool → Session → Bool
fires_at_once table strong session = strong && is_some (lookup (is_at (nat_cmp table)) session.timers)

-- a client's timer of a table that has changed is marked; of a strong table it fires at once, with all that are marked
abbrev pub after_change : ℕ → Bool → Session → Session
after_change table strong session = record session {
  timers =
      if fires_at_once table strong session then each as_fired (marked table session.timers)
      else marked table session.timers;
}

abbrev pub told_of_change : ℕ → Bool → Session → Option ℕ
told_of_change table strong session =
    if fires_at_once table strong session then Some (bitmap (marked table session.timers)) else None

abbrev pub changed : Directory → Running → ℕ → Done
changed directory running table =
    let strong = is_strong (placed directory table) in
    all_sessions (told_of_change table strong) (after_change table strong) running

abbrev pub from_store : Directory → Running → Message → Done
from_store directory running (messages.TableVersionUpdateNotification m) = changed directory running m.table
from_store directory running (messages.RestoreClientSubscriptions m) =
    if m.reply then restore running m.client m.subscriptions else quiet running
from_store directory running message = elim (client_of message) [
  | None ↦ quiet running
  | Some client ↦ to_client running client message
]

-- ---- every event of a gateway that is up

-- a message from a client, and from a Store; nothing comes from gateways
abbrev pub taken : Directory → ℕ → ℕ → Running → Node → Message → Done
taken directory number starts running (nodes.Client client) (messages.RegisterDevice m) =
    registered directory number starts running m.client
taken directory number starts running (nodes.Client client) message = from_client directory number running message
taken directory number starts running (nodes.Store store) message = from_store directory running message
taken directory number starts running (nodes.Gate gate) message = quiet running

abbrev pub counted : Session → Timers
counted session = each as_counted session.timers

abbrev pub after_tick : Session → Session
after_tick session = record session { timers = after_firing (counted session) }

abbrev pub told_at_tick : Session → Option ℕ
told_at_tick session = told (counted session)

abbrev pub ticked : Running → Done
ticked running = all_sessions told_at_tick after_tick running

-- ---- crash and start

abbrev pub crashed : Gateway → Gateway
crashed gateway = record { starts = gateway.starts; running = None }

abbrev pub started : Gateway → ℕ → Gateway
started gateway starts = record { starts = starts; running = Some (record { drawn = 0; sessions = [] }) }
