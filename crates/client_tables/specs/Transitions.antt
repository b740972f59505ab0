-- The slots of a row behind an event, what is told and what is sent.
use Rattle.std.specs.Prelude.{ℕ, ◌==◌, nat_le, Bool, true, false, ◌&&◌, ◌||◌, is_some, is_none, List, [], ◌∷◌, ◌++◌}
use Rattle.std.specs.Prelude.{Option, Some, None, if◌then◌else◌}
use Rattle.row_value.specs.declared.pieces.Piece.{Piece}
use Rattle.row_value.specs.declared.schema.Scheme.{Scheme}
use Rattle.row_value.specs.declared.schema.Scheme.TheVariants.{Strong, Causal, Eventual}
use Rattle.table_model.specs.declared.message.Outcome.{Outcome}
use Rattle.table_model.specs.declared.message.Outcome.TheVariants as outcomes
use Rattle.table_model.specs.declared.message.Yours.{Yours}
use Rattle.held_value.specs.declared.content.HeldContent.{HeldContent}
use Rattle.held_value.specs.declared.slots.Main.{Main}
use Rattle.held_value.specs.declared.slots.Shadow.{Shadow}
use Rattle.held_value.specs.declared.slots.Out.{Out}
use Rattle.held_value.specs.declared.slots.Slots.{Slots}
use Rattle.held_value.specs.declared.tell.Tell.{Tell}
use Rattle.held_value.specs.declared.tell.Tell.TheVariants as tell
use Rattle.client_tables.specs.declared.change.Change.{Change}
use Rattle.client_tables.specs.declared.change.Sending.TheVariants as send
use Rattle.client_tables.specs.declared.resolving.HeldChoice.{HeldChoice}
use Rattle.client_tables.specs.declared.resolving.HeldChoice.TheVariants as choices
use Rattle.client_tables.specs.declared.header.Acknowledged.{Acknowledged}
use Rattle.client_tables.specs.Change.{unchanged, version_in, seen_in}
use Rattle.client_tables.specs.Names.{named, fresh_from}

-- ---- writes

-- in a causal or an eventual table the write is Main, and what it had read is Shadow
abbrev pub written : Slots → ℕ → HeldContent → Change
written slots number content =
    let read : ℕ = version_in slots.shadow in
    record {
      slots = Some (record slots { main = Some (record { number = number; read = read; content = content }) });
      tells = tell.Wrote number read ∷ [];
      sends = send.Nothing;
    }

-- in a strong table it is Out at once, over what it had read
abbrev pub written_strong : Slots → ℕ → HeldContent → List Piece → Change
written_strong slots number content pieces =
    let read : ℕ = version_in slots.shadow in
    record {
      slots = Some (record slots {
        out = Some (record {
          number = number;
          read = read;
          base = read;
          whole = false;
          content = content;
          pieces = pieces;
        });
      });
      tells = tell.Wrote number read ∷ [];
      sends = send.Request;
    }

-- ---- sending

abbrev pub can_send : Slots → Bool
can_send slots = is_some slots.main && is_none slots.out && is_none slots.conflict

abbrev pub sent_main : Slots → List Piece → Option Main → Change
sent_main slots pieces None = unchanged send.Nothing
sent_main slots pieces (Some main) = record {
  slots = Some (record slots {
    out = Some (record {
      number = main.number;
      read = main.read;
      base = version_in slots.shadow;
      whole = false;
      content = main.content;
      pieces = pieces;
    });
  });
  tells = [];
  sends = send.Request;
}

-- Out is Main over what was read
abbrev pub sent : Slots → List Piece → Change
sent slots pieces = sent_main slots pieces slots.main

-- ---- the answer to a request

-- Main is dropped where it is the write of this number
abbrev pub without : ℕ → Option Main → Option Main
without number None = None
without number (Some main) = if main.number == number then None else Some main

-- Out's write is what was read, at this version
abbrev pub accepted : Slots → Out → ℕ → Change
accepted slots out version = record {
  slots = Some (record {
    main = without out.number slots.main;
    shadow = Some (record { version = version; content = named version out.pieces out.content });
    out = None;
    conflict = slots.conflict;
  });
  tells = tell.Acked out.number version ∷ [];
  sends = send.Nothing;
}

abbrev pub refused : Slots → Out → ℕ → Change
refused slots out latest = record {
  slots = Some (record slots { out = None });
  tells = tell.Refused out.number latest ∷ [];
  sends = send.Pull;
}

-- it is sent again with all chunks, once
abbrev pub sent_whole : Slots → Out → Change
sent_whole slots out =
    if out.whole then unchanged send.Nothing
    else record {
      slots = Some (record slots { out = Some (record out { whole = true; pieces = fresh_from 0 out.pieces }) });
      tells = [];
      sends = send.Request;
    }

abbrev pub by_outcome : Slots → Out → Outcome → Change
by_outcome slots out (outcomes.Accepted version) = accepted slots out version
by_outcome slots out (outcomes.Again version) = accepted slots out version
by_outcome slots out (outcomes.Late last) = unchanged send.Nothing
by_outcome slots out (outcomes.Stale latest) = refused slots out latest
by_outcome slots out (outcomes.Conflict latest) = unchanged send.Pull
by_outcome slots out outcomes.NeedWhole = sent_whole slots out

abbrev pub answered_out : Slots → ℕ → Outcome → Option Out → Change
answered_out slots number outcome None = unchanged send.Nothing
answered_out slots number outcome (Some out) =
    if out.number == number then by_outcome slots out outcome else unchanged send.Nothing

-- an answer to another write than Out's changes nothing
abbrev pub answered : Slots → ℕ → Outcome → Change
answered slots number outcome = answered_out slots number outcome slots.out

-- ---- a row from the Store

-- a write of Out up to the client's last accepted number was accepted
abbrev pub acknowledged_out : Yours → Option Main → Option Out → Acknowledged
acknowledged_out yours main None = record { main = main; out = None; tells = [] }
acknowledged_out yours main (Some out) =
    if nat_le out.number yours.number
    then record { main = without out.number main; out = None; tells = tell.Acked out.number yours.version ∷ [] }
    else record { main = main; out = Some out; tells = [] }

abbrev pub acknowledged : Yours → Slots → Acknowledged
acknowledged yours slots = acknowledged_out yours slots.main slots.out

-- the row is what was read
abbrev pub read_row : Slots → Acknowledged → Shadow → Change
read_row slots acked row = record {
  slots = Some (record { main = acked.main; shadow = Some row; out = acked.out; conflict = slots.conflict });
  tells = acked.tells ++ tell.New row.version ∷ [];
  sends = send.Nothing;
}

abbrev pub number_in : Option Main → ℕ
number_in None = 0
number_in (Some main) = main.number

-- the row is in conflict with Main, and what was sent is given up
abbrev pub in_conflict : Slots → Acknowledged → Shadow → Change
in_conflict slots acked row = record {
  slots = Some (record { main = acked.main; shadow = slots.shadow; out = None; conflict = Some row });
  tells = acked.tells ++ tell.Conflict (number_in acked.main) row.version ∷ [];
  sends = send.Nothing;
}

abbrev pub is_eventual : Scheme → Bool
is_eventual Strong = false
is_eventual Causal = false
is_eventual Eventual = true

-- a row is read where no write is open, in an eventual table, and where it is the client's own write with no conflict
abbrev pub is_read : Scheme → Slots → Acknowledged → Yours → Shadow → Bool
is_read scheme slots acked yours row =
    is_none acked.main || is_eventual scheme || (is_none slots.conflict && (yours.version == row.version))

abbrev pub placed : Scheme → Slots → Acknowledged → Yours → Shadow → Change
placed scheme slots acked yours row =
    if is_read scheme slots acked yours row then read_row slots acked row else in_conflict slots acked row

-- a row that isn't newer than what was seen changes nothing
abbrev pub taken : Scheme → Slots → Yours → Shadow → Change
taken scheme slots yours row =
    if nat_le row.version (seen_in slots.conflict slots.shadow) then unchanged send.Nothing
    else placed scheme slots (acknowledged yours slots) yours row

-- ---- resolving

abbrev pub settled : Slots → Shadow → Option Main → List Tell → Change
settled slots row main told = record {
  slots = Some (record { main = main; shadow = Some row; out = slots.out; conflict = None });
  tells = told;
  sends = send.Nothing;
}

-- a new write over the row that was in conflict
abbrev pub rewritten : Slots → Shadow → Main → ℕ → HeldContent → Change
rewritten slots row main number content =
    settled slots row (Some (record { number = number; read = row.version; content = content }))
    (tell.Resolved main.number row.version ∷ tell.Wrote number row.version ∷ [])

abbrev pub by_choice : Slots → Shadow → Main → ℕ → HeldChoice → Change
by_choice slots row main number choices.Theirs = settled slots row None (tell.Resolved main.number row.version ∷ [])
by_choice slots row main number choices.Mine = rewritten slots row main number main.content
by_choice slots row main number (choices.New content) = rewritten slots row main number content

abbrev pub resolved_main : Slots → Shadow → ℕ → HeldChoice → Option Main → Change
resolved_main slots row number choice None = unchanged send.Nothing
resolved_main slots row number choice (Some main) = by_choice slots row main number choice

abbrev pub resolved_row : Slots → ℕ → HeldChoice → Option Shadow → Change
resolved_row slots number choice None = unchanged send.Nothing
resolved_row slots number choice (Some row) = resolved_main slots row number choice slots.main

-- without a conflict nothing changes
abbrev pub resolved : Slots → ℕ → HeldChoice → Change
resolved slots number choice = resolved_row slots number choice slots.conflict
