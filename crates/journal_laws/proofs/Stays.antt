-- Held slots stay held, whatever comes.
use Rattle.std.proofs.Common.{◌≡◌, ℕ, suc, ◌+◌, ◌≤◌, Bool, true, false, List, [], ◌∷◌, length, take, drop, Option, Some, None, refl, sym, ◌∙◌, ap, arith}
use Rattle.std.specs.Prelude.{◌==◌, nat_le, IfSome, if◌then◌else◌}
use Rattle.std.specs.List.{concat, AllByRecursion}
use Rattle.std.proofs.lemmas.List.{length-take, length-drop}
use Rattle.row_value.specs.declared.pieces.Piece.{Piece}
use Rattle.row_value.specs.declared.schema.Scheme.{Scheme}
use Rattle.table_model.specs.declared.message.Outcome.{Outcome}
use Rattle.table_model.specs.declared.message.Outcome.TheVariants as outcomes
use Rattle.table_model.specs.declared.message.Yours.{Yours}
use Rattle.held_value.specs.declared.local_name.LocalName.{LocalName}
use Rattle.held_value.specs.declared.content.HeldObject.{HeldObject}
use Rattle.held_value.specs.declared.content.HeldContent.{HeldContent}
use Rattle.held_value.specs.declared.content.HeldContent.TheVariants as contents
use Rattle.held_value.specs.declared.slots.Main.{Main as HeldMain}
use Rattle.held_value.specs.declared.slots.Shadow.{Shadow as HeldShadow}
use Rattle.held_value.specs.declared.slots.Out.{Out as HeldOut}
use Rattle.held_value.specs.declared.slots.Slots.{Slots as HeldSlots}
use Rattle.held_value.specs.declared.tell.Tell.{Tell}
use Rattle.held_value.specs.declared.tell.Tell.TheVariants as tell
use Rattle.client_tables.specs.declared.change.Sending.TheVariants as send
use Rattle.client_tables.specs.declared.resolving.HeldChoice.{HeldChoice}
use Rattle.client_tables.specs.declared.resolving.HeldChoice.TheVariants as choices
use Rattle.client_tables.specs.Change.{after, unchanged, seen_in}
use Rattle.client_tables.specs.Names.{named, named_objects, fresh_from}
use Rattle.client_tables.specs.Transitions.{sent, without, accepted, by_outcome, answered_out, acknowledged, read_row, in_conflict, is_read, placed, taken, resolved_row}
use Rattle.client_tables.specs.Kept.{SlotEvent, Write, WriteStrong, Send, Answer, Row, Resolve, slots_behind}
use Rattle.client_journal.specs.Names.{names_of_objects, names_of}
use Rattle.journal_laws.specs.Whole.{HasLen, HaveLens, SpellsAll, AreHeld}
use Rattle.journal_laws.specs.Moves.{HoldsChoice, HoldsEvent}
use Rattle.journal_laws.proofs.Transitions.{named_bytes, names_count}

fresh_len : (first : ℕ) (pieces : List Piece) → length (fresh_from first pieces) ≡ length pieces
fresh_len first [] = refl
fresh_len first (piece ∷ pieces) = ap suc (fresh_len (first + 1) pieces)

module _ (meaning : LocalName → List ℕ) where
  -- the Store's names change no length
  objects_named : (version : ℕ) (pieces : List Piece) (os : List HeldObject) → length (names_of_objects os) ≤ length pieces → AllByRecursion (HasLen meaning) os
      → AllByRecursion (HasLen meaning) (named_objects version pieces os)
  objects_named version pieces [] lt h = tt
  objects_named version pieces (o ∷ os) lt h =
      let front : length o.pieces ≤ length (take (length o.pieces) pieces) = omega (arith, names_count o os, lt, length-take (length o.pieces) pieces) in
      let rest : length (names_of_objects os) ≤ length (drop (length o.pieces) pieces) = omega (arith, names_count o os, lt, length-drop (length o.pieces) pieces) in (
        h.0 ∙ ap (λ (l : List (List ℕ)). length (concat l)) (sym (named_bytes meaning version (take (length o.pieces) pieces) o.pieces front)),
        objects_named version (drop (length o.pieces) pieces) os rest h.1,
      )

  content_named : (version : ℕ) (pieces : List Piece) (content : HeldContent) → length (names_of content) ≤ length pieces → HaveLens meaning content → HaveLens meaning (named version pieces content)
  content_named version pieces contents.Gone lt h = tt
  content_named version pieces (contents.Row some objects) lt h = objects_named version pieces objects lt h

  abbrev MainHolds : Option HeldMain → Type 0
  MainHolds o = IfSome o (λ main. HaveLens meaning main.content)

  abbrev ShadowHolds : Option HeldShadow → Type 0
  ShadowHolds o = IfSome o (λ shadow. HaveLens meaning shadow.content)

  abbrev OutHolds : Option HeldOut → Type 0
  OutHolds o = IfSome o (λ out. HaveLens meaning out.content)

  abbrev held_of : Option HeldMain → Option HeldShadow → Option HeldOut → Option HeldShadow → HeldSlots
  held_of m s o k = record { main = m; shadow = s; out = o; conflict = k }

  without_holds : (n : ℕ) (m : Option HeldMain) → MainHolds m → MainHolds (without n m)
  without_holds n None h = tt
  without_holds n (Some main) h = pick (main.number == n)
    where
      pick : (b : Bool) → MainHolds (if b then None else Some main)
      pick true = tt
      pick false = h

  -- ---- by each event

  sends_hold : (m : Option HeldMain) (s : Option HeldShadow) (o : Option HeldOut) (k : Option HeldShadow) (pieces : List Piece) → AreHeld meaning (held_of m s o k)
      → HoldsEvent meaning (held_of m s o k) (Send pieces)
      → AreHeld meaning (after (held_of m s o k) (sent (held_of m s o k) pieces))
  sends_hold None s o k pieces a e = a
  sends_hold (Some main) s o k pieces a e = record { main = a.main; shadow = a.shadow; out = a.main; conflict = a.conflict; pieces = e }

  module _ (m : Option HeldMain) (s : Option HeldShadow) (k : Option HeldShadow) (out : HeldOut) (a : AreHeld meaning (held_of m s (Some out) k)) where
    abbrev waiting : HeldSlots
    waiting = held_of m s (Some out) k

    accepted_holds : (version : ℕ) → AreHeld meaning (after waiting (accepted waiting out version))
    accepted_holds version = record {
      main = without_holds out.number m a.main;
      shadow = content_named version out.pieces out.content (let is = a.pieces in omega arith) a.out;
      out = tt;
      conflict = a.conflict;
      pieces = tt;
    }

    whole_holds : (b : Bool) → AreHeld meaning (after waiting (if b then unchanged send.Nothing
        else record { slots = Some (record waiting { out = Some (record out { whole = true; pieces = fresh_from 0 out.pieces }) }); tells = []; sends = send.Request }))
    whole_holds true = a
    whole_holds false = record { main = a.main; shadow = a.shadow; out = a.out; conflict = a.conflict; pieces = fresh_len 0 out.pieces ∙ a.pieces }

    outcome_holds : (outcome : Outcome) → AreHeld meaning (after waiting (by_outcome waiting out outcome))
    outcome_holds (outcomes.Accepted version) = accepted_holds version
    outcome_holds (outcomes.Again version) = accepted_holds version
    outcome_holds (outcomes.Late last) = a
    outcome_holds (outcomes.Stale latest) = record { main = a.main; shadow = a.shadow; out = tt; conflict = a.conflict; pieces = tt }
    outcome_holds (outcomes.Conflict latest) = a
    outcome_holds outcomes.NeedWhole = whole_holds out.whole

    answer_holds : (outcome : Outcome) (b : Bool) → AreHeld meaning (after waiting (if b then by_outcome waiting out outcome else unchanged send.Nothing))
    answer_holds outcome true = outcome_holds outcome
    answer_holds outcome false = a

  answers_hold : (m : Option HeldMain) (s : Option HeldShadow) (o : Option HeldOut) (k : Option HeldShadow) (number : ℕ) (outcome : Outcome) → AreHeld meaning (held_of m s o k)
      → AreHeld meaning (after (held_of m s o k) (answered_out (held_of m s o k) number outcome o))
  answers_hold m s None k number outcome a = a
  answers_hold m s (Some out) k number outcome a = answer_holds m s k out a outcome (out.number == number)

  module _ (scheme : Scheme) (yours : Yours) (row : HeldShadow) (e : HaveLens meaning row.content) (m0 : Option HeldMain) (s : Option HeldShadow) (o0 : Option HeldOut) (k : Option HeldShadow) (a : AreHeld meaning (held_of m0 s o0 k)) where
    abbrev before : HeldSlots
    before = held_of m0 s o0 k

    -- where this is left of the writes
    placed_holds : (m : Option HeldMain) (o : Option HeldOut) (told : List Tell) → MainHolds m → OutHolds o → IfSome o SpellsAll
        → AreHeld meaning (after before (placed scheme before (record { main = m; out = o; tells = told }) yours row))
    placed_holds m o told h i p = read (is_read scheme before (record { main = m; out = o; tells = told }) yours row)
      where
        read : (b : Bool) → AreHeld meaning
            (after before (if b then read_row before (record { main = m; out = o; tells = told }) row else in_conflict before (record { main = m; out = o; tells = told }) row))
        read true = record { main = h; shadow = e; out = i; conflict = a.conflict; pieces = p }
        read false = record { main = h; shadow = a.shadow; out = tt; conflict = e; pieces = tt }

  module _ (scheme : Scheme) (yours : Yours) (row : HeldShadow) (e : HaveLens meaning row.content) (m : Option HeldMain) (s : Option HeldShadow) (k : Option HeldShadow) where
    acks_hold : (o : Option HeldOut) → AreHeld meaning (held_of m s o k) → AreHeld meaning (after (held_of m s o k) (placed scheme (held_of m s o k) (acknowledged yours (held_of m s o k)) yours row))
    acks_hold None a = placed_holds scheme yours row e m s None k a m None [] a.main tt tt
    acks_hold (Some out) a = waits (nat_le out.number yours.number)
      where
        waits : (b : Bool) → AreHeld meaning (after (held_of m s (Some out) k)
            (placed scheme (held_of m s (Some out) k)
            (if b then record { main = without out.number m; out = None; tells = tell.Acked out.number yours.version ∷ [] } else record { main = m; out = Some out; tells = [] }) yours row))
        waits true = placed_holds scheme yours row e m s (Some out) k a (without out.number m) None (tell.Acked out.number yours.version ∷ []) (without_holds out.number m a.main) tt tt
        waits false = placed_holds scheme yours row e m s (Some out) k a m (Some out) [] a.main a.out a.pieces

  rows_hold : (scheme : Scheme) (slots : HeldSlots) (yours : Yours) (row : HeldShadow) → AreHeld meaning slots → HaveLens meaning row.content
      → AreHeld meaning (after slots (taken scheme slots yours row))
  rows_hold scheme slots yours row a e = newer (nat_le row.version (seen_in slots.conflict slots.shadow))
    where
      newer : (b : Bool) → AreHeld meaning (after slots (if b then unchanged send.Nothing else placed scheme slots (acknowledged yours slots) yours row))
      newer true = a
      newer false = acks_hold scheme yours row e slots.main slots.shadow slots.conflict slots.out a

  choices_hold : (m : Option HeldMain) (s : Option HeldShadow) (o : Option HeldOut) (k : Option HeldShadow) (number : ℕ) (choice : HeldChoice) → AreHeld meaning (held_of m s o k)
      → HoldsChoice meaning choice
      → AreHeld meaning (after (held_of m s o k) (resolved_row (held_of m s o k) number choice k))
  choices_hold m s o None number choice a e = a
  choices_hold None s o (Some row) number choice a e = a
  choices_hold (Some main) s o (Some row) number choices.Mine a e = record { main = a.main; shadow = a.conflict; out = a.out; conflict = tt; pieces = a.pieces }
  choices_hold (Some main) s o (Some row) number choices.Theirs a e = record { main = tt; shadow = a.conflict; out = a.out; conflict = tt; pieces = a.pieces }
  choices_hold (Some main) s o (Some row) number (choices.New content) a e = record { main = e; shadow = a.conflict; out = a.out; conflict = tt; pieces = a.pieces }

  pub stays : (scheme : Scheme) (slots : HeldSlots) (event : SlotEvent) → AreHeld meaning slots → HoldsEvent meaning slots event → AreHeld meaning (slots_behind scheme slots event)
  stays scheme slots (Write number content) a e = record { main = e; shadow = a.shadow; out = a.out; conflict = a.conflict; pieces = a.pieces }
  stays scheme slots (WriteStrong number content pieces) a e = record { main = a.main; shadow = a.shadow; out = e.0; conflict = a.conflict; pieces = e.1 }
  stays scheme slots (Send pieces) a e = sends_hold slots.main slots.shadow slots.out slots.conflict pieces a e
  stays scheme slots (Answer number outcome) a e = answers_hold slots.main slots.shadow slots.out slots.conflict number outcome a
  stays scheme slots (Row yours row) a e = rows_hold scheme slots yours row a e
  stays scheme slots (Resolve number choice) a e = choices_hold slots.main slots.shadow slots.out slots.conflict number choice a e
