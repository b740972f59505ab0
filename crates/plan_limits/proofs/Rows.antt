-- Slots that stay fit, whatever comes.
use Rattle.std.proofs.Common.{◌≡◌, ℕ, suc, ◌+◌, ◌≤◌, Bool, true, false, List, [], ◌∷◌, ◌++◌, length, Option, Some, None, refl, ◌∙◌, ap, arith}
use Rattle.std.specs.Prelude.{◌==◌, ◌||◌, ◌^◌, nat_le, IfSome, if◌then◌else◌}
use Rattle.std.specs.List.{AllByRecursion}
use Rattle.row_value.specs.declared.pieces.Piece.{Piece}
use Rattle.row_value.specs.declared.schema.Scheme.{Scheme}
use Rattle.table_model.specs.declared.message.Outcome.{Outcome}
use Rattle.table_model.specs.declared.message.Outcome.TheVariants as outcomes
use Rattle.table_model.specs.declared.message.Yours.{Yours}
use Rattle.value_codec.specs.Spelling.{HasPieceSpelling}
use Rattle.field_codec.specs.Forms.{IsOption}
use Rattle.held_codec.specs.Spelling.{HasMain, HasShadow, HasOut, HasTell}
use Rattle.held_value.specs.declared.local_name.LocalName.{LocalName}
use Rattle.held_value.specs.declared.content.HeldContent.{HeldContent}
use Rattle.held_value.specs.declared.slots.Main.{Main}
use Rattle.held_value.specs.declared.slots.Shadow.{Shadow}
use Rattle.held_value.specs.declared.slots.Out.{Out}
use Rattle.held_value.specs.declared.slots.Slots.{Slots}
use Rattle.held_value.specs.declared.tell.Tell.{Tell}
use Rattle.held_value.specs.declared.tell.Tell.TheVariants as tell
use Rattle.slot_store.specs.declared.held.TableRecord.{TableRecord}
use Rattle.client_tables.specs.declared.change.Change.{Change}
use Rattle.client_tables.specs.declared.change.Sending.TheVariants as send
use Rattle.client_tables.specs.declared.resolving.HeldChoice.{HeldChoice}
use Rattle.client_tables.specs.declared.resolving.HeldChoice.TheVariants as choices
use Rattle.client_tables.specs.Change.{after, unchanged, version_in, seen_in}
use Rattle.client_tables.specs.Names.{fresh_from}
use Rattle.client_tables.specs.Transitions.{sent, sent_main, without, accepted, by_outcome, answered_out, acknowledged, acknowledged_out, read_row, in_conflict, number_in, is_read, placed, taken, resolved_row}
use Rattle.client_tables.specs.Kept.{SlotEvent, Write, WriteStrong, Send, Answer, Row, Resolve, slots_behind, change_of}
use Rattle.client_journal.specs.There.{is_wrong, in_main, in_shadow, in_out}
use Rattle.journal_laws.specs.Whole.{SpellsAll}
use Rattle.plan_limits.specs.Fit.{IsFitContent, IsFitRow, AreFitPieces, IsWord, IsFitOutcome, IsFitChoice, IsFitEvent}
use Rattle.plan_limits.proofs.Contents.{content_named}

module _ (meaning : LocalName → List ℕ) (table : Option TableRecord) where
  abbrev wrong : HeldContent → Bool
  wrong = is_wrong (λ name. Some (meaning name)) table

  abbrev pub FitMain : Main → Type 0
  FitMain m = IsWord m.number × IsWord m.read × IsFitContent meaning table m.content

  abbrev pub FitShadow : Shadow → Type 0
  FitShadow s = IsWord s.version × IsFitContent meaning table s.content

  abbrev pub FitOut : Out → Type 0
  FitOut o = IsWord o.number × IsWord o.read × IsWord o.base × IsFitContent meaning table o.content × AreFitPieces o.content o.pieces

  -- slot by slot
  pub record AreFit (slots : Slots) : Type 0 where
    pub main : IfSome slots.main FitMain
    pub shadow : IfSome slots.shadow FitShadow
    pub out : IfSome slots.out FitOut
    pub conflict : IfSome slots.conflict FitShadow

  -- ---- whole rows, slot by slot and back

  neither : (a b : Bool) → a || b ≡ false → (a ≡ false) × (b ≡ false)
  neither true b h = absurd cc
  neither false b h = (refl, h)

  both : (a b : Bool) → a ≡ false → b ≡ false → a || b ≡ false
  both true b p q = absurd cc
  both false b p q = q

  main_fit : (o : Option Main) → in_main wrong o ≡ false → IsOption HasMain o → IfSome o FitMain
  main_fit None r s = tt
  main_fit (Some m) r s = (s.0, s.1.0, record { right = r; spelled = s.1.1 })

  shadow_fit : (o : Option Shadow) → in_shadow wrong o ≡ false → IsOption HasShadow o → IfSome o FitShadow
  shadow_fit None r s = tt
  shadow_fit (Some m) r s = (s.0, record { right = r; spelled = s.1 })

  out_fit : (o : Option Out) → in_out wrong o ≡ false → IsOption HasOut o → IfSome o SpellsAll → IfSome o FitOut
  out_fit None r s p = tt
  out_fit (Some o) r s p = (s.0, s.1.0, s.1.1.0, record { right = r; spelled = s.1.1.1.1.0 }, record { count = p; spelled = s.1.1.1.1.1 })

  pub each_fit : (slots : Slots) → IsFitRow meaning table slots → AreFit slots
  each_fit slots k =
      let a = neither (in_main wrong slots.main) (in_shadow wrong slots.shadow || (in_out wrong slots.out || in_shadow wrong slots.conflict)) k.whole.right in
      let b = neither (in_shadow wrong slots.shadow) (in_out wrong slots.out || in_shadow wrong slots.conflict) a.1 in
      let c = neither (in_out wrong slots.out) (in_shadow wrong slots.conflict) b.1 in
      record {
        main = main_fit slots.main a.0 k.spelled.0;
        shadow = shadow_fit slots.shadow b.0 k.spelled.1.0;
        out = out_fit slots.out c.0 k.spelled.1.1.0 k.pieces;
        conflict = shadow_fit slots.conflict c.1 k.spelled.1.1.1;
      }

  main_right : (o : Option Main) → IfSome o FitMain → (in_main wrong o ≡ false) × IsOption HasMain o
  main_right None h = (refl, tt)
  main_right (Some m) h = (h.2.right, (h.0, (h.1, h.2.spelled)))

  shadow_right : (o : Option Shadow) → IfSome o FitShadow → (in_shadow wrong o ≡ false) × IsOption HasShadow o
  shadow_right None h = (refl, tt)
  shadow_right (Some s) h = (h.1.right, (h.0, h.1.spelled))

  out_right : (o : Option Out) → IfSome o FitOut → (in_out wrong o ≡ false) × IsOption HasOut o × IfSome o SpellsAll
  out_right None h = (refl, tt, tt)
  out_right (Some o) h = (h.3.right, (h.0, (h.1, (h.2, (tt, (h.3.spelled, h.4.spelled))))), h.4.count)

  pub row_fit : (slots : Slots) → AreFit slots → IsFitRow meaning table slots
  row_fit slots k =
      let m = main_right slots.main k.main in
      let s = shadow_right slots.shadow k.shadow in
      let o = out_right slots.out k.out in
      let x = shadow_right slots.conflict k.conflict in
      record {
        whole = record {
          right = both (in_main wrong slots.main) (in_shadow wrong slots.shadow || (in_out wrong slots.out || in_shadow wrong slots.conflict)) m.0
              (both (in_shadow wrong slots.shadow) (in_out wrong slots.out || in_shadow wrong slots.conflict) s.0 (both (in_out wrong slots.out) (in_shadow wrong slots.conflict) o.0 x.0));
        };
        spelled = (m.1, (s.1, (o.1, x.1)));
        pieces = o.2;
      }

  -- ---- by each event

  abbrev held_of : Option Main → Option Shadow → Option Out → Option Shadow → Slots
  held_of m s o k = record { main = m; shadow = s; out = o; conflict = k }

  version_word : (s : Option Shadow) → IfSome s FitShadow → IsWord (version_in s)
  version_word None h = omega arith
  version_word (Some s) h = h.0

  without_fit : (n : ℕ) (m : Option Main) → IfSome m FitMain → IfSome (without n m) FitMain
  without_fit n None h = tt
  without_fit n (Some main) h = pick (main.number == n)
    where
      pick : (b : Bool) → IfSome (if b then None else Some main) FitMain
      pick true = tt
      pick false = h

  sends_fit : (m : Option Main) (s : Option Shadow) (o : Option Out) (k : Option Shadow) (pieces : List Piece) → AreFit (held_of m s o k) → IfSome m (λ main. AreFitPieces main.content pieces)
      → AreFit (after (held_of m s o k) (sent (held_of m s o k) pieces))
  sends_fit None s o k pieces a e = a
  sends_fit (Some main) s o k pieces a e = record { main = a.main; shadow = a.shadow; out = (a.main.0, a.main.1, version_word s a.shadow, a.main.2, e); conflict = a.conflict }

  fresh_spelled : (first : ℕ) (pieces : List Piece) → first + length pieces ≤ 2 ^ 32 → AllByRecursion HasPieceSpelling (fresh_from first pieces) × (length (fresh_from first pieces) ≡ length pieces)
  fresh_spelled first [] le = (tt, refl)
  fresh_spelled first (piece ∷ pieces) le = let rest = fresh_spelled (first + 1) pieces (omega arith) in ((omega arith, rest.0), ap suc rest.1)

  module _ (m : Option Main) (s : Option Shadow) (k : Option Shadow) (out : Out) (a : AreFit (held_of m s (Some out) k)) where
    abbrev waiting : Slots
    waiting = held_of m s (Some out) k

    accepted_fit : (version : ℕ) → IsWord version → AreFit (after waiting (accepted waiting out version))
    accepted_fit version w = record {
      main = without_fit out.number m a.main;
      shadow = (w, content_named version meaning table out.pieces out.content w a.out.4 a.out.3);
      out = tt;
      conflict = a.conflict;
    }

    whole_fit : (b : Bool) → AreFit (after waiting (if b then unchanged send.Nothing
        else record { slots = Some (record waiting { out = Some (record out { whole = true; pieces = fresh_from 0 out.pieces }) }); tells = []; sends = send.Request }))
    whole_fit true = a
    whole_fit false =
        let few = a.out.4.spelled.0 in
        let fresh = fresh_spelled 0 out.pieces (omega (arith, few)) in
        record {
          main = a.main;
          shadow = a.shadow;
          out = (a.out.0, a.out.1, a.out.2, a.out.3, record { count = fresh.1 ∙ a.out.4.count; spelled = (omega (arith, fresh.1, few), fresh.0) });
          conflict = a.conflict;
        }

    outcome_fit : (outcome : Outcome) → IsFitOutcome outcome → AreFit (after waiting (by_outcome waiting out outcome))
    outcome_fit (outcomes.Accepted version) w = accepted_fit version w
    outcome_fit (outcomes.Again version) w = accepted_fit version w
    outcome_fit (outcomes.Late last) w = a
    outcome_fit (outcomes.Stale latest) w = record { main = a.main; shadow = a.shadow; out = tt; conflict = a.conflict }
    outcome_fit (outcomes.Conflict latest) w = a
    outcome_fit outcomes.NeedWhole w = whole_fit out.whole

    answer_fit : (outcome : Outcome) → IsFitOutcome outcome → (b : Bool) → AreFit (after waiting (if b then by_outcome waiting out outcome else unchanged send.Nothing))
    answer_fit outcome w true = outcome_fit outcome w
    answer_fit outcome w false = a

  answers_fit : (m : Option Main) (s : Option Shadow) (o : Option Out) (k : Option Shadow) (number : ℕ) (outcome : Outcome) → IsFitOutcome outcome → AreFit (held_of m s o k)
      → AreFit (after (held_of m s o k) (answered_out (held_of m s o k) number outcome o))
  answers_fit m s None k number outcome w a = a
  answers_fit m s (Some out) k number outcome w a = answer_fit m s k out a outcome w (out.number == number)

  module _ (scheme : Scheme) (yours : Yours) (row : Shadow) (e : FitShadow row) (m0 : Option Main) (s : Option Shadow) (o0 : Option Out) (k : Option Shadow) (a : AreFit (held_of m0 s o0 k)) where
    abbrev before : Slots
    before = held_of m0 s o0 k

    placed_fit : (m : Option Main) (o : Option Out) (told : List Tell) → IfSome m FitMain → IfSome o FitOut → AreFit (after before (placed scheme before (record { main = m; out = o; tells = told }) yours row))
    placed_fit m o told h i = read (is_read scheme before (record { main = m; out = o; tells = told }) yours row)
      where
        read : (b : Bool) → AreFit
            (after before (if b then read_row before (record { main = m; out = o; tells = told }) row else in_conflict before (record { main = m; out = o; tells = told }) row))
        read true = record { main = h; shadow = e; out = i; conflict = a.conflict }
        read false = record { main = h; shadow = a.shadow; out = tt; conflict = e }

  module _ (scheme : Scheme) (yours : Yours) (row : Shadow) (e : FitShadow row) (m : Option Main) (s : Option Shadow) (k : Option Shadow) where
    acks_fit : (o : Option Out) → AreFit (held_of m s o k) → AreFit (after (held_of m s o k) (placed scheme (held_of m s o k) (acknowledged yours (held_of m s o k)) yours row))
    acks_fit None a = placed_fit scheme yours row e m s None k a m None [] a.main tt
    acks_fit (Some out) a = waits (nat_le out.number yours.number)
      where
        waits : (b : Bool) → AreFit (after (held_of m s (Some out) k)
            (placed scheme (held_of m s (Some out) k)
            (if b then record { main = without out.number m; out = None; tells = tell.Acked out.number yours.version ∷ [] } else record { main = m; out = Some out; tells = [] }) yours row))
        waits true = placed_fit scheme yours row e m s (Some out) k a (without out.number m) None (tell.Acked out.number yours.version ∷ []) (without_fit out.number m a.main) tt
        waits false = placed_fit scheme yours row e m s (Some out) k a m (Some out) [] a.main a.out

  rows_fit : (scheme : Scheme) (slots : Slots) (yours : Yours) (row : Shadow) → AreFit slots → FitShadow row → AreFit (after slots (taken scheme slots yours row))
  rows_fit scheme slots yours row a e = newer (nat_le row.version (seen_in slots.conflict slots.shadow))
    where
      newer : (b : Bool) → AreFit (after slots (if b then unchanged send.Nothing else placed scheme slots (acknowledged yours slots) yours row))
      newer true = a
      newer false = acks_fit scheme yours row e slots.main slots.shadow slots.conflict slots.out a

  choices_fit : (m : Option Main) (s : Option Shadow) (o : Option Out) (k : Option Shadow) (number : ℕ) (choice : HeldChoice) → IsWord number → AreFit (held_of m s o k) → IsFitChoice meaning table choice
      → AreFit (after (held_of m s o k) (resolved_row (held_of m s o k) number choice k))
  choices_fit m s o None number choice w a e = a
  choices_fit None s o (Some row) number choice w a e = a
  choices_fit (Some main) s o (Some row) number choices.Mine w a e = record { main = (w, a.conflict.0, a.main.2); shadow = a.conflict; out = a.out; conflict = tt }
  choices_fit (Some main) s o (Some row) number choices.Theirs w a e = record { main = tt; shadow = a.conflict; out = a.out; conflict = tt }
  choices_fit (Some main) s o (Some row) number (choices.New content) w a e = record { main = (w, a.conflict.0, e); shadow = a.conflict; out = a.out; conflict = tt }

  stays_fit : (scheme : Scheme) (slots : Slots) (event : SlotEvent) → AreFit slots → IsFitEvent meaning table slots event → AreFit (slots_behind scheme slots event)
  stays_fit scheme slots (Write number content) a e = record { main = (e.0, version_word slots.shadow a.shadow, e.1); shadow = a.shadow; out = a.out; conflict = a.conflict }
  stays_fit scheme slots (WriteStrong number content pieces) a e =
      record { main = a.main; shadow = a.shadow; out = (e.0, version_word slots.shadow a.shadow, version_word slots.shadow a.shadow, e.1, e.2); conflict = a.conflict }
  stays_fit scheme slots (Send pieces) a e = sends_fit slots.main slots.shadow slots.out slots.conflict pieces a e
  stays_fit scheme slots (Answer number outcome) a e = answers_fit slots.main slots.shadow slots.out slots.conflict number outcome e a
  stays_fit scheme slots (Row yours row) a e = rows_fit scheme slots yours row a (e.1, e.2)
  stays_fit scheme slots (Resolve number choice) a e = choices_fit slots.main slots.shadow slots.out slots.conflict number choice e.0 a e.1

  pub behind_fit : (scheme : Scheme) (slots : Slots) (event : SlotEvent) → IsFitRow meaning table slots → IsFitEvent meaning table slots event → IsFitRow meaning table (slots_behind scheme slots event)
  behind_fit scheme slots event k e = row_fit (slots_behind scheme slots event) (stays_fit scheme slots event (each_fit slots k) e)

  -- ---- what is told

  -- at most so many tells, each with a spelling
  abbrev AreToldFew : ℕ → List Tell → Type 0
  AreToldFew most tells = (length tells ≤ most) × AllByRecursion HasTell tells

  abbrev TellsFew : Change → Type 0
  TellsFew change = AreToldFew 2 change.tells

  two : (a b : List Tell) → AreToldFew 1 a → AreToldFew 1 b → AreToldFew 2 (a ++ b)
  two [] b x y = (omega (arith, y.0), y.1)
  two (t ∷ []) b x y = (omega (arith, y.0), (x.1.0, y.1))
  two (t ∷ u ∷ a) b x y = absurd (omega (arith, x.0))

  number_word : (m : Option Main) → IfSome m FitMain → IsWord (number_in m)
  number_word None h = omega arith
  number_word (Some m) h = h.0

  outcome_told : (slots : Slots) (out : Out) (outcome : Outcome) → FitOut out → IsFitOutcome outcome → TellsFew (by_outcome slots out outcome)
  outcome_told slots out (outcomes.Accepted version) a w = (omega arith, ((a.0, w), tt))
  outcome_told slots out (outcomes.Again version) a w = (omega arith, ((a.0, w), tt))
  outcome_told slots out (outcomes.Late last) a w = (omega arith, tt)
  outcome_told slots out (outcomes.Stale latest) a w = (omega arith, ((a.0, w), tt))
  outcome_told slots out (outcomes.Conflict latest) a w = (omega arith, tt)
  outcome_told slots out outcomes.NeedWhole a w = pick out.whole
    where
      pick : (b : Bool) → TellsFew (if b then unchanged send.Nothing else record { slots = Some (record slots { out = Some (record out { whole = true; pieces = fresh_from 0 out.pieces }) }); tells = []; sends = send.Request })
      pick true = (omega arith, tt)
      pick false = (omega arith, tt)

  answers_told : (slots : Slots) (o : Option Out) (number : ℕ) (outcome : Outcome) → IfSome o FitOut → IsFitOutcome outcome → TellsFew (answered_out slots number outcome o)
  answers_told slots None number outcome a w = (omega arith, tt)
  answers_told slots (Some out) number outcome a w = pick (out.number == number)
    where
      pick : (b : Bool) → TellsFew (if b then by_outcome slots out outcome else unchanged send.Nothing)
      pick true = outcome_told slots out outcome a w
      pick false = (omega arith, tt)

  placed_told : (scheme : Scheme) (slots : Slots) (yours : Yours) (row : Shadow) (m : Option Main) (o : Option Out) (told : List Tell) → IsWord row.version → IfSome m FitMain → AreToldFew 1 told
      → TellsFew (placed scheme slots (record { main = m; out = o; tells = told }) yours row)
  placed_told scheme slots yours row m o told w h few = pick (is_read scheme slots (record { main = m; out = o; tells = told }) yours row)
    where
      pick : (b : Bool) → TellsFew (if b then read_row slots (record { main = m; out = o; tells = told }) row else in_conflict slots (record { main = m; out = o; tells = told }) row)
      pick true = two told (tell.New row.version ∷ []) few (omega arith, (w, tt))
      pick false = two told (tell.Conflict (number_in m) row.version ∷ []) few (omega arith, ((number_word m h, w), tt))

  acks_told : (scheme : Scheme) (slots : Slots) (yours : Yours) (row : Shadow) → IsWord yours.version → IsWord row.version → IfSome slots.main FitMain → (o : Option Out) → IfSome o FitOut
      → TellsFew (placed scheme slots (acknowledged_out yours slots.main o) yours row)
  acks_told scheme slots yours row y w h None i = placed_told scheme slots yours row slots.main None [] w h (omega arith, tt)
  acks_told scheme slots yours row y w h (Some out) i = pick (nat_le out.number yours.number)
    where
      pick : (b : Bool) → TellsFew (placed scheme slots
          (if b then record { main = without out.number slots.main; out = None; tells = tell.Acked out.number yours.version ∷ [] } else record { main = slots.main; out = Some out; tells = [] }) yours row)
      pick true = placed_told scheme slots yours row (without out.number slots.main) None (tell.Acked out.number yours.version ∷ []) w (without_fit out.number slots.main h) (omega arith, ((i.0, y), tt))
      pick false = placed_told scheme slots yours row slots.main (Some out) [] w h (omega arith, tt)

  rows_told : (scheme : Scheme) (slots : Slots) (yours : Yours) (row : Shadow) → AreFit slots → IsWord yours.version → IsWord row.version → TellsFew (taken scheme slots yours row)
  rows_told scheme slots yours row a y w = pick (nat_le row.version (seen_in slots.conflict slots.shadow))
    where
      pick : (b : Bool) → TellsFew (if b then unchanged send.Nothing else placed scheme slots (acknowledged yours slots) yours row)
      pick true = (omega arith, tt)
      pick false = acks_told scheme slots yours row y w a.main slots.out a.out

  choices_told : (slots : Slots) (m : Option Main) (k : Option Shadow) (number : ℕ) (choice : HeldChoice) → IsWord number → IfSome m FitMain → IfSome k FitShadow → TellsFew (resolved_row (record slots { main = m }) number choice k)
  choices_told slots m None number choice w h i = (omega arith, tt)
  choices_told slots None (Some row) number choice w h i = (omega arith, tt)
  choices_told slots (Some main) (Some row) number choices.Mine w h i = (omega arith, ((h.0, i.0), ((w, i.0), tt)))
  choices_told slots (Some main) (Some row) number choices.Theirs w h i = (omega arith, ((h.0, i.0), tt))
  choices_told slots (Some main) (Some row) number (choices.New content) w h i = (omega arith, ((h.0, i.0), ((w, i.0), tt)))

  all_told : (scheme : Scheme) (slots : Slots) (event : SlotEvent) → AreFit slots → IsFitEvent meaning table slots event → TellsFew (change_of scheme slots event)
  all_told scheme slots (Write number content) a e = (omega arith, ((e.0, version_word slots.shadow a.shadow), tt))
  all_told scheme slots (WriteStrong number content pieces) a e = (omega arith, ((e.0, version_word slots.shadow a.shadow), tt))
  all_told scheme slots (Send pieces) a e = sends_told slots.main
    where
      sends_told : (m : Option Main) → TellsFew (sent_main slots pieces m)
      sends_told None = (omega arith, tt)
      sends_told (Some main) = (omega arith, tt)
  all_told scheme slots (Answer number outcome) a e = answers_told slots slots.out number outcome a.out e
  all_told scheme slots (Row yours row) a e = rows_told scheme slots yours row a e.0 e.1
  all_told scheme slots (Resolve number choice) a e = choices_told slots slots.main slots.conflict number choice e.0 a.main a.conflict

  pub few_told : (scheme : Scheme) (slots : Slots) (event : SlotEvent) → IsFitRow meaning table slots → IsFitEvent meaning table slots event
      → (length (change_of scheme slots event).tells ≤ 2) × AllByRecursion HasTell (change_of scheme slots event).tells
  few_told scheme slots event k e = all_told scheme slots event (each_fit slots k) e
