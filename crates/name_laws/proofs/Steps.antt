-- What each event keeps of the tables, the packets and the nodes on hold.
use Rattle.std.proofs.Common.{◌≡◌, ◌≢◌, inl, ⊎_elim, ℕ, ◌+◌, Bool, true, false, List, [], ◌∷◌, ◌++◌, length, Option, Some, None, refl, sym, ◌∙◌, ap, subst, append-nil}
use Rattle.std.specs.Prelude.{map, ◌&&◌, drop, slice_get, option_to_list, if◌then◌else◌}
use Rattle.conflicts.specs.declared.stored.Stored.{Stored}
use Rattle.stab_base.specs.declared.node.Node.{Node}
use Rattle.stab_base.specs.declared.node.Node.TheVariants as nodes
use Rattle.row_value.specs.declared.schema.Schema.{Schema}
use Rattle.table_model.specs.declared.entry.Entry.{Entry}
use Rattle.table_model.specs.declared.line.RowPair.{RowPair}
use Rattle.table_model.specs.declared.event.Event.{Event}
use Rattle.table_model.specs.declared.event.Event.TheVariants as events
use Rattle.table_model.specs.declared.table_state.TableState.{TableState}
use Rattle.table_model.specs.declared.table_state.TableState.TheVariants as states
use Rattle.step_tables.specs.Facts.{Fact, Answer, Refusal, Line, AnswerLine, EntryLine, PairLine, FactLine}
use Rattle.step_tables.specs.Facts as facts
use Rattle.step_tables.specs.Messages.{Luck, table_of, name_of}
use Rattle.step_tables.specs.Messages as messages
use Rattle.step_tables.specs.StoreMoves as store
use Rattle.step_tables.specs.StoreMoves.{StoreTask, StoreMove, SidePut}
use Rattle.step_tables.specs.ClientMoves as client
use Rattle.step_tables.specs.ClientMoves.{Client, ClientTask, ClientMove, Shape, no_shape, client_step, is_cut_off, kept_out}
use Rattle.step_tables.proofs.Lists.{among_get, among_none}
use Rattle.world_tables.specs.Quiet.{Quiet, sent_in, answer_in, held_after}
use Rattle.world_tables.specs.World.{crash_luck, client_tasks, client_until_idle, client_follows, client_writes, client_starts, client_crashes, next_write}
use Rattle.world_tables.specs.World.{World, Packet, Hosted, Outbox, Moved, WorldStep, start, owner_of, has_store, hosted_by, hosted_at, client_at, without_node, is_down, still, and_then}
use Rattle.world_tables.specs.World.{and_unless, failing, lines_of}
use Rattle.world_tables.specs.World.{lines_from, sent_lines}
use Rattle.world_tables.specs.World.{move_table, move_client, table_step, other_lucks, first_luck, busy_table, busy_step, write_next, tasks_of, store_falls, table_follows, store_until_idle}
use Rattle.world_tables.specs.World.{store_crashes, store_starts}
use Rattle.world_tables.specs.World.{answering, answered, refused, silent, unless_down, new_hosted, with_table, made_with, declared, puts_beside, opens, created, dropped}
use Rattle.world_tables.specs.World.{joined, client_follows_from}
use Rattle.world_tables.specs.World.{call_there, take_read, take_at, to_hosted, to_there, carried, delivered, row_read, row_shown, store_shows, names_on, names_answer, chunk_names}
use Rattle.world_tables.specs.World.{entry_lines, history_lines, worked, all_worked, crashed, started, step}
use Rattle.world_tables.specs.World.{Lucks, starts_by, client_falls, first_agenda, is_cut, is_resolving, with_link, unless_cut, unless_kept, table_of_move, is_closed, closed_answer, unless_closed, calls, call, linked}
use Rattle.world_tables.specs.World.{listed, first_shape, other_shapes, chosen_of, client_pairs, resolve_by, plan_size, resolve_each, resolve_all}
use Rattle.world_tables.specs.World as world
use Rattle.step_tables.specs.Store.{current_of}
use Rattle.world_tables.specs.World.{new_client, open_all, schema_at, chunk_in, with_store}
use Rattle.world_laws.proofs.Looks.{look_cases}
use Rattle.name_laws.specs.Owners.{WasOwner}
use Rattle.name_laws.proofs.Rows.{nothing_named}
use Rattle.name_laws.proofs.Keys.{insert_keys_rise}
use Rattle.name_laws.proofs.Plain.{IsPlainFact, ArePlainFacts, IsPlainAgenda, IsFrom}
use Rattle.name_laws.proofs.Moves.{IsFineTable, IsAddressed, IsFine, packets_in, ArePlainOuts, Went, still_went, then_went, unless_went, failing_went, table_went, client_went, works_went}
use Rattle.name_laws.proofs.Moves.{client_follows_went}
use Rattle.name_laws.proofs.Moves.{client_writes_went, follows_from_went, store_falls_went}
use Rattle.name_laws.proofs.Moves.{write_went, store_works_went, table_follows_went, crashes_went, starts_went}

pub record Stepped (w : World) (stores : List ℕ) (holds : List Node) (schemas : List (ℕ × Schema)) (s : WorldStep) : Type 0 where
  pub fine : IsFine s.world
  pub packets : s.world.packets ≡ w.packets ++ packets_in s.outs
  pub stores_are : s.world.stores ≡ stores
  pub plain : ArePlainOuts s.outs
  pub holds_are : s.world.holds ≡ holds
  pub schemas_are : s.world.schemas ≡ schemas
  pub counted : (rest : List Line) → sent_in (s.counted ++ rest) ≡ sent_in rest
  pub unanswered : s.answer ≡ None → (s.counted ≡ []) × (s.outs ≡ [])

-- ---- what the lines say

facts_sent : (some : List Fact) (rest : List Line) → ArePlainFacts some → sent_in (map FactLine some ++ rest) ≡ sent_in rest
facts_sent [] rest p = refl
facts_sent (fact ∷ more) rest p = one fact p.0 (facts_sent more rest p.1)
  where
    one : (f : Fact) → IsPlainFact f → sent_in (map FactLine more ++ rest) ≡ sent_in rest → sent_in (FactLine f ∷ (map FactLine more ++ rest)) ≡ sent_in rest
    one (facts.Client f) q later = later
    one (facts.Redone f) q later = later
    one (facts.Accepted t e) q later = later
    one (facts.Forward t e) q later = later
    one (facts.Back t v) q later = later
    one (facts.StoreRecovered n t) q later = later
    one (facts.Made t) q later = later
    one (facts.Unmade t) q later = later
    one (facts.Saved t) q later = later
    one (facts.Notified c t) q later = later
    one (facts.ClientRecovered c) q later = later
    one (facts.Torn c t r) q later = later
    one (facts.Sent n a b m) q later = absurd q

packets_sent : (number : ℕ) (packets : List Packet) (rest : List Line) → sent_in (sent_lines number packets ++ rest) ≡ map (λ (p : Packet). p.to) packets ++ sent_in rest
packets_sent number [] rest = refl
packets_sent number (p ∷ packets) rest = ap (λ (ns : List Node). p.to ∷ ns) (packets_sent (number + 1) packets rest)

pub to_join : (xs ys : List Packet) → map (λ (p : Packet). p.to) (xs ++ ys) ≡ map (λ (p : Packet). p.to) xs ++ map (λ (p : Packet). p.to) ys
to_join [] ys = refl
to_join (x ∷ xs) ys = ap (λ (ns : List Node). x.to ∷ ns) (to_join xs ys)

outs_sent : (number : ℕ) (outs : List Outbox) → ArePlainOuts outs → sent_in (lines_from number outs) ≡ map (λ (p : Packet). p.to) (packets_in outs)
outs_sent number [] p = refl
outs_sent number (out ∷ more) p =
    facts_sent out.facts (sent_lines number out.packets ++ lines_from (number + length out.packets) more) p.0
    ∙ (packets_sent number out.packets (lines_from (number + length out.packets) more)
    ∙ (ap (λ (ns : List Node). map (λ (q : Packet). q.to) out.packets ++ ns) (outs_sent (number + length out.packets) more p.1) ∙ sym (to_join out.packets (packets_in more))))

pub lines_sent : (w : World) (stores : List ℕ) (holds : List Node) (schemas : List (ℕ × Schema)) (s : WorldStep)
    → Stepped w stores holds schemas s → sent_in (lines_of w s) ≡ map (λ (p : Packet). p.to) (packets_in s.outs)
lines_sent w stores holds schemas s k = go s.answer
  where
    behind : sent_in (s.counted ++ lines_from (length w.packets) s.outs) ≡ map (λ (p : Packet). p.to) (packets_in s.outs)
    behind = k.counted (lines_from (length w.packets) s.outs) ∙ outs_sent (length w.packets) s.outs k.plain

    go : (a : Option Answer) → sent_in (map AnswerLine (option_to_list a) ++ (s.counted ++ lines_from (length w.packets) s.outs)) ≡ map (λ (p : Packet). p.to) (packets_in s.outs)
    go None = behind
    go (Some a) = behind

pub lines_answer : (w : World) (stores : List ℕ) (holds : List Node) (schemas : List (ℕ × Schema)) (s : WorldStep) → Stepped w stores holds schemas s → answer_in (lines_of w s) ≡ s.answer
lines_answer w stores holds schemas s k = go s.answer refl
  where
    go : (a : Option Answer) → s.answer ≡ a → answer_in (map AnswerLine (option_to_list a) ++ (s.counted ++ lines_from (length w.packets) s.outs)) ≡ s.answer
    go (Some a) is = sym is
    go None is =
        let u = k.unanswered is in
        ap (λ (ls : List Line). answer_in (ls ++ lines_from (length w.packets) s.outs)) u.0 ∙ (ap (λ (outs : List Outbox). answer_in (lines_from (length w.packets) outs)) u.1 ∙ sym is)

-- ---- an answer to some moves

pub answering_stepped : (w : World) (a : Answer) (m : Moved) → Went w m → Stepped w w.stores w.holds w.schemas (answering a m)
answering_stepped w a m went = record {
  fine = went.fine;
  packets = went.packets;
  stores_are = went.stores;
  plain = went.plain;
  holds_are = went.holds;
  schemas_are = went.schemas;
  counted = λ rest. refl;
  unanswered = λ none. absurd cc;
}

answered_stepped : (w : World) (a : Answer) → IsFine w → Stepped w w.stores w.holds w.schemas (answered w a)
answered_stepped w a f = answering_stepped w a (still w) (still_went w f)

down_stepped : (w : World) (node : Node) (s : WorldStep) → IsFine w → Stepped w w.stores w.holds w.schemas s → Stepped w w.stores w.holds w.schemas (unless_down w node s)
down_stepped w node s f k = go (is_down w node)
  where
    go : (b : Bool) → Stepped w w.stores w.holds w.schemas (if b then refused w (facts.NodeDown node) else s)
    go true = answered_stepped w (facts.Refuses (facts.NodeDown node)) f
    go false = k

fallen_stepped : (w : World) (number : ℕ) → IsFine w → Stepped w w.stores w.holds w.schemas (answering facts.Done (failing (store_falls number w)))
fallen_stepped w number f = answering_stepped w facts.Done (failing (store_falls number w)) (failing_went w (store_falls number w) (store_falls_went number w f))

-- ---- events

call_stepped : (w : World) (c : ℕ) (move : ClientMove) (shape : Shape) (lucks : List Luck) → IsFine w → (o : Option Client)
    → Stepped w w.stores w.holds w.schemas (call_there w c move shape lucks o)
call_stepped w c move shape lucks f None = answered_stepped w (facts.Refuses facts.NoTable) f
call_stepped w c move shape lucks f (Some node) = down_stepped w (nodes.Client c) _ f (reads (first_luck lucks))
  where
    m : Moved
    m = move_client c move shape w

    by_link : (cut : Bool) → Stepped w w.stores w.holds w.schemas (unless_cut w cut (calls w c move shape (other_lucks lucks) node))
    by_link true = answered_stepped w (facts.Refuses facts.Offline) f
    by_link false = answering_stepped w (client_step c shape node move).answer (and_then m (client_follows_from node.agenda c (other_lucks lucks)))
        (then_went w m (client_follows_from node.agenda c (other_lucks lucks)) (client_went w c move shape f) (λ x. follows_from_went node.agenda c (other_lucks lucks) m.world x))

    fallen : Stepped w w.stores w.holds w.schemas (answering facts.Done (failing (client_falls c w)))
    fallen = answering_stepped w facts.Done (failing (client_falls c w)) (failing_went w (client_falls c w) (client_went w c (client.Crash messages.FailedBefore) no_shape f))

    linked : WorldStep
    linked = unless_cut w (is_cut w c && is_cut_off c shape node move) (calls w c move shape (other_lucks lucks) node)

    by_phase : (out : Option Refusal) → Stepped w w.stores w.holds w.schemas (unless_kept w out linked)
    by_phase None = by_link (is_cut w c && is_cut_off c shape node move)
    by_phase (Some refusal) = answered_stepped w (facts.Refuses refusal) f

    kept : WorldStep
    kept = unless_kept w (kept_out (is_resolving w c) move (client_step c shape node move).answer) linked

    by_table : (closed : Bool) → Stepped w w.stores w.holds w.schemas (unless_closed w closed (closed_answer shape (is_cut w c) node.agenda move) kept)
    by_table true = answered_stepped w (closed_answer shape (is_cut w c) node.agenda move) f
    by_table false = by_phase (kept_out (is_resolving w c) move (client_step c shape node move).answer)

    reads : (luck : Luck) → Stepped w w.stores w.holds w.schemas
        (world.reads w c luck (unless_closed w (is_closed node (table_of_move move)) (closed_answer shape (is_cut w c) node.agenda move) kept))
    reads messages.Done = by_table (is_closed node (table_of_move move))
    reads messages.FailedBefore = fallen
    reads messages.FailedAfter = fallen

-- ---- conflicts

-- a step whose answer is another one
abbrev with_answer : WorldStep → Option Answer → WorldStep
with_answer s o = record s { answer = o }

pairs_sent : (pairs : List RowPair) (rest : List Line) → sent_in (map PairLine pairs ++ rest) ≡ sent_in rest
pairs_sent [] rest = refl
pairs_sent (pair ∷ pairs) rest = pairs_sent pairs rest

listed_stepped : (w : World) (s : WorldStep) → Stepped w w.stores w.holds w.schemas s → Stepped w w.stores w.holds w.schemas (listed s)
listed_stepped w s k = go s.answer k
  where
    go : (o : Option Answer) → Stepped w w.stores w.holds w.schemas (with_answer s o) → Stepped w w.stores w.holds w.schemas (listed (with_answer s o))
    go None k = k
    go (Some facts.Done) k = k
    go (Some (facts.Number count)) k = k
    go (Some (facts.Shows what)) k = k
    go (Some (facts.Sums sum)) k = k
    go (Some (facts.Stores version content)) k = k
    go (Some (facts.Did did)) k = k
    go (Some (facts.Names names)) k = k
    go (Some (facts.Refuses refusal)) k = k
    go (Some (facts.Pairs pairs)) k = record {
      fine = k.fine;
      packets = k.packets;
      stores_are = k.stores_are;
      plain = k.plain;
      holds_are = k.holds_are;
      schemas_are = k.schemas_are;
      counted = pairs_sent pairs;
      unanswered = λ none. absurd cc;
    }

module _ (c table : ℕ) (by : Stored) where
  resolve_by_went : (shape : Shape) (pair : RowPair) (luck : Luck) (w : World) → IsFine w → Went w (resolve_by c table by shape pair luck w)
  resolve_by_went shape pair messages.Done w f = client_went w c (client.Resolve table pair.row pair.version (chosen_of by pair.row (client_at w c) table)) shape f
  resolve_by_went shape pair messages.FailedBefore w f = failing_went w (client_falls c w) (client_went w c (client.Crash messages.FailedBefore) no_shape f)
  resolve_by_went shape pair messages.FailedAfter w f = failing_went w (client_falls c w) (client_went w c (client.Crash messages.FailedBefore) no_shape f)

  resolve_each_went : (shapes : List Shape) (lucks : List Luck) (pairs : List RowPair) (w : World) → IsFine w → Went w (resolve_each c table by shapes lucks pairs w)
  resolve_each_went shapes lucks [] w f = still_went w f
  resolve_each_went shapes lucks (pair ∷ pairs) w f =
      unless_went w worked (resolve_each c table by (other_shapes shapes) more pairs)
      (unless_went w resolved (client_until_idle c (other_lucks lucks)) (resolve_by_went (first_shape shapes) pair (first_luck lucks) w f)
      (λ k. works_went c (client_tasks (client_at resolved.world c)) (other_lucks lucks) resolved.world k))
      (λ k. resolve_each_went (other_shapes shapes) more pairs worked.world k)
    where
      resolved : Moved
      resolved = resolve_by c table by (first_shape shapes) pair (first_luck lucks) w

      worked : Moved
      worked = and_unless resolved (client_until_idle c (other_lucks lucks))

      more : List Luck
      more = drop (1 + plan_size c resolved.world) lucks

  resolve_all_stepped : (w : World) → IsFine w → (shapes : List Shape) (lucks : List Luck) (s : WorldStep) → Stepped w w.stores w.holds w.schemas s
      → Stepped w w.stores w.holds w.schemas (resolve_all w c table by shapes lucks s)
  resolve_all_stepped w f shapes lucks s k = go s.answer k
    where
      go : (o : Option Answer) → Stepped w w.stores w.holds w.schemas (with_answer s o) → Stepped w w.stores w.holds w.schemas (resolve_all w c table by shapes lucks (with_answer s o))
      go None k = k
      go (Some facts.Done) k = k
      go (Some (facts.Number count)) k =
          let pairs : List RowPair = client_pairs (client_at w c) table in
          answering_stepped w (facts.Number count) (resolve_each c table by shapes lucks pairs w) (resolve_each_went shapes lucks pairs w f)
      go (Some (facts.Shows what)) k = k
      go (Some (facts.Sums sum)) k = k
      go (Some (facts.Stores version content)) k = k
      go (Some (facts.Did did)) k = k
      go (Some (facts.Names names)) k = k
      go (Some (facts.Pairs pairs)) k = k
      go (Some (facts.Refuses refusal)) k = k

-- ---- messages, and what the Store has

hosted_stepped : (w : World) (table : ℕ) (move : StoreMove) (lucks : List Luck) → IsFrom move → IsFine w → (o : Option Hosted)
    → Stepped w w.stores w.holds w.schemas (to_hosted w table move lucks o)
hosted_stepped w table move lucks from f None = answered_stepped w facts.Done f
hosted_stepped w table move lucks from f (Some hosted) = go hosted.store.agenda
  where
    first : Moved
    first = move_table table move w

    went : Went w first
    went = table_went w table move from f

    alone : Stepped w w.stores w.holds w.schemas (answering (table_step w table hosted move).answer first)
    alone = answering_stepped w (table_step w table hosted move).answer first went

    reads : (luck : Luck) → Stepped w w.stores w.holds w.schemas (take_read w table hosted move (other_lucks lucks) luck)
    reads messages.FailedBefore = fallen_stepped w (owner_of w table) f
    reads messages.FailedAfter = fallen_stepped w (owner_of w table) f
    reads messages.Done = answering_stepped w (table_step w table hosted move).answer (and_then first (table_follows table (other_lucks lucks)))
        (then_went w first (table_follows table (other_lucks lucks)) went (λ x. table_follows_went table (other_lucks lucks) first.world x))

    go : (o : Option (List StoreTask)) → Stepped w w.stores w.holds w.schemas (take_at w table hosted move lucks o)
    go None = alone
    go (Some (task ∷ more)) = alone
    go (Some []) = reads (first_luck lucks)

carried_stepped : (w : World) (p : Packet) (shape : Shape) (lucks : List Luck) → IsFine w → (to : Node) → IsAddressed w p to → Stepped w w.stores w.holds w.schemas (carried w p shape lucks to)
carried_stepped w p shape lucks f (nodes.Store number) place =
    down_stepped w (nodes.Store number) _ f (hosted_stepped w (table_of p.message) (store.Take p.from p.message) lucks place.0 f (hosted_by w number (table_of p.message)))
carried_stepped w p shape lucks f (nodes.Gate gate) place = answered_stepped w facts.Done f
carried_stepped w p shape lucks f (nodes.Client c) place = go (client_at w c)
  where
    go : (o : Option Client) → Stepped w w.stores w.holds w.schemas (to_there w c p.message shape lucks o)
    go None = answered_stepped w facts.Done f
    go (Some node) = call_stepped w c (client.Take p.message) shape lucks f (Some node)

delivered_stepped : (w : World) (n : ℕ) (shape : Shape) (lucks : List Luck) → IsFine w → (o : Option Packet) → slice_get w.packets n ≡ o
    → Stepped w w.stores w.holds w.schemas (delivered w shape lucks o)
delivered_stepped w n shape lucks f None at = answered_stepped w (facts.Refuses (facts.NoPacket (length w.packets))) f
delivered_stepped w n shape lucks f (Some p) at = carried_stepped w p shape lucks f p.to (f.places p (among_get w.packets n p at))

-- ---- a table that is made or dropped

beside_stepped : (w : World) (number table : ℕ) (put : SidePut) (lucks : List Luck) → IsFine w → Stepped w w.stores w.holds w.schemas (puts_beside w number table put lucks)
beside_stepped w number table put lucks f = down_stepped w (nodes.Store number) _ f (hosted_stepped w table (store.Place put) lucks tt f (hosted_by w number table))

created_stepped : (w : World) (table : ℕ) (shape : Shape) (lucks : List Luck) → IsFine w → (node : Node) → Stepped w w.stores w.holds w.schemas (created w table shape lucks node)
created_stepped w table shape lucks f (nodes.Store number) = beside_stepped w number table (store.PutState states.Live) lucks f
created_stepped w table shape lucks f (nodes.Client c) = go (schema_at w table)
  where
    go : (o : Option Schema) → Stepped w w.stores w.holds w.schemas (opens w c table shape lucks o)
    go None = answered_stepped w facts.Done f
    go (Some schema) = call_stepped w c (client.Alter table (client.Opens schema)) shape lucks f (client_at w c)
created_stepped w table shape lucks f (nodes.Gate gate) = answered_stepped w facts.Done f

dropped_stepped : (w : World) (table : ℕ) (shape : Shape) (lucks : List Luck) → IsFine w → (node : Node) → Stepped w w.stores w.holds w.schemas (dropped w table shape lucks node)
dropped_stepped w table shape lucks f (nodes.Store number) = beside_stepped w number table (store.PutState states.Dropped) lucks f
dropped_stepped w table shape lucks f (nodes.Client c) = call_stepped w c (client.Alter table client.Closes) shape lucks f (client_at w c)
dropped_stepped w table shape lucks f (nodes.Gate gate) = answered_stepped w facts.Done f

shows_stepped : (w : World) (table : ℕ) (row : List ℕ) (lucks : List Luck) → IsFine w → (o : Option Hosted) → Stepped w w.stores w.holds w.schemas (store_shows w table row lucks o)
shows_stepped w table row lucks f None = answered_stepped w (facts.Refuses facts.NoTable) f
shows_stepped w table row lucks f (Some hosted) = down_stepped w (nodes.Store (owner_of w table)) _ f (read (first_luck lucks))
  where
    read : (luck : Luck) → Stepped w w.stores w.holds w.schemas (row_read w table hosted row luck)
    read messages.Done = answered_stepped w (row_shown (current_of hosted.store.disk.items row)) f
    read messages.FailedBefore = fallen_stepped w (owner_of w table) f
    read messages.FailedAfter = fallen_stepped w (owner_of w table) f

entries_sent : (table : ℕ) (history : List Entry) (rest : List Line) → sent_in (entry_lines table history ++ rest) ≡ sent_in rest
entries_sent table [] rest = refl
entries_sent table (e ∷ es) rest = entries_sent table es rest

history_stepped : (w : World) (table : ℕ) → IsFine w → (o : Option Hosted) → Stepped w w.stores w.holds w.schemas (history_lines w table o)
history_stepped w table f None = answered_stepped w (facts.Refuses facts.NoTable) f
history_stepped w table f (Some hosted) = record {
  fine = f;
  packets = sym (append-nil w.packets);
  stores_are = refl;
  plain = tt;
  holds_are = refl;
  schemas_are = refl;
  counted = λ rest. entries_sent table hosted.history rest;
  unanswered = λ none. absurd cc;
}

silent_stepped : (w x : World) → IsFine x → x.packets ≡ w.packets → x.holds ≡ w.holds → Stepped w x.stores w.holds x.schemas (silent x)
silent_stepped w x f packets holds = record {
  fine = f;
  packets = packets ∙ sym (append-nil w.packets);
  stores_are = refl;
  plain = tt;
  holds_are = holds;
  schemas_are = refl;
  counted = λ rest. refl;
  unanswered = λ none. (refl, refl);
}

pub with_table_fine : (w : World) (table : ℕ) (schema : Schema) (state : TableState) (made : Bool) → hosted_at w table ≡ None → IsFine w → IsFine (with_table w table schema state made)
with_table_fine w table schema state made none f = record {
  keys = insert_keys_rise w.tables table new f.keys;
  known = λ q gone. ⊎_elim (λ e. absurd (let both : Some new ≡ None = sym e.1 ∙ gone in cc)) (λ e. others q e.0 ∙ f.known q (sym e.1 ∙ gone)) (look_cases w.tables table new q);
  tables = λ q x at. ⊎_elim
      (λ e. let both : Some new ≡ Some x = sym e.1 ∙ at in let same : new ≡ x = cc in
      subst (λ (y : Hosted). IsFineTable (chunk_in (schema_at after q)) y.store) same (new_fine (chunk_in (schema_at after q)) made))
      (λ e. subst (λ (o : Option Schema). IsFineTable (chunk_in o) x.store) (sym (others q e.0)) (f.tables q x (sym e.1 ∙ at))) (look_cases w.tables table new q);
  clients = f.clients;
  places = λ p a. place p p.to (f.places p a);
}
  where
    after : World
    after = with_table w table schema state made

    new : Hosted
    new = new_hosted state made

    others : (q : ℕ) → q ≢ table → schema_at after q ≡ schema_at w q
    others q apart = ⊎_elim (λ e. absurd (apart e.0)) (λ e. e.1) (look_cases w.schemas table schema q)

    place : (p : Packet) (to : Node) → IsAddressed w p to → IsAddressed after p to
    place p (nodes.Client c) is = tt
    place p (nodes.Gate gate) is = tt
    place p (nodes.Store number) is = (
      is.0,
      ⊎_elim (λ e. here e.0)
          (λ e. subst (λ (o : Option Schema). WasOwner w.stores o number) (sym e.1) is.1) (look_cases w.schemas table schema (table_of p.message)),
    )
      where
        here : table_of p.message ≡ table → WasOwner w.stores (schema_at after (table_of p.message)) number
        here same = record {
          later = is.1.later;
          earlier = is.1.earlier;
          known = is.1.known;
          joined = is.1.joined;
          declared = ⊎_elim (λ e. inl e) (λ e. inl (e ∙ (ap (schema_at w) same ∙ f.known table none))) is.1.declared;
          is = is.1.is;
        }

    new_fine : (size : ℕ) (b : Bool) → IsFineTable size (new_hosted state b).store
    new_fine size true = record { named = nothing_named size; clean = refl; writes = tt }
    new_fine size false = record { named = nothing_named size; clean = λ none. refl; writes = tt }

declared_stepped : (w : World) (table : ℕ) (schema : Schema) (state : TableState) (luck : Luck) → IsFine w → (o : Option Hosted) → hosted_at w table ≡ o
    → Stepped w w.stores w.holds (declared w table schema state luck o).schemas (silent (declared w table schema state luck o))
declared_stepped w table schema state luck f (Some hosted) at = silent_stepped w w f refl refl
declared_stepped w table schema state luck f None at = go luck
  where
    made_so : (made : Bool) → Stepped w w.stores w.holds (with_table w table schema state made).schemas (silent (with_table w table schema state made))
    made_so made = silent_stepped w (with_table w table schema state made) (with_table_fine w table schema state made at f) refl refl

    go : (l : Luck) → Stepped w w.stores w.holds (made_with w table schema state l).schemas (silent (made_with w table schema state l))
    go messages.Done = made_so true
    go messages.FailedBefore = made_so false
    go messages.FailedAfter = made_so false

-- a Store that joins
with_store_fine : (number : ℕ) (w : World) → IsFine w → IsFine (with_store number w)
with_store_fine number w f = record { keys = f.keys; known = f.known; tables = f.tables; clients = f.clients; places = λ p a. place p p.to (f.places p a) }
  where
    place : (p : Packet) (to : Node) → IsAddressed w p to → IsAddressed (with_store number w) p to
    place p (nodes.Client c) is = tt
    place p (nodes.Gate gate) is = tt
    place p (nodes.Store n) is = (
      is.0,
      record {
        later = number ∷ is.1.later;
        earlier = is.1.earlier;
        known = is.1.known;
        joined = ap (λ (stores : List ℕ). number ∷ stores) is.1.joined;
        declared = is.1.declared;
        is = is.1.is;
      },
    )

joined_stepped : (w : World) (c : ℕ) (tables : List ℕ) (luck : Luck) → IsFine w → (o : Option Client) → Stepped w w.stores w.holds w.schemas (silent (joined w c tables luck o))
joined_stepped w c tables luck f (Some node) = silent_stepped w w f refl refl
joined_stepped w c tables luck f None = silent_stepped w (joined w c tables luck None) (record {
  keys = f.keys;
  known = f.known;
  tables = f.tables;
  clients = λ q x at. ⊎_elim
      (λ e. let both : Some new ≡ Some x = sym e.1 ∙ at in let same : new ≡ x = cc in subst (λ (y : Client). IsPlainAgenda y.agenda) same (none luck))
      (λ e. f.clients q x (sym e.1 ∙ at)) (look_cases w.clients c new q);
  places = f.places;
}) refl refl
  where
    new : Client
    new = new_client (open_all w [] tables) (first_agenda luck)

    none : (x : Luck) → IsPlainAgenda (first_agenda x)
    none messages.Done = tt
    none messages.FailedBefore = tt
    none messages.FailedAfter = tt

-- ---- what is done to a node

worked_stepped : (w : World) (lucks : List Luck) → IsFine w → (node : Node) → Stepped w w.stores w.holds w.schemas (worked w lucks node)
worked_stepped w lucks f (nodes.Store number) =
    let busy : Option ℕ = busy_table w number in
    answering_stepped w (facts.Did (busy_step w busy)) (write_next number (first_luck lucks) busy w) (write_went number (first_luck lucks) busy w f)
worked_stepped w lucks f (nodes.Client c) =
    let tasks : List ClientTask = client_tasks (client_at w c) in
    answering_stepped w (facts.Did (next_write tasks)) (client_writes c (first_luck lucks) tasks w) (client_writes_went c (first_luck lucks) tasks w f)
worked_stepped w lucks f (nodes.Gate gate) = answered_stepped w _ f

all_worked_stepped : (w : World) (lucks : List Luck) → IsFine w → (node : Node) → Stepped w w.stores w.holds w.schemas (all_worked w lucks node)
all_worked_stepped w lucks f (nodes.Store number) =
    answering_stepped w (facts.Number (length (tasks_of w number))) (store_until_idle number lucks w) (store_works_went number (length (tasks_of w number)) lucks w f)
all_worked_stepped w lucks f (nodes.Client c) =
    let tasks : List ClientTask = client_tasks (client_at w c) in answering_stepped w (facts.Number (length tasks)) (client_until_idle c lucks w) (works_went c tasks lucks w f)
all_worked_stepped w lucks f (nodes.Gate gate) = answered_stepped w _ f

crashed_stepped : (w : World) (calls : ℕ) (lucks : List Luck) → IsFine w → (node : Node) → Stepped w w.stores w.holds w.schemas (crashed w calls lucks node)
crashed_stepped w calls lucks f (nodes.Store number) = answering_stepped w facts.Done (store_crashes number calls lucks w) (crashes_went number calls lucks w f)
crashed_stepped w calls lucks f (nodes.Client c) = answering_stepped w facts.Done (client_crashes c calls lucks w)
    (client_went w c (client.Crash (crash_luck calls (other_lucks lucks) (first_luck lucks))) no_shape f)
crashed_stepped w calls lucks f (nodes.Gate gate) = answered_stepped w _ f

started_stepped : (w : World) (shape : Shape) (lucks : List Luck) → IsFine w → (node : Node) → Stepped w w.stores w.holds w.schemas (started w shape lucks node)
started_stepped w shape lucks f (nodes.Store number) = go (has_store w number && is_down w (nodes.Store number))
  where
    go : (b : Bool) → Stepped w w.stores w.holds w.schemas (if b then answering facts.Done (store_starts number lucks w) else answered w facts.Done)
    go true = answering_stepped w facts.Done (store_starts number lucks w) (starts_went number lucks w f)
    go false = answered_stepped w facts.Done f
started_stepped w shape lucks f (nodes.Client c) = go (is_down w (nodes.Client c))
  where
    first : Moved
    first = move_client c client.Start shape w

    started_by : (luck : Luck) (more : List Luck) → Went w (starts_by c shape luck more w)
    started_by messages.Done more = then_went w first (client_follows c more) (client_went w c client.Start shape f) (λ x. client_follows_went c more first.world x)
    started_by messages.FailedBefore more = failing_went w (still w) (still_went w f)
    started_by messages.FailedAfter more = failing_went w (still w) (still_went w f)

    go : (b : Bool) → Stepped w w.stores w.holds w.schemas (if b then answering facts.Done (client_starts c shape lucks w) else answered w facts.Done)
    go true = answering_stepped w facts.Done (client_starts c shape lucks w) (started_by (first_luck lucks) (other_lucks lucks))
    go false = answered_stepped w facts.Done f
started_stepped w shape lucks f (nodes.Gate gate) = answered_stepped w _ f

-- a link that goes up or down
linked_stepped : (w : World) (c : ℕ) (up : Bool) → IsFine w → (o : Option Client) → Stepped w w.stores w.holds w.schemas (linked w c up o)
linked_stepped w c up f None = answered_stepped w facts.Done f
linked_stepped w c up f (Some node) = down_stepped w (nodes.Client c) _ f (moved up)
  where
    cut : (cuts : List Node) → Stepped w w.stores w.holds w.schemas (answered (record w { cuts = cuts }) facts.Done)
    cut cuts = record {
      fine = record { keys = f.keys; known = f.known; tables = f.tables; clients = f.clients; places = f.places };
      packets = sym (append-nil w.packets);
      stores_are = refl;
      plain = tt;
      holds_are = refl;
      schemas_are = refl;
      counted = λ rest. refl;
      unanswered = λ none. absurd cc;
    }

    moved : (b : Bool) → Stepped w w.stores w.holds w.schemas (answered (with_link c b w) facts.Done)
    moved true = cut (without_node w.cuts (nodes.Client c))
    moved false = cut (nodes.Client c ∷ w.cuts)

chunks_stepped : (w : World) (table : ℕ) → IsFine w → (o : Option Hosted) → Stepped w w.stores w.holds w.schemas (chunk_names w table o)
chunks_stepped w table f None = answered_stepped w (facts.Refuses facts.NoTable) f
chunks_stepped w table f (Some hosted) = down_stepped w (nodes.Store (owner_of w table)) _ f (answered_stepped w (names_answer (names_on (chunk_in (schema_at w table)) hosted.store.disk)) f)

-- the nodes on hold
abbrev pub with_holds : World → List Node → World
with_holds w holds = record w { holds = holds }

holds_stepped : (w : World) (holds : List Node) → IsFine w → Stepped w w.stores holds w.schemas (answered (with_holds w holds) facts.Done)
holds_stepped w holds f = record {
  fine = record { keys = f.keys; known = f.known; tables = f.tables; clients = f.clients; places = f.places };
  packets = sym (append-nil w.packets);
  stores_are = refl;
  plain = tt;
  holds_are = refl;
  schemas_are = refl;
  counted = λ rest. refl;
  unanswered = λ none. absurd cc;
}

-- the nodes that are on hold alone
abbrev pub holding : World → Quiet
holding w = record { held = w.holds; loud = []; sent = []; stores = [] }

-- the nodes on hold behind an event
abbrev pub holds_by : World → Event → Lucks → List Node
holds_by w event lucks = held_after (holding w) event (step w event lucks).answer

held_stepped : (w : World) (node : Node) (lucks : Lucks) → IsFine w → Stepped w w.stores (holds_by w (events.Hold node) lucks) w.schemas (step w (events.Hold node) lucks)
held_stepped w node lucks f = go (is_down w node)
  where
    go : (b : Bool)
        → Stepped w w.stores (held_after (holding w) (events.Hold node) (if b then refused w (facts.NodeDown node) else answered (with_holds w (node ∷ w.holds)) facts.Done).answer) w.schemas
        (if b then refused w (facts.NodeDown node) else answered (with_holds w (node ∷ w.holds)) facts.Done)
    go true = answered_stepped w (facts.Refuses (facts.NodeDown node)) f
    go false = holds_stepped w (node ∷ w.holds) f

freed_stepped : (w : World) (node : Node) (lucks : Lucks) → IsFine w → Stepped w w.stores (holds_by w (events.Free node) lucks) w.schemas (step w (events.Free node) lucks)
freed_stepped w node lucks f = go (is_down w node)
  where
    go : (b : Bool)
        → Stepped w w.stores (held_after (holding w) (events.Free node) (if b then refused w (facts.NodeDown node) else answered (with_holds w (without_node w.holds node)) facts.Done).answer) w.schemas
        (if b then refused w (facts.NodeDown node) else answered (with_holds w (without_node w.holds node)) facts.Done)
    go true = answered_stepped w (facts.Refuses (facts.NodeDown node)) f
    go false = holds_stepped w (without_node w.holds node) f

-- the schemas behind an event
abbrev pub schemas_by : World → Event → Lucks → List (ℕ × Schema)
schemas_by w (events.Table table schema) lucks = (declared w table schema states.Live (first_luck lucks.calls) (hosted_at w table)).schemas
schemas_by w (events.Draft table schema) lucks = (declared w table schema states.Draft (first_luck lucks.calls) (hosted_at w table)).schemas
schemas_by w other lucks = w.schemas

-- the Stores behind an event
abbrev pub stores_by : World → Event → List ℕ
stores_by w (events.Store number) = number ∷ w.stores
stores_by w other = w.stores

pub step_stepped : (w : World) (event : Event) (lucks : Lucks) → IsFine w → Stepped w (stores_by w event) (holds_by w event lucks) (schemas_by w event lucks) (step w event lucks)
step_stepped w (events.Store number) lucks f = silent_stepped w (with_store number w) (with_store_fine number w f) refl refl
step_stepped w (events.Gate number) lucks f = silent_stepped w w f refl refl
step_stepped w (events.Table table schema) lucks f = declared_stepped w table schema states.Live (first_luck lucks.calls) f (hosted_at w table) refl
step_stepped w (events.Draft table schema) lucks f = declared_stepped w table schema states.Draft (first_luck lucks.calls) f (hosted_at w table) refl
step_stepped w (events.Client c gate tables) lucks f = joined_stepped w c tables (first_luck lucks.calls) f (client_at w c)
step_stepped w (events.Write c table row x) lucks f = call_stepped w c (client.Write table row x) lucks.shape lucks.calls f (client_at w c)
step_stepped w (events.Edit c table row x) lucks f = call_stepped w c (client.Change table row x) lucks.shape lucks.calls f (client_at w c)
step_stepped w (events.Link c up) lucks f = linked_stepped w c up f (client_at w c)
step_stepped w (events.Create node table) lucks f = created_stepped w table lucks.shape lucks.calls f node
step_stepped w (events.Drop node table) lucks f = dropped_stepped w table lucks.shape lucks.calls f node
step_stepped w (events.Save number table d terms) lucks f = beside_stepped w number table (store.PutSub d terms) lucks.calls f
step_stepped w (events.Ask d table) lucks f = call_stepped w d (client.Next table [] []) lucks.shape lucks.calls f (client_at w d)
step_stepped w (events.Net it) lucks f = answered_stepped w facts.Done f
step_stepped w (events.Show c table row) lucks f = call_stepped w c (client.Show table row) lucks.shape lucks.calls f (client_at w c)
step_stepped w (events.Sum c table row) lucks f = call_stepped w c (client.Sum table row) lucks.shape lucks.calls f (client_at w c)
step_stepped w (events.Sync c table) lucks f = call_stepped w c (client.Sync table) lucks.shape lucks.calls f (client_at w c)
step_stepped w (events.Pull c table) lucks f = call_stepped w c (client.Next table lucks.tears lucks.asks) lucks.shape lucks.calls f (client_at w c)
step_stepped w (events.BeginCr c table) lucks f = call_stepped w c (client.BeginCr table) lucks.shape lucks.calls f (client_at w c)
step_stepped w (events.Conflicts c table) lucks f =
    listed_stepped w (call w c (client.Conflicts table) lucks.shape lucks.calls) (call_stepped w c (client.Conflicts table) lucks.shape lucks.calls f (client_at w c))
step_stepped w (events.EndCr c table) lucks f = call_stepped w c (client.EndCr table) lucks.shape lucks.calls f (client_at w c)
step_stepped w (events.Resolve c table row seen choice) lucks f = call_stepped w c (client.Resolve table row seen choice) lucks.shape lucks.calls f (client_at w c)
step_stepped w (events.ResolveAll c table by) lucks f =
    resolve_all_stepped c table by w f lucks.shapes (other_lucks lucks.calls) (call w c (client.ResolveAll table by) lucks.shape lucks.calls)
    (call_stepped w c (client.ResolveAll table by) lucks.shape lucks.calls f (client_at w c))
step_stepped w (events.Deliver n) lucks f = delivered_stepped w n lucks.shape lucks.calls f (slice_get w.packets n) refl
step_stepped w (events.StoreShow table row) lucks f = shows_stepped w table row lucks.calls f (hosted_at w table)
step_stepped w (events.History table) lucks f = history_stepped w table f (hosted_at w table)
step_stepped w (events.Hold node) lucks f = held_stepped w node lucks f
step_stepped w (events.Free node) lucks f = freed_stepped w node lucks f
step_stepped w (events.Work node) lucks f = down_stepped w node _ f (worked_stepped w lucks.calls f node)
step_stepped w (events.WorkAll node) lucks f = down_stepped w node _ f (all_worked_stepped w lucks.calls f node)
step_stepped w (events.Crash node calls pick) lucks f = down_stepped w node _ f (crashed_stepped w calls lucks.calls f node)
step_stepped w (events.Start node) lucks f = started_stepped w lucks.shape lucks.calls f node
step_stepped w (events.Chunks table) lucks f = chunks_stepped w table f (hosted_at w table)

pub start_fine : IsFine start
start_fine = record { keys = tt; known = λ q none. refl; tables = λ q x at. absurd cc; clients = λ q x at. absurd cc; places = λ p a. absurd (among_none p a) }
