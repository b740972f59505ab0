-- What is put beside the rows: the table's state, and a client's subscription.
use Rattle.std.proofs.Common.{◌≡◌, inl, inr, ⊎_elim, ℕ, Bool, true, false, cond, List, [], ◌∷◌, Option, Some, None, refl, ◌∙◌, ap, arith}
use Rattle.std.specs.Prelude.{◌==◌, not, option_map}
use Rattle.std.proofs.lemmas.Bool.Decides.{nat_tests}
use Rattle.std.specs.declared.cmp.Ordering.{Ordering}
use Rattle.std.specs.declared.cmp.Ordering.TheVariants.{Less, Equal, Greater}
use Rattle.std.specs.Ordering.{nat_cmp, match_ordering}
use Rattle.std.specs.BTreeMap.{insert_entry, is_at}
use Rattle.spare_map.specs.Late.{without}
use Rattle.spare_map.specs.Late as late
use Rattle.row_value.specs.declared.schema.Schema.{Schema}
use Rattle.row_store.specs.declared.stored.Terms.{Terms}
use Rattle.status_log.specs.Entry.{Entry}
use Rattle.store_commit.specs.Devs.{Devs, changed_by}
use Rattle.store_commit.specs.Devs as devs
use Rattle.table_model.specs.declared.table_state.TableState.{TableState}
use Rattle.step_tables.specs.Store.{Stored}
use Rattle.step_tables.specs.StoreMoves.{StoreDisk, put_beside, with_sub, beside_task}
use Rattle.step_tables.specs.StoreMoves as moves
use Rattle.device_laws.specs.Stands.{state_number, stored_terms, stored_subs, StandsEntry, Stands, Follows}

-- ---- a client's subscription

subscribed : (subs : List (ℕ × moves.Terms)) (client : ℕ) (terms : moves.Terms)
    → insert_entry nat_cmp (stored_subs subs) client (stored_terms terms) ≡ stored_subs (insert_entry nat_cmp subs client terms)
subscribed [] client terms = refl
subscribed (entry ∷ subs) client terms = by (subscribed subs client terms) (nat_cmp client entry.0)
  where
    by : insert_entry nat_cmp (stored_subs subs) client (stored_terms terms) ≡ stored_subs (insert_entry nat_cmp subs client terms) → (o : Ordering)
        → match_ordering o ((client, stored_terms terms) ∷ stored_subs (entry ∷ subs)) ((entry.0, stored_terms terms) ∷ stored_subs subs)
        ((entry.0, stored_terms entry.1) ∷ insert_entry nat_cmp (stored_subs subs) client (stored_terms terms))
        ≡ stored_subs (match_ordering o ((client, terms) ∷ entry ∷ subs) ((entry.0, terms) ∷ subs) (entry ∷ insert_entry nat_cmp subs client terms))
    by rest Less = refl
    by rest Equal = refl
    by rest Greater = ap (λ (l : List (ℕ × Terms)). (entry.0, stored_terms entry.1) ∷ l) rest

unsubscribed : (subs : List (ℕ × moves.Terms)) (client : ℕ) → without nat_cmp (stored_subs subs) client ≡ stored_subs (with_sub subs client None)
unsubscribed [] client = refl
unsubscribed (entry ∷ subs) client =
    ap (λ (b : Bool). cond (not b) ((entry.0, stored_terms entry.1) ∷ without nat_cmp (stored_subs subs) client) (without nat_cmp (stored_subs subs) client)) same
    ∙ by (unsubscribed subs client) (entry.0 == client)
  where
    same : is_at (nat_cmp client) entry.0 ≡ (entry.0 == client)
    same = grind (arith, nat_tests)

    by : without nat_cmp (stored_subs subs) client ≡ stored_subs (with_sub subs client None) → (b : Bool)
        → cond (not b) ((entry.0, stored_terms entry.1) ∷ without nat_cmp (stored_subs subs) client) (without nat_cmp (stored_subs subs) client)
        ≡ stored_subs (cond (not b) (entry ∷ with_sub subs client None) (with_sub subs client None))
    by rest true = rest
    by rest false = ap (λ (l : List (ℕ × Terms)). (entry.0, stored_terms entry.1) ∷ l) rest

pub subs_put : (subs : List (ℕ × moves.Terms)) (client : ℕ) (terms : Option moves.Terms)
    → late.changed nat_cmp (stored_subs subs) client (option_map stored_terms terms) ≡ stored_subs (with_sub subs client terms)
subs_put subs client None = unsubscribed subs client
subs_put subs client (Some terms) = subscribed subs client terms

-- ---- devices that stand for a disk

-- whatever stands beside the rows, the entry and the chunks are as they were
entry_beside : (size : ℕ) (disk : StoreDisk) (state : TableState) (subs : List (ℕ × moves.Terms)) (o : Option Stored) (p : Option Entry)
    → StandsEntry size disk o p → StandsEntry size (record disk { state = state; subs = subs }) o p
entry_beside size disk state subs None None h = h
entry_beside size disk state subs None (Some entry) h = h
entry_beside size disk state subs (Some item) None h = h
entry_beside size disk state subs (Some item) (Some entry) h =
    record { before = h.before; entry_of = h.entry_of; next = h.next; made = h.made; stage = ⊎_elim (λ s. inl s) (λ s. inr s) h.stage }

pub state_put : (schema : Schema) (d : Devs) (disk : StoreDisk) (state : TableState) → Stands schema d disk
    → Stands schema (changed_by d (devs.PutTable schema (state_number state))) (put_beside disk (moves.PutState state))
state_put schema d disk state st = record {
  held = record { table = refl; subs = st.held.subs; numbered = st.held.numbered; made = st.held.made; rows = st.held.rows };
  chunks = record { held = st.chunks.held; left = st.chunks.left; only = st.chunks.only; apart = st.chunks.apart };
  entry = entry_beside schema.chunk disk state disk.subs disk.pending d.pending st.entry;
}

pub sub_put : (schema : Schema) (d : Devs) (disk : StoreDisk) (client : ℕ) (terms : Option moves.Terms) → Stands schema d disk
    → Stands schema (changed_by d (devs.PutSub client (option_map stored_terms terms))) (put_beside disk (moves.PutSub client terms))
sub_put schema d disk client terms st = record {
  held = record {
    table = st.held.table;
    subs = ap (λ (l : List (ℕ × Terms)). late.changed nat_cmp l client (option_map stored_terms terms)) st.held.subs ∙ subs_put disk.subs client terms;
    numbered = st.held.numbered;
    made = st.held.made;
    rows = st.held.rows;
  };
  chunks = record { held = st.chunks.held; left = st.chunks.left; only = st.chunks.only; apart = st.chunks.apart };
  entry = entry_beside schema.chunk disk disk.state (with_sub disk.subs client terms) disk.pending d.pending st.entry;
}

-- ---- the one write of a put

pub state_follows : (schema : Schema) (d : Devs) (disk : StoreDisk) (table : ℕ) (state : TableState) → Stands schema d disk
    → Follows schema d (devs.PutTable schema (state_number state) ∷ []) disk (beside_task table (moves.PutState state) ∷ [])
state_follows schema d disk table state st = (st, refl, state_put schema d disk state st)

pub sub_follows : (schema : Schema) (d : Devs) (disk : StoreDisk) (table client : ℕ) (terms : Option moves.Terms) → Stands schema d disk
    → Follows schema d (devs.PutSub client (option_map stored_terms terms) ∷ []) disk (beside_task table (moves.PutSub client terms) ∷ [])
sub_follows schema d disk table client terms st = (st, (refl, refl), sub_put schema d disk client terms st)
