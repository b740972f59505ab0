-- What a synchronization sends, by the rows that are noted.
use Rattle.std.proofs.Common.{◌≡◌, ◌⊎◌, inl, inr, ⊎_elim, ℕ, ◌+◌, ◌<◌, Bool, true, false, List, [], ◌∷◌, ◌++◌, length, Option, Some, None, refl, sym, ◌∙◌, ap, subst}
use Rattle.std.specs.Prelude.{IfSome, IsSome, is_some, option_map, option_to_list, if◌then◌else◌}
use Rattle.std.specs.List.{list_any}
use Rattle.std.specs.BTreeMap.{is_at}
use Rattle.std.specs.BTreeSet.{contains}
use Rattle.disk_trait.specs.Calls.{DiskState}
use Rattle.held_value.specs.declared.local_name.LocalName.{LocalName}
use Rattle.held_value.specs.declared.slots.Out.{Out as HeldOut}
use Rattle.held_value.specs.declared.slots.Slots.{Slots as HeldSlots}
use Rattle.slot_store.specs.declared.held.RowSlots.{RowSlots}
use Rattle.slot_store.specs.Data.{id_cmp, key_cmp, key_at, slots_of, data_of}
use Rattle.vault.specs.Standing.{payloads}
use Rattle.slot_store.specs.Standing as slot_devs
use Rattle.slot_store.proofs.Keys.{all_kept, stands_at}
use Rattle.client_tables.specs.Transitions.{can_send}
use Rattle.client_journal.specs.declared.devs.Journal.{Journal}
use Rattle.client_journal.specs.Devs.{ClientDevs}
use Rattle.client_journal.specs.Standing.{devs}
use Rattle.step_tables.specs.Slots.{InFlight}
use Rattle.step_tables.specs.Messages.{Send}
use Rattle.step_tables.specs.ClientMoves.{Slots, RowOut, TableDisk, no_slots, slots_at, request_for, resent, to_send, or_later, first_to_send}
use Rattle.journal_laws.specs.Holds.{slots_or_empty}
use Rattle.journal_laws.specs.Whole.{whole_slots, whole_out}
use Rattle.journal_laws.proofs.Transitions.{sends_alike}
use Rattle.client_node.specs.Answers.{held_at}
use Rattle.client_node.specs.declared.waiting.Waiting.{Waiting}
use Rattle.client_node.specs.NotedRows.{AreNotedRows}
use Rattle.client_node.specs.Requesting.{asked_again, all_asked_again, first_ready}
use Rattle.client_node.specs.Steady.{IsNoted, IsSteadyTable}
use Rattle.client_node.proofs.Walks.{Rows, slots_in_rows, over_rows, over_keys, IsQuiet, AreNeeded, walk}

-- a row with slots has an id of sixteen bytes
pub sixteen : {D : Type 0} (state : D → DiskState) (client : Journal D) (table : ℕ) (row : List ℕ) (stored : RowSlots) → slots_of (devs state client).held table row ≡ Some stored → length row ≡ 16
sixteen state client table row stored is =
    let k = all_kept (payloads state (slot_devs.vault_of client.slots)) in
    let s = stands_at (devs state client).held.rows (key_at table row) stored k.rows is in
    subst (λ (r : List ℕ). length r ≡ 16) (sym (ap (λ key. key.row) s.key)) s.limits.row

-- ---- requests that are sent again

module _ (c table : ℕ) where
  abbrev pub asks : List ℕ → Slots → List Send → List Send
  asks row s more = option_to_list (option_map (request_for c table row) s.out) ++ more

  resent_is : (rows : Rows) → resent c table rows ≡ over_rows asks [] rows
  resent_is [] = refl
  resent_is (e ∷ rows) = ap (asks e.0 e.1) (resent_is rows)

  whole_request : (meaning : LocalName → List ℕ) (row : List ℕ) (o : Option HeldOut) → option_map (request_for c table row) (option_map (whole_out meaning) o) ≡ option_map (λ (out : HeldOut). request_for c table row (whole_out meaning out)) o
  whole_request meaning row None = refl
  whole_request meaning row (Some out) = refl

  keys_asked : (meaning : LocalName → List ℕ) (d : ClientDevs) (rows : Rows) → ((row : List ℕ) → whole_slots meaning (held_at d table row) ≡ slots_in_rows rows row) → (ks : List (List ℕ)) → all_asked_again meaning c d table ks ≡ over_keys asks [] rows ks
  keys_asked meaning d rows same [] = refl
  keys_asked meaning d rows same (k ∷ ks) =
      ap (λ (o : Option Send). option_to_list o ++ all_asked_again meaning c d table ks) (sym (whole_request meaning k (held_at d table k).out))
      ∙ (ap (λ (s : Slots). asks k s (all_asked_again meaning c d table ks)) (same k) ∙ ap (asks k (slots_in_rows rows k)) (keys_asked meaning d rows same ks))

-- ---- the first row that has something to send

abbrev pub sends_of : Slots → Option InFlight
sends_of s = to_send s s.out s.main s.conflict

abbrev pub offers : List ℕ → Slots → Option RowOut → Option RowOut
offers row s more = or_later row s (sends_of s) more

first_is : (rows : Rows) → first_to_send rows ≡ over_rows offers None rows
first_is [] = refl
first_is (e ∷ rows) = ap (offers e.0 e.1) (first_is rows)

-- what is found among the devices' slots is that of the table
pub record IsFound (meaning : LocalName → List ℕ) (d : ClientDevs) (table : ℕ) (found : List ℕ × HeldSlots) (x : RowOut) : Type 0 where
  pub row_is : x.row ≡ found.0
  pub slots_is : x.slots ≡ whole_slots meaning found.1
  pub held_is : found.1 ≡ held_at d table found.0
  pub can : can_send found.1 ≡ true
  pub sends : sends_of (whole_slots meaning found.1) ≡ Some x.out

abbrev pub AreFound : (LocalName → List ℕ) → ClientDevs → ℕ → Option (List ℕ × HeldSlots) → Option RowOut → Type 0
AreFound meaning d table None None = Unit {0}
AreFound meaning d table None (Some x) = ⊥
AreFound meaning d table (Some found) None = ⊥
AreFound meaning d table (Some found) (Some x) = IsFound meaning d table found x

module _ (meaning : LocalName → List ℕ) (d : ClientDevs) (table : ℕ) (rows : Rows) (same : (row : List ℕ) → whole_slots meaning (held_at d table row) ≡ slots_in_rows rows row) where
  one_found : (k : List ℕ) (more : Option (List ℕ × HeldSlots)) (later : Option RowOut) → AreFound meaning d table more later
      → AreFound meaning d table (if can_send (held_at d table k) then Some (k, held_at d table k) else more) (or_later k (whole_slots meaning (held_at d table k)) (sends_of (whole_slots meaning (held_at d table k))) later)
  one_found k more later behind = pick (sends_of (whole_slots meaning (held_at d table k))) refl
    where
      held : HeldSlots
      held = held_at d table k

      alike : can_send (held_at d table k) ≡ is_some (sends_of (whole_slots meaning (held_at d table k)))
      alike = sends_alike 0 meaning (record { last = 0; tables = []; plan = None }) 0 [] (held_at d table k).main (held_at d table k).shadow (held_at d table k).out (held_at d table k).conflict

      pick : (o : Option InFlight) → sends_of (whole_slots meaning (held_at d table k)) ≡ o
          → AreFound meaning d table (if can_send (held_at d table k) then Some (k, held_at d table k) else more) (or_later k (whole_slots meaning (held_at d table k)) o later)
      pick None is =
          let cannot : can_send (held_at d table k) ≡ false = alike ∙ ap is_some is in
          subst (λ (b : Bool). AreFound meaning d table (if b then Some (k, held_at d table k) else more) later) (sym cannot) behind
      pick (Some out) is =
          let can : can_send (held_at d table k) ≡ true = alike ∙ ap is_some is in
          subst (λ (b : Bool). AreFound meaning d table (if b then Some (k, held_at d table k) else more) (Some (record { row = k; slots = whole_slots meaning (held_at d table k); out = out }))) (sym can)
          (record { row_is = refl; slots_is = refl; held_is = refl; can = can; sends = is })

  keys_found : (ks : List (List ℕ)) → AreFound meaning d table (first_ready d table ks) (over_keys offers None rows ks)
  keys_found [] = tt
  keys_found (k ∷ ks) =
      subst (λ (s : Slots). AreFound meaning d table (if can_send (held_at d table k) then Some (k, held_at d table k) else first_ready d table ks) (or_later k s (sends_of s) (over_keys offers None rows ks))) (same k)
      (one_found k (first_ready d table ks) (over_keys offers None rows ks) (keys_found ks))

-- ---- of a table whose rows that wait are noted

module _ {D : Type 0} (state : D → DiskState) (client : Journal D) (c table : ℕ) (meaning : LocalName → List ℕ) (w : Waiting) (t : TableDisk) (steady : IsSteadyTable w table t) (same : (row : List ℕ) → whole_slots meaning (held_at (devs state client) table row) ≡ slots_at t row)
    (here : (row : List ℕ) → held_at (devs state client) table row ≡ slots_or_empty (slots_of (devs state client).held table row)) where
  abbrev d : ClientDevs
  d = devs state client

  -- a row without slots counts for nothing
  none_there : (row : List ℕ) → slots_of (devs state client).held table row ≡ None → slots_at t row ≡ no_slots
  none_there row none = sym (same row) ∙ ap (whole_slots meaning) (here row ∙ ap slots_or_empty none)

  long_or_none : (row : List ℕ) → (length row ≡ 16) ⊎ (slots_at t row ≡ no_slots)
  long_or_none row = pick (slots_of (devs state client).held table row) refl
    where
      pick : (o : Option RowSlots) → slots_of (devs state client).held table row ≡ o → (length row ≡ 16) ⊎ (slots_at t row ≡ no_slots)
      pick None is = inr (none_there row is)
      pick (Some stored) is = inl (sixteen state client table row stored is)

  quiet_out : (row : List ℕ) (s : Slots) → s.out ≡ None → IsQuiet (asks c table) [] row s
  quiet_out row s none m = ap (λ (o : Option InFlight). option_to_list (option_map (request_for c table row) o) ++ m) none

  quiet_send : (row : List ℕ) (s : Slots) → sends_of s ≡ None → IsQuiet offers None row s
  quiet_send row s none m = ap (λ (o : Option InFlight). or_later row s o m) none

  module _ (outs : List (List ℕ)) (a : AreNotedRows w.outs table outs) where
    out_needed : AreNeeded (asks c table) [] t.rows outs
    out_needed row = pick (slots_at t row).out refl
      where
        pick : (o : Option InFlight) → (slots_at t row).out ≡ o → IsQuiet (asks c table) [] row (slots_at t row) ⊎ (list_any (is_at (id_cmp row)) outs ≡ true)
        pick None is = inl (quiet_out row (slots_at t row) is)
        pick (Some out) is =
            ⊎_elim (λ len. inr (a.all row len ((steady.noted row).sent (subst (λ (o : Option InFlight). IsSome o) (sym is) refl)))) (λ none. inl (quiet_out row (slots_at t row) (ap (λ (s : Slots). s.out) none))) (long_or_none row)

    pub again_is : resent c table t.rows ≡ all_asked_again meaning c d table outs
    again_is =
        resent_is c table t.rows
        ∙ (walk (asks c table) [] (λ k m. refl) t.rows outs steady.rising a.rising out_needed ∙ sym (keys_asked c table meaning d t.rows same outs))

  module _ (ready : List (List ℕ)) (a : AreNotedRows w.ready table ready) where
    ready_needed : AreNeeded offers None t.rows ready
    ready_needed row = pick (sends_of (slots_at t row)) refl
      where
        pick : (o : Option InFlight) → sends_of (slots_at t row) ≡ o → IsQuiet offers None row (slots_at t row) ⊎ (list_any (is_at (id_cmp row)) ready ≡ true)
        pick None is = inl (quiet_send row (slots_at t row) is)
        pick (Some out) is =
            ⊎_elim (λ len. inr (a.all row len ((steady.noted row).ready (subst (λ (o : Option InFlight). IsSome o) (sym is) refl)))) (λ none. inl (quiet_send row (slots_at t row) (ap sends_of none))) (long_or_none row)

    pub first_found : AreFound meaning d table (first_ready d table ready) (first_to_send t.rows)
    first_found =
        subst (λ (o : Option RowOut). AreFound meaning d table (first_ready d table ready) o) (sym (first_is t.rows ∙ walk offers None (λ k m. refl) t.rows ready steady.rising a.rising ready_needed))
        (keys_found meaning d table t.rows same ready)
