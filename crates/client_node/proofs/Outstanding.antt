-- The first row of a table whose write waits for its answer, among those that are noted.
use Rattle.std.proofs.Common.{◌≡◌, ◌⊎◌, inl, inr, ⊎_elim, ℕ, ◌+◌, ◌<◌, ◌≤◌, ◌++◌, true, List, [], ◌∷◌, length, drop, get_or, Option, Some, None, Ok, refl, sym, ◌∙◌, ap, subst}
use Rattle.std.proofs.lemmas.List.{drop_more, drop_all}
use Rattle.std.specs.Prelude.{option_map, IsSome}
use Rattle.std.specs.List.{list_any}
use Rattle.std.specs.BTreeMap.{is_at}
use Rattle.disk_trait.specs.Image.{IsImage}
use Rattle.disk_trait.specs.Calls.{DiskState}
use Rattle.held_value.specs.declared.local_name.LocalName.{LocalName}
use Rattle.held_value.specs.declared.slots.Out.{Out as HeldOut}
use Rattle.held_value.specs.declared.slots.Slots.{Slots as HeldSlots}
use Rattle.slot_store.specs.declared.held.RowSlots.{RowSlots}
use Rattle.slot_store.specs.Data.{id_cmp, slots_of}
use Rattle.client_journal.specs.declared.devs.Journal.{Journal}
use Rattle.client_journal.specs.Devs.{ClientDevs}
use Rattle.client_journal.specs.Standing.{devs, writes_of, AreUp, IsReady}
use Rattle.step_tables.specs.Slots.{InFlight}
use Rattle.step_tables.specs.ClientMoves.{Slots, TableDisk, no_slots, slots_at}
use Rattle.step_tables.specs.ClientMoves as moves
use Rattle.journal_laws.specs.Holds.{slots_or_empty}
use Rattle.journal_laws.specs.Whole.{whole_slots, whole_out}
use Rattle.client_node.specs.declared.waiting.Waiting.{Waiting}
use Rattle.client_node.specs.Answers.{held_at}
use Rattle.client_node.specs.Looks.{Looks}
use Rattle.client_node.specs.NotedRows.{AreNotedRows}
use Rattle.client_node.specs.Requesting.{or_out, first_out, NoneWaits}
use Rattle.client_node.specs.Steady.{IsSteadyTable}
use Rattle.client_node.proofs.AskedAgain.{ok_not, waits_none}
use Rattle.client_node.proofs.Serving.{looks_none, looks_then, looks_other}
use Rattle.client_node.proofs.Synced.{sixteen}
use Rattle.client_node.proofs.Walks.{Rows, slots_in_rows, over_rows, over_keys, IsQuiet, AreNeeded, walk}

abbrev or_later : Option InFlight → Option InFlight → Option InFlight
or_later None later = later
or_later (Some out) later = Some out

abbrev waits : List ℕ → Slots → Option InFlight → Option InFlight
waits row s later = or_later s.out later

-- the first of the table's rows, in their order
first_is : (rows : Rows) → moves.first_out rows ≡ over_rows waits None rows
first_is [] = refl
first_is (e ∷ rows) = pick e.1.out refl (first_is rows)
  where
    pick : (o : Option InFlight) → e.1.out ≡ o → moves.first_out rows ≡ over_rows waits None rows → moves.first_out (e ∷ rows) ≡ or_later e.1.out (over_rows waits None rows)
    pick None is later = rw is later
    pick (Some out) is later = rw is refl

mapped_or : (f : HeldOut → InFlight) (o later : Option HeldOut) → option_map f (or_out o later) ≡ or_later (option_map f o) (option_map f later)
mapped_or f None later = refl
mapped_or f (Some out) later = refl

-- among the devices' slots
keys_first : (meaning : LocalName → List ℕ) (d : ClientDevs) (table : ℕ) (rows : Rows) → ((row : List ℕ) → whole_slots meaning (held_at d table row) ≡ slots_in_rows rows row) → (ks : List (List ℕ))
    → option_map (whole_out meaning) (first_out d table ks) ≡ over_keys waits None rows ks
keys_first meaning d table rows same [] = refl
keys_first meaning d table rows same (k ∷ ks) =
    mapped_or (whole_out meaning) (held_at d table k).out (first_out d table ks)
    ∙ (ap (λ (s : Slots). or_later s.out (option_map (whole_out meaning) (first_out d table ks))) (same k)
    ∙ ap (or_later (slots_in_rows rows k).out) (keys_first meaning d table rows same ks))

module _ {D : Type 0} (state : D → DiskState) (client : Journal D) (table : ℕ) (meaning : LocalName → List ℕ) (w : Waiting) (t : TableDisk) (steady : IsSteadyTable w table t)
    (same : (row : List ℕ) → whole_slots meaning (held_at (devs state client) table row) ≡ slots_at t row)
    (here : (row : List ℕ) → held_at (devs state client) table row ≡ slots_or_empty (slots_of (devs state client).held table row)) where
  long_or_none : (row : List ℕ) → (length row ≡ 16) ⊎ (slots_at t row ≡ no_slots)
  long_or_none row = pick (slots_of (devs state client).held table row) refl
    where
      pick : (o : Option RowSlots) → slots_of (devs state client).held table row ≡ o → (length row ≡ 16) ⊎ (slots_at t row ≡ no_slots)
      pick None is = inr (sym (same row) ∙ ap (whole_slots meaning) (here row ∙ ap slots_or_empty is))
      pick (Some stored) is = inl (sixteen state client table row stored is)

  quiet : (row : List ℕ) (s : Slots) → s.out ≡ None → IsQuiet waits None row s
  quiet row s none later = ap (λ (o : Option InFlight). or_later o later) none

  module _ (outs : List (List ℕ)) (a : AreNotedRows w.outs table outs) where
    needed : AreNeeded waits None t.rows outs
    needed row = pick (slots_at t row).out refl
      where
        pick : (o : Option InFlight) → (slots_at t row).out ≡ o → IsQuiet waits None row (slots_at t row) ⊎ (list_any (is_at (id_cmp row)) outs ≡ true)
        pick None is = inl (quiet row (slots_at t row) is)
        pick (Some out) is =
            ⊎_elim (λ len. inr (a.all row len ((steady.noted row).sent (subst (λ (o : Option InFlight). IsSome o) (sym is) refl)))) (λ none. inl (quiet row (slots_at t row) (ap (λ (s : Slots). s.out) none))) (long_or_none row)

    pub first_waits : moves.first_out t.rows ≡ option_map (whole_out meaning) (first_out (devs state client) table outs)
    first_waits = first_is t.rows ∙ (walk waits None (λ k m. refl) t.rows outs steady.rising a.rising needed ∙ sym (keys_first meaning (devs state client) table t.rows same outs))

-- ---- row by row

abbrev numbered : Option HeldOut → Option ℕ
numbered o = option_map (λ out. out.number) o

pub no_out : (o : Option HeldOut) → ((out : HeldOut) → o ≡ Some out → ⊥) → o ≡ None
no_out None other = refl
no_out (Some out) other = absurd (other out refl)

module _ {D : Type 0} (state : D → DiskState) (images : D → ℕ → List ℕ → Type 0) (first : Journal D) where
  -- the devices were only read, and none of the rows before these has a write that waits: they are added to the stale ones
  pub record NoneBefore (table : ℕ) (rows : List (List ℕ)) (now : Journal D) (done : ℕ) (before stale : List (List ℕ)) : Type 0 where
    pub looks : Looks {T = Unit {0}} state images first now (Ok tt)
    pub none : NoneWaits (devs state first) table before → NoneWaits (devs state first) table stale
    pub left : numbered (first_out (devs state first) table (drop done rows)) ≡ numbered (first_out (devs state first) table rows)

module _ {D : Type 0} (state : D → DiskState) (images : D → ℕ → List ℕ → Type 0) (only_now : (disk : D) (image : List ℕ) → images disk (state disk).moment image → IsImage (state disk).pending image) (first : Journal D) (up : AreUp first) (ready : IsReady state first (writes_of first))
    (table : ℕ) (rows before : List (List ℕ)) where
  pub none_before : NoneBefore state images first table rows first 0 before before
  none_before = record { looks = looks_none state images only_now first up ready (Ok tt) (ok_not tt); none = λ b. b; left = refl }

  module _ (now : Journal D) (done : ℕ) (stale : List (List ℕ)) (h : NoneBefore state images first table rows now done before stale) where
    pub none_waits : length rows ≤ done → None ≡ numbered (first_out (devs state first) table rows)
    none_waits all = sym (ap (λ (l : List (List ℕ)). numbered (first_out (devs state first) table l)) (drop_all done rows all)) ∙ h.left

    module _ (new : Journal D) (row e : List ℕ) (lt : done < length rows) (is : row ≡ get_or rows done e) (slots : HeldSlots) (k : Looks {T = HeldSlots} state images now new (Ok slots)) (here : slots ≡ held_at (devs state now) table row) where
      next : numbered (first_out (devs state first) table (drop done rows)) ≡ numbered (or_out slots.out (first_out (devs state first) table (drop (done + 1) rows)))
      next =
          ap (λ (l : List (List ℕ)). numbered (first_out (devs state first) table l)) (drop_more rows done e lt)
          ∙ (ap (λ (r : List ℕ). numbered (first_out (devs state first) table (r ∷ drop (done + 1) rows))) (sym is)
          ∙ ap (λ (x : HeldSlots). numbered (or_out x.out (first_out (devs state first) table (drop (done + 1) rows)))) (sym (here ∙ ap (λ (d : ClientDevs). held_at d table row) (h.looks.serves.same (λ no. cc)))))

      pub one_more : slots.out ≡ None → (found : List (List ℕ)) → found ≡ stale ++ row ∷ [] → NoneBefore state images first table rows new (done + 1) before found
      one_more none found pushed = record {
        looks = looks_other state images first new up ready slots (Ok tt) (looks_then state images first new up ready now tt (Ok slots) h.looks k) (ok_not tt);
        none = λ b. waits_none (devs state first) table row slots (here ∙ ap (λ (d : ClientDevs). held_at d table row) (h.looks.serves.same (λ no. cc))) none stale found pushed (h.none b);
        left = sym (next ∙ ap (λ (o : Option HeldOut). numbered (or_out o (first_out (devs state first) table (drop (done + 1) rows)))) none) ∙ h.left;
      }

      pub one_waits : (out : HeldOut) → slots.out ≡ Some out → Some out.number ≡ numbered (first_out (devs state first) table rows)
      one_waits out some = sym (next ∙ ap (λ (o : Option HeldOut). numbered (or_out o (first_out (devs state first) table (drop (done + 1) rows)))) some) ∙ h.left
