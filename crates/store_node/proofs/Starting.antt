-- What a start finds, and the tasks that it takes on.
use Rattle.std.proofs.Common.{◌≡◌, inl, inr, ⊎_elim, ℕ, ◌+◌, ◌<◌, ◌≤◌, ◌++◌, length, true, false, List, [], ◌∷◌, Option, Some, None, refl, sym, ◌∙◌, ap, subst, arith}
use Rattle.std.specs.Prelude.{option_to_list}
use Rattle.std.proofs.lemmas.Bool.Decides.{nat_tests}
use Rattle.stab_base.specs.declared.chunk_name.ChunkName.{ChunkName}
use Rattle.row_value.specs.declared.schema.Schema.{Schema}
use Rattle.row_store.specs.Data.{version_of}
use Rattle.status_log.specs.Entry.{Entry, entry_of}
use Rattle.stab_base.specs.declared.step.Step.TheVariants as steps
use Rattle.store_commit.specs.declared.recovery.Recovery.{Recovery}
use Rattle.store_commit.specs.declared.recovery.Recovery.TheVariants.{Nothing, Forward, Back}
use Rattle.store_commit.specs.Devs.{Devs, CloseEntry}
use Rattle.store_commit.specs.Agenda.{recovery_writes}
use Rattle.store_commit.specs.Agenda as agendas
use Rattle.store_commit.specs.Recover.{IsRecovery}
use Rattle.step_tables.specs.Chunks.{rising, without_names}
use Rattle.step_tables.specs.Facts.{Fact}
use Rattle.step_tables.specs.Facts as facts
use Rattle.step_tables.specs.Store.{Stored, current_of}
use Rattle.step_tables.specs.StoreMoves.{StoreDisk, StoreStep, recovering, reopening, recovered, item_at, drops, ends_with, Close}
use Rattle.device_laws.specs.Stands.{Stands, IsBegun, AreNumbered}
use Rattle.device_laws.proofs.Numbered.{current_own}
use Rattle.device_laws.proofs.NamedDevices.{open_entry, none_open}
use Rattle.device_laws.proofs.Rows.{is_at_version, none_or_less}
use Rattle.store_node.specs.Due.{told_at, is_last_of, facts_found}
use Rattle.store_node.specs.declared.owed.Owed.TheVariants as owed
use Rattle.store_node.specs.Gathered.{HasRoom}
use Rattle.store_node.specs.declared.gathered.Gathered.{Gathered}
use Rattle.store_node.specs.Node.{AreOwed, AreFit, GoesWell, facts_in, sends_in}

-- ---- the tasks

-- the writes behind the openings, as they tell and send
drops_owed : (store table : ℕ) (names : List ChunkName) → AreOwed table (owed.Start store) (agendas.drops names ++ CloseEntry ∷ []) (drops names ++ ends_with Close (facts.StoreRecovered store table) ∷ [])
drops_owed store table [] = (refl, refl, tt)
drops_owed store table (name ∷ names) = (last names, refl, drops_owed store table names)
  where
    last : (more : List ChunkName) → [] ≡ told_at table (owed.Start store) steps.ChunkDrop (is_last_of (agendas.drops more ++ CloseEntry ∷ []))
    last [] = refl
    last (n ∷ more) = refl

pub recovering_owed : (store table : ℕ) (disk : StoreDisk) → AreOwed table (owed.Start store) (recovery_writes (rising disk.left) true) (recovering store table disk)
recovering_owed store table disk = (refl, refl, (refl, refl, (last (rising disk.left), refl, drops_owed store table (rising disk.left))))
  where
    last : (more : List ChunkName) → [] ≡ told_at table (owed.Start store) steps.OpenLog (is_last_of (agendas.drops more ++ CloseEntry ∷ []))
    last [] = refl
    last (n ∷ more) = refl

pub reopening_owed : (store table : ℕ) → AreOwed table (owed.Start store) (recovery_writes [] false) (reopening store table)
reopening_owed store table = (refl, refl, (refl, refl, (refl, refl, tt)))

drops_facts : (names : List ChunkName) (fact : Fact) → facts_in (drops names ++ ends_with Close fact ∷ []) ≡ 1
drops_facts [] fact = refl
drops_facts (name ∷ names) fact = let more = drops_facts names fact in omega arith

pub recovering_facts : (store table : ℕ) (disk : StoreDisk) → facts_in (recovering store table disk) ≡ 1
recovering_facts store table disk = let more = drops_facts (rising disk.left) (facts.StoreRecovered store table) in omega arith

drops_sends : (names : List ChunkName) (fact : Fact) → sends_in (drops names ++ ends_with Close fact ∷ []) ≡ 0
drops_sends [] fact = refl
drops_sends (name ∷ names) fact = let more = drops_sends names fact in omega arith

pub recovering_sends : (store table : ℕ) (disk : StoreDisk) → sends_in (recovering store table disk) ≡ 0
recovering_sends store table disk = let more = drops_sends (rising disk.left) (facts.StoreRecovered store table) in omega arith

drops_well : (schema : Schema) (disk : StoreDisk) (names : List ChunkName) (fact : Fact) → AreFit schema disk.items → GoesWell schema disk (drops names ++ ends_with Close fact ∷ [])
drops_well schema disk [] fact fit = (fit, (fit, refl))
drops_well schema disk (name ∷ names) fact fit = (fit, drops_well schema (record disk { left = without_names (name ∷ []) disk.left }) names fact fit)

pub recovering_well : (schema : Schema) (store table : ℕ) (disk : StoreDisk) → AreFit schema disk.items → GoesWell schema disk (recovering store table disk)
recovering_well schema store table disk fit = (fit, (fit, (fit, drops_well schema disk (rising disk.left) (facts.StoreRecovered store table) fit)))

pub reopening_well : (schema : Schema) (store table : ℕ) (disk : StoreDisk) → AreFit schema disk.items → disk.pending ≡ None → GoesWell schema disk (reopening store table)
reopening_well schema store table disk fit none = (fit, (fit, (fit, (fit, none))))

-- ---- what was cut short

no_item : (n : ℕ) (items : List Stored) (version : ℕ) → AreNumbered n items → n + length items < version → item_at version items ≡ None
no_item n [] version c more = refl
no_item n (x ∷ items) version c more = let rest = no_item (n + 1) items version c.1 (omega arith) in let is = c.0 in grind (arith, nat_tests, rest, is)

last_item_at : (n : ℕ) (items : List Stored) (item : Stored) → AreNumbered n items → item.entry.version ≡ n + length items + 1 → item_at item.entry.version (items ++ item ∷ []) ≡ Some item
last_item_at n [] item c is = grind (arith, nat_tests)
last_item_at n (x ∷ items) item c is = let rest = last_item_at (n + 1) items item c.1 (omega arith) in let at = c.0 in grind (arith, nat_tests, rest, at)

numbered_front : (n : ℕ) (items more : List Stored) → AreNumbered n (items ++ more) → AreNumbered n items
numbered_front n [] more c = tt
numbered_front n (x ∷ items) more c = (c.0, numbered_front (n + 1) items more c.1)

module _ (schema : Schema) (d : Devs) (disk : StoreDisk) (st : Stands schema d disk) (store table : ℕ) where
  abbrev step : Stored → StoreStep
  step pending = recovered store table disk pending (item_at pending.entry.version disk.items)

  -- the step for either answer
  recovered_store : (pending : Stored) (o : Option Stored) → (recovered store table disk pending o).store ≡ record { disk = disk; agenda = Some (recovering store table disk) }
  recovered_store pending None = refl
  recovered_store pending (Some found) = refl

  recovered_sends : (pending : Stored) (o : Option Stored) → (recovered store table disk pending o).sends ≡ []
  recovered_sends pending None = refl
  recovered_sends pending (Some found) = refl

  pub step_store : (pending : Stored) → (step pending).store ≡ record { disk = disk; agenda = Some (recovering store table disk) }
  step_store pending = recovered_store pending (item_at pending.entry.version disk.items)

  pub step_sends : (pending : Stored) → (step pending).sends ≡ []
  step_sends pending = recovered_sends pending (item_at pending.entry.version disk.items)

  -- it isn't put: the row has an older version
  module _ (pending : Stored) (entry : Entry) (is : d.pending ≡ Some entry) (b : IsBegun schema.chunk disk pending entry) where
    isnt_put : disk.items ≡ b.before → (r : Recovery) → IsRecovery d r → facts_found table r ≡ (step pending).facts
    isnt_put same r rec =
        let numbered : AreNumbered 0 b.before = subst (λ (l : List Stored). AreNumbered 0 l) same st.held.numbered in
        let next = b.next in
        let none : item_at pending.entry.version disk.items ≡ None = ap (item_at pending.entry.version) same ∙ no_item 0 b.before pending.entry.version numbered (omega arith) in
        by_recovery r rec ∙ sym (ap (λ (o : Option Stored). (recovered store table disk pending o).facts) none)
      where
        older : (row : List ℕ) → version_of d.held row ≡ pending.entry.version → ⊥
        older row at = let most = none_or_less schema.chunk disk.items d.held st.held.numbered st.held.rows row in let n = b.next in let long : length disk.items ≡ length b.before = ap
            (λ (l : List Stored). length l) same in omega arith

        by_recovery : (r : Recovery) → IsRecovery d r → facts_found table r ≡ facts.Back table pending.entry.version ∷ []
        by_recovery Nothing rec = let both : Some entry ≡ None = sym is ∙ rec in absurd cc
        by_recovery (Forward e) rec =
            let both : Some entry ≡ Some (entry_of e) = sym is ∙ rec.0 in
            let one : entry ≡ entry_of e = cc in
            absurd (older e.row (rec.1 ∙ (sym (ap (λ (x : Entry). x.version) one) ∙ b.entry_of.version)))
        by_recovery (Back version) rec =
            let both : Some entry ≡ Some rec.0 = sym is ∙ rec.1 in
            let one : entry ≡ rec.0 = cc in
            ap (λ (v : ℕ). facts.Back table v ∷ []) (sym rec.2 ∙ (sym (ap (λ (x : Entry). x.version) one) ∙ b.entry_of.version))

    -- it is: the row has its version
    was_put : disk.items ≡ b.before ++ pending ∷ [] → (r : Recovery) → IsRecovery d r → facts_found table r ≡ (step pending).facts
    was_put same r rec =
        let numbered : AreNumbered 0 b.before = numbered_front 0 b.before (pending ∷ []) (subst (λ (l : List Stored). AreNumbered 0 l) same st.held.numbered) in
        let next = b.next in
        let found : item_at pending.entry.version disk.items ≡ Some pending = ap (item_at pending.entry.version) same ∙ last_item_at 0 b.before pending numbered (omega arith) in
        by_recovery r rec ∙ sym (ap (λ (o : Option Stored). (recovered store table disk pending o).facts) found)
      where
        newest : version_of d.held pending.entry.row ≡ pending.entry.version
        newest =
            let current : current_of disk.items pending.entry.row ≡ Some pending = ap (λ (l : List Stored). current_of l pending.entry.row) same ∙ current_own b.before pending pending.entry.row refl in
            is_at_version schema.chunk disk.items d.held st.held.numbered st.held.rows pending.entry.row pending current

        by_recovery : (r : Recovery) → IsRecovery d r → facts_found table r ≡ facts.Forward table pending.entry ∷ []
        by_recovery Nothing rec = let both : Some entry ≡ None = sym is ∙ rec in absurd cc
        by_recovery (Forward e) rec =
            let both : Some entry ≡ Some (entry_of e) = sym is ∙ rec.0 in
            let one : entry ≡ entry_of e = cc in
            let k = b.entry_of in
            let row : e.row ≡ pending.entry.row = sym (ap (λ (x : Entry). x.row) one) ∙ k.row in
            let version : e.version ≡ pending.entry.version = sym (ap (λ (x : Entry). x.version) one) ∙ k.version in
            let client : e.client ≡ pending.entry.client = sym (ap (λ (x : Entry). x.client) one) ∙ k.client in
            let number : e.number ≡ pending.entry.number = sym (ap (λ (x : Entry). x.number) one) ∙ k.number in
            let base : e.base ≡ pending.entry.base = sym (ap (λ (x : Entry). x.base) one) ∙ k.base in
            rw (row, version, client, number, base) refl
        by_recovery (Back version) rec =
            let both : Some entry ≡ Some rec.0 = sym is ∙ rec.1 in
            let one : entry ≡ rec.0 = cc in
            let same_version : pending.entry.version ≡ version = sym b.entry_of.version ∙ (ap (λ (x : Entry). x.version) one ∙ rec.2) in
            let row : rec.0.row ≡ pending.entry.row = sym (ap (λ (x : Entry). x.row) one) ∙ b.entry_of.row in
            absurd (rec.3 (ap (version_of d.held) row ∙ (newest ∙ same_version)))

  -- what a start finds is what the step tells
  pub found_is : (pending : Stored) → disk.pending ≡ Some pending → (r : Recovery) → IsRecovery d r → facts_found table r ≡ (step pending).facts
  found_is pending is r rec =
      let e = open_entry schema d disk st pending is in
      ⊎_elim (λ before. isnt_put pending e.0 e.1 e.2 before.0 r rec) (λ after. was_put pending e.0 e.1 e.2 after.0 r rec) e.2.stage

  pub found_none : disk.pending ≡ None → (r : Recovery) → IsRecovery d r → facts_found table r ≡ []
  found_none none Nothing rec = refl
  found_none none (Forward e) rec = let closed = (none_open schema d disk st none).0 in let both : None ≡ Some (entry_of e) = sym closed ∙ rec.0 in absurd cc
  found_none none (Back version) rec = let closed = (none_open schema d disk st none).0 in let both : None ≡ Some rec.0 = sym closed ∙ rec.1 in absurd cc

-- ---- room for what is found and for the end

pub room_two : {T : Type 0} (g : Gathered T) (n : ℕ) → n ≤ 1 → HasRoom g 2 → HasRoom g (n + 1)
room_two g n few h = record {
  now = let k = h.now in omega arith;
  later = ⊎_elim (λ none. absurd (omega (arith, none))) (λ more. ⊎_elim (λ spare. inr (inl spare)) (λ empty. absurd (omega (arith, empty.1))) more) h.later;
}

pub one_at_most : {T : Type 0} (o : Option T) → length (option_to_list o) ≤ 1
one_at_most None = omega arith
one_at_most (Some x) = omega arith

pub no_room : {T : Type 0} (g : Gathered T) → HasRoom g 0
no_room g = record { now = let k = g.items.ok.1 in omega arith; later = inl refl }
