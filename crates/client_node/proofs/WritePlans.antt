-- The plan of a prepared write is one of the step table, and one that the devices take on.
use Rattle.std.proofs.Common.{◌≡◌, ℕ, false, ◌+◌, ◌<◌, ◌≤◌, List, [], ◌∷◌, ◌++◌, length, Option, Some, None, Ok, refl, sym, ◌∙◌, ap, subst, arith}
use Rattle.std.specs.Prelude.{◌^◌, map, option_map}
use Rattle.stab_base.specs.declared.limits.TheConstants.{NUMBER_MAX}
use Rattle.row_value.specs.declared.content.Content.{Content}
use Rattle.row_value.specs.declared.pieces.Piece.{Piece}
use Rattle.row_value.specs.declared.schema.Scheme.TheVariants.{Eventual}
use Rattle.row_value.specs.Fit.{fit_of}
use Rattle.value_codec.specs.SchemaSpelling.{HasSchemaSpelling}
use Rattle.held_value.specs.declared.local_name.LocalName.{LocalName}
use Rattle.held_value.specs.declared.slots.Shadow.{Shadow as HeldShadow}
use Rattle.held_value.specs.declared.slots.Slots.{Slots as HeldSlots}
use Rattle.slot_store.specs.declared.held.TableRecord.{TableRecord}
use Rattle.client_tables.specs.declared.change.Change.{Change}
use Rattle.client_tables.specs.Change.{version_in}
use Rattle.client_tables.specs.Kept.{SlotEvent}
use Rattle.client_tables.specs.Kept as kept
use Rattle.client_tables.specs.Shown.{shown_content}
use Rattle.client_tables.specs.Transitions.{written, written_strong}
use Rattle.client_journal.specs.Devs.{ClientDevs}
use Rattle.client_journal.specs.Names.{Has, names_of, names_in, names_of_main, names_of_shadow, names_of_out}
use Rattle.client_journal.specs.Redone.{redone}
use Rattle.step_tables.specs.Client.{version_in as table_version}
use Rattle.step_tables.specs.Lines.{fact_of}
use Rattle.step_tables.specs.Messages.{Send}
use Rattle.step_tables.specs.Travels.{send_of}
use Rattle.step_tables.specs.Chunks.{cut, objects_of, all_against}
use Rattle.step_tables.specs.ClientMoves.{Slots, Plan, ClientDisk, table_at, slots_in, told, chunks_read, write_plan, strong_plan}
use Rattle.journal_laws.specs.Moves.{PlansChange, IsNewTo, Spells}
use Rattle.journal_laws.specs.Whole.{whole, whole_slots, whole_shadow, pieces_by}
use Rattle.journal_laws.proofs.Alike.{has_front, has_behind}
use Rattle.journal_laws.proofs.Transitions.{write_plans, strong_plans}
use Rattle.held_contents.specs.declared.holding.HeldNew.{HeldNew}
use Rattle.held_contents.specs.Reading.{chunks_shown}
use Rattle.plan_limits.specs.Fit.{HaveWords, AreFitPieces}
use Rattle.client_node.specs.declared.planning.Planned.{Planned}
use Rattle.client_node.specs.declared.waiting.Waiting.{Waiting}
use Rattle.client_node.specs.Answers.{record_at, held_at}
use Rattle.client_node.specs.Preparing.{HoldsNew, MakesChange, change_for, plan_for, wrote}
use Rattle.client_node.specs.Readied.{IsIdleAt, IsPlanFor, IsReadied}
use Rattle.client_node.specs.Spelling.{SpellsContent}
use Rattle.client_node.proofs.Looked.{some_size}
use Rattle.client_node.proofs.NewContents.{means, fit_new, lens_new, whole_new, known_new, small_new}
use Rattle.client_node.proofs.RowReady.{last_is, whole_now, event_readied}
use Rattle.client_node.proofs.SpelledRows.{spells_now, count_now}

pub version_whole : (meaning : LocalName → List ℕ) (o : Option HeldShadow) → table_version (option_map (whole_shadow meaning) o) ≡ version_in o
version_whole meaning None = refl
version_whole meaning (Some s) = refl

-- a plan that makes a change of a row's slots is one for it
abbrev pub made_for : (slots behind : HeldSlots) (change : Change) (given : List (List ℕ)) (table last : ℕ) (row : List ℕ) (planned : Planned) → (m : MakesChange slots change given table last row planned) → change.slots ≡ Some behind
    → IsPlanFor table row last None m.made planned.plan
made_for slots behind change given table last row planned m some =
    let changes : m.made.change.slots ≡ Some behind = ap (λ (x : Change). x.slots) m.row_plan.change ∙ some in
    record {
      behind = behind;
      changes = changes;
      table_is = ap (λ p. p.table) m.plan_is;
      last_is = ap (λ p. p.last) m.plan_is;
      row_is = ap (λ p. p.row) m.plan_is ∙ ap (option_map (change_for row)) changes;
      position_is = ap (λ p. p.position) m.plan_is;
      new_record = ap (λ p. p.new_record) m.plan_is;
      brought = ap (λ p. p.brought) m.plan_is;
      drops = ap (λ p. p.drops) m.plan_is;
      tells = ap (λ p. p.tells) m.plan_is;
    }

module _ (c : ℕ) (d : ClientDevs) (w : Waiting) (disk : ClientDisk) (idle : IsIdleAt d c w disk) (table : ℕ) (row : List ℕ) (found : TableRecord) (opened : record_at d table ≡ Some found) (schema : HasSchemaSpelling found.schema)
    (content : Content) (fits : fit_of found.schema content ≡ Ok tt) (words : HaveWords content) (new : HeldNew)
    (holds : HoldsNew found.schema.chunk (chunks_shown idle.stands.0 (shown_content (held_at d table row))) content new)
    (number : ℕ) (next : number ≡ (redone d).last + 1) (few : number ≤ NUMBER_MAX) (size : length row ≡ 16) (planned : Planned) where
  abbrev slots : HeldSlots
  slots = held_at d table row

  abbrev there : Slots
  there = slots_in (table_at disk table) row

  abbrev meaning : LocalName → List ℕ
  meaning = means c d w disk idle table row found opened schema content fits words new holds

  pub number_is : number ≡ disk.last + 1
  number_is = next ∙ ap (λ (k : ℕ). k + 1) (last_is c d disk idle.stands idle.rests)

  least : disk.last ≤ number
  least = let is = number_is in omega (arith, is)

  word : number < 2 ^ 64
  word = omega (arith, few)

  slots_whole : whole_slots meaning slots ≡ there
  slots_whole = whole_now c d disk idle.stands idle.rests table row new.brought

  content_whole : whole meaning new.content ≡ content
  content_whole = whole_new c d w disk idle table row found opened schema content fits words new holds

  pub read_is : table_version there.shadow ≡ version_in slots.shadow
  read_is = ap (λ (s : Slots). table_version s.shadow) (sym slots_whole) ∙ version_whole meaning slots.shadow

  -- ---- sent later

  module _ (made : MakesChange slots (written slots number new.content) new.brought table number row planned) where
    abbrev p : Plan
    p = write_plan c disk table row there content

    abbrev behind : HeldSlots
    behind = record slots { main = Some (record { number = number; read = version_in slots.shadow; content = new.content }) }

    abbrev event : SlotEvent
    event = kept.Write number new.content

    plans : PlansChange meaning c row slots (written slots number new.content) p
    plans =
        subst (λ (k : ℕ). PlansChange meaning c row slots (written slots k new.content) p) (sym number_is)
        (subst (λ (x : Content). PlansChange meaning c row slots (written slots (disk.last + 1) new.content) (write_plan c disk table row there x)) content_whole
        (subst (λ (x : Slots). PlansChange meaning c row slots (written slots (disk.last + 1) new.content) (write_plan c disk table row x (whole meaning new.content))) slots_whole
        (write_plans c meaning disk table row slots new.content)))

    named : (ordinal : ℕ) → ordinal < length new.brought → Has (names_in behind) (record { plan = 0; ordinal = ordinal })
    named ordinal less = has_front (names_of new.content) (names_of_shadow slots.shadow ++ (names_of_out slots.out ++ names_of_shadow slots.conflict)) (record { plan = 0; ordinal = ordinal }) (holds.all_brought ordinal less)

    pub free_readied : map fact_of planned.facts.items ≡ told p → map send_of planned.messages.items ≡ [] → IsReadied d c idle.stands.0 disk planned p []
    free_readied tells sends =
        event_readied c d disk idle.stands idle.rests table row found opened w idle.steady Eventual event new.brought
        (word, fit_new c d w disk idle table row found opened schema content fits words new holds) (lens_new c d w disk idle table row found opened schema content fits words new holds)
        (made.known Eventual slots event (length new.brought) (known_new c d w disk idle table row found opened schema content fits words new holds)) made.made made.row_plan None tt number least few planned
        (made_for slots behind (written slots number new.content) new.brought table number row planned made refl) size named (small_new c d w disk idle table row found opened schema content fits words new holds)
        p refl (sym number_is) refl plans tells [] sends

  -- ---- sent at once

  module _ (pieces : List Piece) (spells : SpellsContent d found.schema.chunk slots.shadow content pieces) where
    some : 0 < found.schema.chunk
    some = some_size found.schema.chunk schema.size

    spells_new : Spells meaning found.schema.chunk slots.shadow new.content pieces
    spells_new =
        spells_now c d disk idle.stands idle.rests table row found opened some new.brought new.content (lens_new c d w disk idle table row found opened schema content fits words new holds) (fit_new c d w disk idle table row found opened schema content fits words new holds)
        content (sym content_whole) pieces spells

    pieces_fit : AreFitPieces new.content pieces
    pieces_fit = record {
      count = count_now c d disk idle.stands idle.rests table row found opened some new.brought new.content (lens_new c d w disk idle table row found opened schema content fits words new holds) (fit_new c d w disk idle table row found opened schema content fits words new holds)
          content (sym content_whole) pieces spells;
      spelled = spells.spelled;
    }

    -- they are those of the step table
    pub spelled_there : pieces_by new.content pieces ≡ all_against 0 (chunks_read found.schema.chunk there.shadow) (map (cut found.schema.chunk) (objects_of content))
    spelled_there =
        spells_new ∙ (ap (λ (x : Slots). all_against 0 (chunks_read found.schema.chunk x.shadow) (map (cut found.schema.chunk) (objects_of (whole meaning new.content)))) slots_whole
        ∙ ap (λ (x : Content). all_against 0 (chunks_read found.schema.chunk there.shadow) (map (cut found.schema.chunk) (objects_of x))) content_whole)

  module _ (pieces : List Piece) (spells : SpellsContent d found.schema.chunk slots.shadow content pieces) (unused : IsNewTo slots.main number) (made : MakesChange slots (written_strong slots number new.content pieces) new.brought table number row planned) where
    abbrev p_strong : Plan
    p_strong = strong_plan found.schema.chunk c disk table row there content

    abbrev behind_strong : HeldSlots
    behind_strong = record slots {
      out = Some (record { number = number; read = version_in slots.shadow; base = version_in slots.shadow; whole = false; content = new.content; pieces = pieces });
    }

    abbrev event_strong : SlotEvent
    event_strong = kept.WriteStrong number new.content pieces

    fit_pieces : AreFitPieces new.content pieces
    fit_pieces = pieces_fit pieces spells

    plans_strong : PlansChange meaning c row slots (written_strong slots number new.content pieces) p_strong
    plans_strong =
        subst (λ (k : ℕ). PlansChange meaning c row slots (written_strong slots k new.content pieces) p_strong) (sym number_is)
        (subst (λ (x : Content). PlansChange meaning c row slots (written_strong slots (disk.last + 1) new.content pieces) (strong_plan found.schema.chunk c disk table row there x)) content_whole
        (subst (λ (x : Slots). PlansChange meaning c row slots (written_strong slots (disk.last + 1) new.content pieces) (strong_plan found.schema.chunk c disk table row x (whole meaning new.content))) slots_whole
        (strong_plans c meaning disk table row slots found.schema.chunk new.content pieces (subst (λ (k : ℕ). IsNewTo slots.main k) number_is unused) (spells_new pieces spells))))

    named_strong : (ordinal : ℕ) → ordinal < length new.brought → Has (names_in behind_strong) (record { plan = 0; ordinal = ordinal })
    named_strong ordinal less =
        let name : LocalName = record { plan = 0; ordinal = ordinal } in
        has_behind (names_of_main slots.main) (names_of_shadow slots.shadow ++ (names_of new.content ++ names_of_shadow slots.conflict)) name
        (has_behind (names_of_shadow slots.shadow) (names_of new.content ++ names_of_shadow slots.conflict) name (has_front (names_of new.content) (names_of_shadow slots.conflict) name (holds.all_brought ordinal less)))

    pub strong_readied : map fact_of planned.facts.items ≡ told p_strong → (sends : List Send) → map send_of planned.messages.items ≡ sends → IsReadied d c idle.stands.0 disk planned p_strong sends
    strong_readied tells sends sends_are =
        event_readied c d disk idle.stands idle.rests table row found opened w idle.steady Eventual event_strong new.brought
        (word, fit_new c d w disk idle table row found opened schema content fits words new holds, fit_pieces) (lens_new c d w disk idle table row found opened schema content fits words new holds, fit_pieces.count)
        (made.known Eventual slots event_strong (length new.brought) (known_new c d w disk idle table row found opened schema content fits words new holds)) made.made made.row_plan None tt number least few planned
        (made_for slots behind_strong (written_strong slots number new.content pieces) new.brought table number row planned made refl) size named_strong (small_new c d w disk idle table row found opened schema content fits words new holds)
        p_strong refl (sym number_is) refl plans_strong tells sends sends_are
