-- What holds a new content of a row, before its brought chunks get the plan's number.
use Rattle.std.proofs.Common.{◌≡◌, ◌⊎◌, inl, inr, ⊎_elim, ℕ, ◌+◌, ◌<◌, ◌≤◌, false, List, [], Some, None, Ok, length, refl, sym, subst, arith}
use Rattle.std.specs.Prelude.{◌^◌}
use Rattle.std.specs.List.{AllByRecursion}
use Rattle.row_value.specs.declared.content.Content.{Content}
use Rattle.row_value.specs.declared.schema.Scheme.TheVariants.{Eventual}
use Rattle.row_value.specs.Fit.{fit_of}
use Rattle.stab_base.specs.declared.limits.TheConstants.{NUMBER_MAX}
use Rattle.value_codec.specs.SchemaSpelling.{HasSchemaSpelling}
use Rattle.held_value.specs.declared.local_name.LocalName.{LocalName}
use Rattle.held_value.specs.declared.slots.Slots.{Slots as HeldSlots}
use Rattle.slot_store.specs.declared.held.TableRecord.{TableRecord}
use Rattle.client_tables.specs.Kept as kept
use Rattle.client_tables.specs.Plan.{AreKnown}
use Rattle.client_tables.specs.Shown.{shown_content}
use Rattle.client_journal.specs.Devs.{ClientDevs}
use Rattle.client_journal.specs.Names.{Has, names_of, names_in}
use Rattle.client_journal.specs.Plan.{chunk_most}
use Rattle.step_tables.specs.Chunks.{flat}
use Rattle.step_tables.specs.ClientMoves.{ClientDisk}
use Rattle.journal_laws.specs.Holds.{empty}
use Rattle.journal_laws.specs.Moves.{plan_meaning}
use Rattle.journal_laws.specs.Whole.{whole, HaveLens}
use Rattle.held_contents.specs.declared.holding.HeldNew.{HeldNew}
use Rattle.held_contents.specs.Reading.{AreThereIf, chunks_shown}
use Rattle.held_contents.proofs.HeldCuts.{cut_count_held}
use Rattle.plan_limits.specs.Fit.{IsFitContent, HaveWords}
use Rattle.plan_limits.proofs.Commits.{chunks_short}
use Rattle.plan_limits.proofs.New.{new_fit}
use Rattle.plan_limits.proofs.Rows.{behind_fit}
use Rattle.client_node.specs.declared.waiting.Waiting.{Waiting}
use Rattle.client_node.specs.Answers.{record_at, held_at}
use Rattle.client_node.specs.declared.preparing.OpenedRow.{OpenedRow}
use Rattle.client_node.specs.Preparing.{IsOpenedRow, HoldsNew}
use Rattle.client_node.specs.Readied.{IsIdleAt, number_next}
use Rattle.client_node.specs.Spelling.{cuts_of}
use Rattle.client_node.proofs.Looked.{some_size}
use Rattle.client_node.proofs.Opened.{MayKeep, may_keep}
use Rattle.client_node.proofs.RowPlans.{names_same}
use Rattle.client_node.proofs.SendPlans.{few_names}
use Rattle.client_node.proofs.Shown.{there_shown}
use Rattle.client_node.proofs.SpelledRows.{fit_cut}

module _ (c : ℕ) (d : ClientDevs) (w : Waiting) (disk : ClientDisk) (idle : IsIdleAt d c w disk) (table : ℕ) (row : List ℕ) (found : TableRecord) (opened : record_at d table ≡ Some found) (schema : HasSchemaSpelling found.schema)
    (content : Content) (fits : fit_of found.schema content ≡ Ok tt) (words : HaveWords content) (new : HeldNew)
    (holds : HoldsNew found.schema.chunk (chunks_shown idle.stands.0 (shown_content (held_at d table row))) content new) where
  abbrev slots : HeldSlots
  slots = held_at d table row

  abbrev n : ℕ
  n = number_next d

  abbrev pub means : LocalName → List ℕ
  means = plan_meaning idle.stands.0 n new.brought

  keep : MayKeep c d disk idle.stands idle.rests table row slots refl found opened (chunks_shown idle.stands.0 (shown_content slots))
  keep = may_keep c d disk idle.stands idle.rests table row slots refl found opened

  pub fit_new : IsFitContent means (Some found) new.content
  fit_new = new_fit idle.stands.0 n found (chunks_shown idle.stands.0 (shown_content slots)) [] schema keep.are keep.spelled tt keep.once content new.content new.brought fits words holds.against

  pub lens_new : HaveLens means new.content
  lens_new = holds.lens idle.stands.0 n keep.are

  pub whole_new : whole means new.content ≡ content
  whole_new = holds.whole_is idle.stands.0 n keep.are

  -- each of its names is one of the row's, or of a chunk that is brought
  pub known_new : AreKnown slots (length new.brought) (names_of new.content)
  known_new name has = ⊎_elim (λ kept. inl (subst (λ (l : List LocalName). Has l name) (sym (names_same slots)) (keep.within name kept))) (λ b. inr b) (holds.names name has)

  pub small_new : AllByRecursion (λ bytes. length bytes ≤ chunk_most) new.brought
  small_new = chunks_short found.schema.chunk new.brought schema.size holds.small

  -- it has few chunks
  pub few_new : (number : ℕ) → number ≤ NUMBER_MAX → length (names_of new.content) < 2 ^ 32
  few_new number few =
      let word : number < 2 ^ 64 = omega (arith, few) in
      few_names means found schema (record { number = number; read = 0; content = new.content }) None None None
      (behind_fit means (Some found) Eventual empty (kept.Write number new.content) (record { whole = record { right = refl }; spelled = (tt, (tt, (tt, tt))); pieces = tt }) (word, fit_new))

  -- so can those that it is cut into be numbered
  pub few_cuts : (number : ℕ) → number ≤ NUMBER_MAX → length (flat (cuts_of found.schema.chunk content)) < 2 ^ 32
  few_cuts number few =
      subst (λ (k : ℕ). k < 2 ^ 32) (sym (cut_count_held means found.schema.chunk new.content content (some_size found.schema.chunk schema.size) (fit_cut means found new.content lens_new fit_new) whole_new)) (few_new number few)

-- the slots that were read are those that the devices have
pub holds_now : (c : ℕ) (d : ClientDevs) (w : Waiting) (disk : ClientDisk) (idle : IsIdleAt d c w disk) (at : OpenedRow) → IsOpenedRow d at.table at.row at → (content : Content) (new : HeldNew)
    → ((meaning : LocalName → List ℕ) → AreThereIf meaning d (shown_content at.slots) → HoldsNew at.opened.schema.chunk (chunks_shown meaning (shown_content at.slots)) content new)
    → HoldsNew at.opened.schema.chunk (chunks_shown idle.stands.0 (shown_content (held_at d at.table at.row))) content new
holds_now c d w disk idle at is content new holds =
    subst (λ (s : HeldSlots). HoldsNew at.opened.schema.chunk (chunks_shown idle.stands.0 (shown_content s)) content new) is.slots
    (holds idle.stands.0 (there_shown idle.stands.0 d idle.stands.1.named at.table at.row at.slots is.slots))
