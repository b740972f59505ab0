-- What is held of a row, as the step table has it; and a call that only reads.
use Rattle.std.proofs.Common.{◌≡◌, ◌⊎◌, inl, inr, ⊎_elim, ℕ, ◌<◌, true, List, [], ◌++◌, Option, Some, None, Result, Ok, Err, refl, sym, ◌∙◌, ap, subst, arith}
use Rattle.std.specs.Prelude.{IfErr, IfSome, IsErrOf, option_map}
use Rattle.disk_trait.specs.Image.{IsImage}
use Rattle.disk_trait.specs.Calls.{DiskState}
use Rattle.disk_trait.specs.Fuse.{behind, inner_of}
use Rattle.disk_trait.specs.declared.fuse.FuseDisk.{FuseDisk}
use Rattle.stab_base.specs.declared.chunk_name.ChunkName.{ChunkName}
use Rattle.value_codec.specs.SchemaSpelling.{IsChunkSize}
use Rattle.held_value.specs.declared.local_name.LocalName.{LocalName}
use Rattle.held_value.specs.declared.slots.Shadow.{Shadow as HeldShadow}
use Rattle.held_value.specs.declared.slots.Slots.{Slots as HeldSlots}
use Rattle.slot_store.specs.declared.held.RowSlots.{RowSlots}
use Rattle.slot_store.specs.declared.held.TableRecord.{TableRecord}
use Rattle.slot_store.specs.Data.{slots_of}
use Rattle.client_tables.specs.Change.{seen_in}
use Rattle.client_journal.specs.declared.devs.Journal.{Journal}
use Rattle.client_journal.specs.Devs.{ClientDevs}
use Rattle.client_journal.specs.Names.{Has, names_of_main, names_of_shadow, names_of_out, names_in}
use Rattle.client_journal.specs.NamedSlots.{NamedSlots}
use Rattle.client_journal.specs.Redone.{redone}
use Rattle.client_journal.proofs.Wholes.{has_right}
use Rattle.row_value.specs.declared.schema.Schema.{Schema}
use Rattle.step_tables.specs.Chunks.{flat}
use Rattle.step_tables.specs.Facts.{Answer}
use Rattle.step_tables.specs.Facts as facts
use Rattle.step_tables.specs.ClientMoves.{TableDisk, ClientDisk, ClientTask, Client, Show, Slots, chunks_read, table_at, slots_at, slots_in, seen, top}
use Rattle.journal_laws.specs.Holds.{IsRecordOf, slots_or_empty}
use Rattle.journal_laws.specs.Whole.{whole_shadow, whole_slots, HaveLens, AreHeld}
use Rattle.journal_laws.proofs.Plans.{named_in}
use Rattle.journal_laws.proofs.Seen.{seen_held}
use Rattle.journal_laws.proofs.Transitions.{seen_whole}
use Rattle.held_contents.specs.Reading.{AreThereIf, chunks_shown, content_read}
use Rattle.held_contents.specs.Request.{known_in, AreCutBy}
use Rattle.held_contents.proofs.HeldCuts.{shadow_read}
use Rattle.plan_limits.specs.Fit.{IsFitRow}
use Rattle.plan_limits.proofs.Rows.{FitShadow, AreFit, each_fit}
use Rattle.client_node.specs.declared.calls.held.RowHeld.{RowHeld}
use Rattle.client_node.specs.declared.fault.CallFault.{CallFault}
use Rattle.client_node.specs.declared.fault.CallFault.TheVariants as call
use Rattle.client_node.specs.declared.node.ClientNode.{ClientNode}
use Rattle.client_node.specs.declared.waiting.Waiting.{Waiting}
use Rattle.client_node.specs.Answers.{record_at, held_at, IsFault}
use Rattle.client_node.specs.Calls.{Fell}
use Rattle.client_node.specs.Does.{Does}
use Rattle.client_node.specs.HeldRows.{row_held, chunks_named, OnlyReads}
use Rattle.client_node.specs.Looks.{Looks}
use Rattle.client_node.specs.Node.{StandsFor, IsClient, IsNode}
use Rattle.client_node.specs.Steady.{IsSteady, IsSteadyTable}
use Rattle.client_node.proofs.Answering.{disk_or, stays, does_err, of_err, as_err}
use Rattle.client_node.proofs.Asked.{mid_devs, call_leaves, call_plans}
use Rattle.client_node.proofs.Links.{opened_is, unopened_is, slots_are}
use Rattle.client_node.proofs.OwnFaults.{own_kept, fresh_now}
use Rattle.client_node.proofs.Pulls.{no_refusal}
use Rattle.client_node.proofs.SpelledRows.{fit_cut, read_there}
use Rattle.client_node.proofs.Steadies.{steady_seen}

-- ---- what is held

some_size : (n : ℕ) → IsChunkSize n → 0 < n
some_size n (inl is) = omega (arith, is)
some_size n (inr (inl is)) = omega (arith, is)
some_size n (inr (inr is)) = omega (arith, is)

-- the chunks of the row in conflict are there
pub conflict_there : (meaning : LocalName → List ℕ) (d : ClientDevs) → NamedSlots meaning d → (table : ℕ) (row : List ℕ) (slots : HeldSlots) → slots ≡ held_at d table row → AreThereIf meaning d (content_read slots.conflict)
conflict_there meaning d named table row slots here = pick slots.conflict refl
  where
    pick : (o : Option HeldShadow) → slots.conflict ≡ o → AreThereIf meaning d (content_read o)
    pick None is = tt
    pick (Some shadow) is = λ name has.
        let own : Has (names_of_shadow slots.conflict) name = subst (λ (o : Option HeldShadow). Has (names_of_shadow o) name) (sym is) has in
        let there : Has (names_in slots) name = has_right (names_of_main slots.main) (names_of_shadow slots.shadow ++ (names_of_out slots.out ++ names_of_shadow slots.conflict)) name
        (has_right (names_of_shadow slots.shadow) (names_of_out slots.out ++ names_of_shadow slots.conflict) name (has_right (names_of_out slots.out) (names_of_shadow slots.conflict) name own)) in
        named.there name (named_in (redone d) table row name (subst (λ (x : HeldSlots). Has (names_in x) name) here there))

cut_if : (meaning : LocalName → List ℕ) (found : TableRecord) (o : Option HeldShadow) → IfSome o (λ shadow. HaveLens meaning shadow.content) → IfSome o (FitShadow meaning (Some found)) → IfSome o (λ shadow. AreCutBy meaning found.schema.chunk shadow.content)
cut_if meaning found None lens fit = tt
cut_if meaning found (Some shadow) lens fit = fit_cut meaning found shadow.content lens fit.1

module _ (c : ℕ) (d : ClientDevs) (disk : ClientDisk) (st : StandsFor c d disk) (w : Waiting) (steady : IsSteady w disk) (table : ℕ) (row : List ℕ) where
  pub not_held : record_at d table ≡ None → None ≡ option_map (row_held row) (table_at (seen disk) table)
  not_held none = sym (ap (option_map (row_held row)) (unopened_is c d disk st table none))

  module _ (found : TableRecord) (opened : record_at d table ≡ Some found) where
    abbrev now : HeldSlots
    now = held_at d table row

    abbrev meaning : LocalName → List ℕ
    meaning = st.0

    abbrev at : (t : TableDisk) × (table_at (seen disk) table ≡ Some t) × IsRecordOf found t
    at = opened_is c d disk st table found opened

    held_lens : AreHeld st.0 (held_at d table row)
    held_lens = (seen_held c st.0 d disk st.1).held_all table row

    row_fit : IsFitRow st.0 (Some found) (held_at d table row)
    row_fit = pick (slots_of (redone d) table row) refl
      where
        pick : (o : Option RowSlots) → slots_of (redone d) table row ≡ o → IsFitRow st.0 (Some found) (slots_or_empty o)
        pick None is = record { whole = record { right = refl }; spelled = (tt, (tt, (tt, tt))); pieces = tt }
        pick (Some stored) is = subst (λ (o : Option TableRecord). IsFitRow st.0 o stored.slots) opened (st.2.each table row stored is)

    slots_fit : AreFit st.0 (Some found) (held_at d table row)
    slots_fit = each_fit st.0 (Some found) (held_at d table row) row_fit

    steady_table : IsSteadyTable w table at.0
    steady_table = subst (λ (o : Option TableDisk). IfSome o (IsSteadyTable w table)) at.1 ((steady_seen w disk steady).each table)

    sized : 0 < found.schema.chunk
    sized = some_size found.schema.chunk (subst (λ (x : Schema). IsChunkSize x.chunk) (sym at.2.schema) steady_table.spelled.size)

    shadow_cut : chunks_read found.schema.chunk (option_map (whole_shadow st.0) now.shadow) ≡ known_in (chunks_shown st.0 (content_read now.shadow))
    shadow_cut = shadow_read st.0 found.schema.chunk sized now.shadow (cut_if st.0 found now.shadow held_lens.shadow slots_fit.shadow)

    conflict_cut : chunks_read found.schema.chunk (option_map (whole_shadow st.0) now.conflict) ≡ known_in (chunks_shown st.0 (content_read now.conflict))
    conflict_cut = shadow_read st.0 found.schema.chunk sized now.conflict (cut_if st.0 found now.conflict held_lens.conflict slots_fit.conflict)

    whole_is : whole_slots st.0 now ≡ slots_at at.0 row
    whole_is = slots_are c d disk st table row ∙ ap (λ (o : Option TableDisk). slots_in o row) at.1

    abbrev held_as : ℕ → ℕ → Slots → RowHeld
    held_as position chunk slots = record {
      position = position;
      chunk = chunk;
      read = top slots.conflict slots.shadow;
      held = flat (chunks_read chunk slots.shadow) ++ flat (chunks_read chunk slots.conflict);
    }

    -- what is read of the devices
    pub held_is : (slots : HeldSlots) → slots ≡ held_at d table row → (read : ℕ) → read ≡ seen_in slots.conflict slots.shadow → (held : List (Option ChunkName × List ℕ))
        → ((meaning : LocalName → List ℕ) → AreThereIf meaning d (content_read slots.shadow) → AreThereIf meaning d (content_read slots.conflict) → held ≡ chunks_named meaning slots)
        → Some (record { position = found.position; chunk = found.schema.chunk; read = read; held = held }) ≡ option_map (row_held row) (table_at (seen disk) table)
    held_is slots here read read_is held held_named =
        let there_read : AreThereIf st.0 d (content_read slots.shadow) = read_there st.0 d st.1.named table row slots here in
        let there_conflict : AreThereIf st.0 d (content_read slots.conflict) = conflict_there st.0 d st.1.named table row slots here in
        let chunks : held ≡ chunks_named st.0 now = held_named st.0 there_read there_conflict ∙ ap (chunks_named st.0) here in
        let wholes : held ≡ flat (chunks_read found.schema.chunk (option_map (whole_shadow st.0) now.shadow)) ++ flat (chunks_read found.schema.chunk (option_map (whole_shadow st.0) now.conflict)) =
        chunks ∙ (ap (λ (l : List (List (Option ChunkName × List ℕ))). flat l ++ flat (known_in (chunks_shown st.0 (content_read now.conflict)))) (sym shadow_cut)
        ∙ ap (λ (l : List (List (Option ChunkName × List ℕ))). flat (chunks_read found.schema.chunk (option_map (whole_shadow st.0) now.shadow)) ++ flat l) (sym conflict_cut)) in
        let version : read ≡ top (option_map (whole_shadow st.0) now.conflict) (option_map (whole_shadow st.0) now.shadow) =
        read_is ∙ (ap (λ (s : HeldSlots). seen_in s.conflict s.shadow) here ∙ sym (seen_whole c st.0 disk table row now.conflict now.shadow)) in
        ap (λ (l : List (Option ChunkName × List ℕ)). Some (record { position = found.position; chunk = found.schema.chunk; read = read; held = l })) wholes
        ∙ (ap (λ (n : ℕ). Some (record { position = found.position; chunk = found.schema.chunk; read = n; held = flat (chunks_read found.schema.chunk (option_map (whole_shadow st.0) now.shadow)) ++ flat (chunks_read found.schema.chunk (option_map (whole_shadow st.0) now.conflict)) })) version
        ∙ (ap (λ (s : Slots). Some (held_as found.position found.schema.chunk s)) whole_is
        ∙ (ap (λ (n : ℕ). Some (held_as n found.schema.chunk (slots_at at.0 row))) at.2.position
        ∙ (ap (λ (s : Schema). Some (held_as at.0.position s.chunk (slots_at at.0 row))) at.2.schema
        ∙ sym (ap (option_map (row_held row)) at.1)))))

-- ---- a call that only reads

none_spent : (e : CallFault) → IsFault e → (last : ℕ) → e ≡ call.Spent last → ⊥
none_spent e fault last is = ⊎_elim (λ a. let no : call.Spent last ≡ call.Disk = sym is ∙ a in cc) (λ a. let no : call.Spent last ≡ call.Memory = sym is ∙ a in cc) fault

module _ {D : Type 0} (state : D → DiskState) (images : D → ℕ → List ℕ → Type 0) (only_now : (disk : FuseDisk D) (image : List ℕ) → images (inner_of disk) (behind state disk).moment image → IsImage (behind state disk).pending image) where
  abbrev im : FuseDisk D → ℕ → List ℕ → Type 0
  im f = images (inner_of f)

  abbrev at_work : ClientDisk → Option (List ClientTask) → Client
  at_work disk agenda = record { disk = disk; agenda = agenda }

  module _ {T : Type 0} (old : ClientNode D) (disk : ClientDisk) (agenda : Option (List ClientTask)) (t : IsClient state old (at_work disk agenda)) (is_up : old.is_up ≡ true) where
    abbrev dummy : T → Answer
    dummy x = facts.Done

    pub only_reads : (r : Result T CallFault) (client : Journal (FuseDisk D)) → Looks (λ f. behind state f) im old.devs client r → IfErr r IsFault → (new : ClientNode D)
        → (IsErrOf r call.Disk → Fell state images (record old { devs = client }) new) → ((IsErrOf r call.Disk → ⊥) → new ≡ record old { devs = client }) → OnlyReads state images (at_work disk agenda) old new r
    only_reads (Ok x) client k faults new fell other =
        subst (λ (n : ClientNode D). OnlyReads {T = T} state images (at_work disk agenda) old n (Ok x)) (sym (other (λ no. cc)))
        (record {
          kept = λ n. stays state images only_now old disk agenda t is_up (Show 0 []) (Ok x) (record old { devs = client }) (mid_devs old client) k.serves (λ no. cc) k.agenda;
          fallen = λ no. absurd cc;
          counted = λ n. own_kept state old (record old { devs = client }) (fresh_now state old disk agenda t) k.serves.fuse (k.serves.counted (λ no. cc));
          cause = λ no. absurd cc;
          only = tt;
          any_moment = call_leaves state images only_now old disk agenda t is_up (record old { devs = client }) k.serves.leave;
          plans = call_plans state images only_now old disk agenda t is_up (record old { devs = client }) (k.serves.same (λ no. cc)) k.agenda;
        })
    only_reads (Err e) client k faults new fell other =
        let d : Does {T = T} state images (at_work disk agenda) (Show 0 []) dummy old new (Err e) =
        does_err state images only_now old disk agenda t is_up (Show 0 []) dummy e (record old { devs = client }) (mid_devs old client) k.serves (λ refusal shape is of. no_refusal e refusal faults is)
        (λ last is. absurd (none_spent e faults last is)) new fell other in
        record { kept = d.kept; fallen = d.fallen; counted = d.counted; cause = d.cause; only = faults; any_moment = d.any_moment; plans = d.plans }

-- a node is in some state behind it
pub reads_node : {D T : Type 0} (state : D → DiskState) (images : D → ℕ → List ℕ → Type 0) (s : Client) (old new : ClientNode D) (r : Result T CallFault) → OnlyReads state images s old new r → IsNode state new
reads_node state images s old new (Ok x) k = (_, (k.kept (λ no. cc)).client)
reads_node {D} {T} state images s old new (Err e) k = pick (disk_or e)
  where
    pick : (e ≡ call.Disk) ⊎ (e ≡ call.Disk → ⊥) → IsNode state new
    pick (inl same) = (_, (k.fallen (as_err e call.Disk same)).client)
    pick (inr apart) = (_, (k.kept (λ is. apart (of_err e call.Disk is))).client)
