-- A write that is prepared.
use Rattle.std.proofs.Common.{◌≡◌, ℕ, ◌+◌, Bool, true, false, List, [], ◌∷◌, inr, ⊎_elim, Option, Some, None, Result, Ok, Err, refl, sym, ◌∙◌, ap, subst}
use Rattle.std.specs.Prelude.{map, option_map, IfOk, IfErr}
use Rattle.std.specs.BTreeSet.{BTreeSet}
use Rattle.slot_store.specs.declared.held.RowKey.{RowKey}
use Rattle.disk_trait.specs.Calls.{DiskState}
use Rattle.row_value.specs.declared.content.Content.{Content}
use Rattle.row_value.specs.declared.pieces.Piece.{Piece}
use Rattle.row_value.specs.declared.schema.Schema.{Schema}
use Rattle.row_value.specs.declared.schema.Scheme.{Scheme}
use Rattle.row_value.specs.declared.schema.Scheme.TheVariants.{Strong, Causal, Eventual}
use Rattle.row_value.specs.Fit.{fit_of}
use Rattle.value_codec.specs.SchemaSpelling.{HasSchemaSpelling}
use Rattle.table_model.specs.declared.line.Fact.{Fact as Told}
use Rattle.held_value.specs.declared.slots.Out.{Out as HeldOut}
use Rattle.held_value.specs.declared.slots.Slots.{Slots as HeldSlots}
use Rattle.client_tables.specs.declared.change.Change.{Change}
use Rattle.client_tables.specs.Change.{version_in}
use Rattle.client_tables.specs.Shown.{shown_content}
use Rattle.client_tables.specs.Transitions.{written, written_strong}
use Rattle.client_journal.specs.declared.devs.Journal.{Journal}
use Rattle.client_journal.specs.Devs.{ClientDevs}
use Rattle.client_journal.specs.Standing.{devs, writes_of}
use Rattle.step_tables.specs.Chunks.{cut, objects_of, all_against}
use Rattle.step_tables.specs.Client.{version_in as table_version}
use Rattle.step_tables.specs.Facts.{Fact, Number}
use Rattle.step_tables.specs.Lines.{fact_of}
use Rattle.step_tables.specs.Messages.{Send}
use Rattle.step_tables.specs.ClientMoves.{Slots, TableDisk, ClientDisk, Plan, Shape, table_at, slots_at, slots_in, seen, told, begun, write_plan, chunks_read, strong_out, strong_plan, request_for, is_strong, first_out as table_first_out}
use Rattle.step_tables.specs.ClientMoves as moves
use Rattle.journal_laws.specs.Moves.{IsNewTo}
use Rattle.journal_laws.specs.Whole.{whole_slots, whole_shadow, whole_out, pieces_by}
use Rattle.held_contents.specs.declared.holding.HeldNew.{HeldNew}
use Rattle.held_contents.specs.Reading.{chunks_shown}
use Rattle.client_node.specs.declared.fault.CallFault.{CallFault}
use Rattle.client_node.specs.declared.preparing.OpenedRow.{OpenedRow}
use Rattle.client_node.specs.declared.preparing.Prepared.{Prepared}
use Rattle.client_node.specs.declared.waiting.Waiting.{Waiting}
use Rattle.client_node.specs.Answers.{held_at}
use Rattle.client_node.specs.Linked.{phased_step}
use Rattle.client_node.specs.Preparing.{IsOpenedRow, HoldsNew, MakesChange, IsWrite, IsFreeWrite, IsStrongWrite, IsSpent, IsUnsent, WritesBy, IsWriteBy, UnwrittenBy, IsUnwritten, Prepares, IsPrepared, wrote, write_of}
use Rattle.client_node.specs.Readied.{IsIdleAt, IsReadied}
use Rattle.client_node.specs.Requesting.{request_with, first_out, IsFirstOut}
use Rattle.client_node.specs.Sending.{with_tasks}
use Rattle.client_node.specs.Spelling.{SpellsContent}
use Rattle.client_node.proofs.Links.{opened_is, slots_are}
use Rattle.client_node.proofs.Opened.{seen_rests, table_steady}
use Rattle.client_node.proofs.Outstanding.{first_waits}
use Rattle.client_node.proofs.RowReady.{slots_here}
use Rattle.client_node.proofs.Shown.{there_shown}
use Rattle.client_node.proofs.WritePlans.{number_is, read_is, free_readied, spelled_there, strong_readied}
use Rattle.client_node.proofs.WriteRefusals.{by_fault, by_spent, write_cut_off, write_behind}
use Rattle.client_node.proofs.Writes.{write_begun, write_sent}

module _ {D : Type 0} (state : D → DiskState) (old : Journal D) (waiting : Waiting) (phase : ℕ → Bool) (linked : Bool) (c : ℕ) (at : OpenedRow) (is : IsOpenedRow (devs state old) at.table at.row at)
    (schema : HasSchemaSpelling at.opened.schema) (content : Content) (fits : fit_of at.opened.schema content ≡ Ok tt) (none : writes_of old ≡ []) (closed : phase at.table ≡ false) (calm : at.slots.conflict ≡ None) (x : Prepared) where
  abbrev d : ClientDevs
  d = devs state old

  module _ (new : HeldNew) (change : Change) (sends : List Send) (w : IsWrite d c at content new change sends x) (disk : ClientDisk) (i : IsIdleAt d c waiting disk) where
    abbrev there : Slots
    there = slots_in (table_at disk at.table) at.row

    opened_as : (t : TableDisk) × (table_at (seen disk) at.table ≡ Some t) × (at.opened.schema ≡ t.schema)
    opened_as = let o = opened_is c d disk i.stands at.table at.opened is.opened in (o.0, o.1, o.2.schema)

    abbrev t : TableDisk
    t = opened_as.0

    there_is : there ≡ slots_at t at.row
    there_is = ap (λ (o : Option TableDisk). slots_in o at.row) (ap (λ (e : ClientDisk). table_at e at.table) (sym (seen_rests c d disk i.stands i.rests)) ∙ opened_as.1)

    whole_is : whole_slots i.stands.0 at.slots ≡ slots_at t at.row
    whole_is = ap (whole_slots i.stands.0) is.slots ∙ (slots_are c d disk i.stands at.table at.row ∙ ap (λ (o : Option TableDisk). slots_in o at.row) opened_as.1)

    calm_there : (slots_at t at.row).conflict ≡ None
    calm_there = ap (λ (s : Slots). s.conflict) (sym whole_is) ∙ ap (option_map (whole_shadow i.stands.0)) calm

    fits_there : fit_of t.schema content ≡ Ok tt
    fits_there = ap (λ (s : Schema). fit_of s content) (sym opened_as.2) ∙ fits

    holds_here : HoldsNew at.opened.schema.chunk (chunks_shown i.stands.0 (shown_content (held_at d at.table at.row))) content new
    holds_here = subst (λ (s : HeldSlots). HoldsNew at.opened.schema.chunk (chunks_shown i.stands.0 (shown_content s)) content new) is.slots (w.holds i.stands.0 (there_shown i.stands.0 d i.stands.1.named at.table at.row at.slots is.slots))

    given_number : x.number ≡ disk.last + 1
    given_number = number_is c d waiting disk i at.table at.row at.opened is.opened schema content fits w.words new holds_here x.number w.next w.few is.size x.planned

    read_there : version_in at.slots.shadow ≡ table_version there.shadow
    read_there = ap (λ (s : HeldSlots). version_in s.shadow) is.slots ∙ sym (read_is c d waiting disk i at.table at.row at.opened is.opened schema content fits w.words new holds_here x.number w.next w.few is.size x.planned)

    abbrev told_of : ℕ → ℕ → List Fact
    told_of number read = map fact_of (wrote (record { client = c; number = number; table = at.table; row = at.row; read = read; content = content }) ∷ [])

    tells_there : map fact_of x.planned.facts.items ≡ told_of (disk.last + 1) (table_version there.shadow)
    tells_there =
        ap (λ (l : List Told). map fact_of l) w.facts
        ∙ (ap (λ (k : ℕ). told_of k (version_in at.slots.shadow)) given_number ∙ ap (told_of (disk.last + 1)) read_there)

  -- ---- in a causal and in an eventual table

  module _ (weak : is_strong at.opened.schema.scheme ≡ false) (f : IsFreeWrite d c at content x) where
    w : IsWrite d c at content f.new (written at.slots x.number f.new.content) [] x
    w = f.is

    abbrev W : Change
    W = written at.slots x.number f.new.content

    free_at : (disk : ClientDisk) (i : IsIdleAt d c waiting disk) → IsPrepared d phase linked c (moves.Write at.table at.row content) disk i.stands.0 x
    free_at disk i =
        let slots = slots_in (table_at disk at.table) at.row in
        let p : Plan = write_plan c disk at.table at.row slots content in
        let makes : MakesChange (held_at d at.table at.row) (written (held_at d at.table at.row) x.number f.new.content) f.new.brought at.table x.number at.row x.planned =
        subst (λ (s : HeldSlots). MakesChange s (written s x.number f.new.content) f.new.brought at.table x.number at.row x.planned) is.slots w.makes in
        let o = opened_as f.new W [] w disk i in
        record {
          p = p;
          sends = [];
          readied = free_readied c d waiting disk i at.table at.row at.opened is.opened schema content fits w.words f.new (holds_here f.new W [] w disk i) x.number w.next w.few is.size x.planned makes (tells_there f.new W [] w disk i) w.sends_are;
          step = λ shape.
              write_begun phase linked c shape disk [] at.table at.row o.0 o.1 content (fits_there f.new W [] w disk i) refl closed (calm_there f.new W [] w disk i) (ap (λ (s : Schema). is_strong s.scheme) (sym o.2) ∙ weak)
              ∙ (ap (λ (k : ℕ). begun shape disk (Number k) (write_plan c disk at.table at.row (slots_at o.0 at.row) content) []) (sym (given_number f.new W [] w disk i))
              ∙ ap (λ (s : Slots). begun shape disk (Number x.number) (write_plan c disk at.table at.row s content) []) (sym (there_is f.new W [] w disk i)));
        }

    pub free_prepared : Prepares state old waiting phase linked c (moves.Write at.table at.row content) (Ok x)
    free_prepared = record {
      refused = λ disk tasks shape k. tt;
      spent = λ last no. absurd cc;
      idle = none;
      prepared = λ disk i. free_at disk i;
    }

  -- ---- in a strong one

  none_mapped : (o : Option HeldOut) → None ≡ option_map (λ out. out.number) o → o ≡ None
  none_mapped None e = refl
  none_mapped (Some out) e = absurd cc

  module _ (strong : at.opened.schema.scheme ≡ Strong) (up : linked ≡ true) (first : IsFirstOut d at.table waiting.outs None) (f : IsStrongWrite d c at content x) where
    abbrev V : Change
    V = written_strong at.slots x.number f.new.content f.pieces

    abbrev S : List Send
    S = request_with c at.table at.row x.number (version_in at.slots.shadow) content (pieces_by f.new.content f.pieces) ∷ []

    v : IsWrite d c at content f.new V S x
    v = f.is

    strong_at : (disk : ClientDisk) (i : IsIdleAt d c waiting disk) → IsPrepared d phase linked c (moves.Write at.table at.row content) disk i.stands.0 x
    strong_at disk i =
        let slots = slots_in (table_at disk at.table) at.row in
        let size : ℕ = at.opened.schema.chunk in
        let p : Plan = strong_plan at.opened.schema.chunk c disk at.table at.row slots content in
        let parted : List (List Piece) = pieces_by f.new.content f.pieces in
        let spells : SpellsContent d at.opened.schema.chunk (held_at d at.table at.row).shadow content f.pieces = subst (λ (s : HeldSlots). SpellsContent d at.opened.schema.chunk s.shadow content f.pieces) is.slots f.spells in
        let spelled : pieces_by f.new.content f.pieces ≡ all_against 0 (chunks_read at.opened.schema.chunk (slots_in (table_at disk at.table) at.row).shadow) (map (cut at.opened.schema.chunk) (objects_of content)) =
        spelled_there c d waiting disk i at.table at.row at.opened is.opened schema content fits v.words f.new (holds_here f.new V S v disk i) x.number v.next v.few is.size x.planned f.pieces spells in
        let makes : MakesChange (held_at d at.table at.row) (written_strong (held_at d at.table at.row) x.number f.new.content f.pieces) f.new.brought at.table x.number at.row x.planned =
        subst (λ (s : HeldSlots). MakesChange s (written_strong s x.number f.new.content f.pieces) f.new.brought at.table x.number at.row x.planned) is.slots v.makes in
        let unused : IsNewTo (held_at d at.table at.row).main x.number = subst (λ (s : HeldSlots). IsNewTo s.main x.number) is.slots f.unused in
        let o = opened_as f.new V S v disk i in
        let waits : table_first_out o.0.rows ≡ None =
        first_waits state old at.table i.stands.0 waiting o.0 (table_steady waiting disk i.steady at.table o.0 o.1)
        (λ r. slots_are c d disk i.stands at.table r ∙ ap (λ (q : Option TableDisk). slots_in q r) o.1) (λ r. slots_here c d disk i.stands i.rests at.table r) first.rows first.noted
        ∙ ap (option_map (whole_out i.stands.0)) (none_mapped (first_out d at.table first.rows) first.is) in
        record {
          p = p;
          sends = S;
          readied = strong_readied c d waiting disk i at.table at.row at.opened is.opened schema content fits v.words f.new (holds_here f.new V S v disk i) x.number v.next v.few is.size x.planned f.pieces spells unused makes (tells_there f.new V S v disk i) S v.sends_are;
          step = λ shape.
              write_sent phase linked c shape disk [] at.table at.row o.0 o.1 content (fits_there f.new V S v disk i) refl closed (calm_there f.new V S v disk i) (ap (λ (s : Schema). s.scheme) (sym o.2) ∙ strong) up waits
              ∙ (ap (λ (g : Schema). begun shape disk (Number (disk.last + 1)) (strong_plan g.chunk c disk at.table at.row (slots_at o.0 at.row) content) (request_for c at.table at.row (strong_out g.chunk (disk.last + 1) (slots_at o.0 at.row) content) ∷ [])) (sym o.2)
              ∙ (ap (λ (s : Slots). begun shape disk (Number (disk.last + 1)) (strong_plan size c disk at.table at.row s content) (request_for c at.table at.row (strong_out size (disk.last + 1) s content) ∷ [])) (sym (there_is f.new V S v disk i))
              ∙ (ap (λ (l : List (List Piece)). begun shape disk (Number (disk.last + 1)) p (request_with c at.table at.row (disk.last + 1) (table_version slots.shadow) content l ∷ [])) (sym spelled)
              ∙ (ap (λ (k : ℕ). begun shape disk (Number k) p (request_with c at.table at.row k (table_version slots.shadow) content parted ∷ [])) (sym (given_number f.new V S v disk i))
              ∙ ap (λ (v : ℕ). begun shape disk (Number x.number) p (request_with c at.table at.row x.number v content parted ∷ [])) (sym (read_there f.new V S v disk i))))));
        }

    pub strong_prepared : Prepares state old waiting phase linked c (moves.Write at.table at.row content) (Ok x)
    strong_prepared = record {
      refused = λ disk tasks shape k. tt;
      spent = λ last no. absurd cc;
      idle = none;
      prepared = λ disk i. strong_at disk i;
    }

-- ---- or isn't, by the scheme of its table

module _ {D : Type 0} (state : D → DiskState) (old : Journal D) (waiting : Waiting) (phase : ℕ → Bool) (linked : Bool) (c : ℕ) (at : OpenedRow) (is : IsOpenedRow (devs state old) at.table at.row at)
    (schema : HasSchemaSpelling at.opened.schema) (content : Content) (fits : fit_of at.opened.schema content ≡ Ok tt) (none : writes_of old ≡ []) (closed : phase at.table ≡ false) (calm : at.slots.conflict ≡ None) where
  abbrev Is : Result Prepared CallFault → Type 0
  Is r = Prepares state old waiting phase linked c (moves.Write at.table at.row content) r

  not_spent : (e : CallFault) → IsSpent (devs state old) e → Is (Err e)
  not_spent e why = ⊎_elim
      (λ spent. by_spent state old waiting phase linked c (moves.Write at.table at.row content) e spent.0 spent.1)
      (λ fault. by_fault state old waiting phase linked c (moves.Write at.table at.row content) e fault) why

  not_sent : at.opened.schema.scheme ≡ Strong → (e : CallFault) → IsUnsent (devs state old) waiting.outs linked at.table e → Is (Err e)
  not_sent strong e why = ⊎_elim
      (λ cut. write_cut_off state old waiting phase linked c at.table at.row at.opened is.opened content fits none closed at.slots is.slots calm strong e cut.1 cut.0)
      (λ rest. ⊎_elim
      (λ out. write_behind state old waiting phase linked c at.table at.row at.opened is.opened content fits none closed at.slots is.slots calm strong e out.1 out.0 out.3 out.2)
      (λ spent. not_spent e spent) rest) why

  by_scheme : (g : Scheme) → at.opened.schema.scheme ≡ g → (r : Result Prepared CallFault) → IfOk r (WritesBy g (devs state old) linked waiting.outs c at content) → IfErr r (UnwrittenBy g (devs state old) linked waiting.outs at.table) → Is r
  by_scheme Strong same (Ok x) ok err = strong_prepared state old waiting phase linked c at is schema content fits none closed calm x same ok.0 ok.1 ok.2
  by_scheme Causal same (Ok x) ok err = free_prepared state old waiting phase linked c at is schema content fits none closed calm x (ap is_strong same) ok
  by_scheme Eventual same (Ok x) ok err = free_prepared state old waiting phase linked c at is schema content fits none closed calm x (ap is_strong same) ok
  by_scheme Strong same (Err e) ok err = not_sent same e err
  by_scheme Causal same (Err e) ok err = not_spent e err
  by_scheme Eventual same (Err e) ok err = not_spent e err

  pub write_prepares : (r : Result Prepared CallFault) → IfOk r (IsWriteBy (devs state old) linked waiting.outs c at content) → IfErr r (IsUnwritten (devs state old) linked waiting.outs at) → Is r
  write_prepares r ok err = by_scheme at.opened.schema.scheme refl r ok err

-- what isn't sent for want of numbers, or since a disk has failed or memory was refused
pub spent_unsent : (e d : ClientDevs) → e ≡ d → (outs : BTreeSet RowKey) (linked : Bool) (table : ℕ) (r : Result Prepared CallFault) → IfErr r (IsSpent e) → IfErr r (IsUnsent d outs linked table)
spent_unsent e d same outs linked table (Ok x) why = tt
spent_unsent e d same outs linked table (Err f) why = inr (inr (subst (λ (x : ClientDevs). IsSpent x f) same why))
