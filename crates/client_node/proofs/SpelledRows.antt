-- What a row's write is sent as, where nothing is at work.
use Rattle.std.proofs.Common.{◌≡◌, ℕ, ◌+◌, ◌<◌, Bool, true, false, List, [], ◌++◌, length, Option, Some, None, refl, sym, ◌∙◌, ap, subst}
use Rattle.std.specs.Prelude.{◌||◌, not, IfSome, option_map}
use Rattle.stab_base.specs.declared.chunk_name.ChunkName.{ChunkName}
use Rattle.row_value.specs.declared.content.Content.{Content}
use Rattle.row_value.specs.declared.pieces.Piece.{Piece}
use Rattle.held_value.specs.declared.local_name.LocalName.{LocalName}
use Rattle.held_value.specs.declared.content.HeldContent.{HeldContent}
use Rattle.held_value.specs.declared.slots.Main.{Main as HeldMain}
use Rattle.held_value.specs.declared.slots.Shadow.{Shadow as HeldShadow}
use Rattle.held_value.specs.declared.slots.Slots.{Slots as HeldSlots}
use Rattle.slot_store.specs.declared.held.TableRecord.{TableRecord}
use Rattle.client_journal.specs.Devs.{ClientDevs}
use Rattle.client_journal.specs.Names.{Has, names_of, names_of_main, names_of_shadow, names_of_out, names_in}
use Rattle.client_journal.specs.NamedSlots.{NamedSlots, IsAtRest}
use Rattle.client_journal.specs.Redone.{redone}
use Rattle.client_journal.specs.There.{all_lens, repeats, misfits}
use Rattle.client_journal.proofs.Wholes.{has_left, has_right}
use Rattle.step_tables.specs.Chunks.{flat, all_against}
use Rattle.step_tables.specs.Slots.{Main}
use Rattle.step_tables.specs.ClientMoves.{ClientDisk, Slots, chunks_read}
use Rattle.journal_laws.specs.Moves.{Spells, plan_meaning}
use Rattle.journal_laws.specs.Whole.{whole, whole_main, whole_slots, HaveLens, AreHeld}
use Rattle.journal_laws.proofs.Plans.{named_in}
use Rattle.held_contents.specs.Reading.{AreThereIf, chunks_shown, content_read}
use Rattle.held_contents.specs.Request.{known_in, AreCutBy}
use Rattle.held_contents.proofs.HeldCuts.{shadow_read, content_spelled, cut_count_held}
use Rattle.held_contents.proofs.Spellings.{all_count}
use Rattle.plan_limits.specs.Fit.{IsFitContent}
use Rattle.plan_limits.proofs.Rows.{FitMain, FitShadow, AreFit, each_fit}
use Rattle.client_node.specs.Answers.{record_at, held_at}
use Rattle.client_node.specs.Node.{StandsFor}
use Rattle.client_node.specs.Spelling.{cuts_of, SpellsContent}
use Rattle.client_node.proofs.RowReady.{slots_here, whole_now, whole_here, held_now, fit_here, fit_now}

some_is : {X : Type 0} (x y : X) → Some x ≡ Some y → x ≡ y
some_is x y is = cc

-- ---- fit contents are cut

neither : (a b : Bool) → a || b ≡ false → a ≡ false
neither true b h = absurd cc
neither false b h = refl

not_false : (b : Bool) → not b ≡ false → b ≡ true
not_false true h = refl
not_false false h = absurd cc

pub fit_cut : (meaning : LocalName → List ℕ) (found : TableRecord) (held : HeldContent) → HaveLens meaning held → IsFitContent meaning (Some found) held → AreCutBy meaning found.schema.chunk held
fit_cut meaning found held lens fit =
    (lens, not_false (all_lens (λ name. Some (meaning name)) found.schema.chunk held) (neither (not (all_lens (λ name. Some (meaning name)) found.schema.chunk held)) (repeats [] (names_of held) || misfits (Some found) held) fit.right))

abbrev IsCutRead : (LocalName → List ℕ) → ℕ → Option HeldShadow → Type 0
IsCutRead meaning size o = IfSome o (λ shadow. AreCutBy meaning size shadow.content)

read_cut : (meaning : LocalName → List ℕ) (found : TableRecord) (o : Option HeldShadow) → IfSome o (λ shadow. HaveLens meaning shadow.content) → IfSome o (FitShadow meaning (Some found)) → IsCutRead meaning found.schema.chunk o
read_cut meaning found None lens fit = tt
read_cut meaning found (Some shadow) lens fit = fit_cut meaning found shadow.content lens fit.1

-- ---- what was read last is there

pub read_there : (meaning : LocalName → List ℕ) (d : ClientDevs) → NamedSlots meaning d → (table : ℕ) (row : List ℕ) (slots : HeldSlots) → slots ≡ held_at d table row → AreThereIf meaning d (content_read slots.shadow)
read_there meaning d named table row slots here = pick slots.shadow refl
  where
    pick : (o : Option HeldShadow) → slots.shadow ≡ o → AreThereIf meaning d (content_read o)
    pick None is = tt
    pick (Some shadow) is = λ name has.
        let rest : List LocalName = names_of_out slots.out ++ names_of_shadow slots.conflict in
        let own : Has (names_of_shadow slots.shadow) name = subst (λ (o : Option HeldShadow). Has (names_of_shadow o) name) (sym is) has in
        let there : Has (names_in slots) name = has_right (names_of_main slots.main) (names_of_shadow slots.shadow ++ (names_of_out slots.out ++ names_of_shadow slots.conflict)) name (has_left (names_of_shadow slots.shadow) (names_of_out slots.out ++ names_of_shadow slots.conflict) name own) in
        named.there name (named_in (redone d) table row name (subst (λ (x : HeldSlots). Has (names_in x) name) here there))

-- ---- a row of an opened table

module _ (c : ℕ) (d : ClientDevs) (disk : ClientDisk) (s : StandsFor c d disk) (rest : IsAtRest d) (table : ℕ) (row : List ℕ) (found : TableRecord) (opened : record_at d table ≡ Some found) (some : 0 < found.schema.chunk) where
  abbrev now : HeldSlots
  now = held_at d table row

  abbrev number : ℕ
  number = d.journal.greatest + 1

  abbrev size : ℕ
  size = found.schema.chunk

  held_here : AreHeld s.0 now
  held_here = subst (λ (x : HeldSlots). AreHeld s.0 x) (sym (slots_here c d disk s rest table row)) (s.1.held.held_all table row)

  fit_slots : AreFit s.0 (Some found) now
  fit_slots = each_fit s.0 (Some found) now (fit_here c d disk s rest table row found opened)

  shadow_cut : IsCutRead s.0 found.schema.chunk now.shadow
  shadow_cut = read_cut s.0 found now.shadow held_here.shadow fit_slots.shadow

  shadow_planned : (brought : List (List ℕ)) → IsCutRead (plan_meaning s.0 number brought) found.schema.chunk now.shadow
  shadow_planned brought =
      read_cut (plan_meaning s.0 number brought) found now.shadow (held_now c d disk s rest table row brought).shadow
      (each_fit (plan_meaning s.0 number brought) (Some found) now (fit_now c d disk s rest table row found opened brought)).shadow

  there_read : AreThereIf s.0 d (content_read now.shadow)
  there_read = read_there s.0 d s.1.named table row now refl

  -- the slots are the same whole, whatever a plan brings
  slots_same : (brought : List (List ℕ)) → whole_slots s.0 now ≡ whole_slots (plan_meaning s.0 number brought) now
  slots_same brought = whole_here c d disk s rest table row ∙ sym (whole_now c d disk s rest table row brought)

  -- so is what was read
  read_same : (brought : List (List ℕ)) → known_in (chunks_shown s.0 (content_read now.shadow)) ≡ known_in (chunks_shown (plan_meaning s.0 number brought) (content_read now.shadow))
  read_same brought =
      sym (shadow_read s.0 size some now.shadow shadow_cut)
      ∙ (ap (λ (x : Slots). chunks_read size x.shadow) (slots_same brought) ∙ shadow_read (plan_meaning s.0 number brought) size some now.shadow (shadow_planned brought))

  -- a content that is held under a plan's names
  module _ (brought : List (List ℕ)) (held : HeldContent) (lens : HaveLens (plan_meaning s.0 number brought) held) (fit : IsFitContent (plan_meaning s.0 number brought) (Some found) held) (content : Content) (content_is : content ≡ whole (plan_meaning s.0 number brought) held)
      (pieces : List Piece) (k : SpellsContent d found.schema.chunk now.shadow content pieces) where
    abbrev means : LocalName → List ℕ
    means = plan_meaning s.0 number brought

    cut_held : AreCutBy means size held
    cut_held = fit_cut means found held lens fit

    pub spells_now : Spells (plan_meaning s.0 number brought) found.schema.chunk now.shadow held pieces
    spells_now =
        content_spelled means size now.shadow held content pieces some (shadow_planned brought) cut_held (sym content_is)
        (k.are s.0 there_read ∙ ap (λ (l : List (List (Option ChunkName × List ℕ))). flat (all_against 0 l (cuts_of size content))) (read_same brought))

    pub count_now : length pieces ≡ length (names_of held)
    count_now =
        ap (λ (l : List Piece). length l) (k.are s.0 there_read)
        ∙ (all_count 0 (known_in (chunks_shown s.0 (content_read now.shadow))) (cuts_of size content) ∙ cut_count_held means size held content some cut_held (sym content_is))

  -- ---- its last write

  module _ (main : HeldMain) (main_is : now.main ≡ Some main) where
    abbrev planned : LocalName → List ℕ
    planned = plan_meaning s.0 number []

    lens_main : HaveLens planned main.content
    lens_main = subst (λ (o : Option HeldMain). IfSome o (λ main. HaveLens planned main.content)) main_is (held_now c d disk s rest table row []).main

    fit_main : IsFitContent planned (Some found) main.content
    fit_main = (subst (λ (o : Option HeldMain). IfSome o (FitMain planned (Some found))) main_is (each_fit planned (Some found) now (fit_now c d disk s rest table row found opened [])).main).2

    pub main_same : whole s.0 main.content ≡ whole planned main.content
    main_same =
        let both : option_map (whole_main s.0) (Some main) ≡ option_map (whole_main planned) (Some main) = subst (λ (o : Option HeldMain). option_map (whole_main s.0) o ≡ option_map (whole_main planned) o) main_is (ap (λ (x : Slots). x.main) (slots_same [])) in
        ap (λ (m : Main). m.content) (some_is (whole_main s.0 main) (whole_main planned main) both)

    -- its chunks can be numbered
    pub main_chunks : length (flat (cuts_of found.schema.chunk (whole s.0 main.content))) ≡ length (names_of main.content)
    main_chunks = cut_count_held planned size main.content (whole s.0 main.content) some (fit_cut planned found main.content lens_main fit_main) (sym main_same)

    module _ (content : Content) (content_is : content ≡ whole s.0 main.content) (pieces : List Piece) (k : SpellsContent d found.schema.chunk now.shadow content pieces) where
      pub main_spells : Spells planned found.schema.chunk now.shadow main.content pieces
      main_spells = spells_now [] main.content lens_main fit_main content (content_is ∙ main_same) pieces k

      pub main_count : length pieces ≡ length (names_of main.content)
      main_count = count_now [] main.content lens_main fit_main content (content_is ∙ main_same) pieces k
