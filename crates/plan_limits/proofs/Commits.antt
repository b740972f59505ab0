-- Plans of a row are short enough.
use Rattle.std.proofs.Common.{◌≡◌, ⊎_elim, ℕ, ◌+◌, ◌≤◌, Bool, true, false, List, [], ◌∷◌, ◌++◌, length, map, Option, Some, None, refl, sym, ◌∙◌, ap, subst, arith, length-append}
use Rattle.std.specs.Prelude.{◌==◌, ◌&&◌, ◌||◌, not, is_ok, Result, Ok, Err, replicate, IfSome, option_map, if◌then◌else◌}
use Rattle.std.specs.List.{list_all, AllByRecursion}
use Rattle.std.specs.Int.{div_ceil}
use Rattle.std.proofs.lemmas.Bool.{eqb-true}
use Rattle.std.proofs.lemmas.List.{length-map, length-replicate}
use Rattle.std.proofs.lemmas.List.Sums.{sum_by-cons}
use Rattle.row_value.specs.declared.content.Content.TheVariants as contents
use Rattle.row_value.specs.Fit.{chunk_count, chunks_of, fit_of}
use Rattle.value_codec.specs.SchemaSpelling.{HasSchemaSpelling, IsChunkSize}
use Rattle.value_codec.specs.Spelling.{list_spelling}
use Rattle.vault.specs.Limit.{payload_most}
use Rattle.field_codec.specs.Forms.{four, eight, IsOption, option_spelling, AreEach}
use Rattle.held_codec.specs.Spelling.{local_spelling, HasLocalSpelling, HasHeldPiece, HasHeldObject, HasHeld, HasMain, HasShadow, HasOut, HasSlots, slots_spelling, tell_spelling}
use Rattle.chunker.specs.Sized.{count_of}
use Rattle.held_value.specs.declared.local_name.LocalName.{LocalName}
use Rattle.held_value.specs.declared.content.HeldPiece.{HeldPiece}
use Rattle.held_value.specs.declared.content.HeldObject.{HeldObject}
use Rattle.held_value.specs.declared.content.HeldContent.{HeldContent}
use Rattle.held_value.specs.declared.content.HeldContent.TheVariants.{Gone, Row}
use Rattle.held_value.specs.declared.slots.Main.{Main}
use Rattle.held_value.specs.declared.slots.Shadow.{Shadow}
use Rattle.held_value.specs.declared.slots.Out.{Out}
use Rattle.held_value.specs.declared.slots.Slots.{Slots}
use Rattle.slot_store.specs.declared.held.TableRecord.{TableRecord}
use Rattle.slot_store.proofs.Again.{four_len}
use Rattle.plan_log.specs.declared.plan.RowChange.{RowChange}
use Rattle.plan_log.specs.declared.plan.Commit.{Commit}
use Rattle.plan_log.specs.Spelling.{IsPlan as IsPlanNumber, HasCommit, HasRowChange, HasRecordChange, commit_payload, head_spelling, updates_spelling, row_change_spelling, record_change_spelling}
use Rattle.client_journal.specs.declared.plan.Plan.{Plan}
use Rattle.client_journal.specs.Names.{Has, names_of_pieces, names_of_objects, names_of, names_of_main, names_of_shadow, names_of_out, names_in}
use Rattle.client_journal.specs.Plan.{numbered_name, numbered_object, numbered_content, numbered_main, numbered_shadow, numbered_out, numbered_slots, numbered_row, commit_for, chunk_most}
use Rattle.client_journal.specs.There.{lens_from, has_lens, zeros_for, repeats}
use Rattle.client_journal.proofs.Lookups.{has_cases, has_head, has_tail}
use Rattle.client_journal.proofs.Wholes.{has_either}
use Rattle.held_contents.proofs.Fits.{row_within}
use Rattle.plan_limits.specs.Fit.{IsFitContent, IsFitRow}
use Rattle.plan_limits.specs.Short.{IsRowPlan, IsRowless, IsShort}
use Rattle.plan_limits.proofs.Small.{eight_len, count_in, IsSmall, names_most, AreSmall, slots_most, drops_most, tells_most}
use Rattle.plan_limits.proofs.Pigeons.{no_more, few_brought}
use Rattle.plan_limits.proofs.Contents.{names_numbered, held_spelled}
use Rattle.plan_limits.proofs.Rows.{FitMain, FitShadow, FitOut, each_fit}

-- ---- fit contents are small

module _ (meaning : LocalName → List ℕ) (table : TableRecord) (schema : HasSchemaSpelling table.schema) where
  parts : (a b c : Bool) → not a || (b || not c) ≡ false → (a ≡ true) × (c ≡ true)
  parts false b c h = absurd cc
  parts true true c h = absurd cc
  parts true false false h = absurd cc
  parts true false true h = (refl, refl)

  first : (a b : Bool) → a && b ≡ true → (a ≡ true) × (b ≡ true)
  first true b h = (refl, h)
  first false b h = absurd cc

  was_ok : {E : Type 0} (r : Result (Unit {0}) E) → is_ok r ≡ true → r ≡ Ok tt
  was_ok (Ok x) h = refl
  was_ok (Err e) h = absurd cc

  -- as many pieces as the chunks that are counted
  counted : (os : List HeldObject) → list_all (has_lens (λ name. Some (meaning name)) table.schema.chunk) os ≡ true → length (names_of_objects os) ≡ chunks_of table.schema.chunk (zeros_for os)
  counted [] h = refl
  counted (o ∷ os) h =
      let k = first (has_lens (λ name. Some (meaning name)) table.schema.chunk o) (list_all (has_lens (λ name. Some (meaning name)) table.schema.chunk) os) h in
      let n = first (length o.pieces == count_of table.schema.chunk o.len) (lens_from (λ name. Some (meaning name)) table.schema.chunk o.len 0 o.pieces) k.0 in
      let is : length o.pieces ≡ count_of table.schema.chunk o.len = eqb-true (length o.pieces) (count_of table.schema.chunk o.len) n.0 in
      let one : chunk_count table.schema.chunk (replicate o.len 0) ≡ count_of table.schema.chunk o.len =
      ap (λ (len : ℕ). if table.schema.chunk == 0 then 0 else div_ceil len table.schema.chunk) (length-replicate o.len 0) in
      omega (arith, count_in o os, is, one, counted os k.1, sum_by-cons (chunk_count table.schema.chunk) (replicate o.len 0) (zeros_for os))

  small : (c : HeldContent) → IsFitContent meaning (Some table) c → IsSmall c
  small Gone k = tt
  small (Row some objects) k =
      let p = parts (list_all (has_lens (λ name. Some (meaning name)) table.schema.chunk) objects) (repeats [] (names_of_objects objects)) (is_ok (fit_of table.schema (contents.Row some (zeros_for objects)))) k.right in
      let w = row_within table.schema some (zeros_for objects) (was_ok (fit_of table.schema (contents.Row some (zeros_for objects))) p.1) in
      let zeros : length (zeros_for objects) ≡ length objects = length-map objects (λ (o : HeldObject). replicate o.len 0) in
      (omega (arith, w.spelled), omega (arith, w.objects_few, schema.most, zeros), omega (arith, counted objects p.0, w.chunks))

  all_small : (s : Slots) → IsFitRow meaning (Some table) s → AreSmall s
  all_small s k =
      let a = each_fit meaning (Some table) s k in
      record { main = main s.main a.main; shadow = shadow s.shadow a.shadow; out = out s.out a.out; conflict = shadow s.conflict a.conflict }
    where
      main : (o : Option Main) → IfSome o (FitMain meaning (Some table)) → IfSome o (λ m. IsSmall m.content)
      main None h = tt
      main (Some m) h = small m.content h.2

      shadow : (o : Option Shadow) → IfSome o (FitShadow meaning (Some table)) → IfSome o (λ s. IsSmall s.content)
      shadow None h = tt
      shadow (Some s) h = small s.content h.1

      out : (o : Option Out) → IfSome o (FitOut meaning (Some table)) → IfSome o (λ o. IsSmall o.content × (length o.pieces ≤ 32768))
      out None h = tt
      out (Some o) h = let k = small o.content h.3 in (k, omega (arith, names_most o.content k, h.4.count))

-- at most four contents' names
pub names_few : (s : Slots) → AreSmall s → length (names_in s) ≤ 131072
names_few s k =
    let m = names_of_main s.main in
    let h = names_of_shadow s.shadow in
    let o = names_of_out s.out in
    let x = names_of_shadow s.conflict in
    omega (arith, main s.main k.main, shadow s.shadow k.shadow, out s.out k.out, shadow s.conflict k.conflict, length-append m (h ++ (o ++ x)), length-append h (o ++ x), length-append o x)
  where
    main : (o : Option Main) → IfSome o (λ m. IsSmall m.content) → length (names_of_main o) ≤ 32768
    main None h = omega arith
    main (Some m) h = names_most m.content h

    shadow : (o : Option Shadow) → IfSome o (λ s. IsSmall s.content) → length (names_of_shadow o) ≤ 32768
    shadow None h = omega arith
    shadow (Some s) h = names_most s.content h

    out : (o : Option Out) → IfSome o (λ o. IsSmall o.content × (length o.pieces ≤ 32768)) → length (names_of_out o) ≤ 32768
    out None h = omega arith
    out (Some o) h = names_most o.content h.0

-- ---- under a number

module _ (number : ℕ) where
  small_numbered : (c : HeldContent) → IsSmall c → IsSmall (numbered_content number c)
  small_numbered Gone h = tt
  small_numbered (Row some objects) h =
      let names : length (names_of_objects (map (numbered_object number) objects)) ≡ length (names_of_objects objects) = ap length (names_numbered number (Row some objects)) ∙ length-map (names_of_objects objects) (numbered_name number) in
      (h.0, omega (arith, h.1, length-map objects (numbered_object number)), omega (arith, h.2, names))

  slots_numbered : (s : Slots) → AreSmall s → AreSmall (numbered_slots number s)
  slots_numbered s k = record { main = main s.main k.main; shadow = shadow s.shadow k.shadow; out = out s.out k.out; conflict = shadow s.conflict k.conflict }
    where
      main : (o : Option Main) → IfSome o (λ m. IsSmall m.content) → IfSome (option_map (numbered_main number) o) (λ m. IsSmall m.content)
      main None h = tt
      main (Some m) h = small_numbered m.content h

      shadow : (o : Option Shadow) → IfSome o (λ s. IsSmall s.content) → IfSome (option_map (numbered_shadow number) o) (λ s. IsSmall s.content)
      shadow None h = tt
      shadow (Some s) h = small_numbered s.content h

      out : (o : Option Out) → IfSome o (λ o. IsSmall o.content × (length o.pieces ≤ 32768)) → IfSome (option_map (numbered_out number) o) (λ o. IsSmall o.content × (length o.pieces ≤ 32768))
      out None h = tt
      out (Some o) h = (small_numbered o.content h.0, h.1)

  module _ (plan : IsPlanNumber number) where
    slots_spelled : (s : Slots) → HasSlots s → HasSlots (numbered_slots number s)
    slots_spelled s h = (main s.main h.0, (shadow s.shadow h.1.0, (out s.out h.1.1.0, shadow s.conflict h.1.1.1)))
      where
        main : (o : Option Main) → IsOption HasMain o → IsOption HasMain (option_map (numbered_main number) o)
        main None h = tt
        main (Some m) h = (h.0, (h.1.0, held_spelled number plan m.content h.1.1))

        shadow : (o : Option Shadow) → IsOption HasShadow o → IsOption HasShadow (option_map (numbered_shadow number) o)
        shadow None h = tt
        shadow (Some s) h = (h.0, held_spelled number plan s.content h.1)

        out : (o : Option Out) → IsOption HasOut o → IsOption HasOut (option_map (numbered_out number) o)
        out None h = tt
        out (Some o) h = (h.0, (h.1.0, (h.1.1.0, (tt, (held_spelled number plan o.content h.1.1.1.1.0, h.1.1.1.1.1)))))

-- ---- the names that slots have are spelled

piece_names : (ps : List HeldPiece) (q : LocalName) → AllByRecursion HasHeldPiece ps → Has (names_of_pieces ps) q → HasLocalSpelling q
piece_names [] q h has = absurd cc
piece_names (p ∷ ps) q h has = ⊎_elim (λ same. subst HasLocalSpelling (sym same) h.0.0) (λ more. piece_names ps q h.1 more) (has_cases p.local q (names_of_pieces ps) has)

object_names : (os : List HeldObject) (q : LocalName) → AllByRecursion HasHeldObject os → Has (names_of_objects os) q → HasLocalSpelling q
object_names [] q h has = absurd cc
object_names (o ∷ os) q h has = ⊎_elim (λ here. piece_names o.pieces q h.0.1.1 here) (λ more. object_names os q h.1 more) (has_either (names_of_pieces o.pieces) (names_of_objects os) q has)

content_names : (c : HeldContent) (q : LocalName) → HasHeld c → Has (names_of c) q → HasLocalSpelling q
content_names Gone q h has = absurd cc
content_names (Row some objects) q h has = object_names objects q h.1.1 has

slot_names : (s : Slots) (q : LocalName) → HasSlots s → Has (names_in s) q → HasLocalSpelling q
slot_names s q h has =
    let m = names_of_main s.main in
    let w = names_of_shadow s.shadow in
    let o = names_of_out s.out in
    let x = names_of_shadow s.conflict in
    ⊎_elim (λ here. main s.main h.0 here)
    (λ more. ⊎_elim (λ here. shadow s.shadow h.1.0 here)
    (λ last. ⊎_elim (λ here. out s.out h.1.1.0 here) (λ here. shadow s.conflict h.1.1.1 here) (has_either o x q last)) (has_either w (o ++ x) q more)) (has_either m (w ++ (o ++ x)) q has)
  where
    main : (o : Option Main) → IsOption HasMain o → Has (names_of_main o) q → HasLocalSpelling q
    main None h has = absurd cc
    main (Some m) h has = content_names m.content q h.1.1 has

    shadow : (o : Option Shadow) → IsOption HasShadow o → Has (names_of_shadow o) q → HasLocalSpelling q
    shadow None h has = absurd cc
    shadow (Some s) h has = content_names s.content q h.1 has

    out : (o : Option Out) → IsOption HasOut o → Has (names_of_out o) q → HasLocalSpelling q
    out None h has = absurd cc
    out (Some o) h has = content_names o.content q h.1.1.1.1.0 has

each_name : (P : LocalName → Type 0) (names : List LocalName) → ((q : LocalName) → Has names q → P q) → AllByRecursion P names
each_name P [] each = tt
each_name P (n ∷ names) each = (each n (has_head n n names refl), each_name P names (λ q has. each q (has_tail n q names has)))

-- ---- commits

-- the parts of a commit that is short
row_most : (o : Option RowChange) → (n : ℕ) → IfSome o (λ change. (length change.row ≡ 16) × (length (slots_spelling change.slots) ≤ n)) → length (option_spelling row_change_spelling o) ≤ 17 + n
row_most None n h = omega arith
row_most (Some change) n h = omega (arith, h.0, h.1, length-append change.row (slots_spelling change.slots))

position_most : (o : Option ℕ) → length (option_spelling eight o) ≤ 9
position_most None = omega arith
position_most (Some n) = omega (arith, eight_len n)

commit_most : (c : Commit) → (n : ℕ) → IfSome c.row (λ change. (length change.row ≡ 16) × (length (slots_spelling change.slots) ≤ n)) → c.new_record ≡ None → length c.drops ≤ 131072 → length c.tells ≤ 3
    → length (commit_payload c) ≤ n + 1573036
commit_most c n row none drops tells =
    let r : List ℕ = option_spelling row_change_spelling c.row in
    let p : List ℕ = option_spelling eight c.position in
    let s : List ℕ = option_spelling record_change_spelling c.new_record in
    let d : List ℕ = list_spelling local_spelling c.drops in
    let t : List ℕ = list_spelling tell_spelling c.tells in
    let one : length s ≡ 1 = ap (λ o. length (option_spelling record_change_spelling o)) none in
    omega (
      arith,
      one,
      drops,
      tells,
      row_most c.row n row,
      position_most c.position,
      drops_most c.drops,
      tells_most c.tells,
      eight_len c.plan,
      eight_len c.last,
      four_len c.table,
      length-append (eight c.plan) (eight c.last ++ four c.table),
      length-append (eight c.last) (four c.table),
      length-append (head_spelling c) (updates_spelling c ++ (d ++ t)),
      length-append (updates_spelling c) (d ++ t),
      length-append d t,
      length-append r (p ++ s),
      length-append p s,
    )

module _ (meaning other : LocalName → List ℕ) (table : TableRecord) (row : List ℕ) (before behind : Slots) (plan : Plan) (schema : HasSchemaSpelling table.schema) (was : IsFitRow meaning (Some table) before)
    (is : IsFitRow other (Some table) behind) (k : IsRowPlan row before behind plan) where
  few_drops : length plan.drops ≤ 131072
  few_drops = let most = no_more plan.drops (names_in before) k.different k.drops in omega (arith, most, names_few before (all_small meaning table schema before was))

  few_new : length plan.brought ≤ 131072
  few_new = omega (arith, few_brought (length plan.brought) (names_in behind) k.brought, names_few behind (all_small other table schema behind is))

  spelled : (number : ℕ) → IsPlanNumber number → HasCommit (commit_for number plan)
  spelled number n = record {
    plan = n;
    last = k.last;
    table = k.table;
    row = subst (λ (o : Option RowChange). IsOption HasRowChange (option_map (numbered_row number) o)) (sym k.row) (k.id, slots_spelled number n behind is.spelled);
    position = k.position;
    new_record = subst (λ o. IsOption HasRecordChange o) (sym k.new_record) tt;
    drops = (omega (arith, few_drops), each_name HasLocalSpelling plan.drops (λ q has. slot_names before q was.spelled (k.drops q has)));
    tells = (omega (arith, k.tells.few), k.tells.spelled);
  }

  short : (number : ℕ) → IsPlanNumber number → length (commit_payload (commit_for number plan)) ≤ payload_most
  short number n =
      let change : IfSome (option_map (numbered_row number) plan.row) (λ change. (length change.row ≡ 16) × (length (slots_spelling change.slots) ≤ 5801061)) =
      subst (λ (o : Option RowChange). IfSome (option_map (numbered_row number) o) (λ change. (length change.row ≡ 16) × (length (slots_spelling change.slots) ≤ 5801061))) (sym k.row)
      (k.id, slots_most (numbered_slots number behind) (slots_numbered number behind (all_small other table schema behind is))) in
      let most = commit_most (commit_for number plan) 5801061 change k.new_record few_drops k.tells.few in
      omega (arith, most)

  pub row_short : IsShort plan
  row_short = record { spelled = spelled; short = short; few = omega (arith, few_drops, few_new) }

module _ (plan : Plan) (k : IsRowless plan) where
  no_drops : length plan.drops ≤ 131072
  no_drops = omega (arith, ap length k.drops)

  pub rowless_short : IsShort plan
  rowless_short = record {
    spelled = λ number n. record {
      plan = n;
      last = k.last;
      table = k.table;
      row = subst (λ (o : Option RowChange). IsOption HasRowChange (option_map (numbered_row number) o)) (sym k.row) tt;
      position = k.position;
      new_record = subst (λ o. IsOption HasRecordChange o) (sym k.new_record) tt;
      drops = subst (λ (names : List LocalName). AreEach HasLocalSpelling names) (sym k.drops) (omega arith, tt);
      tells = (omega (arith, k.tells.few), k.tells.spelled);
    };
    short = λ number n.
        let change : IfSome (option_map (numbered_row number) plan.row) (λ change. (length change.row ≡ 16) × (length (slots_spelling change.slots) ≤ 0)) =
        subst (λ (o : Option RowChange). IfSome (option_map (numbered_row number) o) (λ change. (length change.row ≡ 16) × (length (slots_spelling change.slots) ≤ 0))) (sym k.row) tt in
        let most = commit_most (commit_for number plan) 0 change k.new_record no_drops k.tells.few in
        omega (arith, most);
    few = omega (arith, ap length k.drops, ap length k.brought);
  }

-- ---- chunks

pub chunks_short : (size : ℕ) (brought : List (List ℕ)) → IsChunkSize size → AllByRecursion (λ bytes. length bytes ≤ size) brought → AllByRecursion (λ bytes. length bytes ≤ chunk_most) brought
chunks_short size [] is h = tt
chunks_short size (bytes ∷ brought) is h = (⊎_elim (λ e. omega (arith, e, h.0)) (⊎_elim (λ e. omega (arith, e, h.0)) (λ e. omega (arith, e, h.0))) is, chunks_short size brought is h.1)
