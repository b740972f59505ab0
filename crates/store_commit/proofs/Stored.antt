-- The row and the entry of an update have spellings, and their payloads are short.
use Rattle.std.proofs.Common.{◌≡◌, inl, inr, ⊎_elim, ℕ, ◌+◌, ◌*◌, ◌<◌, ◌≤◌, ◌^◌, Bool, true, false, cond, List, [], ◌∷◌, ◌++◌, length, Option, Some, None, refl, sym, ◌∙◌, ap, subst, arith}
use Rattle.std.proofs.Common.{length-append}
use Rattle.std.specs.Prelude.{◌&&◌, not, map, nat_lt, filter, sum_by, is_some, IfSome, if◌then◌else◌}
use Rattle.std.specs.Int.{w32, to_be_bytes}
use Rattle.std.specs.List.{flat_map, list_all, AllByRecursion}
use Rattle.std.proofs.lemmas.Bool.{cases_eq}
use Rattle.std.proofs.lemmas.Bool.Decides.{nat_tests}
use Rattle.std.proofs.lemmas.List.{length-map}
use Rattle.std.proofs.lemmas.List.Concat.{flat_map-cons}
use Rattle.std.proofs.lemmas.List.Sums.{sum_by-cons}
use Rattle.vault.specs.Limit.{payload_most}
use Rattle.stab_base.specs.declared.chunk_name.ChunkName.{ChunkName}
use Rattle.stab_base.specs.declared.limits.TheConstants.{NUMBER_MAX}
use Rattle.row_value.specs.Fit.{spelled_len}
use Rattle.row_value.specs.declared.pieces.Piece.{Piece}
use Rattle.row_value.specs.declared.pieces.Piece.TheVariants.{Keep, Fresh}
use Rattle.row_value.specs.declared.pieces.PieceObject.{PieceObject}
use Rattle.row_value.specs.declared.pieces.PieceContent.{PieceContent}
use Rattle.row_value.specs.declared.pieces.PieceContent.TheVariants.{Gone, Row}
use Rattle.value_codec.specs.Spelling.{HasNameSpelling, HasPieceSpelling, HasObjectSpelling, HasContentSpelling, CountsFrom, pieces_of, fresh_in, cell_spelling, object_spelling, content_spelling}
use Rattle.value_codec.proofs.Counts.{cells_counted}
use Rattle.value_codec.proofs.FreshOrder.{fresh_in-append}
use Rattle.chunk_store.specs.Standing.{chunk_in}
use Rattle.row_store.specs.declared.stored.LastWrite.{LastWrite}
use Rattle.row_store.specs.declared.stored.StoredRow.{StoredRow}
use Rattle.row_store.specs.Spelling.{IsNextLast, AreLasts, is_keep, all_keep, HasStoredSpelling, row_payload}
use Rattle.row_store.proofs.Again.{few}
use Rattle.row_store.proofs.Lengths.{row_len, object_len}
use Rattle.status_log.specs.Entry.{HasSpelling}
use Rattle.row_store.specs.Data.{row_of}
use Rattle.store_commit.specs.declared.update.Update.{Update}
use Rattle.store_commit.specs.Devs.{Devs}
use Rattle.store_commit.specs.NamedChunks.{names_in, names_of, is_among}
use Rattle.store_commit.specs.Agenda.{named_piece, named_object, named_content}
use Rattle.store_commit.specs.TakesOn.{IsStanding, IsPlan}
use Rattle.store_commit.specs.Update.{names_if, lasts_if, with_last, unmet, entry_for, stored_for, content_size, fresh_of, IsUpdate}
use Rattle.store_commit.proofs.Replacing.{pieces_named}
use Rattle.store_commit.proofs.Plans.{names_in-append}

-- ---- the content with names

all_map : {A B : Type 0} (f : A → B) (P : A → Type 0) (Q : B → Type 0) (xs : List A) → ((x : A) → P x → Q (f x)) → AllByRecursion P xs → AllByRecursion Q (map f xs)
all_map f P Q [] to h = tt
all_map f P Q (x ∷ xs) to h = (to x h.0, all_map f P Q xs to h.1)

module _ (v : ℕ) (fits : v < 2 ^ 64) where
  piece_spelled : (p : Piece) → HasPieceSpelling p → HasPieceSpelling (named_piece v p)
  piece_spelled (Keep name) h = h
  piece_spelled (Fresh ordinal) h = record { version = fits; ordinal = h }

  object_spelled : (o : PieceObject) → HasObjectSpelling o → HasObjectSpelling (named_object v o)
  object_spelled o h = record {
    len = h.len;
    count = omega (arith, h.count, length-map o.pieces (named_piece v));
    each_piece = all_map (named_piece v) HasPieceSpelling HasPieceSpelling o.pieces piece_spelled h.each_piece;
  }

  none_fresh : (ps : List Piece) → fresh_in (map (named_piece v) ps) ≡ []
  none_fresh [] = refl
  none_fresh (Keep name ∷ ps) = none_fresh ps
  none_fresh (Fresh ordinal ∷ ps) = none_fresh ps

  content_spelled : (c : PieceContent) → HasContentSpelling c → HasContentSpelling (named_content v c)
  content_spelled Gone h = tt
  content_spelled (Row some objects) h = record {
    cell_count = h.cell_count;
    each_cell = h.each_cell;
    object_count = omega (arith, h.object_count, length-map objects (named_object v));
    each_object = all_map (named_object v) HasObjectSpelling HasObjectSpelling objects object_spelled h.each_object;
    fresh = let none : fresh_in (pieces_of (map (named_object v) objects)) ≡ [] = ap fresh_in (pieces_named v objects) ∙ none_fresh (pieces_of objects) in subst (CountsFrom 0) (sym none) tt;
  }

  pieces_keep : (ps : List Piece) → list_all is_keep (map (named_piece v) ps) ≡ true
  pieces_keep [] = refl
  pieces_keep (Keep name ∷ ps) = pieces_keep ps
  pieces_keep (Fresh ordinal ∷ ps) = pieces_keep ps

  objects_keep : (os : List PieceObject) → list_all (λ (o : PieceObject). list_all is_keep o.pieces) (map (named_object v) os) ≡ true
  objects_keep [] = refl
  objects_keep (o ∷ os) = ap (λ (b : Bool). b && list_all (λ (q : PieceObject). list_all is_keep q.pieces) (map (named_object v) os)) (pieces_keep o.pieces) ∙ objects_keep os

  content_keeps : (c : PieceContent) → all_keep (named_content v c) ≡ true
  content_keeps Gone = refl
  content_keeps (Row some objects) = objects_keep objects

  objects_size : (os : List PieceObject) → sum_by (λ (o : PieceObject). 8 + 13 * length o.pieces) (map (named_object v) os) ≡ sum_by (λ (o : PieceObject). 8 + 13 * length o.pieces) os
  objects_size [] = refl
  objects_size (o ∷ os) =
      omega (arith, sum_by-cons (λ (q : PieceObject). 8 + 13 * length q.pieces) (named_object v o) (map (named_object v) os), sum_by-cons (λ (q : PieceObject). 8 + 13 * length q.pieces) o os, objects_size os, length-map o.pieces (named_piece v))

  named_size : (c : PieceContent) → content_size (named_content v c) ≡ content_size c
  named_size Gone = refl
  named_size (Row some objects) = omega (arith, objects_size objects)

-- ---- how long a content is

both : (a b : Bool) → a && b ≡ true → (a ≡ true) × (b ≡ true)
both true b h = (refl, h)
both false b h = absurd cc

objects_len : (os : List PieceObject) → list_all (λ (o : PieceObject). list_all is_keep o.pieces) os ≡ true
    → length (flat_map object_spelling os) ≡ sum_by (λ (o : PieceObject). 8 + 13 * length o.pieces) os
objects_len [] h = refl
objects_len (o ∷ os) h =
    let k = both (list_all is_keep o.pieces) (list_all (λ (q : PieceObject). list_all is_keep q.pieces) os) h in
    omega (arith, ap length (flat_map-cons object_spelling o os), length-append (object_spelling o) (flat_map object_spelling os), object_len o k.0, objects_len os k.1, sum_by-cons (λ (q : PieceObject). 8 + 13 * length q.pieces) o os)

content_len : (c : PieceContent) → all_keep c ≡ true → length (content_spelling c) ≡ content_size c
content_len Gone h = refl
content_len (Row some objects) h =
    let n = to_be_bytes w32 (length some) in
    let m = to_be_bytes w32 (length objects) in
    let f = flat_map cell_spelling some in
    let g = flat_map object_spelling objects in
    omega (arith, length-append (n ++ f) (m ++ g), length-append n f, length-append m g, cells_counted some, objects_len objects h)

names_few : (ps : List Piece) → length (names_in ps) ≤ length ps
names_few [] = omega arith
names_few (Keep name ∷ ps) = omega (arith, names_few ps)
names_few (Fresh ordinal ∷ ps) = omega (arith, names_few ps)

fresh_few : (ps : List Piece) → length (fresh_in ps) ≤ length ps
fresh_few [] = omega arith
fresh_few (Keep name ∷ ps) = omega (arith, fresh_few ps)
fresh_few (Fresh ordinal ∷ ps) = omega (arith, fresh_few ps)

pieces_few : (os : List PieceObject) → 13 * length (pieces_of os) ≤ sum_by (λ (o : PieceObject). 8 + 13 * length o.pieces) os
pieces_few [] = omega arith
pieces_few (o ∷ os) =
    omega (arith, ap length (flat_map-cons (λ (q : PieceObject). q.pieces) o os), length-append o.pieces (pieces_of os), pieces_few os, sum_by-cons (λ (q : PieceObject). 8 + 13 * length q.pieces) o os)

content_names : (c : PieceContent) → 13 * length (names_of c) ≤ content_size c
content_names Gone = omega arith
content_names (Row some objects) = omega (arith, names_few (pieces_of objects), pieces_few objects)

content_fresh : (c : PieceContent) → 13 * length (fresh_of c) ≤ content_size c
content_fresh Gone = omega arith
content_fresh (Row some objects) = omega (arith, fresh_few (pieces_of objects), pieces_few objects)

-- ---- the last writes

all_behind : (before c : ℕ) (lasts : List LastWrite) → AreLasts before lasts → c ≤ before
    → (filter (λ (o : LastWrite). nat_lt o.client c) lasts ≡ []) × (filter (λ (o : LastWrite). nat_lt c o.client) lasts ≡ lasts)
all_behind before c [] h le = (refl, refl)
all_behind before c (l ∷ lasts) h le =
    let above = h.0.above in
    let no_ : nat_lt l.client c ≡ false = grind (arith, nat_tests) in
    let yes_ : nat_lt c l.client ≡ true = grind (arith, nat_tests) in
    let r = all_behind l.client c lasts h.1 (omega arith) in (
      ap (λ (b : Bool). cond b (l ∷ filter (λ (o : LastWrite). nat_lt o.client c) lasts) (filter (λ (o : LastWrite). nat_lt o.client c) lasts)) no_ ∙ r.0,
      ap (λ (b : Bool). cond b (l ∷ filter (λ (o : LastWrite). nat_lt c o.client) lasts) (filter (λ (o : LastWrite). nat_lt c o.client) lasts)) yes_ ∙ ap (λ (x : List LastWrite). l ∷ x) r.1,
    )

-- where none is smaller
put_front : (before : ℕ) (lasts : List LastWrite) (last : LastWrite) → IsNextLast before last → AreLasts last.client lasts → AreLasts before (with_last lasts last)
put_front before lasts last h more =
    let a = all_behind last.client last.client lasts more (omega arith) in
    let is : with_last lasts last ≡ last ∷ lasts =
    ap (λ (x : List LastWrite). x ++ (last ∷ filter (λ (o : LastWrite). nat_lt last.client o.client) lasts)) a.0 ∙ ap (λ (x : List LastWrite). last ∷ x) a.1 in
    subst (AreLasts before) (sym is) (h, more)

-- the first is left out, or goes in front, or goes behind
with_same : (l : LastWrite) (lasts : List LastWrite) (last : LastWrite) → nat_lt l.client last.client ≡ false → nat_lt last.client l.client ≡ false → with_last (l ∷ lasts) last ≡ with_last lasts last
with_same l lasts last p q = rw (p, q) refl

with_smaller : (l : LastWrite) (lasts : List LastWrite) (last : LastWrite) → nat_lt l.client last.client ≡ true → nat_lt last.client l.client ≡ false
    → with_last (l ∷ lasts) last ≡ l ∷ with_last lasts last
with_smaller l lasts last p q = rw (p, q) refl

pub lasts_put : (before : ℕ) (lasts : List LastWrite) (last : LastWrite) → AreLasts before lasts → IsNextLast before last → AreLasts before (with_last lasts last)
lasts_put before [] last h next = (next, tt)
lasts_put before (l ∷ lasts) last h next = pick (nat_lt l.client last.client) refl (nat_lt last.client l.client) refl (lasts_put l.client lasts last h.1)
  where
    pick : (a : Bool) → nat_lt l.client last.client ≡ a → (b : Bool) → nat_lt last.client l.client ≡ b → (IsNextLast l.client last → AreLasts l.client (with_last lasts last))
        → AreLasts before (with_last (l ∷ lasts) last)
    pick true p true q more = absurd (let x : l.client < last.client = grind (arith, nat_tests) in let y : last.client < l.client = grind (arith, nat_tests) in omega arith)
    pick true p false q more =
        let above : l.client < last.client = grind (arith, nat_tests) in
        subst (AreLasts before) (sym (with_smaller l lasts last p q)) (h.0, more (record { above = above; most = next.most; number = next.number; version = next.version }))
    pick false p true q more = put_front before (l ∷ lasts) last next (record { above = grind (arith, nat_tests); most = h.0.most; number = h.0.number; version = h.0.version }, h.1)
    pick false p false q more =
        let same : l.client ≡ last.client = grind (arith, nat_tests) in
        subst (AreLasts before) (sym (with_same l lasts last p q)) (put_front before lasts last next (subst (λ (n : ℕ). AreLasts n lasts) same h.1))

-- ---- old names

unmet_few : (there : ChunkName → Bool) (met names : List ChunkName) → length (unmet there met names) ≤ length names
unmet_few there met [] = omega arith
unmet_few there met (n ∷ names) = pick (there n && not (is_among n met)) (unmet_few there (n ∷ met) names) (unmet_few there met names)
  where
    pick : (b : Bool) → length (unmet there (n ∷ met) names) ≤ length names → length (unmet there met names) ≤ length names
        → length (if b then n ∷ unmet there (n ∷ met) names else unmet there met names) ≤ length (n ∷ names)
    pick true x y = omega arith
    pick false x y = omega arith

unmet_spelled : (there : ChunkName → Bool) (met names : List ChunkName) → AllByRecursion HasNameSpelling names → AllByRecursion HasNameSpelling (unmet there met names)
unmet_spelled there met [] h = tt
unmet_spelled there met (n ∷ names) h = pick (there n && not (is_among n met)) (unmet_spelled there (n ∷ met) names h.1) (unmet_spelled there met names h.1)
  where
    pick : (b : Bool) → AllByRecursion HasNameSpelling (unmet there (n ∷ met) names) → AllByRecursion HasNameSpelling (unmet there met names)
        → AllByRecursion HasNameSpelling (if b then n ∷ unmet there (n ∷ met) names else unmet there met names)
    pick true x y = (h.0, x)
    pick false x y = y

all_append : (xs ys : List ChunkName) → AllByRecursion HasNameSpelling xs → AllByRecursion HasNameSpelling ys → AllByRecursion HasNameSpelling (xs ++ ys)
all_append [] ys h k = k
all_append (x ∷ xs) ys h k = (h.0, all_append xs ys h.1 k)

pieces_spelled : (ps : List Piece) → AllByRecursion HasPieceSpelling ps → AllByRecursion HasNameSpelling (names_in ps)
pieces_spelled [] h = tt
pieces_spelled (Keep name ∷ ps) h = (h.0, pieces_spelled ps h.1)
pieces_spelled (Fresh ordinal ∷ ps) h = pieces_spelled ps h.1

objects_spelled : (os : List PieceObject) → AllByRecursion HasObjectSpelling os → AllByRecursion HasNameSpelling (names_in (pieces_of os))
objects_spelled [] h = tt
objects_spelled (o ∷ os) h =
    let parts : names_in (pieces_of (o ∷ os)) ≡ names_in o.pieces ++ names_in (pieces_of os) = ap names_in (flat_map-cons (λ (q : PieceObject). q.pieces) o os) ∙ names_in-append o.pieces (pieces_of os) in
    subst (AllByRecursion HasNameSpelling) (sym parts) (all_append (names_in o.pieces) (names_in (pieces_of os)) (pieces_spelled o.pieces h.0.each_piece) (objects_spelled os h.1))

names_spelled : (c : PieceContent) → HasContentSpelling c → AllByRecursion HasNameSpelling (names_of c)
names_spelled Gone h = tt
names_spelled (Row some objects) h = objects_spelled objects h.each_object

standing_spelled : (found : Option StoredRow) → IfSome found HasStoredSpelling → AllByRecursion HasNameSpelling (names_if found)
standing_spelled None h = tt
standing_spelled (Some stored) h = names_spelled stored.content h.content

standing_few : (found : Option StoredRow) → IfSome found HasStoredSpelling → IfSome found (λ (stored : StoredRow). length (row_payload stored) ≤ payload_most)
    → 13 * length (names_if found) + 29 ≤ payload_most
standing_few None h short = omega arith
standing_few (Some stored) h short = omega (arith, row_len stored, h.row, content_len stored.content h.keeps, content_names stored.content, short)

standing_lasts : (found : Option StoredRow) → IfSome found HasStoredSpelling → AreLasts 0 (lasts_if found)
standing_lasts None h = tt
standing_lasts (Some stored) h = h.lasts

-- ---- the update

pub plan_is : (d : Devs) (version : ℕ) (update : Update) (found : Option StoredRow) → version ≤ NUMBER_MAX → length update.row ≡ 16 → update.number < 2 ^ 64 → update.base < 2 ^ 64
    → IsUpdate d update → IsStanding d.held update.row found
    → IsPlan (entry_for d version update) update.fresh (stored_for d version update)
plan_is d version update found most row number base u s =
    let is = s.is in
    let fits : version < 2 ^ 64 = omega arith in
    let names = names_if (row_of d.held update.row) in
    let last : LastWrite = record { client = update.client; number = update.number; version = version } in
    let lasts : AreLasts 0 (lasts_if (row_of d.held update.row)) = subst (λ (o : Option StoredRow). AreLasts 0 (lasts_if o)) (sym is) (standing_lasts found s.spelled) in
    let spelled : AllByRecursion HasNameSpelling names = subst (λ (o : Option StoredRow). AllByRecursion HasNameSpelling (names_if o)) (sym is) (standing_spelled found s.spelled) in
    let count : 13 * length names + 29 ≤ payload_most = subst (λ (o : Option StoredRow). 13 * length (names_if o) + 29 ≤ payload_most) (sym is) (standing_few found s.spelled s.short) in
    let next : IsNextLast 0 last = record { above = omega (arith, u.client.least); most = u.client.most; number = number; version = fits } in
    let put = lasts_put 0 (lasts_if (row_of d.held update.row)) last lasts next in
    let stored : HasStoredSpelling (stored_for d version update) = record { row = row; version = most; content = content_spelled version fits update.content u.content; keeps = content_keeps version fits update.content; lasts = put } in
    let new : 13 * length update.fresh ≤ content_size update.content = omega (arith, u.fresh, content_fresh update.content) in
    record {
      spelled = record {
        version = most;
        row = row;
        client_from = u.client.least;
        client_to = u.client.most;
        number = number;
        base = base;
        fresh = omega (arith, new, u.short);
        old = unmet_spelled _ (names_of update.content) names spelled;
        size = omega (arith, unmet_few (λ name. is_some (chunk_in d.chunks name)) (names_of update.content) names, count);
      };
      row_spelled = stored;
      short = omega (arith, row_len (stored_for d version update), row, content_len (named_content version update.content) (content_keeps version fits update.content), named_size version fits update.content, u.short, few (with_last (lasts_if (row_of d.held update.row)) last) put);
      few = omega (arith, new, u.short);
      chunks = u.chunks;
    }

pub few_fresh : (d : Devs) (update : Update) → IsUpdate d update → length update.fresh ≤ 645176
few_fresh d update u = omega (arith, u.fresh, content_fresh update.content, u.short)
