-- Requests and answers whose contents aren't looked at.
use Rattle.std.proofs.Common.{◌≡◌, ℕ, Bool, true, false, List, [], ◌∷◌, length, Some, refl, sym, ◌∙◌, ap, arith, true≢false}
use Rattle.std.specs.Prelude.{◌==◌, ◌&&◌, ◌||◌, not, nat_lt, nat_le, if◌then◌else◌}
use Rattle.std.specs.List.{list_any, list_all}
use Rattle.std.specs.Str.{bytes_eq}
use Rattle.std.proofs.lemmas.Bool.{and_parts}
use Rattle.std.proofs.lemmas.Bool.Decides.{nat_tests}
use Rattle.std.proofs.lemmas.Slice.Eq.{bytes_eq-Decides}
use Rattle.stab_base.specs.declared.node.Node.{Node}
use Rattle.row_value.specs.declared.content.Content.{Content}
use Rattle.row_value.specs.declared.pieces.Piece.{Piece}
use Rattle.row_value.specs.declared.pieces.Piece.TheVariants.{Keep, Fresh}
use Rattle.row_value.specs.declared.schema.Scheme.{Scheme}
use Rattle.chunker.specs.Sized.{sized}
use Rattle.step_tables.specs.Chunks.{Named, same_name, flat, each_chunk, is_of_each, objects_of, chunks_of, is_spelled, is_named, is_there, has_kept, are_counted, are_apart, kept_in}
use Rattle.step_tables.specs.Store.{current_of}
use Rattle.step_tables.specs.Messages.{Request, Pulled, TornPulled, Header}
use Rattle.step_tables.specs.StoreMoves.{StoreDisk, takes, version_of, yours_in, asked, decided}
use Rattle.step_tables.specs.ClientMoves.{Shape, ClientDisk, TableDisk, ClientStep, client_step, table_at, seen, slots_at, top, comes_next, pulled_taken, pulled_in, torn_taken, torn_in}
use Rattle.step_tables.specs.ClientMoves as client_moves
use Rattle.part_tables.specs.Parts.{spelled_by, head_of}
use Rattle.part_tables.specs.StoreParts.{is_as_long, has_kept_by_len, is_answered}
use Rattle.part_laws.specs.Lengths.{AreAsLong, request_with, answer_with, torn_with}
use Rattle.part_laws.proofs.Lengths.{all_alike, spelled_alike, named_alike, as_long, pieces_back}

-- ---- tests that imply each other

pub all_implies : {X : Type 0} (f g : X → Bool) → ((x : X) → f x ≡ true → g x ≡ true) → (xs : List X) → list_all f xs ≡ true → list_all g xs ≡ true
all_implies f g to [] is = refl
all_implies f g to (x ∷ xs) is =
    let parts = and_parts (f x) (list_all f xs) is in
    ap (λ (t : Bool). t && list_all g xs) (to x parts.0) ∙ all_implies f g to xs parts.1

or_both : (a b c d : Bool) → (a ≡ true → c ≡ true) → (b ≡ true → d ≡ true) → (a || b) ≡ true → (c || d) ≡ true
or_both true b c d f h is = ap (λ (t : Bool). t || d) (f refl)
or_both false b true d f h is = refl
or_both false b false d f h is = h is

any_implies : {X : Type 0} (f g : X → Bool) → ((x : X) → f x ≡ true → g x ≡ true) → (xs : List X) → list_any f xs ≡ true → list_any g xs ≡ true
any_implies f g to [] is = absurd (let bad : false ≡ true = is in cc)
any_implies f g to (x ∷ xs) is = or_both (f x) (list_any f xs) (g x) (list_any g xs) (to x) (any_implies f g to xs) is

-- ---- chunks that are kept, by name and length

long_by_len : (row : List Named) (piece : Piece) (a b : List ℕ) → length a ≡ length b → is_as_long row (piece, a) ≡ is_as_long row (piece, b)
long_by_len row (Fresh ordinal) a b e = refl
long_by_len row (Keep name) a b e = ap (λ n. list_any (λ (held : Named). same_name held.0 name && (length held.1 == n)) row) e

itself : (n : ℕ) → (n == n) ≡ true
itself n = grind (arith, nat_tests)

len_of_bytes : (a b : List ℕ) → bytes_eq a b ≡ true → (length a == length b) ≡ true
len_of_bytes a b e = ap (λ (z : List ℕ). length a == length z) (sym ((bytes_eq-Decides a b).0 e)) ∙ itself (length a)

and_with : (a b c : Bool) → (b ≡ true → c ≡ true) → (a && b) ≡ true → (a && c) ≡ true
and_with true b c to is = to is
and_with false b c to is = is

long_if_there : (row : List Named) (x : Piece × List ℕ) → is_there row x ≡ true → is_as_long row x ≡ true
long_if_there row (Fresh ordinal, chunk) is = refl
long_if_there row (Keep name, chunk) is =
    any_implies (λ (held : Named). same_name held.0 name && bytes_eq held.1 chunk) (λ (held : Named). same_name held.0 name && (length held.1 == length chunk))
    (λ held. and_with (same_name held.0 name) (bytes_eq held.1 chunk) (length held.1 == length chunk) (len_of_bytes held.1 chunk)) row is

-- what is kept of a spelled content is as long as with any content as long
pub kept_by_len : (size : ℕ) (held : List (List Named)) (content other : Content) (pieces : List (List Piece)) → AreAsLong content other → is_of_each size pieces (objects_of content) ≡ true
    → has_kept_by_len size held (spelled_by content pieces) ≡ list_all (is_as_long (flat held)) (flat (each_chunk size pieces (objects_of other)))
kept_by_len size held content other pieces e is =
    ap (λ (ps : List (List Piece)). list_all (is_as_long (flat held)) (flat (each_chunk size ps (objects_of (sized (spelled_by content pieces)))))) (pieces_back size content pieces is)
    ∙ sym (all_alike (is_as_long (flat held)) (long_by_len (flat held)) size pieces (objects_of content) (objects_of (sized (spelled_by content pieces))) is (sym (as_long content pieces)))
    ∙ all_alike (is_as_long (flat held)) (long_by_len (flat held)) size pieces (objects_of content) (objects_of other) is e

long_if_kept : (size : ℕ) (held : List (List Named)) (content other : Content) (pieces : List (List Piece)) → AreAsLong content other → is_of_each size pieces (objects_of content) ≡ true
    → has_kept size held other pieces ≡ true → has_kept_by_len size held (spelled_by content pieces) ≡ true
long_if_kept size held content other pieces e is kept =
    kept_by_len size held content other pieces e is ∙ all_implies (is_there (flat held)) (is_as_long (flat held)) (long_if_there (flat held)) (flat (each_chunk size pieces (objects_of other))) kept

fails : (a b : Bool) → (a ≡ true → b ≡ true) → b ≡ false → a ≡ false
fails true b to is = absurd (true≢false (sym (to refl) ∙ is))
fails false b to is = refl

-- ---- a request

-- an answer that is known before the content
before : {X : Type 0} (again late base by_len keeps others : Bool) (a b i j none : X) → (again || (late || (not base || not by_len))) ≡ true → (by_len ≡ false → keeps ≡ false)
    → (by_len ≡ false → others ≡ false) → (if again then a else (if late then b else (if base && keeps then i else none))) ≡ (if again then a else (if late then b else (if base && others then j else none)))
before true late base by_len keeps others a b i j none is k o = refl
before false true base by_len keeps others a b i j none is k o = refl
before false false false by_len keeps others a b i j none is k o = refl
before false false true true keeps others a b i j none is k o = absurd (let bad : false ≡ true = is in cc)
before false false true false keeps others a b i j none is k o =
    ap (λ (t : Bool). if t then i else none) (k refl) ∙ ap (λ (t : Bool). if t then j else none) (sym (o refl))

if_same : {X : Type 0} (a b : Bool) (x y none : X) → a ≡ b → (b ≡ true → x ≡ y) → (if a then x else none) ≡ (if b then y else none)
if_same true true x y none e same = same refl
if_same true false x y none e same = absurd (true≢false e)
if_same false true x y none e same = absurd (true≢false (sym e))
if_same false false x y none e same = refl

module _ (g : Scheme) (size table : ℕ) (d : StoreDisk) (from : Node) (q : Request) (other : Content) (same : AreAsLong q.content other) (is : is_answered g size d.items (head_of q) ≡ true) where
  decided_alike : is_of_each size q.pieces (objects_of q.content) ≡ true
      → decided g size table d from (request_with q other) (yours_in d.items q.client q.row) ≡ decided g size table d from q (yours_in d.items q.client q.row)
  decided_alike each =
      let row = chunks_of size d.items q.row in
      before ((yours_in d.items q.client q.row).number == q.number) (nat_lt q.number (yours_in d.items q.client q.row).number) (takes g q.base (version_of (current_of d.items q.row)))
      (has_kept_by_len size row (spelled_by q.content q.pieces)) (has_kept size row other q.pieces) (has_kept size row q.content q.pieces) _ _ _ _ _ is
      (fails (has_kept size row other q.pieces) (has_kept_by_len size row (spelled_by q.content q.pieces)) (long_if_kept size row q.content other q.pieces same each))
      (fails (has_kept size row q.content q.pieces) (has_kept_by_len size row (spelled_by q.content q.pieces)) (long_if_kept size row q.content q.content q.pieces refl each))

  pub answered_alike : asked g size table d from (request_with q other) ≡ asked g size table d from q
  answered_alike =
      if_same (is_spelled size other q.pieces) (is_spelled size q.content q.pieces) _ _ _ (spelled_alike size other q.content q.pieces (sym same))
      (λ spells. decided_alike (and_parts (is_of_each size q.pieces (objects_of q.content)) (are_counted 0 (flat q.pieces) && are_apart (kept_in (flat q.pieces))) spells).0)

-- ---- an answer to a pull

seen_before : {X : Type 0} (a b old : Bool) (x i j none : X) → a ≡ b → old ≡ true → (if a then (if old then x else i) else none) ≡ (if b then (if old then x else j) else none)
seen_before true true true x i j none e is = refl
seen_before false false true x i j none e is = refl
seen_before a b false x i j none e is = absurd (true≢false (sym is))
seen_before true false true x i j none e is = absurd (true≢false e)
seen_before false true true x i j none e is = absurd (true≢false (sym e))

module _ (c : ℕ) (shape : Shape) (d : ClientDisk) (opened : TableDisk) (p : Pulled) (h : Header) (other : Content) (same : AreAsLong h.content other)
    (is : nat_le h.version (top (slots_at opened h.row).conflict (slots_at opened h.row).shadow) ≡ true) where
  abbrev with : Content → Pulled
  with content = record p { header = Some (record h { content = content }) }

  taken_alike : pulled_taken c shape d (with other) opened (Some (record h { content = other })) ≡ pulled_taken c shape d (with h.content) opened (Some h)
  taken_alike =
      seen_before ((p.from == opened.position) && is_named opened.schema.chunk other h.names) ((p.from == opened.position) && is_named opened.schema.chunk h.content h.names)
      (nat_le h.version (top (slots_at opened h.row).conflict (slots_at opened h.row).shadow)) _ _ _ _
      (ap (λ (t : Bool). (p.from == opened.position) && t) (named_alike opened.schema.chunk other h.content h.names (sym same))) is

  pub seen_alike : table_at (seen d) p.table ≡ Some opened
      → client_step c shape (record { disk = d; agenda = Some [] }) (client_moves.Take (answer_with p h other)) ≡ client_step c shape (record { disk = d; agenda = Some [] }) (client_moves.Take (answer_with p h h.content))
  seen_alike there =
      ap (λ o. pulled_in c shape d (with other) o) there ∙ (taken_alike ∙ sym (ap (λ o. pulled_in c shape d (with h.content) o) there))

-- ---- a row that was asked for whole

module _ (c : ℕ) (shape : Shape) (d : ClientDisk) (opened : TableDisk) (t : TornPulled) (h : Header) (other : Content) (same : AreAsLong h.content other)
    (is : nat_le h.version (top (slots_at opened h.row).conflict (slots_at opened h.row).shadow) ≡ true) where
  abbrev whole_with : Content → TornPulled
  whole_with content = record t { header = Some (record h { content = content }) }

  torn_alike : torn_taken c shape d t.table opened (Some (record h { content = other })) ≡ torn_taken c shape d t.table opened (Some h)
  torn_alike =
      seen_before (is_named opened.schema.chunk other h.names) (is_named opened.schema.chunk h.content h.names) (nat_le h.version (top (slots_at opened h.row).conflict (slots_at opened h.row).shadow)) _ _ _ _
      (named_alike opened.schema.chunk other h.content h.names (sym same)) is

  pub whole_alike : table_at (seen d) t.table ≡ Some opened
      → client_step c shape (record { disk = d; agenda = Some [] }) (client_moves.Take (torn_with t h other)) ≡ client_step c shape (record { disk = d; agenda = Some [] }) (client_moves.Take (torn_with t h h.content))
  whole_alike there =
      ap (λ o. torn_in c shape d (whole_with other) o) there ∙ (torn_alike ∙ sym (ap (λ o. torn_in c shape d (whole_with h.content) o) there))
