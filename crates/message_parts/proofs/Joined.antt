-- Parts of messages, one more at a time, and put together.
use Rattle.std.proofs.Common.{◌≡◌, ℕ, zero, suc, ◌+◌, ◌<◌, Bool, true, false, List, [], ◌∷◌, ◌++◌, length, get_or, take, drop, map, Option, Some, None, refl, sym, ◌∙◌, ap, arith, add-one, append_assoc, drop-cons}
use Rattle.std.specs.Prelude.{◌&&◌, ◌^◌, nat_lt, option_map}
use Rattle.std.specs.List.{list_all}
use Rattle.stab_base.specs.declared.chunk_name.ChunkName.{ChunkName}
use Rattle.std.proofs.lemmas.List.{map-append, take_more, length-map}
use Rattle.row_value.specs.declared.content.Content.{Content}
use Rattle.row_value.specs.declared.pieces.Piece.{Piece}
use Rattle.row_value.specs.declared.pieces.Piece.TheVariants.{Keep}
use Rattle.row_value.specs.declared.content.Content.TheVariants.{Gone, Row}
use Rattle.row_value.specs.declared.pieces.PieceObject.{PieceObject}
use Rattle.row_value.specs.declared.pieces.PieceContent.{PieceContent}
use Rattle.table_model.specs.declared.message.Message.{Message}
use Rattle.table_model.specs.declared.message.Message.TheVariants as kinds
use Rattle.table_model.specs.declared.message.RowHeader.{RowHeader}
use Rattle.assemblies.specs.Places.{has_few, has_places, awaited_of}
use Rattle.assemblies.specs.Travel.{is_sent}
use Rattle.assemblies.specs.declared.sent.Sent.TheVariants as sents
use Rattle.assemblies.specs.declared.awaiting.Awaited.{Awaited}
use Rattle.step_tables.specs.Chunks.{first_of, others_of}
use Rattle.step_tables.specs.Messages.{Header, Pulled, TornPulled}
use Rattle.step_tables.specs.Messages as ends
use Rattle.step_tables.specs.Travels.{message_of}
use Rattle.step_tables.specs.declared.message.Message.TheVariants as wholes
use Rattle.step_tables.specs.declared.message.SyncRequest.{SyncRequest}
use Rattle.part_tables.specs.Parts.{Part, Fragment, RowHead, Asks, Responds, Pulls, Answers, AsksTorn, AnswersTorn, BringsUp, BringsDown, objects_by, spelled_by, kept}
use Rattle.part_tables.specs.Parts.{parts_of, row_head, pulled_head, torn_head, chunks_down, chunks_whole}
use Rattle.message_parts.specs.declared.fragments.Way.{Way}
use Rattle.message_parts.specs.Parts as parts
use Rattle.message_parts.specs.Parts.{part_of, outcome_of, row_head_of, message_at, outcome_at, row_header_at, first_part}
use Rattle.message_parts.specs.Splits.{is_short, has_words}
use Rattle.message_parts.specs.Fragments.{fragment_at, sent_at, chunks_of_row, down}

-- what is left begins with the next one
next_of : {X : Type 0} (xs : List X) (i : ℕ) (x e : X) → i < length xs → x ≡ get_or xs i e → drop i xs ≡ x ∷ drop (i + 1) xs
next_of xs i x e within is = drop-cons xs i e within ∙ (ap (λ y. y ∷ drop (suc i) xs) (sym is) ∙ ap (λ n. x ∷ drop n xs) (sym (add-one i)))

both_true : (a b : Bool) → (a && b) ≡ true → (a ≡ true) × (b ≡ true)
both_true true b h = (refl, h)
both_true false b h = absurd cc

two_true : (a b : Bool) → a ≡ true → b ≡ true → (a && b) ≡ true
two_true true b p q = q
two_true false b p q = absurd cc

-- one more is made of the next
pub one_more : {X Y : Type 0} (f : X → Y) (now new : List Y) (m : Y) (xs : List X) (i : ℕ) (x e : X) (target : List Y) → i < length xs → x ≡ get_or xs i e → new ≡ now ++ m ∷ [] → m ≡ f x
    → now ++ map f (drop i xs) ≡ target → new ++ map f (drop (i + 1) xs) ≡ target
one_more {X} {Y} f now new m xs i x e target within is made same so_far =
    let rest : List Y = map f (drop (i + 1) xs) in
    ap (λ (l : List Y). l ++ rest) made
    ∙ (append_assoc now (m ∷ []) rest
    ∙ (ap (λ (y : Y). now ++ y ∷ rest) same
    ∙ (ap (λ (l : List X). now ++ map f l) (sym (next_of xs i x e within is)) ∙ so_far)))

-- ---- objects by pieces

first_left : (pieces : List (List Piece)) (i : ℕ) → first_of (drop i pieces) ≡ get_or pieces i []
first_left [] zero = refl
first_left [] (suc i) = refl
first_left (here ∷ pieces) zero = refl
first_left (here ∷ pieces) (suc i) = first_left pieces i

others_left : (pieces : List (List Piece)) (i : ℕ) → others_of (drop i pieces) ≡ drop (suc i) pieces
others_left [] zero = refl
others_left [] (suc i) = refl
others_left (here ∷ pieces) zero = refl
others_left (here ∷ pieces) (suc i) = others_left pieces i

abbrev object_with : List ℕ → List Piece → PieceObject
object_with object pieces = record { len = length object; pieces = pieces }

pub object_more : (now new : List PieceObject) (object : List ℕ) (said : List Piece) (objects : List (List ℕ)) (pieces : List (List Piece)) (i : ℕ) (e : List ℕ) (target : List PieceObject)
    → i < length objects → object ≡ get_or objects i e → said ≡ get_or pieces i [] → new ≡ now ++ object_with object said ∷ []
    → now ++ objects_by (drop i objects) (drop i pieces) ≡ target → new ++ objects_by (drop (i + 1) objects) (drop (i + 1) pieces) ≡ target
object_more now new object said objects pieces i e target within is at made so_far =
    let rest : List PieceObject = objects_by (drop (i + 1) objects) (drop (i + 1) pieces) in
    let here : objects_by (drop i objects) (drop i pieces) ≡ object_with object said ∷ rest =
    ap (λ (l : List (List ℕ)). objects_by l (drop i pieces)) (next_of objects i object e within is)
    ∙ (ap (λ (p : List Piece). object_with object p ∷ objects_by (drop (i + 1) objects) (others_of (drop i pieces))) (first_left pieces i ∙ sym at)
    ∙ ap (λ (l : List (List Piece)). object_with object said ∷ objects_by (drop (i + 1) objects) l) (others_left pieces i ∙ ap (λ (n : ℕ). drop n pieces) (sym (add-one i)))) in
    ap (λ (l : List PieceObject). l ++ rest) made ∙ (append_assoc now (object_with object said ∷ []) rest ∙ (ap (λ (l : List PieceObject). now ++ l) (sym here) ∙ so_far))

-- ---- names by pieces

pub kept_more : (names : List (List ChunkName)) (i : ℕ) (now new : List (List Piece)) (pieces : List Piece) (object : List ChunkName) → i < length names → object ≡ get_or names i object
    → now ≡ kept (take i names) → pieces ≡ map (λ (name : ChunkName). Keep name) object → new ≡ now ++ pieces ∷ [] → new ≡ kept (take (i + 1) names)
kept_more names i now new pieces object within at so_far read is =
    let all : List ChunkName → List Piece = map (λ (name : ChunkName). Keep name) in
    is ∙ (ap (λ (l : List (List Piece)). l ++ pieces ∷ []) so_far ∙ (ap (λ (p : List Piece). kept (take i names) ++ p ∷ []) (read ∙ ap all at)
    ∙ (sym (map-append all (take i names) (get_or names i object ∷ [])) ∙ ap kept (sym (take_more names i object within)))))

kept_short : (names : List (List ChunkName)) → list_all is_short names ≡ true → list_all is_short (kept names) ≡ true
kept_short [] h = refl
kept_short (here ∷ names) h =
    let t = both_true (is_short here) (list_all is_short names) h in
    two_true (is_short (map (λ (name : ChunkName). Keep name) here)) (list_all is_short (kept names)) (ap (λ (n : ℕ). nat_lt n (2 ^ 32)) (length-map here (λ (name : ChunkName). Keep name)) ∙ t.0) (kept_short names t.1)

-- ---- numbers of 32 bits

objects_few : (objects : List (List ℕ)) (pieces : List (List Piece)) → list_all is_short pieces ≡ true → list_all has_few (objects_by objects pieces) ≡ true
objects_few [] pieces h = refl
objects_few (object ∷ objects) [] h = objects_few objects [] refl
objects_few (object ∷ objects) (here ∷ pieces) h =
    let t = both_true (is_short here) (list_all is_short pieces) h in two_true (is_short here) (list_all has_few (objects_by objects pieces)) t.0 (objects_few objects pieces t.1)

objects_count : (objects : List (List ℕ)) (pieces : List (List Piece)) → length (objects_by objects pieces) ≡ length objects
objects_count [] pieces = refl
objects_count (object ∷ objects) pieces = ap suc (objects_count objects (others_of pieces))

pub spelled_places : (content : Content) (pieces : List (List Piece)) → has_words content pieces ≡ true → has_places (spelled_by content pieces) ≡ true
spelled_places Gone pieces h = refl
spelled_places (Row some objects) pieces h =
    let a = both_true (nat_lt (length some + length objects) (2 ^ 32)) (list_all is_short objects && list_all is_short pieces) h in
    let b = both_true (list_all is_short objects) (list_all is_short pieces) a.1 in
    two_true (nat_lt (length some + length (objects_by objects pieces)) (2 ^ 32)) (list_all has_few (objects_by objects pieces))
    (ap (λ (n : ℕ). nat_lt (length some + n) (2 ^ 32)) (objects_count objects pieces) ∙ a.0) (objects_few objects pieces b.1)

pub words_kept : (content : Content) (names : List (List ChunkName)) → has_words content names ≡ true → has_words content (kept names) ≡ true
words_kept Gone names h = refl
words_kept (Row some objects) names h =
    let a = both_true (nat_lt (length some + length objects) (2 ^ 32)) (list_all is_short objects && list_all is_short names) h in
    let b = both_true (list_all is_short objects) (list_all is_short names) a.1 in
    two_true (nat_lt (length some + length objects) (2 ^ 32)) (list_all is_short objects && list_all is_short (kept names)) a.0
    (two_true (list_all is_short objects) (list_all is_short (kept names)) b.0 (kept_short names b.1))

-- ---- fragments

abbrev sent : Bool → Fragment → Message
sent down f = kinds.ObjectFragment (parts.fragment_at down f)

pub fragments_are : (size : ℕ) (way : Way) (content : Content) (list : List Awaited)
    → map (λ (it : Awaited). sent_at size way content it) list ≡ map (sent way.down) (map (fragment_at size way content) list)
fragments_are size way content [] = refl
fragments_are size way content (it ∷ list) = ap (λ (l : List Message). sent_at size way content it ∷ l) (fragments_are size way content list)

pub messages_up : (fragments : List Fragment) → map (sent false) fragments ≡ map message_at (map (λ (f : Fragment). BringsUp f) fragments)
messages_up [] = refl
messages_up (f ∷ fragments) = ap (λ (l : List Message). sent false f ∷ l) (messages_up fragments)

messages_down : (fragments : List Fragment) → down fragments ≡ map message_at (map (λ (f : Fragment). BringsDown f) fragments)
messages_down [] = refl
messages_down (f ∷ fragments) = ap (λ (l : List Message). sent true f ∷ l) (messages_down fragments)

-- ---- messages

pub request_whole : (size : ℕ) (request : SyncRequest) (first : Message) (content : PieceContent) (awaited : List Awaited) (chunks : List Message)
    → first ≡ message_at (first_part (message_of (wholes.SyncRequest request))) → content ≡ spelled_by request.content request.pieces → awaited ≡ awaited_of (is_sent sents.Fresh) size content
    → chunks ≡ map (λ (it : Awaited). sent_at size (record { client = request.client; table = request.table; row = request.row; down = false; key = request.number }) request.content it) awaited
    → first ∷ chunks ≡ map message_at (parts_of size (message_of (wholes.SyncRequest request)))
request_whole size request first content awaited chunks head spelled waits are =
    let way : Way = record { client = request.client; table = request.table; row = request.row; down = false; key = request.number } in
    let list : List Awaited = awaited_of (is_sent sents.Fresh) size (spelled_by request.content request.pieces) in
    ap (λ (m : Message). m ∷ chunks) head
    ∙ ap (λ (l : List Message). message_at (first_part (message_of (wholes.SyncRequest request))) ∷ l)
    (are ∙ (ap (map (λ (it : Awaited). sent_at size way request.content it)) (waits ∙ ap (awaited_of (is_sent sents.Fresh) size) spelled)
    ∙ (fragments_are size way request.content list ∙ messages_up (map (fragment_at size way request.content) list))))

pub row_whole : (sends : Piece → Bool) (size client table : ℕ) (header : Header) (content : PieceContent) (awaited : List Awaited) (chunks : List Message)
    → content ≡ spelled_by header.content (kept header.names) → awaited ≡ awaited_of sends size content
    → chunks ≡ map (λ (it : Awaited). sent_at size (record { client = client; table = table; row = header.row; down = true; key = header.version }) header.content it) awaited
    → chunks ≡ down (chunks_of_row sends size client table (Some header))
row_whole sends size client table header content awaited chunks spelled waits are =
    let way : Way = record { client = client; table = table; row = header.row; down = true; key = header.version } in
    are ∙ (ap (map (λ (it : Awaited). sent_at size way header.content it)) (waits ∙ ap (awaited_of sends size) spelled)
    ∙ fragments_are size way header.content (awaited_of sends size (spelled_by header.content (kept header.names))))

pulled_chunks : (size : ℕ) (p : Pulled) (header : Option Header) → chunks_of_row (is_sent (sents.Above p.from)) size p.client p.table header ≡ chunks_down size p header
pulled_chunks size p None = refl
pulled_chunks size p (Some h) = refl

torn_chunks : (size : ℕ) (t : TornPulled) (header : Option Header) → chunks_of_row (is_sent sents.All) size t.client t.table header ≡ chunks_whole size t header
torn_chunks size t None = refl
torn_chunks size t (Some h) = refl

-- a header's own form, where there is one
abbrev headed : Option RowHead → Option RowHeader
headed = option_map row_header_at

pub pulled_whole : (size : ℕ) (p : Pulled) (first : Message) (header : Option RowHeader) (chunks : List Message)
    → header ≡ headed (option_map row_head p.header)
    → first ≡ kinds.PullResponse (record { client = p.client; table = p.table; from = p.from; to = p.to; latest = p.latest; header = header })
    → chunks ≡ down (chunks_of_row (is_sent (sents.Above p.from)) size p.client p.table p.header) → first ∷ chunks ≡ map message_at (parts_of size (ends.PullResponse p))
pulled_whole size p first header chunks head is are =
    ap (λ (m : Message). m ∷ chunks) (is ∙ ap (λ (h : Option RowHeader). kinds.PullResponse (record { client = p.client; table = p.table; from = p.from; to = p.to; latest = p.latest; header = h })) head)
    ∙ ap (λ (l : List Message). message_at (Answers (pulled_head p)) ∷ l)
    (are ∙ (ap down (pulled_chunks size p p.header) ∙ messages_down (chunks_down size p p.header)))

pub torn_whole : (size : ℕ) (t : TornPulled) (first : Message) (header : Option RowHeader) (chunks : List Message)
    → header ≡ headed (option_map row_head t.header)
    → first ≡ kinds.TornRowResponse (record { client = t.client; table = t.table; row = t.row; header = header })
    → chunks ≡ down (chunks_of_row (is_sent sents.All) size t.client t.table t.header) → first ∷ chunks ≡ map message_at (parts_of size (ends.TornRowResponse t))
torn_whole size t first header chunks head is are =
    ap (λ (m : Message). m ∷ chunks) (is ∙ ap (λ (h : Option RowHeader). kinds.TornRowResponse (record { client = t.client; table = t.table; row = t.row; header = h })) head)
    ∙ ap (λ (l : List Message). message_at (AnswersTorn (torn_head t)) ∷ l)
    (are ∙ (ap down (torn_chunks size t t.header) ∙ messages_down (chunks_whole size t t.header)))

-- ---- a message that is sent is its part

outcome_back : (o : ends.Outcome) → outcome_of (outcome_at o) ≡ o
outcome_back (ends.Accepted version) = refl
outcome_back (ends.Again version) = refl
outcome_back (ends.Late last) = refl
outcome_back (ends.Stale latest) = refl
outcome_back (ends.Conflict latest) = refl
outcome_back ends.NeedWhole = refl

header_back : (h : Option RowHead) → option_map row_head_of (headed h) ≡ h
header_back None = refl
header_back (Some h) = refl

pub part_of_sent : (p : Part) → part_of (message_at p) ≡ Some p
part_of_sent (Asks head) = refl
part_of_sent (Responds r) = ap (λ (o : ends.Outcome). Some (Responds (record r { outcome = o }))) (outcome_back r.outcome)
part_of_sent (Pulls q) = refl
part_of_sent (Answers p) = ap (λ (h : Option RowHead). Some (Answers (record p { header = h }))) (header_back p.header)
part_of_sent (BringsUp f) = refl
part_of_sent (BringsDown f) = refl
part_of_sent (AsksTorn q) = refl
part_of_sent (AnswersTorn t) = ap (λ (h : Option RowHead). Some (AnswersTorn (record t { header = h }))) (header_back t.header)
