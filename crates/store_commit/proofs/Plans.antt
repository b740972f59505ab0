-- The loops that work an update out.
use Rattle.std.proofs.Common.{◌≡◌, inl, inr, ⊎_elim, ℕ, zero, suc, ◌+◌, ◌<◌, Bool, true, false, cond, List, [], ◌∷◌, ◌++◌, length, take, drop, get_or, Option, Some, None, refl, sym, ◌∙◌, ap, subst}
use Rattle.std.proofs.Common.{arith, append_assoc, add-one, drop-cons}
use Rattle.std.specs.Prelude.{◌||◌, ◌&&◌, not, map, unwrap_or, if◌then◌else◌, slice_index_or}
use Rattle.std.specs.List.{flat_map, list_any}
use Rattle.std.specs.BTreeMap.{is_at}
use Rattle.std.specs.BTreeSet.{BTreeSet, contains}
use Rattle.std.proofs.lemmas.List.{take_more, map-append}
use Rattle.std.proofs.lemmas.List.Folds.{list_any-append}
use Rattle.std.proofs.lemmas.List.Concat.{flat_map-append, flat_map-cons}
use Rattle.stab_base.specs.declared.chunk_name.ChunkName.{ChunkName}
use Rattle.row_value.specs.declared.pieces.Piece.{Piece}
use Rattle.row_value.specs.declared.pieces.Piece.TheVariants.{Keep, Fresh}
use Rattle.row_value.specs.declared.pieces.PieceObject.{PieceObject}
use Rattle.value_codec.specs.Spelling.{pieces_of}
use Rattle.chunk_store.specs.Payload.{name_cmp}
use Rattle.status_log.specs.Entry.{Entry}
use Rattle.store_commit.specs.declared.task.Task.{Task}
use Rattle.store_commit.specs.Devs.{Devs, Write, PutChunk, DropChunk}
use Rattle.store_commit.specs.NamedChunks.{names_in, is_among}
use Rattle.store_commit.specs.Agenda.{fresh_name, puts, drops}
use Rattle.store_commit.specs.Standing.{write_of}
use Rattle.store_commit.specs.Update.{unmet, HasNames, Meets, version_opened, opened_first, version_if}
use Rattle.store_commit.proofs.Lookups.{cases_name, apart_name, name_itself}

-- ---- names

pub names_in-append : (ps qs : List Piece) → names_in (ps ++ qs) ≡ names_in ps ++ names_in qs
names_in-append [] qs = refl
names_in-append (Keep name ∷ ps) qs = ap (λ (l : List ChunkName). name ∷ l) (names_in-append ps qs)
names_in-append (Fresh ordinal ∷ ps) qs = names_in-append ps qs

-- one piece more
pub names_more : (start now next : List ChunkName) (ps : List Piece) (i : ℕ) (p e : Piece) → i < length ps → p ≡ get_or ps i e → now ≡ start ++ names_in (take i ps) → next ≡ now ++ names_in (p ∷ [])
    → next ≡ start ++ names_in (take (i + 1) ps)
names_more start now next ps i p e lt is so_far push =
    let more : take (i + 1) ps ≡ take i ps ++ p ∷ [] = take_more ps i e lt ∙ ap (λ (q : Piece). take i ps ++ q ∷ []) (sym is) in
    push ∙ (ap (λ (l : List ChunkName). l ++ names_in (p ∷ [])) so_far
    ∙ (append_assoc start (names_in (take i ps)) (names_in (p ∷ []))
    ∙ ap (λ (l : List ChunkName). start ++ l) (sym (names_in-append (take i ps) (p ∷ [])) ∙ ap names_in (sym more))))

abbrev pieces_in : PieceObject → List Piece
pieces_in object = object.pieces

-- one object more
pub objects_more : (now next : List ChunkName) (os : List PieceObject) (i : ℕ) (o e : PieceObject) → i < length os → o ≡ get_or os i e → now ≡ names_in (pieces_of (take i os))
    → next ≡ now ++ names_in o.pieces
    → next ≡ names_in (pieces_of (take (i + 1) os))
objects_more now next os i o e lt is so_far push =
    let more : take (i + 1) os ≡ take i os ++ o ∷ [] = take_more os i e lt ∙ ap (λ (q : PieceObject). take i os ++ q ∷ []) (sym is) in
    let last : pieces_of (o ∷ []) ≡ o.pieces ++ [] = flat_map-cons pieces_in o [] in
    push ∙ (ap (λ (l : List ChunkName). l ++ names_in o.pieces) so_far
    ∙ (sym (names_in-append (pieces_of (take i os)) o.pieces)
    ∙ ap names_in (ap (λ (l : List Piece). pieces_of (take i os) ++ l) (sym (last ∙ append_nil o.pieces)) ∙ (sym (flat_map-append pieces_in (take i os) (o ∷ [])) ∙ ap pieces_of (sym more)))))
  where
    append_nil : (l : List Piece) → l ++ [] ≡ l
    append_nil [] = refl
    append_nil (p ∷ l) = ap (λ (x : List Piece). p ∷ x) (append_nil l)

-- ---- writes

drops-append : (xs ys : List ChunkName) → drops (xs ++ ys) ≡ drops xs ++ drops ys
drops-append [] ys = refl
drops-append (x ∷ xs) ys = ap (λ (l : List Write). DropChunk x ∷ l) (drops-append xs ys)

pub drops_more : (start now next : List Write) (names : List ChunkName) (i : ℕ) (name e : ChunkName) → i < length names → name ≡ get_or names i e → now ≡ start ++ drops (take i names)
    → next ≡ now ++ drops (name ∷ [])
    → next ≡ start ++ drops (take (i + 1) names)
drops_more start now next names i name e lt is so_far push =
    let more : take (i + 1) names ≡ take i names ++ name ∷ [] = take_more names i e lt ∙ ap (λ (q : ChunkName). take i names ++ q ∷ []) (sym is) in
    push ∙ (ap (λ (l : List Write). l ++ drops (name ∷ [])) so_far
    ∙ (append_assoc start (drops (take i names)) (drops (name ∷ []))
    ∙ ap (λ (l : List Write). start ++ l) (sym (drops-append (take i names) (name ∷ [])) ∙ ap drops (sym more))))

puts-append : (v k : ℕ) (xs ys : List (List ℕ)) → puts v k (xs ++ ys) ≡ puts v k xs ++ puts v (k + length xs) ys
puts-append v k [] ys = let same : k ≡ k + 0 = omega arith in ap (λ (j : ℕ). puts v j ys) same
puts-append v k (x ∷ xs) ys =
    let same : k + 1 + length xs ≡ k + length (x ∷ xs) = omega arith in
    ap (λ (l : List Write). PutChunk (fresh_name v k) x ∷ l) (puts-append v (k + 1) xs ys ∙ ap (λ (j : ℕ). puts v (k + 1) xs ++ puts v j ys) same)

pub puts_more : (v : ℕ) (start now next : List Write) (done : List (List ℕ)) (bytes : List ℕ) (k : ℕ) → k ≡ length done → now ≡ start ++ puts v 0 done → next ≡ now ++ puts v k (bytes ∷ [])
    → next ≡ start ++ puts v 0 (done ++ bytes ∷ [])
puts_more v start now next done bytes k is so_far push =
    let same : k ≡ 0 + length done = omega (arith, is) in
    push ∙ (ap (λ (l : List Write). l ++ puts v k (bytes ∷ [])) so_far
    ∙ (append_assoc start (puts v 0 done) (puts v k (bytes ∷ []))
    ∙ ap (λ (l : List Write). start ++ l) (ap (λ (j : ℕ). puts v 0 done ++ puts v j (bytes ∷ [])) same ∙ sym (puts-append v 0 done (bytes ∷ [])))))

-- ---- what is at work

pub first_is : (tasks : List Task) (x : Task) → 0 < length tasks → x ≡ slice_index_or tasks 0 x → version_opened (write_of x) ≡ opened_first (map write_of tasks)
first_is [] x some is = absurd (omega arith)
first_is (t ∷ tasks) x some is = ap (λ (q : Task). version_opened (write_of q)) is

pub at_front : (o : Option ℕ) (p : Option Entry) (v : ℕ) → Some v ≡ o → v ≡ unwrap_or o (version_if p)
at_front o p v is = ap (λ (x : Option ℕ). unwrap_or x (version_if p)) is

pub at_log : (o : Option ℕ) (p : Option Entry) (e : Entry) → None ≡ o → Some e ≡ p → e.version ≡ unwrap_or o (version_if p)
at_log o p e none is = ap version_if is ∙ ap (λ (x : Option ℕ). unwrap_or x (version_if p)) none

pub at_none : (o : Option ℕ) (p : Option Entry) → None ≡ o → None ≡ p → 0 ≡ unwrap_or o (version_if p)
at_none o p none is = ap version_if is ∙ ap (λ (x : Option ℕ). unwrap_or x (version_if p)) none

-- ---- sets of names

at_sym : (a b : ChunkName) → is_at (name_cmp a) b ≡ is_at (name_cmp b) a
at_sym a b = ⊎_elim
    (λ same. ap (λ (q : ChunkName). is_at (name_cmp q) b) same ∙ (name_itself b ∙ sym (ap (is_at (name_cmp b)) same ∙ name_itself b)))
    (λ apart. apart ∙ sym (apart_name b a (λ same. absurd (let t : is_at (name_cmp a) b ≡ true = ap (λ (q : ChunkName). is_at (name_cmp q) b) (sym same) ∙ name_itself b in cc))))
    (cases_name a b)

either_way : (a b : Bool) → cond a true b ≡ b || (a || false)
either_way true true = refl
either_way true false = refl
either_way false true = refl
either_way false false = refl

in_front : (a b : Bool) → cond a true b ≡ a || b
in_front true b = refl
in_front false b = refl

abbrev IsAdded : BTreeSet ChunkName → BTreeSet ChunkName → ChunkName → Type 0
IsAdded set next name = (q : ChunkName) → contains name_cmp next q ≡ cond (is_at (name_cmp name) q) true (contains name_cmp set q)

pub set_more : (set next : BTreeSet ChunkName) (names : List ChunkName) (i : ℕ) (name e : ChunkName) → i < length names → name ≡ get_or names i e → HasNames (take i names) set → IsAdded set next name
    → HasNames (take (i + 1) names) next
set_more set next names i name e lt is has added = record {
  same = λ q.
      let more : take (i + 1) names ≡ take i names ++ name ∷ [] = take_more names i e lt ∙ ap (λ (x : ChunkName). take i names ++ x ∷ []) (sym is) in
      added q ∙ (ap (λ (b : Bool). cond (is_at (name_cmp name) q) true b) (has.same q)
      ∙ (ap (λ (b : Bool). cond b true (is_among q (take i names))) (at_sym name q)
      ∙ (either_way (is_at (name_cmp q) name) (is_among q (take i names))
      ∙ (sym (list_any-append (is_at (name_cmp q)) (take i names) (name ∷ [])) ∙ ap (is_among q) (sym more)))));
}

-- one name met
pub met_more : (set next : BTreeSet ChunkName) (seen : List ChunkName) (name : ChunkName) → HasNames seen set → IsAdded set next name → HasNames (name ∷ seen) next
met_more set next seen name has added = record {
  same = λ q.
      added q ∙ (ap (λ (b : Bool). cond (is_at (name_cmp name) q) true b) (has.same q)
      ∙ (ap (λ (b : Bool). cond b true (is_among q seen)) (at_sym name q) ∙ in_front (is_at (name_cmp q) name) (is_among q seen)));
}

-- one name more of those that are gone through
pub unmet_more : (there : ChunkName → Bool) (start before after names : List ChunkName) (seen : List ChunkName) (i : ℕ) (name e : ChunkName) → i < length names → name ≡ get_or names i e
    → before ++ unmet there seen (drop i names) ≡ start
    → (b : Bool) → there name && not (is_among name seen) ≡ b → (b ≡ true → after ≡ before ++ name ∷ []) → (b ≡ false → after ≡ before)
    → after ++ unmet there (if b then name ∷ seen else seen) (drop (i + 1) names) ≡ start
unmet_more there start before after names seen i name e lt is so_far b test added kept =
    let first : drop i names ≡ name ∷ drop (i + 1) names = drop-cons names i e lt ∙ ap (λ (x : ChunkName). x ∷ drop (suc i) names) (sym is) ∙ ap (λ (j : ℕ). name ∷ drop j names) (sym (add-one i)) in
    let rest : List ChunkName = drop (i + 1) names in
    let now : before ++ (if b then name ∷ unmet there (name ∷ seen) rest else unmet there seen rest) ≡ start =
    ap (λ (t : Bool). before ++ (if t then name ∷ unmet there (name ∷ seen) rest else unmet there seen rest)) (sym test) ∙ (ap (λ (l : List ChunkName). before ++ unmet there seen l) (sym first) ∙ so_far) in
    go b added kept rest now
  where
    go : (b : Bool) → (b ≡ true → after ≡ before ++ name ∷ []) → (b ≡ false → after ≡ before) → (rest : List ChunkName)
        → before ++ (if b then name ∷ unmet there (name ∷ seen) rest else unmet there seen rest) ≡ start → after ++ unmet there (if b then name ∷ seen else seen) rest ≡ start
    go true added kept rest now = ap (λ (l : List ChunkName). l ++ unmet there (name ∷ seen) rest) (added refl) ∙ (append_assoc before (name ∷ []) (unmet there (name ∷ seen) rest) ∙ now)
    go false added kept rest now = ap (λ (l : List ChunkName). l ++ unmet there seen rest) (kept refl) ∙ now

pub old_more : (there : ChunkName → Bool) (kept names : List ChunkName) (met next : BTreeSet ChunkName) (before after : List ChunkName) (i : ℕ) (name e : ChunkName) → i < length names
    → name ≡ get_or names i e
    → (seen : List ChunkName) × HasNames seen met × (before ++ unmet there seen (drop i names) ≡ unmet there kept names) → Meets there name met next before after
    → (seen : List ChunkName) × HasNames seen next × (after ++ unmet there seen (drop (i + 1) names) ≡ unmet there kept names)
old_more there kept names met next before after i name e lt is inv m = go (there name && not (is_among name inv.0)) refl
  where
    go : (b : Bool) → there name && not (is_among name inv.0) ≡ b → (seen : List ChunkName) × HasNames seen next × (after ++ unmet there seen (drop (i + 1) names) ≡ unmet there kept names)
    go true test = let a = m.added inv.0 inv.1 test in (name ∷ inv.0, a.1, unmet_more there (unmet there kept names) before after names inv.0 i name e lt is inv.2 true test (λ t. a.0) (λ f. absurd cc))
    go false test = let a = m.kept inv.0 inv.1 test in (inv.0, a.1, unmet_more there (unmet there kept names) before after names inv.0 i name e lt is inv.2 false test (λ t. absurd cc) (λ f. a.0))
