-- A chunk whose Store's name is above a version is brought, unless it is shown.
use Rattle.std.proofs.Common.{◌≡◌, ◌⊎◌, inl, inr, ⊎_elim, ℕ, zero, suc, ◌+◌, ◌<◌, ◌≤◌, Bool, true, false, List, [], ◌∷◌, ◌++◌, length, map, filter, drop, get_or, Option, Some, None, refl, sym, ◌∙◌, ap, subst, arith, append-nil, append_assoc, length-append}
use Rattle.std.specs.Prelude.{◌==◌, nat_le, if◌then◌else◌}
use Rattle.std.specs.List.{AllByRecursion}
use Rattle.std.specs.Str.{bytes_eq}
use Rattle.std.proofs.Math.Seq.{get_or-append_seam}
use Rattle.std.proofs.lemmas.Bool.{cases_lt, eqb-true, eqb-false, ne_eqb, lt-leb}
use Rattle.std.proofs.lemmas.List.{get_or_append_left, get_or_past}
use Rattle.stab_base.specs.declared.chunk_name.ChunkName.{ChunkName}
use Rattle.row_value.specs.declared.content.Content.{Content}
use Rattle.row_value.specs.declared.content.Content.TheVariants as contents
use Rattle.held_value.specs.declared.local_name.LocalName.{LocalName}
use Rattle.held_value.specs.declared.content.HeldPiece.{HeldPiece}
use Rattle.held_value.specs.declared.content.HeldObject.{HeldObject}
use Rattle.held_value.specs.declared.content.HeldContent.{HeldContent}
use Rattle.held_value.specs.declared.content.HeldContent.TheVariants as held_as
use Rattle.client_tables.specs.Held.{kept_in, piece_for, next_behind, held_pieces, brought_for, brought}
use Rattle.client_tables.specs.Plan.{IsBrought}
use Rattle.client_journal.specs.Names.{Has, names_of, names_of_pieces}
use Rattle.client_journal.proofs.Lookups.{has_head, has_tail}
use Rattle.held_contents.specs.declared.holding.HeldNew.{HeldNew}
use Rattle.held_contents.specs.Holding.{IsNamedAgainst, HoldsObjects, all_named, held_objects, first_shown, pieces_held, names_shown, brought_name}
use Rattle.kept_chunks.specs.declared.keeping.Keeping.{Keeping}
use Rattle.kept_chunks.specs.Anew.{up_to, names_up_to, AreBroughtAnew, AreInOrder, IsAnew}
use Rattle.kept_chunks.specs.Kept.{AreNumbered, piece_under, object_under, content_under, local_for}
use Rattle.kept_chunks.specs.Steps.{Puts, Brings}
use Rattle.kept_chunks.proofs.SoFar.{both_all, names_held}

-- ---- one chunk more

pub put_one : (held : List (List (HeldPiece × List ℕ))) (bytes : List ℕ) (old new : Keeping) → Puts held old new bytes → length new.locals.items ≡ length old.locals.items + 1
put_one held bytes old new p =
    ⊎_elim (λ kept. ap length kept.added.locals ∙ length-append old.locals.items (kept.local ∷ []))
    (λ b. ap length b.locals ∙ length-append old.locals.items (brought_name (length old.brought) ∷ [])) p

-- a chunk that has no name is brought
pub one_anew : (names : List (Option ChunkName)) (bytes : List ℕ) (held : List (List (HeldPiece × List ℕ))) (old new : Keeping) → AreBroughtAnew names old.locals.items → Puts held old new bytes
    → (get_or names (length old.locals.items) None ≡ None → Brings old new bytes) → AreBroughtAnew names new.locals.items
one_anew names bytes held old new k p last i none less free = ⊎_elim early late (cases_lt i (length old.locals.items))
  where
    front : (l : LocalName) → i < length old.locals.items → new.locals.items ≡ old.locals.items ++ l ∷ [] → get_or new.locals.items i none ≡ get_or old.locals.items i none
    front l low is = ap (λ (ls : List LocalName). get_or ls i none) is ∙ get_or_append_left old.locals.items (l ∷ []) none i low

    early : i < length old.locals.items → (get_or new.locals.items i none).plan ≡ 0
    early low =
        let same : get_or new.locals.items i none ≡ get_or old.locals.items i none = ⊎_elim (λ kept. front kept.local low kept.added.locals) (λ b. front (brought_name (length old.brought)) low b.locals) p in
        ap (λ (l : LocalName). l.plan) same ∙ k i none low free

    late : length old.locals.items ≤ i → (get_or new.locals.items i none).plan ≡ 0
    late high =
        let here : i ≡ length old.locals.items = omega (arith, high, less, put_one held bytes old new p) in
        let b : Brings old new bytes = last (ap (λ (j : ℕ). get_or names j None) (sym here) ∙ free) in
        let name : LocalName = brought_name (length old.brought) in
        ap (λ (l : LocalName). l.plan) (ap (λ (ls : List LocalName). get_or ls i none) b.locals ∙ (ap (λ (j : ℕ). get_or (old.locals.items ++ name ∷ []) j none) here ∙ get_or-append_seam old.locals.items name [] none))

-- ---- the names of the chunks that are brought

-- a chunk that is brought has its name at its number
pub named_at : (version : ℕ) (all before : List (Option ChunkName)) (pieces : List HeldPiece) (next : ℕ) → all ≡ before ++ names_up_to version pieces → next ≡ length before → AreInOrder next pieces
    → AllByRecursion (λ (p : HeldPiece). p.local.plan ≡ 0 → get_or all p.local.ordinal None ≡ up_to version p.name) pieces
named_at version all before [] next is at order = tt
named_at version all before (p ∷ pieces) next is at order = by (p.local.plan == 0) refl (λ b n i a o. named_at version all b pieces n i a o)
  where
    name : Option ChunkName
    name = up_to version p.name

    rest : Bool → List (Option ChunkName)
    rest b = map (λ (piece : HeldPiece). up_to version piece.name) (if b then p ∷ filter (λ (piece : HeldPiece). piece.local.plan == 0) pieces else filter (λ (piece : HeldPiece). piece.local.plan == 0) pieces)

    AreNamed : List HeldPiece → Type 0
    AreNamed qs = AllByRecursion (λ (q : HeldPiece). q.local.plan ≡ 0 → get_or all q.local.ordinal None ≡ up_to version q.name) qs

    by : (b : Bool) → (p.local.plan == 0) ≡ b
        → ((done : List (Option ChunkName)) (n : ℕ) → all ≡ done ++ names_up_to version pieces → n ≡ length done → AreInOrder n pieces → AreNamed pieces) → AreNamed (p ∷ pieces)
    by true e more =
        let all_is : all ≡ before ++ name ∷ names_up_to version pieces = is ∙ ap (λ (b : Bool). before ++ rest b) e in
        let behind : AreInOrder (next + 1) pieces = subst (λ (b : Bool). AreInOrder (if b then next + 1 else next) pieces) e order.1 in (
          λ none. ap (λ (i : ℕ). get_or all i None) (order.0 none ∙ at) ∙ (ap (λ (l : List (Option ChunkName)). get_or l (length before) None) all_is ∙ get_or-append_seam before name (names_up_to version pieces) None),
          more (before ++ name ∷ []) (next + 1) (all_is ∙ sym (append_assoc before (name ∷ []) (names_up_to version pieces))) (omega (arith, at, length-append before (name ∷ []))) behind,
        )
    by false e more =
        let all_is : all ≡ before ++ names_up_to version pieces = is ∙ ap (λ (b : Bool). before ++ rest b) e in
        let behind : AreInOrder next pieces = subst (λ (b : Bool). AreInOrder (if b then next + 1 else next) pieces) e order.1 in (
          λ none. absurd (eqb-false p.local.plan 0 e none),
          more before next all_is at behind,
        )

above : (version : ℕ) (name : ChunkName) → version < name.version → up_to version (Some name) ≡ None
above version name more = ap (λ (b : Bool). if b then Some name else None) (lt-leb name.version version more)

-- ---- under their new names

module _ (version : ℕ) (names : List (Option ChunkName)) (locals given : List LocalName) (k : AreBroughtAnew names locals) where
  one_under : (p : HeldPiece) → (p.local.plan ≡ 0 → get_or names p.local.ordinal None ≡ up_to version p.name) → Has given p.local → IsAnew version given (piece_under (local_for locals) p)
  one_under p at has name is more = by (p.local.plan == 0) refl
    where
      here : Bool → LocalName
      here b = if b then get_or locals p.local.ordinal p.local else p.local

      by : (b : Bool) → (p.local.plan == 0) ≡ b → ((here (p.local.plan == 0)).plan ≡ 0) ⊎ Has given (here (p.local.plan == 0))
      by false e = inr (subst (λ (b : Bool). Has given (here b)) (sym e) has)
      by true e =
          let none : p.local.plan ≡ 0 = eqb-true p.local.plan 0 e in
          let free : get_or names p.local.ordinal None ≡ None = at none ∙ (ap (up_to version) is ∙ above version name more) in
          inl (ap (λ (b : Bool). (here b).plan) e
          ∙ ⊎_elim (λ low. k p.local.ordinal p.local low free) (λ high. ap (λ (l : LocalName). l.plan) (get_or_past locals p.local.ordinal p.local high) ∙ none) (cases_lt p.local.ordinal (length locals)))

  pieces_anew : (pieces : List HeldPiece) → AllByRecursion (λ (p : HeldPiece). p.local.plan ≡ 0 → get_or names p.local.ordinal None ≡ up_to version p.name) pieces
      → AllByRecursion (λ (p : HeldPiece). Has given p.local) pieces → AllByRecursion (IsAnew version given) (map (piece_under (local_for locals)) pieces)
  pieces_anew [] at has = tt
  pieces_anew (p ∷ pieces) at has = (one_under p at.0 has.0, pieces_anew pieces at.1 has.1)

each_has : (pieces : List HeldPiece) → AllByRecursion (λ (p : HeldPiece). Has (names_of_pieces pieces) p.local) pieces
each_has pieces = all pieces (λ q has. has)
  where
    all : (rest : List HeldPiece) → ((q : LocalName) → Has (names_of_pieces rest) q → Has (names_of_pieces pieces) q) → AllByRecursion (λ (p : HeldPiece). Has (names_of_pieces pieces) p.local) rest
    all [] to = tt
    all (p ∷ rest) to = (to p.local (has_head p.local p.local (names_of_pieces rest) refl), all rest (λ q has. to q (has_tail p.local q (names_of_pieces rest) has)))

map_joined : (f : HeldPiece → HeldPiece) (a b : List HeldPiece) → map f (a ++ b) ≡ map f a ++ map f b
map_joined f [] b = refl
map_joined f (x ∷ a) b = ap (λ (l : List HeldPiece). f x ∷ l) (map_joined f a b)

pieces_renamed : (f : LocalName → LocalName) (content : HeldContent) → pieces_held (content_under f content) ≡ map (piece_under f) (pieces_held content)
pieces_renamed f held_as.Gone = refl
pieces_renamed f (held_as.Row cells objects) = go objects
  where
    go : (os : List HeldObject) → pieces_held (held_as.Row cells (map (object_under f) os)) ≡ map (piece_under f) (pieces_held (held_as.Row cells os))
    go [] = refl
    go (o ∷ os) = ap (λ (l : List HeldPiece). map (piece_under f) o.pieces ++ l) (go os) ∙ sym (map_joined (piece_under f) o.pieces (pieces_held (held_as.Row cells os)))

pub all_anew : (version : ℕ) (names : List (Option ChunkName)) (locals : List LocalName) (old new : HeldContent) → names ≡ names_up_to version (pieces_held old) → AreBroughtAnew names locals
    → new ≡ content_under (local_for locals) old → AreInOrder 0 (pieces_held old) → AllByRecursion (IsAnew version (names_of old)) (pieces_held new)
all_anew version names locals old new is k renamed order =
    subst (λ (l : List HeldPiece). AllByRecursion (IsAnew version (names_of old)) l) (sym (ap pieces_held renamed ∙ pieces_renamed (local_for locals) old))
    (pieces_anew version names locals (names_of old) k (pieces_held old) (named_at version names [] (pieces_held old) 0 is refl order)
    (subst (λ (l : List LocalName). AllByRecursion (λ (p : HeldPiece). Has l p.local) (pieces_held old)) (names_held old) (each_has (pieces_held old))))

-- ---- what holds a row at first has its brought chunks in order

abbrev next_of : ℕ → List HeldPiece → ℕ
next_of next [] = next
next_of next (p ∷ pieces) = next_of (if p.local.plan == 0 then next + 1 else next) pieces

order_joined : (a b : List HeldPiece) (next : ℕ) → AreInOrder next a → AreInOrder (next_of next a) b → AreInOrder next (a ++ b)
order_joined [] b next h k = k
order_joined (p ∷ a) b next h k = (h.0, order_joined a b (if p.local.plan == 0 then next + 1 else next) h.1 k)

abbrev IsNumbered : List (HeldPiece × List ℕ) → Type 0
IsNumbered shown = AllByRecursion (λ (chunk : HeldPiece × List ℕ). chunk.0.local.plan ≡ 0 → ⊥) shown

tail_numbered : (shown : List (HeldPiece × List ℕ)) → IsNumbered shown → IsNumbered (drop 1 shown)
tail_numbered [] h = tt
tail_numbered (c ∷ shown) h = h.1

kept_numbered : (shown : List (HeldPiece × List ℕ)) (bytes : List ℕ) → IsNumbered shown → (kept : HeldPiece) → kept_in shown bytes ≡ Some kept → kept.local.plan ≡ 0 → ⊥
kept_numbered [] bytes h kept e = absurd cc
kept_numbered (c ∷ shown) bytes h kept e = by (bytes_eq c.1 bytes) e
  where
    by : (b : Bool) → (if b then Some c.0 else None) ≡ Some kept → kept.local.plan ≡ 0 → ⊥
    by false none = absurd cc
    by true same = let is : c.0 ≡ kept = cc in subst (λ (p : HeldPiece). p.local.plan ≡ 0 → ⊥) is h.0

-- the chunks of one object
object_in_order : (shown : List (HeldPiece × List ℕ)) (chunks : List (Option ChunkName × List ℕ)) (next : ℕ) → IsNumbered shown
    → AreInOrder next (held_pieces shown chunks next) × (next_of next (held_pieces shown chunks next) ≡ next + length (brought shown chunks))
object_in_order shown [] next h = (tt, omega arith)
object_in_order shown (chunk ∷ chunks) next h =
    pick (kept_in shown chunk.1) (kept_numbered shown chunk.1 h) (λ n. object_in_order (drop 1 shown) chunks n (tail_numbered shown h))
  where
    more : List HeldPiece → Option HeldPiece → List HeldPiece
    more pieces k = piece_for next chunk.0 k ∷ pieces

    pick : (k : Option HeldPiece) → ((kept : HeldPiece) → k ≡ Some kept → kept.local.plan ≡ 0 → ⊥)
        → ((n : ℕ) → AreInOrder n (held_pieces (drop 1 shown) chunks n) × (next_of n (held_pieces (drop 1 shown) chunks n) ≡ n + length (brought (drop 1 shown) chunks)))
        → AreInOrder next (more (held_pieces (drop 1 shown) chunks (next_behind next k)) k)
        × (next_of next (more (held_pieces (drop 1 shown) chunks (next_behind next k)) k) ≡ next + length (brought_for chunk.1 k ++ brought (drop 1 shown) chunks))
    pick None apart rest = let r = rest (next + 1) in ((λ none. refl, r.0), r.1 ∙ omega arith)
    pick (Some kept) apart rest =
        let other : (kept.local.plan == 0) ≡ false = ne_eqb kept.local.plan 0 (apart kept refl) in
        let r = rest next in
        let pieces : List HeldPiece = held_pieces (drop 1 shown) chunks next in (
          (λ none. absurd (apart kept refl none), subst (λ (b : Bool). AreInOrder (if b then next + 1 else next) pieces) (sym other) r.0),
          ap (λ (b : Bool). next_of (if b then next + 1 else next) pieces) other ∙ r.1,
        )

first_numbered : (shown : List (List (HeldPiece × List ℕ))) → AreNumbered shown → IsNumbered (first_shown shown)
first_numbered [] h = tt
first_numbered (object ∷ shown) h = h.0

rest_numbered : (shown : List (List (HeldPiece × List ℕ))) → AreNumbered shown → AreNumbered (drop 1 shown)
rest_numbered [] h = tt
rest_numbered (object ∷ shown) h = h.1

objects_in_order : (shown : List (List (HeldPiece × List ℕ))) (cuts : List (List (Option ChunkName × List ℕ))) (next : ℕ) (cells : _) → AreNumbered shown
    → AreInOrder next (pieces_held (held_as.Row cells (held_objects shown cuts next)))
objects_in_order shown [] next cells h = tt
objects_in_order shown (chunks ∷ cuts) next cells h =
    let one = object_in_order (first_shown shown) chunks next (first_numbered shown h) in
    let behind : ℕ = next + length (brought (first_shown shown) chunks) in
    let rest : List HeldPiece = pieces_held (held_as.Row cells (held_objects (drop 1 shown) cuts behind)) in
    order_joined (held_pieces (first_shown shown) chunks next) rest next one.0
    (subst (λ (n : ℕ). AreInOrder n rest) (sym one.1) (objects_in_order (drop 1 shown) cuts behind cells (rest_numbered shown h)))

pub made_in_order : (size : ℕ) (shown : List (List (HeldPiece × List ℕ))) (names : List (List ChunkName)) (content : Content) (held : HeldContent) (new : List (List ℕ)) → IsNamedAgainst size shown names content held new
    → AreNumbered shown → AreInOrder 0 (pieces_held held)
made_in_order size shown names contents.Gone held_as.Gone new h numbered = tt
made_in_order size shown names (contents.Row some objects) (held_as.Row cells held) new h numbered =
    subst (λ (os : List HeldObject). AreInOrder 0 (pieces_held (held_as.Row cells os))) (sym h.1.held_is) (objects_in_order shown (all_named names h.1.cuts) 0 cells numbered)
made_in_order size shown names contents.Gone (held_as.Row cells held) new h numbered = absurd h
made_in_order size shown names (contents.Row some objects) held_as.Gone new h numbered = absurd h

-- what the content had is shown, or was brought
pub as_shown : (version : ℕ) (shown had : List LocalName) (count : ℕ) (pieces : List HeldPiece) → ((name : LocalName) → Has had name → Has shown name ⊎ IsBrought count name)
    → AllByRecursion (IsAnew version had) pieces → AllByRecursion (IsAnew version shown) pieces
as_shown version shown had count [] names h = tt
as_shown version shown had count (p ∷ pieces) names h = (
  λ name is more. ⊎_elim (λ none. inl none) (λ has. ⊎_elim (λ old. inr old) (λ b. inl b.0) (names p.local has)) (h.0 name is more),
  as_shown version shown had count pieces names h.1,
)
