-- Contents read chunk by chunk.
use Rattle.std.proofs.Common.{◌≡◌, inr, ℕ, ◌+◌, ◌<◌, List, [], ◌∷◌, ◌++◌, length, map, take, get_or, Option, Some, None, Result, Ok, Err, refl, sym, ◌∙◌, ap, subst, append_assoc}
use Rattle.std.specs.Prelude.{unwrap_or}
use Rattle.std.specs.List.{concat}
use Rattle.std.proofs.lemmas.List.{append-nil, take_more}
use Rattle.disk_trait.specs.Image.{IsImage}
use Rattle.disk_trait.specs.Calls.{DiskState}
use Rattle.row_value.specs.declared.content.Cell.{Cell}
use Rattle.row_value.specs.declared.content.Content.TheVariants as contents
use Rattle.held_value.specs.declared.local_name.LocalName.{LocalName}
use Rattle.held_value.specs.declared.content.HeldPiece.{HeldPiece}
use Rattle.held_value.specs.declared.content.HeldObject.{HeldObject}
use Rattle.held_value.specs.declared.content.HeldContent.{HeldContent}
use Rattle.held_value.specs.declared.content.HeldContent.TheVariants.{Gone, Row}
use Rattle.client_journal.specs.declared.devs.Journal.{Journal}
use Rattle.client_journal.specs.declared.fault.JournalFault.{JournalFault}
use Rattle.client_journal.specs.declared.fault.JournalFault.TheVariants.{Memory}
use Rattle.client_journal.specs.Names.{Has, names_of_pieces, names_of_objects}
use Rattle.client_journal.specs.Devs.{ClientDevs, local_in}
use Rattle.client_journal.specs.Standing.{devs, AreUp, AreLookedAt}
use Rattle.client_journal.specs.Asking.{Asks}
use Rattle.client_journal.proofs.Lookups.{has_head, has_tail}
use Rattle.client_journal.proofs.Wholes.{has_left, has_right}
use Rattle.client_journal.proofs.Asking.{stay_up, stay_looked, asks_none, asks_then}
use Rattle.client_journal.proofs.ShownRows.{asks_err, asks_other}
use Rattle.journal_laws.specs.Whole.{whole_object, whole}
use Rattle.held_contents.specs.Reading.{AreThere, AreThereIf, stands_in, with_bytes, objects_with_bytes, chunks_in, chunks_shown}

-- ---- one more of a list

pub one_more : {A B : Type 0} (f g : A → B) (xs : List A) (i : ℕ) (x e : A) (read more : List B) → i < length xs → x ≡ get_or xs i e → read ≡ map f (take i xs) → more ≡ read ++ g x ∷ [] → g x ≡ f x → more ≡ map f (take (i + 1) xs)
one_more {A} {B} f g xs i x e read more lt is so_far adds same =
    adds ∙ (ap (λ (l : List B). l ++ g x ∷ []) so_far ∙ (ap (λ (y : B). map f (take i xs) ++ y ∷ []) (same ∙ ap f is)
    ∙ (sym (pushed (take i xs) (get_or xs i e)) ∙ ap (map f) (sym (take_more xs i e lt)))))
  where
    pushed : (ys : List A) (y : A) → map f (ys ++ y ∷ []) ≡ map f ys ++ f y ∷ []
    pushed [] y = refl
    pushed (z ∷ ys) y = ap (λ (l : List B). f z ∷ l) (pushed ys y)

-- the chunks of an object, joined
pub joined_more : (xs : List (HeldPiece × List ℕ)) (i : ℕ) (x : HeldPiece × List ℕ) (object bytes new : List ℕ) → i < length xs → x ≡ get_or xs i x → object ≡ concat (map (λ (chunk : HeldPiece × List ℕ). chunk.1) (take i xs)) → bytes ≡ x.1
    → new ≡ object ++ bytes → new ≡ concat (map (λ (chunk : HeldPiece × List ℕ). chunk.1) (take (i + 1) xs))
joined_more xs i x object bytes new lt is so_far same adds =
    adds ∙ (ap (λ (b : List ℕ). b ++ bytes) so_far ∙ (ap (λ (b : List ℕ). concat (map (λ (chunk : HeldPiece × List ℕ). chunk.1) (take i xs)) ++ b) (same ∙ ap (λ (chunk : HeldPiece × List ℕ). chunk.1) is)
    ∙ (sym (pushed (take i xs) (get_or xs i x)) ∙ ap (λ (l : List (HeldPiece × List ℕ)). concat (map (λ (chunk : HeldPiece × List ℕ). chunk.1) l)) (sym (take_more xs i x lt)))))
  where
    pushed : (ys : List (HeldPiece × List ℕ)) (y : HeldPiece × List ℕ) → concat (map (λ (chunk : HeldPiece × List ℕ). chunk.1) (ys ++ y ∷ [])) ≡ concat (map (λ (chunk : HeldPiece × List ℕ). chunk.1) ys) ++ y.1
    pushed [] y = append-nil y.1
    pushed (z ∷ ys) y = ap (λ (l : List ℕ). z.1 ++ l) (pushed ys y) ∙ sym (append_assoc z.1 (concat (map (λ (chunk : HeldPiece × List ℕ). chunk.1) ys)) y.1)

-- ---- what was read so far

pub record HasRead {D X : Type 0} (state : D → DiskState) (images : D → ℕ → List ℕ → Type 0) (first now : Journal D) (read wanted : List X) : Type 0 where
  pub asks : Asks {T = Unit {0}} state images first now (Ok tt)
  pub read_is : read ≡ wanted

module _ {D X : Type 0} (state : D → DiskState) (images : D → ℕ → List ℕ → Type 0) (first now : Journal D) (read wanted : List X) (h : HasRead state images first now read wanted) where
  pub still_up : AreUp first → AreUp now
  still_up = stay_up state first now (h.asks.stay (λ is. cc))

  pub still_looked : AreLookedAt state first → AreLookedAt state now
  still_looked = stay_looked state first now (h.asks.stay (λ is. cc))

  pub still_devs : devs state now ≡ devs state first
  still_devs = h.asks.same (λ is. cc)

  -- the chunks are what they were
  pub still_chunks : (name : LocalName) → stands_in (devs state now).chunks name ≡ stands_in (devs state first).chunks name
  still_chunks name = ap (λ (d : ClientDevs). stands_in d.chunks name) still_devs

  module _ (only_now : (disk : D) (image : List ℕ) → images disk (state disk).moment image → IsImage (state disk).pending image) (new : Journal D) where
    pub goes_on : {T : Type 0} (r : Result T JournalFault) → Asks state images now new r → Asks state images first new r
    goes_on r k = asks_then state images only_now first now new tt h.asks r k

    pub fails : {S T : Type 0} (e : JournalFault) → Asks {T = S} state images now new (Err e) → Asks {T = T} state images first new (Err e)
    fails e k = asks_err state images first new e (goes_on (Err e) k)

module _ {D : Type 0} (state : D → DiskState) (images : D → ℕ → List ℕ → Type 0) (only_now : (disk : D) (image : List ℕ) → images disk (state disk).moment image → IsImage (state disk).pending image) (first : Journal D) where
  -- nothing is read
  pub reads_nothing : {T : Type 0} → AreUp first → AreLookedAt state first → (x : T) → Asks state images first first (Ok x)
  reads_nothing {T} up looked x = asks_none state images only_now first up looked {T = T} (Ok x) (λ e. cc) tt

  pub begins : {X : Type 0} (read : List X) → AreUp first → AreLookedAt state first → read ≡ [] → HasRead state images first first read []
  begins read up looked is = record { asks = reads_nothing {T = Unit {0}} up looked tt; read_is = is }

  -- memory was refused, and nothing is read
  pub refused : {T : Type 0} → AreUp first → AreLookedAt state first → Asks {T = T} state images first first (Err Memory)
  refused {T} up looked = asks_none state images only_now first up looked {T = T} (Err Memory) (λ e. cc) (inr refl)

  pub ends : {T X : Type 0} (now : Journal D) (read wanted : List X) → HasRead state images first now read wanted → (x : T) → Asks state images first now (Ok x)
  ends now read wanted h x = asks_other state images first now tt h.asks (Ok x) (λ e. cc) (λ e. cc) tt

  -- one more was read
  pub goes_more : {A X : Type 0} (f g : A → X) (xs : List A) (i : ℕ) (x e : A) (now new : Journal D) (read more : List X) → i < length xs → x ≡ get_or xs i e → HasRead state images first now read (map f (take i xs))
      → Asks {T = Unit {0}} state images now new (Ok tt) → more ≡ read ++ g x ∷ [] → g x ≡ f x → HasRead state images first new more (map f (take (i + 1) xs))
  goes_more f g xs i x e now new read more lt is h k adds same = record {
    asks = asks_then state images only_now first now new tt h.asks (Ok tt) k;
    read_is = one_more f g xs i x e read more lt is h.read_is adds same;
  }

-- ---- an object by its chunks

pub object_bytes : (means : LocalName → List ℕ) (o : HeldObject) → whole_object means o ≡ concat (map (λ (chunk : HeldPiece × List ℕ). chunk.1) (with_bytes means o.pieces))
object_bytes means o = ap concat (sym (only means o.pieces))
  where
    only : (means : LocalName → List ℕ) (ps : List HeldPiece) → map (λ (chunk : HeldPiece × List ℕ). chunk.1) (with_bytes means ps) ≡ map (λ (piece : HeldPiece). means piece.local) ps
    only means [] = refl
    only means (p ∷ ps) = ap (λ (l : List (List ℕ)). means p.local ∷ l) (only means ps)

-- ---- where the names are there

module _ (meaning : LocalName → List ℕ) (d : ClientDevs) where
  abbrev Means : List LocalName → Type 0
  Means names = (name : LocalName) → Has names name → local_in d.chunks name ≡ Some (meaning name)

  one_means : (name : LocalName) → local_in d.chunks name ≡ Some (meaning name) → stands_in d.chunks name ≡ meaning name
  one_means name is = ap (λ (o : Option (List ℕ)). unwrap_or o []) is

  pieces_mean : (ps : List HeldPiece) → Means (names_of_pieces ps) → with_bytes (stands_in d.chunks) ps ≡ with_bytes meaning ps
  pieces_mean [] there = refl
  pieces_mean (p ∷ ps) there =
      ap (λ (b : List ℕ). (p, b) ∷ with_bytes (stands_in d.chunks) ps) (one_means p.local (there p.local (has_head p.local p.local (names_of_pieces ps) refl)))
      ∙ ap (λ (l : List (HeldPiece × List ℕ)). (p, meaning p.local) ∷ l) (pieces_mean ps (λ q has. there q (has_tail p.local q (names_of_pieces ps) has)))

  objects_mean : (os : List HeldObject) → Means (names_of_objects os) → objects_with_bytes (stands_in d.chunks) os ≡ objects_with_bytes meaning os
  objects_mean [] there = refl
  objects_mean (o ∷ os) there =
      ap (λ (l : List (HeldPiece × List ℕ)). l ∷ objects_with_bytes (stands_in d.chunks) os) (pieces_mean o.pieces (λ q has. there q (has_left (names_of_pieces o.pieces) (names_of_objects os) q has)))
      ∙ ap (λ (l : List (List (HeldPiece × List ℕ))). with_bytes meaning o.pieces ∷ l) (objects_mean os (λ q has. there q (has_right (names_of_pieces o.pieces) (names_of_objects os) q has)))

  pub chunks_mean : (held : HeldContent) → AreThere meaning d held → chunks_in (stands_in d.chunks) held ≡ chunks_in meaning held
  chunks_mean Gone there = refl
  chunks_mean (Row some objects) there = objects_mean objects there

  -- ---- whole objects

  wholes_mean : (os : List HeldObject) → Means (names_of_objects os) → map (whole_object (stands_in d.chunks)) os ≡ map (whole_object meaning) os
  wholes_mean [] there = refl
  wholes_mean (o ∷ os) there =
      let one : whole_object (stands_in d.chunks) o ≡ whole_object meaning o =
      object_bytes (stands_in d.chunks) o ∙ (ap (λ (l : List (HeldPiece × List ℕ)). concat (map (λ (chunk : HeldPiece × List ℕ). chunk.1) l))
      (pieces_mean o.pieces (λ q has. there q (has_left (names_of_pieces o.pieces) (names_of_objects os) q has))) ∙ sym (object_bytes meaning o)) in
      ap (λ (b : List ℕ). b ∷ map (whole_object (stands_in d.chunks)) os) one
      ∙ ap (λ (l : List (List ℕ)). whole_object meaning o ∷ l) (wholes_mean os (λ q has. there q (has_right (names_of_pieces o.pieces) (names_of_objects os) q has)))

  pub whole_means : (held : HeldContent) → AreThere meaning d held → whole (stands_in d.chunks) held ≡ whole meaning held
  whole_means Gone there = refl
  whole_means (Row some objects) there = ap (λ (l : List (List ℕ)). contents.Row some l) (wholes_mean objects there)

  pub shown_mean : (o : Option HeldContent) (held : HeldContent) → o ≡ Some held → AreThereIf meaning d o → chunks_in (stands_in d.chunks) held ≡ chunks_shown meaning o
  shown_mean None held is there = absurd cc
  shown_mean (Some shown) held is there =
      let same : shown ≡ held = some_same shown held is in
      sym (ap (λ (c : HeldContent). chunks_in (stands_in d.chunks) c) same) ∙ chunks_mean shown there
    where
      some_same : (a b : HeldContent) → Some a ≡ Some b → a ≡ b
      some_same a b e = cc

  pub row_means : (held : HeldContent) (cells copied : List Cell) (objects slice : List HeldObject) (read : List (List ℕ)) → held ≡ Row cells objects → copied ≡ cells → slice ≡ objects
      → read ≡ map (whole_object (stands_in d.chunks)) slice → AreThere meaning d held → contents.Row copied read ≡ whole meaning held
  row_means held cells copied objects slice read is same given reads there =
      let whole_is : whole (stands_in d.chunks) (Row cells objects) ≡ whole meaning (Row cells objects) = whole_means (Row cells objects) (subst (λ (c : HeldContent). AreThere meaning d c) is there) in
      ap (λ (l : List Cell). contents.Row l read) same ∙ (ap (λ (l : List (List ℕ)). contents.Row cells l) (reads ∙ ap (map (whole_object (stands_in d.chunks))) given) ∙ (whole_is ∙ ap (whole meaning) (sym is)))
