-- Local names, held contents, slots and tells: each reading gives what is spelled, and tells the first bad place.
use Rattle.std.proofs.Common.{◌≡◌, ℕ, zero, suc, ◌<◌, ◌≤◌, ◌^◌, Bool, leb, List, ◌∷◌, ◌++◌, Option, Some, None, refl, sym, ap, arith}
use Rattle.std.proofs.lemmas.Bool.{leb-true}
use Rattle.std.proofs.lemmas.List.{append-nil}
use Rattle.stab_base.specs.declared.chunk_name.ChunkName.{ChunkName}
use Rattle.row_value.specs.declared.content.Cell.{Cell}
use Rattle.row_value.specs.declared.pieces.Piece.{Piece}
use Rattle.value_codec.specs.Spelling.{list_spelling, HasNameSpelling, name_spelling, HasCellSpelling, cell_spelling, HasPieceSpelling, piece_spelling}
use Rattle.value_codec.specs.Reading.{name_at, cell_at, piece_at}
use Rattle.value_codec.proofs.CellReads.{cell_reads}
use Rattle.value_codec.proofs.PieceReads.{name_reads, piece_reads}
use Rattle.value_codec.proofs.ValueStops.{cell_stop, name_stop, piece_stop}
use Rattle.field_codec.specs.Forms.{eight, IsOption, option_spelling, IsOptionIf, AreEach}
use Rattle.field_codec.proofs.Codecs.{Codec, both, depending, made}
use Rattle.field_codec.proofs.Ranges.{Passes, one_byte, passes, both_are}
use Rattle.field_codec.proofs.FieldCodecs.{four_codec, eight_codec, flag_codec, option_codec, list_codec, inside_spelling, inside_codec}
use Rattle.held_value.specs.declared.local_name.LocalName.{LocalName}
use Rattle.held_value.specs.declared.content.HeldPiece.{HeldPiece}
use Rattle.held_value.specs.declared.content.HeldObject.{HeldObject}
use Rattle.held_value.specs.declared.content.HeldContent.{HeldContent}
use Rattle.held_value.specs.declared.content.HeldContent.TheVariants.{Gone, Row}
use Rattle.held_value.specs.declared.slots.Main.{Main}
use Rattle.held_value.specs.declared.slots.Shadow.{Shadow}
use Rattle.held_value.specs.declared.slots.Out.{Out}
use Rattle.held_value.specs.declared.tell.Tell.{Tell}
use Rattle.held_value.specs.declared.tell.Tell.TheVariants as tells
use Rattle.held_codec.specs.Spelling.{local_spelling, HasLocalSpelling, held_piece_spelling, HasHeldPiece, held_object_spelling, HasHeldObject, held_spelling, HasHeld, main_spelling, HasMain}
use Rattle.held_codec.specs.Spelling.{shadow_spelling, HasShadow, out_spelling, HasOut, slots_spelling, HasSlots, tell_spelling, HasTell}
use Rattle.held_codec.specs.Reading.{local_at, held_piece_at, held_object_at, held_of, held_at, main_at, shadow_at, out_at, slots_at, is_tell, has_first, has_second, number_or, tell_of, tell_at}

name_codec : Codec HasNameSpelling name_spelling name_at
name_codec = record { reads = name_reads; stops = name_stop }

cell_codec : Codec HasCellSpelling cell_spelling cell_at
cell_codec = record { reads = cell_reads; stops = cell_stop }

piece_codec : Codec HasPieceSpelling piece_spelling piece_at
piece_codec = record { reads = piece_reads; stops = piece_stop }

-- ---- held contents

pub local_codec : Codec HasLocalSpelling local_spelling local_at
unfolding local_at
local_codec =
    made (λ (p : ℕ × ℕ). record { plan = p.0; ordinal = p.1 }) HasLocalSpelling local_spelling (λ p h. h) (λ p h. refl) (λ z h. ((z.plan, z.ordinal), h, refl))
    (both eight_codec four_codec)

pub held_piece_codec : Codec HasHeldPiece held_piece_spelling held_piece_at
unfolding held_piece_at
held_piece_codec =
    made (λ (p : LocalName × Option ChunkName). record { local = p.0; name = p.1 }) HasHeldPiece held_piece_spelling (λ p h. h) (λ p h. refl) (λ z h. ((z.local, z.name), h, refl))
    (both local_codec (option_codec name_codec))

pub held_object_codec : Codec HasHeldObject held_object_spelling held_object_at
unfolding held_object_at
held_object_codec =
    made (λ (p : ℕ × List HeldPiece). record { len = p.0; pieces = p.1 }) HasHeldObject held_object_spelling (λ p h. h) (λ p h. refl) (λ z h. ((z.len, z.pieces), h, refl))
    (both four_codec (list_codec held_piece_codec))

abbrev Parts : Type 0
Parts = List Cell × List HeldObject

abbrev IsParts : Parts → Type 0
IsParts p = AreEach HasCellSpelling p.0 × AreEach HasHeldObject p.1

abbrev parts_spelling : Parts → List ℕ
parts_spelling p = list_spelling cell_spelling p.0 ++ list_spelling held_object_spelling p.1

is_held : (p : Option Parts) → IsOption IsParts p → HasHeld (held_of p) × (held_spelling (held_of p) ≡ option_spelling parts_spelling p)
is_held None h = (tt, refl)
is_held (Some p) h = (h, refl)

held_back : (z : HeldContent) → HasHeld z → (p : Option Parts) × IsOption IsParts p × (held_of p ≡ z)
held_back Gone h = (None, tt, refl)
held_back (Row some objects) h = (Some (some, objects), h, refl)

pub held_codec : Codec HasHeld held_spelling held_at
unfolding held_at
held_codec = made held_of HasHeld held_spelling (λ p h. (is_held p h).0) (λ p h. (is_held p h).1) held_back (option_codec (both (list_codec cell_codec) (list_codec held_object_codec)))

-- ---- slots

pub main_codec : Codec HasMain main_spelling main_at
unfolding main_at
main_codec =
    made (λ (p : ℕ × (ℕ × HeldContent)). record { number = p.0; read = p.1.0; content = p.1.1 }) HasMain main_spelling (λ p h. h) (λ p h. refl) (λ z h. ((z.number, (z.read, z.content)), h, refl))
    (both eight_codec (both eight_codec held_codec))

pub shadow_codec : Codec HasShadow shadow_spelling shadow_at
unfolding shadow_at
shadow_codec =
    made (λ (p : ℕ × HeldContent). record { version = p.0; content = p.1 }) HasShadow shadow_spelling (λ p h. h) (λ p h. refl) (λ z h. ((z.version, z.content), h, refl))
    (both eight_codec held_codec)

abbrev OutParts : Type 0
OutParts = ℕ × (ℕ × (ℕ × (Bool × (HeldContent × List Piece))))

abbrev out_of : OutParts → Out
out_of p = record { number = p.0; read = p.1.0; base = p.1.1.0; whole = p.1.1.1.0; content = p.1.1.1.1.0; pieces = p.1.1.1.1.1 }

pub out_codec : Codec HasOut out_spelling out_at
unfolding out_at
out_codec =
    made out_of HasOut out_spelling (λ p h. h) (λ p h. refl) (λ z h. ((z.number, (z.read, (z.base, (z.whole, (z.content, z.pieces))))), h, refl))
    (both eight_codec (both eight_codec (both eight_codec (both flag_codec (both held_codec (list_codec piece_codec))))))

abbrev SlotParts : Type 0
SlotParts = Option Main × (Option Shadow × (Option Out × Option Shadow))

pub slots_codec : Codec HasSlots slots_spelling slots_at
unfolding slots_at
slots_codec =
    made (λ (p : SlotParts). record { main = p.0; shadow = p.1.0; out = p.1.1.0; conflict = p.1.1.1 }) HasSlots slots_spelling (λ p h. h) (λ p h. refl) (λ z h. ((z.main, (z.shadow, (z.out, z.conflict))), h, refl))
    (both (option_codec main_codec) (both (option_codec shadow_codec) (both (option_codec out_codec) (option_codec shadow_codec))))

-- ---- tells

abbrev Small : ℕ → Type 0
Small n = n < 2 ^ 64

abbrev Numbers : Type 0
Numbers = Option ℕ × Option ℕ

abbrev AreNumbers : ℕ → Numbers → Type 0
AreNumbers code p = IsOptionIf (has_first code) Small p.0 × IsOptionIf (has_second code) Small p.1

abbrev numbers_spelling : Numbers → List ℕ
numbers_spelling p = inside_spelling eight_codec p.0 ++ inside_spelling eight_codec p.1

abbrev IsCoded : ℕ → Option ℕ → Option ℕ → Type 0
IsCoded code a b = HasTell (tell_of code (number_or a) (number_or b)) × (tell_spelling (tell_of code (number_or a) (number_or b)) ≡ one_byte code ++ numbers_spelling (a, b))

coded : (code : ℕ) (a b : Option ℕ) → 1 ≤ code → code ≤ 9 → IsOptionIf (has_first code) Small a → IsOptionIf (has_second code) Small b → IsCoded code a b
coded zero a b l m h k = absurd (omega arith)
coded (suc zero) (Some a) (Some b) l m h k = ((h, k), refl)
coded (suc zero) (Some a) None l m h k = absurd k
coded (suc zero) None b l m h k = absurd h
coded (suc (suc zero)) (Some a) (Some b) l m h k = ((h, k), refl)
coded (suc (suc zero)) (Some a) None l m h k = absurd k
coded (suc (suc zero)) None b l m h k = absurd h
coded (suc (suc (suc zero))) (Some a) (Some b) l m h k = ((h, k), refl)
coded (suc (suc (suc zero))) (Some a) None l m h k = absurd k
coded (suc (suc (suc zero))) None b l m h k = absurd h
coded (suc (suc (suc (suc zero)))) (Some a) (Some b) l m h k = ((h, k), refl)
coded (suc (suc (suc (suc zero)))) (Some a) None l m h k = absurd k
coded (suc (suc (suc (suc zero)))) None b l m h k = absurd h
coded (suc (suc (suc (suc (suc zero))))) (Some a) (Some b) l m h k = ((h, k), refl)
coded (suc (suc (suc (suc (suc zero))))) (Some a) None l m h k = absurd k
coded (suc (suc (suc (suc (suc zero))))) None b l m h k = absurd h
coded (suc (suc (suc (suc (suc (suc zero)))))) (Some a) None l m h k = (h, ap (λ (bs : List ℕ). 6 ∷ bs) (sym (append-nil (eight a))))
coded (suc (suc (suc (suc (suc (suc zero)))))) (Some a) (Some b) l m h k = absurd k
coded (suc (suc (suc (suc (suc (suc zero)))))) None b l m h k = absurd h
coded (suc (suc (suc (suc (suc (suc (suc zero))))))) (Some a) None l m h k = (h, ap (λ (bs : List ℕ). 7 ∷ bs) (sym (append-nil (eight a))))
coded (suc (suc (suc (suc (suc (suc (suc zero))))))) (Some a) (Some b) l m h k = absurd k
coded (suc (suc (suc (suc (suc (suc (suc zero))))))) None b l m h k = absurd h
coded (suc (suc (suc (suc (suc (suc (suc (suc zero)))))))) None None l m h k = (tt, refl)
coded (suc (suc (suc (suc (suc (suc (suc (suc zero)))))))) None (Some b) l m h k = absurd k
coded (suc (suc (suc (suc (suc (suc (suc (suc zero)))))))) (Some a) b l m h k = absurd h
coded (suc (suc (suc (suc (suc (suc (suc (suc (suc zero))))))))) None None l m h k = (tt, refl)
coded (suc (suc (suc (suc (suc (suc (suc (suc (suc zero))))))))) None (Some b) l m h k = absurd k
coded (suc (suc (suc (suc (suc (suc (suc (suc (suc zero))))))))) (Some a) b l m h k = absurd h
coded (suc (suc (suc (suc (suc (suc (suc (suc (suc (suc code)))))))))) a b l m h k = absurd (omega arith)

coded_of : (p : ℕ × Numbers) → Passes is_tell p.0 × AreNumbers p.0 p.1 → IsCoded p.0 p.1.0 p.1.1
coded_of p h =
    let t = both_are (leb 1 p.0) (leb p.0 9) h.0.1 in
    coded p.0 p.1.0 p.1.1 (leb-true _ _ t.0) (leb-true _ _ t.1) h.1.0 h.1.1

abbrev made_of : ℕ × Numbers → Tell
made_of p = tell_of p.0 (number_or p.1.0) (number_or p.1.1)

tell_back : (z : Tell) → HasTell z → (p : ℕ × Numbers) × (Passes is_tell p.0 × AreNumbers p.0 p.1) × (made_of p ≡ z)
tell_back (tells.Wrote a b) h = ((1, (Some a, Some b)), ((omega arith, refl), h), refl)
tell_back (tells.Acked a b) h = ((2, (Some a, Some b)), ((omega arith, refl), h), refl)
tell_back (tells.Refused a b) h = ((3, (Some a, Some b)), ((omega arith, refl), h), refl)
tell_back (tells.Conflict a b) h = ((4, (Some a, Some b)), ((omega arith, refl), h), refl)
tell_back (tells.Resolved a b) h = ((5, (Some a, Some b)), ((omega arith, refl), h), refl)
tell_back (tells.New a) h = ((6, (Some a, None)), ((omega arith, refl), (h, tt)), refl)
tell_back (tells.Position a) h = ((7, (Some a, None)), ((omega arith, refl), (h, tt)), refl)
tell_back tells.Opened h = ((8, (None, None)), ((omega arith, refl), (tt, tt)), refl)
tell_back tells.Dropped h = ((9, (None, None)), ((omega arith, refl), (tt, tt)), refl)

pub tell_codec : Codec HasTell tell_spelling tell_at
unfolding tell_at
tell_codec =
    made made_of HasTell tell_spelling (λ p h. (coded_of p h).0) (λ p h. (coded_of p h).1) tell_back
    (depending AreNumbers (λ (code : ℕ). numbers_spelling) _ (passes is_tell 1 (omega arith, refl)) (λ code. both (inside_codec eight_codec (has_first code)) (inside_codec eight_codec (has_second code))))
