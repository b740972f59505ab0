-- The frames at the front of a stream: there is one way to read them.
use Rattle.std.proofs.Common.{◌≡◌, ℕ, ◌+◌, ◌<◌, List, [], ◌∷◌, ◌++◌, length, take, drop, refl, sym, ap, subst, ◌∙◌, append_assoc, arith, inl, inr}
use Rattle.std.specs.List.{flat_map, AllByRecursion}
use Rattle.std.specs.Int.{w32, to_be_bytes, from_be_bytes}
use Rattle.std.proofs.lemmas.Nat.{from_be_bytes-to_be_bytes_4}
use Rattle.std.proofs.lemmas.List.{take_at, drop_at, length-append, take-append-le, append_cancel_left}
use Rattle.std.proofs.lemmas.List.Concat.{flat_map-cons}
use Rattle.sim_frame.specs.declared.frame.Frame.{Frame}
use Rattle.sim_frame.specs.Stream.{frame_spelling, HasFrameSpelling, IsLength, length_at, IsFront, IsBroken, Left, IsLeft, Reads}
use Rattle.sim_frame.specs.Stream.Left.{Open, Broken}

-- ---- a length that no frame has

pub broken_more : (rest piece : List ℕ) (len : ℕ) → IsBroken rest len → IsBroken (rest ++ piece) len
broken_more rest piece len b = record {
  there = omega (arith, length-append rest piece, b.there);
  is = ap (from_be_bytes w32) (take-append-le 4 rest piece b.there) ∙ b.is;
  none = b.none;
}

pub bad_stays : (bytes piece : List ℕ) (frames : List Frame) (len : ℕ) → Reads bytes frames (Broken len) → Reads (bytes ++ piece) frames (Broken len)
bad_stays bytes piece frames len r = record {
  rest = r.rest ++ piece;
  parts = ap (λ (l : List ℕ). l ++ piece) r.parts ∙ append_assoc (flat_map frame_spelling frames) r.rest piece;
  each = r.each;
  ends = broken_more r.rest piece len r.ends;
}

-- ---- a frame at the front

abbrev behind_length : Frame → List ℕ → List ℕ
behind_length f rest = f.kind ∷ (f.body ++ rest)

regrouped : (f : Frame) (rest : List ℕ) → frame_spelling f ++ rest ≡ to_be_bytes w32 (length f.body + 1) ++ behind_length f rest
regrouped f rest = append_assoc (to_be_bytes w32 (length f.body + 1)) (f.kind ∷ f.body) rest

pub sized : (f : Frame) (rest : List ℕ) → HasFrameSpelling f → length_at (frame_spelling f ++ rest) ≡ length f.body + 1
sized f rest h =
    let body : length f.body < 1048576 = h.body in
    let front : take 4 (frame_spelling f ++ rest) ≡ to_be_bytes w32 (length f.body + 1) = ap (take 4) (regrouped f rest) ∙ take_at (to_be_bytes w32 (length f.body + 1)) (behind_length f rest) 4 refl in
    ap (from_be_bytes w32) front ∙ from_be_bytes-to_be_bytes_4 (length f.body + 1) (omega arith)

pub size_of : (f : Frame) (rest : List ℕ) → length (frame_spelling f ++ rest) ≡ 5 + length f.body + length rest
size_of f rest = ap length (regrouped f rest) ∙ length-append (to_be_bytes w32 (length f.body + 1)) (behind_length f rest) ∙ omega (arith, length-append f.body rest)

front_is_less : (f : Frame) (rest : List ℕ) → HasFrameSpelling f → IsFront (frame_spelling f ++ rest) → ⊥
front_is_less f rest h (inl short) = omega (arith, size_of f rest, short)
front_is_less f rest h (inr less) = omega (arith, size_of f rest, sized f rest h, less.1)

broken_is_none : (f : Frame) (rest : List ℕ) (len : ℕ) → HasFrameSpelling f → IsBroken (frame_spelling f ++ rest) len → ⊥
broken_is_none f rest len h b =
    let body : length f.body < 1048576 = h.body in
    let is : length f.body + 1 ≡ len = sym (sized f rest h) ∙ b.is in
    b.none (record { some = omega arith; most = omega arith })

left_is_none : (f : Frame) (rest : List ℕ) (left : Left) → HasFrameSpelling f → IsLeft (frame_spelling f ++ rest) left → ⊥
left_is_none f rest (Open held) h l = front_is_less f rest h l.1
left_is_none f rest (Broken len) h l = broken_is_none f rest len h l

head_is : (a b : ℕ) (xs ys : List ℕ) → a ∷ xs ≡ b ∷ ys → a ≡ b
head_is a b xs ys e = cc

tail_is : (a b : ℕ) (xs ys : List ℕ) → a ∷ xs ≡ b ∷ ys → xs ≡ ys
tail_is a b xs ys e = cc

abbrev made : ℕ → List ℕ → Frame
made kind body = record { kind = kind; body = body }

frame_is : (f g : Frame) → f.kind ≡ g.kind → f.body ≡ g.body → f ≡ g
frame_is f g k b = ap (λ (kind : ℕ). made kind f.body) k ∙ ap (λ (body : List ℕ). made g.kind body) b

pub same_frame : (f g : Frame) (a b : List ℕ) → HasFrameSpelling f → HasFrameSpelling g → frame_spelling f ++ a ≡ frame_spelling g ++ b → (f ≡ g) × (a ≡ b)
same_frame f g a b h k e =
    let lengths : length f.body + 1 ≡ length g.body + 1 = sym (sized f a h) ∙ ap length_at e ∙ sized g b k in
    let whole : to_be_bytes w32 (length f.body + 1) ++ behind_length f a ≡ to_be_bytes w32 (length f.body + 1) ++ behind_length g b =
    sym (regrouped f a) ∙ e ∙ regrouped g b ∙ ap (λ (n : ℕ). to_be_bytes w32 n ++ behind_length g b) (sym lengths) in
    let behind : behind_length f a ≡ behind_length g b = append_cancel_left (to_be_bytes w32 (length f.body + 1)) (behind_length f a) (behind_length g b) whole in
    let kinds = head_is f.kind g.kind (f.body ++ a) (g.body ++ b) behind in
    let bodies = tail_is f.kind g.kind (f.body ++ a) (g.body ++ b) behind in
    let long : length f.body ≡ length g.body = omega arith in
    let body : f.body ≡ g.body = sym (take_at f.body a (length g.body) long) ∙ ap (take (length g.body)) bodies ∙ take_at g.body b (length g.body) refl in
    let rest : a ≡ b = sym (drop_at f.body a (length g.body) long) ∙ ap (drop (length g.body)) bodies ∙ drop_at g.body b (length g.body) refl in
    (frame_is f g kinds body, rest)

-- ---- one reading

front_or_broken : (rest : List ℕ) (len : ℕ) → IsFront rest → IsBroken rest len → ⊥
front_or_broken rest len (inl short) b = omega (arith, short, b.there)
front_or_broken rest len (inr less) b = b.none (subst IsLength b.is less.0)

one_left : (rest : List ℕ) (left right : Left) → IsLeft rest left → IsLeft rest right → left ≡ right
one_left rest (Open a) (Open b) l r = ap (λ (held : List ℕ). Open held) (l.0 ∙ sym r.0)
one_left rest (Open a) (Broken len) l r = absurd (front_or_broken rest len l.1 r)
one_left rest (Broken len) (Open b) l r = absurd (front_or_broken rest len r.1 l)
one_left rest (Broken m) (Broken n) l r = ap (λ (len : ℕ). Broken len) (sym l.is ∙ r.is)

opened : (f : Frame) (fs : List Frame) (rest : List ℕ) → flat_map frame_spelling (f ∷ fs) ++ rest ≡ frame_spelling f ++ (flat_map frame_spelling fs ++ rest)
opened f fs rest = ap (λ (l : List ℕ). l ++ rest) (flat_map-cons frame_spelling f fs) ∙ append_assoc (frame_spelling f) (flat_map frame_spelling fs) rest

one_list : (fs gs : List Frame) (a b : List ℕ) (left right : Left) → AllByRecursion HasFrameSpelling fs → AllByRecursion HasFrameSpelling gs
    → IsLeft a left → IsLeft b right → flat_map frame_spelling fs ++ a ≡ flat_map frame_spelling gs ++ b → (fs ≡ gs) × (left ≡ right)
one_list [] [] a b left right h k l r e = (refl, one_left a left right l (subst (λ (rest : List ℕ). IsLeft rest right) (sym e) r))
one_list [] (g ∷ gs) a b left right h k l r e = absurd (left_is_none g (flat_map frame_spelling gs ++ b) left k.0 (subst (λ (rest : List ℕ). IsLeft rest left) (e ∙ opened g gs b) l))
one_list (f ∷ fs) [] a b left right h k l r e = absurd (left_is_none f (flat_map frame_spelling fs ++ a) right h.0 (subst (λ (rest : List ℕ). IsLeft rest right) (sym e ∙ opened f fs a) r))
one_list (f ∷ fs) (g ∷ gs) a b left right h k l r e =
    let first = same_frame f g (flat_map frame_spelling fs ++ a) (flat_map frame_spelling gs ++ b) h.0 k.0 (sym (opened f fs a) ∙ e ∙ opened g gs b) in
    let others = one_list fs gs a b left right h.1 k.1 l r first.1 in
    (ap (λ (x : Frame). x ∷ fs) first.0 ∙ ap (λ (xs : List Frame). g ∷ xs) others.0, others.1)

pub one_reading : (bytes : List ℕ) (frames others : List Frame) (left right : Left) → Reads bytes frames left → Reads bytes others right → (frames ≡ others) × (left ≡ right)
one_reading bytes frames others left right p q = one_list frames others p.rest q.rest left right p.each q.each p.ends q.ends (sym p.parts ∙ q.parts)

-- ---- a frame in front of others

pub with_first : (f : Frame) (rest : List ℕ) (frames : List Frame) (left : Left) → HasFrameSpelling f → Reads rest frames left → Reads (frame_spelling f ++ rest) (f ∷ frames) left
with_first f rest frames left h r = record {
  rest = r.rest;
  parts = ap (λ (l : List ℕ). frame_spelling f ++ l) r.parts ∙ sym (opened f frames r.rest);
  each = (h, r.each);
  ends = r.ends;
}
