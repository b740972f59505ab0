-- What a piece makes of what was kept.
use Rattle.std.proofs.Common.{◌≡◌, ℕ, List, [], ◌∷◌, ◌++◌, take, drop, length, ◌-◌, length-drop, arith, Option, Some, None, refl, sym, ap, subst, ◌∙◌, append_assoc}
use Rattle.std.proofs.lemmas.List.{take-append-drop, take_all}
use Rattle.sim_frame.specs.declared.frame.Frame.{Frame}
use Rattle.sim_frame.specs.declared.part.Part.{Part}
use Rattle.sim_frame.specs.Stream.{frame_spelling, HasFrameSpelling, IsFront, Left, Reads, IsFed}
use Rattle.sim_frame.specs.Stream.Left.{Open}
use Rattle.sim_frame.specs.Opening.{AreWhole, left_of, held_of, IsBehind}
use Rattle.sim_frame.proofs.Streams.{with_first}

pub none_is : (broken : Option ℕ) → ((len : ℕ) → broken ≡ Some len → ⊥) → broken ≡ None
none_is None not = refl
none_is (Some len) not = absurd (not len refl)

fed_by : (old : Left) (held piece : List ℕ) (frames : List Frame) (left : Left) → Open held ≡ old → Reads (held ++ piece) frames left → IsFed old piece frames left
fed_by old held piece frames left is r = subst (λ (l : Left). IsFed l piece frames left) is r

opened : (old : Left) (broken : Option ℕ) (held : List ℕ) → left_of broken held ≡ old → broken ≡ None → Open held ≡ old
opened old broken held is none = ap (λ (b : Option ℕ). left_of b held) (sym none) ∙ is

pub front_fed : (old : Left) (broken : Option ℕ) (held more piece : List ℕ) (frames : List Frame) → left_of broken held ≡ old → broken ≡ None → more ≡ held ++ piece → IsFront (held ++ piece)
    → frames ≡ []
    → IsFed old piece frames (left_of broken more)
front_fed old broken held more piece frames is none kept front none_yet =
    let nothing : List Frame = [] in
    let read : Reads (held ++ piece) nothing (Open more) = record { rest = held ++ piece; parts = refl; each = tt; ends = (kept, front) } in
    let left : Open more ≡ left_of broken more = ap (λ (b : Option ℕ). left_of b more) (sym none) in
    fed_by old held piece frames (left_of broken more) (opened old broken held is none)
    (subst (λ (l : Left). Reads (held ++ piece) frames l) left (subst (λ (fs : List Frame). Reads (held ++ piece) fs (Open more)) (sym none_yet) read))

same_left : (broken : Option ℕ) (rest : List ℕ) (part : Part) → IsBehind broken rest part → left_of broken rest ≡ left_of broken (held_of part)
same_left None rest part b = ap (λ (held : List ℕ). Open held) (sym b.0)
same_left (Some len) rest part b = refl

pub whole_fed : (old : Left) (broken : Option ℕ) (held piece front behind : List ℕ) (need : ℕ) (first : Frame) (frames : List Frame) (at : ℕ) (later : Option ℕ) (part : Part)
    → left_of broken held ≡ old → broken ≡ None → front ≡ take need piece → behind ≡ drop need piece
    → held ++ front ≡ frame_spelling first → HasFrameSpelling first → AreWhole behind frames at later → IsBehind later (drop at behind) part
    → IsFed old piece (first ∷ frames) (left_of later (held_of part))
whole_fed old broken held piece front behind need first frames at later part is none f b whole spelled found kept =
    let others : Reads behind frames (left_of later (drop at behind)) = record { rest = drop at behind; parts = found.frames_are.parts; each = found.frames_are.each; ends = found.ends } in
    let all : Reads (frame_spelling first ++ behind) (first ∷ frames) (left_of later (held_of part)) =
    with_first first behind frames (left_of later (held_of part)) spelled (subst (λ (l : Left). Reads behind frames l) (same_left later (drop at behind) part kept) others) in
    let cut : piece ≡ front ++ behind = sym (take-append-drop need piece) ∙ ap (λ (l : List ℕ). l ++ drop need piece) (sym f) ∙ ap (λ (l : List ℕ). front ++ l) (sym b) in
    let bytes : held ++ piece ≡ frame_spelling first ++ behind = ap (λ (l : List ℕ). held ++ l) cut ∙ sym (append_assoc held front behind) ∙ ap (λ (l : List ℕ). l ++ behind) whole in
    fed_by old held piece (first ∷ frames) (left_of later (held_of part)) (opened old broken held is none)
    (subst (λ (l : List ℕ). Reads l (first ∷ frames) (left_of later (held_of part))) (sym bytes) all)

pub whole_rest : (at : ℕ) (bytes : List ℕ) → take (length bytes - at) (drop at bytes) ≡ drop at bytes
whole_rest at bytes = take_all (length bytes - at) (drop at bytes) (omega (arith, length-drop at bytes))
