-- Bytes added to a sink, one text behind another, and a front of the last one.
use Rattle.std.proofs.Common.{◌≡◌, ℕ, suc, ◌<◌, List, ◌∷◌, ◌++◌, length, take, drop, get_or, Option, Result, Ok, Err, sym, ap, ◌∙◌, append_assoc}
use Rattle.std.specs.Prelude.{OnErr}
use Rattle.std.specs.List.{flat_map}
use Rattle.std.specs.Io.KnownBytes.{Appends}
use Rattle.std.proofs.KnownBytes.{Appends-trans}
use Rattle.std.proofs.Math.Seq.{split_at}
use Rattle.std.proofs.lemmas.Grind.{flat_map-append}
use Rattle.stab_io.specs.Faults.{AppendsFront}

pub added_then : (old mid new : Option (List ℕ)) (a b : List ℕ) → Appends old mid a → AppendsFront mid new b → AppendsFront old new (a ++ b)
added_then old mid new a b p q =
    (a ++ q.0, q.1, ap (λ l. a ++ l) q.2 ∙ sym (append_assoc a q.0 q.1), Appends-trans old mid new a q.0 p q.3)

longer_front : (old new : Option (List ℕ)) (a b : List ℕ) → AppendsFront old new a → AppendsFront old new (a ++ b)
longer_front old new a b q = (q.0, q.1 ++ b, ap (λ l. l ++ b) q.2 ∙ append_assoc q.0 q.1 b, q.3)

-- some texts of a list were added, and then a front of the next one
pub front_then : (texts : List (List ℕ)) (i : ℕ) (text : List ℕ) (old mid new : Option (List ℕ)) → i < length texts → text ≡ get_or texts i text
    → Appends old mid (flat_map (λ (t : List ℕ). t) (take i texts)) → AppendsFront mid new text → AppendsFront old new (flat_map (λ (t : List ℕ). t) texts)
front_then texts i text old mid new lt is p q =
    let joined : List (List ℕ) → List ℕ = λ ts. flat_map (λ (t : List ℕ). t) ts in
    let before = joined (take i texts) in
    let after = joined (drop (suc i) texts) in
    let cut : joined texts ≡ before ++ (text ++ after) =
    ap joined (split_at texts i text lt) ∙ flat_map-append (λ (t : List ℕ). t) (take i texts) (get_or texts i text ∷ drop (suc i) texts)
    ∙ ap (λ (t : List ℕ). before ++ (t ++ after)) (sym is) in
    rw cut (added_then old mid new before (text ++ after) p (longer_front mid new text after q))

pub on_err : {T E P : Type 0} (r : Result T E) → P → OnErr r P
on_err (Ok x) p = tt
on_err (Err e) p = p
