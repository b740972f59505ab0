-- A change of a row's slots is what the step table makes of the whole slots.
use Rattle.std.proofs.Common.{◌≡◌, inl, inr, ◌⊎◌, ℕ, zero, suc, ◌+◌, ◌≤◌, Bool, true, false, List, [], ◌∷◌, length, map, take, drop, Option, Some, None, refl, sym, ◌∙◌, ap, subst, arith, length-append}
use Rattle.std.specs.Prelude.{◌==◌, is_some, if◌then◌else◌, option_map, IfSome}
use Rattle.std.specs.List.{concat}
use Rattle.std.proofs.lemmas.Bool.Decides.{nat_tests}
use Rattle.std.proofs.lemmas.List.{length-take, length-drop, length-map}
use Rattle.std.proofs.lemmas.List.Concat.{flat_map-cons}
use Rattle.stab_base.specs.declared.chunk_name.ChunkName.{ChunkName}
use Rattle.row_value.specs.declared.content.Content.{Content}
use Rattle.row_value.specs.declared.content.Content.TheVariants as contents
use Rattle.row_value.specs.declared.pieces.Piece.{Piece}
use Rattle.row_value.specs.declared.pieces.Piece.TheVariants.{Keep, Fresh}
use Rattle.table_model.specs.declared.message.Outcome.{Outcome}
use Rattle.table_model.specs.declared.message.Outcome.TheVariants as outcomes
use Rattle.held_value.specs.declared.local_name.LocalName.{LocalName}
use Rattle.held_value.specs.declared.content.HeldPiece.{HeldPiece}
use Rattle.held_value.specs.declared.content.HeldObject.{HeldObject}
use Rattle.held_value.specs.declared.content.HeldContent.{HeldContent}
use Rattle.held_value.specs.declared.content.HeldContent.TheVariants.{Gone, Row}
use Rattle.held_value.specs.declared.slots.Main.{Main as HeldMain}
use Rattle.held_value.specs.declared.slots.Shadow.{Shadow as HeldShadow}
use Rattle.held_value.specs.declared.slots.Out.{Out as HeldOut}
use Rattle.held_value.specs.declared.slots.Slots.{Slots as HeldSlots}
use Rattle.client_tables.specs.declared.change.Change.{Change}
use Rattle.client_tables.specs.declared.resolving.HeldChoice.{HeldChoice}
use Rattle.client_tables.specs.declared.resolving.HeldChoice.TheVariants as choices
use Rattle.client_tables.specs.declared.change.Sending.TheVariants as send
use Rattle.client_tables.specs.Change.{unchanged, version_in as held_version, seen_in}
use Rattle.client_tables.specs.Names.{named, named_pieces, named_objects, name_at as held_name_at, fresh_from as held_fresh}
use Rattle.client_tables.specs.Transitions.{written, written_strong, can_send, sent, without as held_without, accepted, by_outcome, answered_out, answered}
use Rattle.client_tables.specs.Transitions.{by_choice, rewritten, resolved_main, resolved_row, resolved}
use Rattle.client_journal.specs.Names.{names_of_pieces, names_of_objects, names_of}
use Rattle.step_tables.specs.Slots.{Main}
use Rattle.step_tables.specs.Slots.{InFlight}
use Rattle.step_tables.specs.Chunks.{name_at, names_at, fresh_from, all_fresh}
use Rattle.step_tables.specs.Client.{version_in}
use Rattle.step_tables.specs.Facts.{ClientFact}
use Rattle.step_tables.specs.Facts as facts
use Rattle.step_tables.specs.ClientMoves.{Slots, ClientDisk, main_of, out_of, write_plan, strong_plan, to_send, send_plan, over_plan, theirs_plan, without, ack_plan, lost_plan, top, known, row_out, spelled, whole_plan}
use Rattle.journal_laws.specs.Whole.{whole_object, whole, whole_main, whole_shadow, whole_out, whole_slots, SpellsAll, names_in_objects, names_known, split_by, pieces_by}
use Rattle.journal_laws.specs.Holds.{content_in}
use Rattle.journal_laws.specs.Moves.{PlansChange, IsStill, IsNewTo, Spells}

-- ---- the Store's names of an accepted write's chunks change no bytes

pub names_count : (o : HeldObject) (os : List HeldObject) → length (names_of_objects (o ∷ os)) ≡ length o.pieces + length (names_of_objects os)
names_count o os =
    ap (λ (l : List LocalName). length l) (flat_map-cons (λ (q : HeldObject). names_of_pieces q.pieces) o os)
    ∙ (length-append (names_of_pieces o.pieces) (names_of_objects os) ∙ ap (λ (n : ℕ). n + length (names_of_objects os)) (length-map o.pieces (λ (q : HeldPiece). q.local)))

module _ (meaning : LocalName → List ℕ) (version : ℕ) where
  abbrev bytes_in : List HeldPiece → List (List ℕ)
  bytes_in ps = map (λ (piece : HeldPiece). meaning piece.local) ps

  pub named_bytes : (pieces : List Piece) (ps : List HeldPiece) → length ps ≤ length pieces → bytes_in (named_pieces version pieces ps) ≡ bytes_in ps
  named_bytes pieces [] lt = refl
  named_bytes [] (p ∷ ps) lt = absurd (omega arith)
  named_bytes (piece ∷ pieces) (p ∷ ps) lt = ap (λ (l : List (List ℕ)). meaning p.local ∷ l) (named_bytes pieces ps (omega arith))

  objects_named : (pieces : List Piece) (os : List HeldObject) → length (names_of_objects os) ≤ length pieces
      → map (whole_object meaning) (named_objects version pieces os) ≡ map (whole_object meaning) os
  objects_named pieces [] lt = refl
  objects_named pieces (o ∷ os) lt =
      let front : length o.pieces ≤ length (take (length o.pieces) pieces) = omega (arith, names_count o os, lt, length-take (length o.pieces) pieces) in
      let rest : length (names_of_objects os) ≤ length (drop (length o.pieces) pieces) = omega (arith, names_count o os, lt, length-drop (length o.pieces) pieces) in
      ap (λ (l : List (List ℕ)). concat l ∷ map (whole_object meaning) (named_objects version (drop (length o.pieces) pieces) os)) (named_bytes (take (length o.pieces) pieces) o.pieces front)
      ∙ ap (λ (l : List (List ℕ)). whole_object meaning o ∷ l) (objects_named (drop (length o.pieces) pieces) os rest)

  pub named_whole : (pieces : List Piece) (content : HeldContent) → length (names_of content) ≤ length pieces → whole meaning (named version pieces content) ≡ whole meaning content
  named_whole pieces Gone lt = refl
  named_whole pieces (Row some objects) lt = ap (λ (l : List (List ℕ)). contents.Row some l) (objects_named pieces objects lt)

-- ---- the Store's names of an accepted write's chunks are those of its pieces

alike_at : (version : ℕ) (piece : Piece) → held_name_at version piece ≡ name_at version piece
alike_at version (Keep name) = refl
alike_at version (Fresh ordinal) = refl

module _ (version : ℕ) where
  pieces_known : (pieces : List Piece) (ps : List HeldPiece) → length pieces ≡ length ps
      → map (λ (piece : HeldPiece). piece.name) (named_pieces version pieces ps) ≡ map (λ (name : ChunkName). Some name) (map (name_at version) pieces)
  pieces_known [] [] same = refl
  pieces_known [] (p ∷ ps) same = absurd (omega (arith, same))
  pieces_known (piece ∷ pieces) [] same = absurd (omega (arith, same))
  pieces_known (piece ∷ pieces) (p ∷ ps) same =
      ap (λ (n : ChunkName). Some n ∷ map (λ (q : HeldPiece). q.name) (named_pieces version pieces ps)) (alike_at version piece)
      ∙ ap (λ (l : List (Option ChunkName)). Some (name_at version piece) ∷ l) (pieces_known pieces ps (omega (arith, same)))

  objects_known : (pieces : List Piece) (os : List HeldObject) → length (names_of_objects os) ≤ length pieces
      → names_in_objects (named_objects version pieces os) ≡ known (names_at version (split_by os pieces))
  objects_known pieces [] lt = refl
  objects_known pieces (o ∷ os) lt =
      let front : length (take (length o.pieces) pieces) ≡ length o.pieces = omega (arith, names_count o os, lt, length-take (length o.pieces) pieces) in
      let rest : length (names_of_objects os) ≤ length (drop (length o.pieces) pieces) = omega (arith, names_count o os, lt, length-drop (length o.pieces) pieces) in
      ap (λ (l : List (Option ChunkName)). l ∷ names_in_objects (named_objects version (drop (length o.pieces) pieces) os)) (pieces_known (take (length o.pieces) pieces) o.pieces front)
      ∙ ap (λ (l : List (List (Option ChunkName))). map (λ (name : ChunkName). Some name) (map (name_at version) (take (length o.pieces) pieces)) ∷ l) (objects_known (drop (length o.pieces) pieces) os rest)

  pub named_known : (pieces : List Piece) (content : HeldContent) → length (names_of content) ≤ length pieces → names_known (named version pieces content) ≡ known (names_at version (pieces_by content pieces))
  named_known pieces Gone lt = refl
  named_known pieces (Row some objects) lt = objects_known pieces objects lt

-- ---- all chunks sent again

front_fresh : (n first : ℕ) (pieces : List Piece) → take n (held_fresh first pieces) ≡ fresh_from first (take n pieces)
front_fresh zero first pieces = refl
front_fresh (suc n) first [] = refl
front_fresh (suc n) first (piece ∷ pieces) = ap (λ (l : List Piece). Fresh first ∷ l) (front_fresh n (first + 1) pieces)

rest_fresh : (n first : ℕ) (pieces : List Piece) → drop n (held_fresh first pieces) ≡ held_fresh (first + n) (drop n pieces)
rest_fresh zero first pieces = ap (λ (k : ℕ). held_fresh k pieces) (omega arith)
rest_fresh (suc n) first [] = refl
rest_fresh (suc n) first (piece ∷ pieces) = rest_fresh n (first + 1) pieces ∙ ap (λ (k : ℕ). held_fresh k (drop n pieces)) (omega arith)

split_fresh : (first : ℕ) (pieces : List Piece) (os : List HeldObject) → length (names_of_objects os) ≤ length pieces → split_by os (held_fresh first pieces) ≡ all_fresh first (split_by os pieces)
split_fresh first pieces [] lt = refl
split_fresh first pieces (o ∷ os) lt =
    let n : ℕ = length o.pieces in
    let front : n ≡ length (take n pieces) = omega (arith, names_count o os, lt, length-take n pieces) in
    let rest : length (names_of_objects os) ≤ length (drop n pieces) = omega (arith, names_count o os, lt, length-drop n pieces) in
    ap (λ (l : List Piece). l ∷ split_by os (drop n (held_fresh first pieces))) (front_fresh n first pieces)
    ∙ (ap (λ (l : List Piece). fresh_from first (take n pieces) ∷ split_by os l) (rest_fresh n first pieces)
    ∙ (ap (λ (l : List (List Piece)). fresh_from first (take n pieces) ∷ l) (split_fresh (first + n) (drop n pieces) os rest)
    ∙ ap (λ (k : ℕ). fresh_from first (take n pieces) ∷ all_fresh (first + k) (split_by os (drop n pieces))) front))

pub all_fresh_again : (pieces : List Piece) (content : HeldContent) → length (names_of content) ≤ length pieces → pieces_by content (held_fresh 0 pieces) ≡ all_fresh 0 (pieces_by content pieces)
all_fresh_again pieces Gone lt = refl
all_fresh_again pieces (Row some objects) lt = split_fresh 0 pieces objects lt

same_number : (n : ℕ) → (n == n) ≡ true
same_number n = grind (arith, nat_tests)

other_number : (a b : ℕ) → (a ≡ b → ⊥) → (a == b) ≡ false
other_number a b other = grind (arith, nat_tests)

module _ (c : ℕ) (meaning : LocalName → List ℕ) (d : ClientDisk) (table : ℕ) (row : List ℕ) where
  version_whole : (o : Option HeldShadow) → version_in (option_map (whole_shadow meaning) o) ≡ held_version o
  version_whole None = refl
  version_whole (Some shadow) = refl

  pub seen_whole : (k s : Option HeldShadow) → top (option_map (whole_shadow meaning) k) (option_map (whole_shadow meaning) s) ≡ seen_in k s
  seen_whole None s = version_whole s
  seen_whole (Some shadow) s = refl

  pub without_whole : (n : ℕ) (o : Option HeldMain) → without n (option_map (whole_main meaning) o) ≡ option_map (whole_main meaning) (held_without n o)
  without_whole n None = refl
  without_whole n (Some main) = pick (main.number == n)
    where
      pick : (b : Bool) → (if b then None else Some (whole_main meaning main)) ≡ option_map (whole_main meaning) (if b then None else Some main)
      pick true = refl
      pick false = refl

  -- Main's content is that of its write
  content_main : (n read : ℕ) (x : Content) (o : Option InFlight) → content_in n (Some (main_of n read x)) o ≡ x
  content_main n read x None = ap (λ (b : Bool). if b then x else contents.Gone) (same_number n)
  content_main n read x (Some out) = ap (λ (b : Bool). if b then x else out.content) (same_number n)

  content_out : (n : ℕ) (o : Option HeldMain) (out : InFlight) → IsNewTo o n → content_in n (option_map (whole_main meaning) o) (Some out) ≡ out.content
  content_out n None out new = refl
  content_out n (Some main) out new = ap (λ (b : Bool). if b then whole meaning main.content else out.content) (other_number main.number n new)

  abbrev wrote_of : ℕ → ℕ → Content → Option ClientFact
  wrote_of number read content = Some (facts.Wrote (record { client = c; number = number; table = table; row = row; read = read; content = content }))

  module _ (slots : HeldSlots) where
    abbrev w : Slots
    w = whole_slots meaning slots

    abbrev n : ℕ
    n = d.last + 1

    -- ---- writes

    pub write_plans : (content : HeldContent) → PlansChange meaning c row slots (written slots n content) (write_plan c d table row w (whole meaning content))
    write_plans content =
        let v = version_whole slots.shadow in
        let read : ℕ = version_in w.shadow in
        record {
          alters = refl;
          put = ap (λ (r : ℕ). Some (record { row = row; slots = record w { main = Some (main_of n r (whole meaning content)) } })) v;
          tells =
              ap (λ (x : Content). wrote_of n (held_version slots.shadow) x ∷ []) (content_main n read (whole meaning content) w.out)
              ∙ ap (λ (r : ℕ). wrote_of n r (whole meaning content) ∷ []) (sym v);
        }

    pub strong_plans : (size : ℕ) (content : HeldContent) (pieces : List Piece) → IsNewTo slots.main n → Spells meaning size slots.shadow content pieces
        → PlansChange meaning c row slots (written_strong slots n content pieces) (strong_plan size c d table row w (whole meaning content))
    strong_plans size content pieces new spells =
        let v = version_whole slots.shadow in
        let read : ℕ = version_in w.shadow in
        record {
          alters = refl;
          put =
              ap (λ (r : ℕ). Some (record {
                row = row;
                slots = record w { out = Some (spelled size w.shadow (out_of (main_of n r (whole meaning content)) r)) };
              })) v
              ∙ ap (λ (l : List (List Piece)). Some (record {
                row = row;
                slots = record w { out = Some (record { number = n; read = held_version slots.shadow; base = held_version slots.shadow; content = whole meaning content; pieces = l; whole = false }) };
              })) (sym spells);
          tells =
              ap (λ (x : Content). wrote_of n (held_version slots.shadow) x ∷ []) (content_out n slots.main (spelled size w.shadow (out_of (main_of n read (whole meaning content)) read)) new)
              ∙ ap (λ (r : ℕ). wrote_of n r (whole meaning content) ∷ []) (sym v);
        }

  -- ---- sending

  pub sends_alike : (m : Option HeldMain) (s : Option HeldShadow) (o : Option HeldOut) (k : Option HeldShadow) → let slots : HeldSlots = record { main = m; shadow = s; out = o; conflict = k } in
      can_send slots ≡ is_some (to_send (whole_slots meaning slots) (whole_slots meaning slots).out (whole_slots meaning slots).main (whole_slots meaning slots).conflict)
  sends_alike None s None k = refl
  sends_alike None s (Some out) k = refl
  sends_alike (Some main) s None None = refl
  sends_alike (Some main) s None (Some x) = refl
  sends_alike (Some main) s (Some out) k = refl

  some_is : {X : Type 0} (x y : X) → Some x ≡ Some y → x ≡ y
  some_is x y is = cc

  pub send_plans : (size : ℕ) (m : Option HeldMain) (s : Option HeldShadow) (o : Option HeldOut) (k : Option HeldShadow) (pieces : List Piece) (x : InFlight)
      → let slots : HeldSlots = record { main = m; shadow = s; out = o; conflict = k } in
      to_send (whole_slots meaning slots) (whole_slots meaning slots).out (whole_slots meaning slots).main (whole_slots meaning slots).conflict ≡ Some x
      → IfSome m (λ main. Spells meaning size s main.content pieces)
      → PlansChange meaning c row slots (sent slots pieces) (send_plan d table (row_out size (record { row = row; slots = whole_slots meaning slots; out = x })))
  send_plans size None s None k pieces x is spells = absurd cc
  send_plans size None s (Some out) k pieces x is spells = absurd cc
  send_plans size (Some main) s (Some out) k pieces x is spells = absurd cc
  send_plans size (Some main) s None (Some y) pieces x is spells = absurd cc
  send_plans size (Some main) s None None pieces x is spells =
      let slots : HeldSlots = record { main = Some main; shadow = s; out = None; conflict = None } in
      let w : Slots = whole_slots meaning slots in
      let made : InFlight = out_of (whole_main meaning main) (version_in w.shadow) in
      record {
        alters = refl;
        put =
            ap (λ (y : InFlight). Some (record { row = row; slots = record w { out = Some (spelled size w.shadow y) } })) (sym (some_is made x is))
            ∙ (ap (λ (r : ℕ). Some (record { row = row; slots = record w { out = Some (spelled size w.shadow (out_of (whole_main meaning main) r)) } })) (version_whole s)
            ∙ ap (λ (l : List (List Piece)). Some (record {
              row = row;
              slots = record w { out = Some (record { number = main.number; read = main.read; base = held_version s; content = whole meaning main.content; pieces = l; whole = false }) };
            })) (sym spells));
        tells = refl;
      }

  -- ---- the answer to a request

  module _ (slots : HeldSlots) (out : HeldOut) (waits : slots.out ≡ Some out) where
    answered_is : (outcome : Outcome) → answered slots out.number outcome ≡ by_outcome slots out outcome
    answered_is outcome =
        ap (λ (o : Option HeldOut). answered_out slots out.number outcome o) waits
        ∙ ap (λ (b : Bool). if b then by_outcome slots out outcome else unchanged send.Nothing) (same_number out.number)

    accepted_plans : (version : ℕ) → SpellsAll out → PlansChange meaning c row slots (accepted slots out version) (ack_plan c d table row (whole_slots meaning slots) (whole_out meaning out) version)
    accepted_plans version all = record {
      alters = refl;
      put =
          ap (λ (m : Option Main). Some (record {
            row = row;
            slots = record {
              main = m;
              shadow = Some (record { version = version; content = whole meaning out.content; names = known (names_at version (pieces_by out.content out.pieces)) });
              out = None;
              conflict = option_map (whole_shadow meaning) slots.conflict;
            };
          }))
          (without_whole out.number slots.main)
          ∙ (ap (λ (x : Content). Some (record {
            row = row;
            slots = record {
              main = option_map (whole_main meaning) (held_without out.number slots.main);
              shadow = Some (record { version = version; content = x; names = known (names_at version (pieces_by out.content out.pieces)) });
              out = None;
              conflict = option_map (whole_shadow meaning) slots.conflict;
            };
          })) (sym (named_whole meaning version out.pieces out.content (omega (arith, all))))
          ∙ ap (λ (l : List (List (Option ChunkName))). Some (record {
            row = row;
            slots = record {
              main = option_map (whole_main meaning) (held_without out.number slots.main);
              shadow = Some (record { version = version; content = whole meaning (named version out.pieces out.content); names = l });
              out = None;
              conflict = option_map (whole_shadow meaning) slots.conflict;
            };
          })) (sym (named_known version out.pieces out.content (omega (arith, all)))));
      tells = refl;
    }

    pub accept_plans : (version : ℕ) → SpellsAll out
        → PlansChange meaning c row slots (answered slots out.number (outcomes.Accepted version)) (ack_plan c d table row (whole_slots meaning slots) (whole_out meaning out) version)
    accept_plans version all = subst (λ (x : Change). PlansChange meaning c row slots x (ack_plan c d table row (whole_slots meaning slots) (whole_out meaning out) version))
        (sym (answered_is (outcomes.Accepted version))) (accepted_plans version all)

    pub again_plans : (version : ℕ) → SpellsAll out
        → PlansChange meaning c row slots (answered slots out.number (outcomes.Again version)) (ack_plan c d table row (whole_slots meaning slots) (whole_out meaning out) version)
    again_plans version all = subst (λ (x : Change). PlansChange meaning c row slots x (ack_plan c d table row (whole_slots meaning slots) (whole_out meaning out) version))
        (sym (answered_is (outcomes.Again version))) (accepted_plans version all)

    pub lost_plans : (latest : ℕ) → PlansChange meaning c row slots (answered slots out.number (outcomes.Stale latest))
        (lost_plan c d table row (whole_slots meaning slots) (whole_out meaning out) latest)
    lost_plans latest = subst (λ (x : Change). PlansChange meaning c row slots x (lost_plan c d table row (whole_slots meaning slots) (whole_out meaning out) latest))
        (sym (answered_is (outcomes.Stale latest))) (record { put = refl; alters = refl; tells = refl })

    sent_whole_is : out.whole ≡ false → answered slots out.number outcomes.NeedWhole
        ≡ record { slots = Some (record slots { out = Some (record out { whole = true; pieces = held_fresh 0 out.pieces }) }); tells = []; sends = send.Request }
    sent_whole_is part =
        answered_is outcomes.NeedWhole
        ∙ ap (λ (b : Bool). if b then unchanged send.Nothing
        else (record { slots = Some (record slots { out = Some (record out { whole = true; pieces = held_fresh 0 out.pieces }) }); tells = []; sends = send.Request })) part

    pub whole_plans : SpellsAll out → out.whole ≡ false
        → PlansChange meaning c row slots (answered slots out.number outcomes.NeedWhole) (whole_plan d table row (whole_slots meaning slots) (whole_out meaning out))
    whole_plans all part = subst (λ (x : Change). PlansChange meaning c row slots x (whole_plan d table row (whole_slots meaning slots) (whole_out meaning out))) (sym (sent_whole_is part))
        (record {
          alters = refl;
          put = ap (λ (l : List (List Piece)). Some (record {
            row = row;
            slots = record (whole_slots meaning slots) {
              out = Some (record { number = out.number; read = out.read; base = out.base; content = whole meaning out.content; pieces = l; whole = true });
            };
          })) (sym (all_fresh_again out.pieces out.content (omega (arith, all))));
          tells = refl;
        })

    pub whole_still : out.whole ≡ true → IsStill (answered slots out.number outcomes.NeedWhole)
    whole_still full = subst (λ (x : Change). IsStill x) (sym (answered_is outcomes.NeedWhole)) (subst (λ (b : Bool). IsStill (if b then unchanged send.Nothing
        else (record { slots = Some (record slots { out = Some (record out { whole = true; pieces = held_fresh 0 out.pieces }) }); tells = []; sends = send.Request }))) (sym full) (record { slots = refl; tells = refl }))

    pub late_still : (last : ℕ) → IsStill (answered slots out.number (outcomes.Late last))
    late_still last = subst (λ (x : Change). IsStill x) (sym (answered_is (outcomes.Late last))) (record { slots = refl; tells = refl })

    pub conflict_still : (latest : ℕ) → IsStill (answered slots out.number (outcomes.Conflict latest))
    conflict_still latest = subst (λ (x : Change). IsStill x) (sym (answered_is (outcomes.Conflict latest))) (record { slots = refl; tells = refl })

  -- ---- resolving

  module _ (slots : HeldSlots) (main : HeldMain) (x : HeldShadow) (open_ : slots.main ≡ Some main) (held : slots.conflict ≡ Some x) where
    resolved_is : (choice : HeldChoice) → resolved slots (d.last + 1) choice ≡ by_choice slots x main (d.last + 1) choice
    resolved_is choice =
        ap (λ (o : Option HeldShadow). resolved_row slots (d.last + 1) choice o) held ∙ ap (λ (o : Option HeldMain). resolved_main slots x (d.last + 1) choice o) open_

    rewritten_plans : (content : HeldContent) → PlansChange meaning c row slots (rewritten slots x main (d.last + 1) content)
        (over_plan c d table row (whole_slots meaning slots) (whole_main meaning main) (whole_shadow meaning x) (whole meaning content))
    rewritten_plans content = record {
      alters = refl;
      put = refl;
      tells =
          ap (λ (y : Content). Some (facts.Resolved c main.number table row x.version) ∷ wrote_of (d.last + 1) x.version y ∷ [])
          (content_main (d.last + 1) x.version (whole meaning content) (option_map (whole_out meaning) slots.out));
    }

    pub mine_plans : PlansChange meaning c row slots (resolved slots (d.last + 1) choices.Mine)
        (over_plan c d table row (whole_slots meaning slots) (whole_main meaning main) (whole_shadow meaning x) (whole_main meaning main).content)
    mine_plans = subst (λ (y : Change). PlansChange meaning c row slots y
        (over_plan c d table row (whole_slots meaning slots) (whole_main meaning main) (whole_shadow meaning x) (whole meaning main.content))) (sym (resolved_is choices.Mine))
        (rewritten_plans main.content)

    pub new_plans : (content : HeldContent) → PlansChange meaning c row slots (resolved slots (d.last + 1) (choices.New content))
        (over_plan c d table row (whole_slots meaning slots) (whole_main meaning main) (whole_shadow meaning x) (whole meaning content))
    new_plans content = subst (λ (y : Change). PlansChange meaning c row slots y
        (over_plan c d table row (whole_slots meaning slots) (whole_main meaning main) (whole_shadow meaning x) (whole meaning content))) (sym (resolved_is (choices.New content)))
        (rewritten_plans content)

    pub theirs_plans : PlansChange meaning c row slots (resolved slots (d.last + 1) choices.Theirs)
        (theirs_plan c d table row (whole_slots meaning slots) (whole_main meaning main) (whole_shadow meaning x))
    theirs_plans = subst (λ (y : Change). PlansChange meaning c row slots y (theirs_plan c d table row (whole_slots meaning slots) (whole_main meaning main) (whole_shadow meaning x)))
        (sym (resolved_is choices.Theirs)) (record { put = refl; alters = refl; tells = refl })

-- ---- what changes nothing

pub none_still : (slots : HeldSlots) (number : ℕ) (outcome : Outcome) → slots.out ≡ None → IsStill (answered slots number outcome)
none_still slots number outcome none =
    subst (λ (o : Option HeldOut). IsStill (answered_out slots number outcome o)) (sym none) (record { slots = refl; tells = refl })

pub other_still : (slots : HeldSlots) (number : ℕ) (outcome : Outcome) (out : HeldOut) → slots.out ≡ Some out → (out.number ≡ number → ⊥) → IsStill (answered slots number outcome)
other_still slots number outcome out waits other =
    subst (λ (o : Option HeldOut). IsStill (answered_out slots number outcome o)) (sym waits)
    (subst (λ (b : Bool). IsStill (if b then by_outcome slots out outcome else unchanged send.Nothing)) (sym (other_number out.number number other)) (record { slots = refl; tells = refl }))

pub unresolved_still : (slots : HeldSlots) (number : ℕ) (choice : HeldChoice) → (slots.conflict ≡ None) ⊎ (slots.main ≡ None) → IsStill (resolved slots number choice)
unresolved_still slots number choice (inl none) = subst (λ (o : Option HeldShadow). IsStill (resolved_row slots number choice o)) (sym none) (record { slots = refl; tells = refl })
unresolved_still slots number choice (inr none) = pick slots.conflict
  where
    pick : (k : Option HeldShadow) → IsStill (resolved_row slots number choice k)
    pick None = record { slots = refl; tells = refl }
    pick (Some x) = subst (λ (o : Option HeldMain). IsStill (resolved_main slots x number choice o)) (sym none) (record { slots = refl; tells = refl })
