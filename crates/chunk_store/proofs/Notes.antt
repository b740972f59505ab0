-- An index that has noted one payload more.
use Rattle.std.proofs.Common.{◌≡◌, ℕ, List, [], ◌∷◌, ◌++◌, ◌-◌, length, drop, get_or, Option, Some, None, refl, sym, ◌∙◌, ap, subst, arith, length-append, length-drop}
use Rattle.std.specs.Prelude.{option_map}
use Rattle.std.specs.BTreeMap.{insert_entry}
use Rattle.std.proofs.lemmas.List.{get_or_append_left}
use Rattle.std.proofs.Math.Seq.{get_or-append_seam}
use Rattle.std.proofs.lemmas.List.Sums.{fold-append}
use Rattle.stab_base.specs.declared.chunk_name.ChunkName.{ChunkName}
use Rattle.spare_map.specs.Late.{changed, without}
use Rattle.spare_map.specs.Values.{AllValues, with_values}
use Rattle.spare_map.proofs.Values.{values_weaker, values_changed, map_alike, map_changed}
use Rattle.chunk_store.specs.Payload.{name_cmp, change_of, step, chunks_of}
use Rattle.chunk_store.specs.Index.{IsPlace, bytes_at, shape_of}
use Rattle.chunk_store.specs.declared.index.Place.{Place}
use Rattle.chunk_store.specs.declared.payload.Change.{Change}
use Rattle.chunk_store.specs.declared.payload.Change.TheVariants.{Put, Gone}
use Rattle.chunk_store.proofs.Heads.{put_parts}

pub chunks_of-push : (ps : List (List ℕ)) (p : List ℕ) → chunks_of (ps ++ p ∷ []) ≡ step (chunks_of ps) (change_of p)
unfolding chunks_of
chunks_of-push ps p = fold-append (λ (map : List (ChunkName × List ℕ)) (payload : List ℕ). step map (change_of payload)) [] ps (p ∷ [])

-- the entries of an index after a payload
abbrev pub moved : List (ChunkName × Place) → Option Change → Place → List (ChunkName × Place)
moved es None n = es
moved es (Some (Put name)) n = insert_entry name_cmp es name n
moved es (Some (Gone name)) n = without name_cmp es name

module _ (ps : List (List ℕ)) (p : List ℕ) where
  abbrev more : List (List ℕ)
  more = ps ++ p ∷ []

  -- where the payload stands
  abbrev pub here : Place
  here = record { index = length ps; len = length p - 13 }

  kept : (q : Place) → IsPlace ps q → get_or more q.index [] ≡ get_or ps q.index []
  kept q place = get_or_append_left ps (p ∷ []) [] q.index place.within

  still : (q : Place) → IsPlace ps q → IsPlace more q
  still q place = record {
    within = omega (arith, place.within, length-append ps (p ∷ []));
    long = rw (kept q place) place.long;
    len = ap (λ (l : List ℕ). length (drop 13 l)) (kept q place) ∙ place.len;
  }

  alike : (es : List (ChunkName × Place)) → AllValues (IsPlace ps) es → with_values (bytes_at ps) es ≡ with_values (bytes_at more) es
  alike es places = map_alike (IsPlace ps) (bytes_at ps) (bytes_at more) (λ q place. ap (λ (l : List ℕ). drop 13 l) (sym (kept q place))) es places

  last : get_or more (length ps) [] ≡ p
  last = get_or-append_seam ps p [] []

  -- a change of a name, where n is the index of its payload
  changes : (es : List (ChunkName × Place)) → AllValues (IsPlace ps) es → (name : ChunkName) (w : Option (List ℕ)) → change_of p ≡ Some (name, w)
      → (changed name_cmp (with_values (bytes_at ps) es) name w ≡ with_values (bytes_at more) (changed name_cmp es name (option_map (λ _. here) w)))
      × AllValues (IsPlace more) (changed name_cmp es name (option_map (λ _. here) w))
  changes es places name None is = (
    ap (λ (m : List (ChunkName × List ℕ)). changed name_cmp m name None) (alike es places) ∙ sym (map_changed name_cmp (bytes_at more) es name None),
    values_changed name_cmp (IsPlace more) es name None (values_weaker (IsPlace ps) (IsPlace more) still es places) (λ v none. absurd cc),
  )
  changes es places name (Some bytes) is =
      let parts = put_parts p name bytes is in
      let stands : IsPlace more here = record { within = omega (arith, length-append ps (p ∷ [])); long = rw last parts.0; len = ap (λ (l : List ℕ). length (drop 13 l)) last ∙ length-drop 13 p } in (
        ap (λ (m : List (ChunkName × List ℕ)). changed name_cmp m name (Some bytes)) (alike es places)
            ∙ (ap (λ (b : List ℕ). changed name_cmp (with_values (bytes_at more) es) name (Some b)) (sym (ap (λ (q : List ℕ). drop 13 q) last ∙ parts.1))
            ∙ sym (map_changed name_cmp (bytes_at more) es name (Some here))),
        values_changed name_cmp (IsPlace more) es name (Some here) (values_weaker (IsPlace ps) (IsPlace more) still es places) (λ v is. let same : here ≡ v = cc in subst (IsPlace more) same stands),
      )

  pub noted : (es fs : List (ChunkName × Place)) → chunks_of ps ≡ with_values (bytes_at ps) es → AllValues (IsPlace ps) es → fs ≡ moved es (shape_of (change_of p)) here
      → (chunks_of more ≡ with_values (bytes_at more) fs) × AllValues (IsPlace more) fs
  noted es fs chunks places to =
      let whole = cases (change_of p) refl in
      (chunks_of-push ps p ∙ (whole.0 ∙ ap (with_values (bytes_at more)) (sym to)), subst (AllValues (IsPlace more)) (sym to) whole.1)
    where
      cases : (change : Option (ChunkName × Option (List ℕ))) → change_of p ≡ change
          → (step (chunks_of ps) change ≡ with_values (bytes_at more) (moved es (shape_of change) here)) × AllValues (IsPlace more) (moved es (shape_of change) here)
      cases None is = (chunks ∙ alike es places, values_weaker (IsPlace ps) (IsPlace more) still es places)
      cases (Some (name, Some bytes)) is =
          let both = changes es places name (Some bytes) is in
          (ap (λ (m : List (ChunkName × List ℕ)). changed name_cmp m name (Some bytes)) chunks ∙ both.0, both.1)
      cases (Some (name, None)) is =
          let both = changes es places name None is in
          (ap (λ (m : List (ChunkName × List ℕ)). changed name_cmp m name None) chunks ∙ both.0, both.1)
