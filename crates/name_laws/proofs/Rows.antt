-- The names of a row's chunks: each of a version of the row, none twice, and one for each chunk.
use Rattle.std.proofs.Common.{◌≡◌, ⊎_elim, ℕ, ◌+◌, ◌≤◌, true, List, [], ◌∷◌, ◌++◌, length, Option, Some, None, refl, sym, ◌∙◌, ap, subst, arith, length-append}
use Rattle.std.specs.Prelude.{◌==◌, map, zip}
use Rattle.std.proofs.lemmas.Bool.{and_parts, eqb-true}
use Rattle.std.proofs.lemmas.List.{map-append}
use Rattle.std.proofs.lemmas.Slice.Zip.{firsts-zip}
use Rattle.stab_base.specs.declared.chunk_name.ChunkName.{ChunkName}
use Rattle.step_tables.specs.Store.{Stored, current_of, is_of_row}
use Rattle.step_tables.specs.Items.{IsItemAt}
use Rattle.step_tables.specs.Members as members
use Rattle.step_tables.specs.Chunks.{cut, flat, each_chunk, is_of_each, objects_of, names_of, chunks_in, chunks_of}
use Rattle.step_tables.proofs.Lists.{among_none, among_left, among_cases, among_last, same_row-is}
use Rattle.name_laws.proofs.Names.{Among, AreDifferent}

-- ---- an item

-- a name comes from an item of the row that has its version
abbrev pub ComesFrom : List Stored → List ℕ → ChunkName → Type 0
ComesFrom items row name = (item : Stored) × IsItemAt items row name.version item

-- an item among these: a name for each of its chunks, none twice, each from an item of its row
pub record IsWellNamed (size : ℕ) (items : List Stored) (item : Stored) : Type 0 where
  pub each : is_of_each size item.names (objects_of item.content) ≡ true
  pub different : AreDifferent (flat item.names)
  pub known : (name : ChunkName) → Among name (flat item.names) → ComesFrom items item.entry.row name

-- all of a table, whose versions are no more than the items
pub record AreWellNamed (size : ℕ) (items : List Stored) : Type 0 where
  pub all : (item : Stored) → members.Among items item → IsWellNamed size items item
  pub most : (item : Stored) → members.Among items item → item.entry.version ≤ length items

pub nothing_named : (size : ℕ) → AreWellNamed size []
nothing_named size = record { all = λ item a. absurd (among_none item a); most = λ item a. absurd (among_none item a) }

pub comes_later : (items more : List Stored) (row : List ℕ) (name : ChunkName) → ComesFrom items row name → ComesFrom (items ++ more) row name
comes_later items more row name c = (c.0, record { stands = among_left items more c.0 c.1.stands; row_is = c.1.row_is; version_is = c.1.version_is })

pub push_named : (size : ℕ) (items : List Stored) (item : Stored) → AreWellNamed size items → IsWellNamed size (items ++ item ∷ []) item
    → item.entry.version ≡ length items + 1 → AreWellNamed size (items ++ item ∷ [])
push_named size items item named new is = record {
  all = λ x a. ⊎_elim (old x) (λ same. subst (IsWellNamed size (items ++ item ∷ [])) same new) (among_cases items item x a);
  most = λ x a. ⊎_elim
      (λ b. let most = named.most x b in let more = length-append items (item ∷ []) in omega (arith, most, more))
      (λ same. let here : x.entry.version ≡ length items + 1 = ap (λ (i : Stored). i.entry.version) (sym same) ∙ is in let more = length-append items (item ∷ []) in omega (arith, here, more))
      (among_cases items item x a);
}
  where
    old : (x : Stored) → members.Among items x → IsWellNamed size (items ++ item ∷ []) x
    old x a =
        let before = named.all x a in
        record { each = before.each; different = before.different; known = λ name b. comes_later items (item ∷ []) x.entry.row name (before.known name b) }

-- ---- what is said of each chunk

pub said_of_each : {X : Type 0} (size : ℕ) (said : List (List X)) (objects : List (List ℕ)) → is_of_each size said objects ≡ true
    → map (λ (chunk : X × List ℕ). chunk.0) (flat (each_chunk size said objects)) ≡ flat said
said_of_each size [] [] is = refl
said_of_each size [] (object ∷ objects) is = absurd cc
said_of_each size (here ∷ said) [] is = absurd cc
said_of_each {X} size (here ∷ said) (object ∷ objects) is =
    let both = and_parts (length here == length (cut size object)) (is_of_each size said objects) is in
    map-append (λ (chunk : X × List ℕ). chunk.0) (zip here (cut size object)) (flat (each_chunk size said objects))
    ∙ (ap (λ (l : List X). l ++ map (λ (chunk : X × List ℕ). chunk.0) (flat (each_chunk size said objects)))
    (firsts-zip here (cut size object) (sym (eqb-true (length here) (length (cut size object)) both.0)))
    ∙ ap (λ (l : List X). here ++ l) (said_of_each size said objects both.1))

-- ---- a row

module _ (size : ℕ) (items : List Stored) (named : AreWellNamed size items) (row : List ℕ) where
  pub is_current : (item : Stored) → current_of items row ≡ Some item → members.Among items item × (item.entry.row ≡ row)
  is_current item at = let last = among_last (is_of_row row) items item at in (last.0, same_row-is item.entry.row row last.1)

  pub row_names : (item : Stored) → current_of items row ≡ Some item → names_of (chunks_in size (Some item)) ≡ flat item.names
  row_names item at = said_of_each size item.names (objects_of item.content) (named.all item (is_current item at).0).each

  pub row_different : AreDifferent (names_of (chunks_of size items row))
  row_different = go (current_of items row) refl
    where
      go : (o : Option Stored) → current_of items row ≡ o → AreDifferent (names_of (chunks_in size o))
      go None at = tt
      go (Some item) at = subst AreDifferent (sym (row_names item at)) (named.all item (is_current item at).0).different

  pub row_known : (name : ChunkName) → Among name (names_of (chunks_of size items row)) → ComesFrom items row name
  row_known name = go (current_of items row) refl
    where
      go : (o : Option Stored) → current_of items row ≡ o → Among name (names_of (chunks_in size o)) → ComesFrom items row name
      go None at a = absurd a
      go (Some item) at a =
          let is = is_current item at in
          subst (λ (r : List ℕ). ComesFrom items r name) is.1
          ((named.all item is.0).known name (subst (Among name) (row_names item at) a))
