-- The small table, write by write, and devices that are close to it and don't stand for it.
use Rattle.std.proofs.Common.{◌≡◌, inl, inr, ⊎_elim, ℕ, List, [], ◌∷◌, Some, None, refl, sym, ◌∙◌, ap, subst, arith}
use Rattle.stab_base.specs.declared.chunk_name.ChunkName.{ChunkName}
use Rattle.stab_base.specs.declared.node.Node.{Node}
use Rattle.stab_base.specs.declared.node.Node.TheVariants.{Gate}
use Rattle.row_store.specs.Spelling.{IsClient}
use Rattle.store_commit.specs.NamedChunks.{Among}
use Rattle.table_model.specs.declared.table_state.TableState.TheVariants.{Live}
use Rattle.step_tables.specs.Store.{Stored}
use Rattle.step_tables.specs.StoreMoves.{new_disk}
use Rattle.step_tables.specs.Messages.{Pair}
use Rattle.step_tables.specs.Chunks.{chunks_of}
use Rattle.step_tables.proofs.Lists.{among_cons, among_none}
use Rattle.device_laws.specs.Stands.{IsHeld, Stands}
use Rattle.device_laws.specs.Worked.{nothing_in, small, row_id, name, first_request, second_request, first_item, second_item, first_row, second_row, without_last, holding, first_chunks}
use Rattle.device_laws.specs.Worked.{second_chunks, chunks_too_many, chunks_too_few, first_disk, second_disk}
use Rattle.device_laws.proofs.Chunks.{flat, chunk_comes_from}
use Rattle.device_laws.proofs.Empty.{nothing_stands}
use Rattle.device_laws.proofs.Updates.{update_follows}

third : IsClient 3
third = record { least = omega arith; most = omega arith }

abbrev gate : Node
gate = Gate 1

pub first_stands : Stands small (holding first_row first_chunks) first_disk
first_stands =
    let all = update_follows small (nothing_in small Live) (new_disk Live) (nothing_stands small Live) refl first_request refl refl third (omega arith) (omega arith) gate 1 in
    all.2.2.2.2.2.2

pub second_stands : Stands small (holding second_row second_chunks) second_disk
second_stands =
    let all = update_follows small (holding first_row first_chunks) first_disk first_stands refl second_request refl refl third (omega arith) (omega arith) gate 1 in
    all.2.2.2.2.2

-- each chunk that is held is of the one row
held_here : (n : ChunkName) (bytes : List ℕ) → IsHeld 2 second_disk.items n bytes → Among (n, bytes) (flat (chunks_of 2 second_disk.items row_id))
held_here n bytes h =
    let from = chunk_comes_from 2 second_disk.items second_stands.held.numbered second_stands.held.made h.row (n, bytes) h.among in
    let is : from.0.entry.row ≡ row_id = ⊎_elim
    (λ same. ap (λ (i : Stored). i.entry.row) (sym same))
    (λ more. ⊎_elim (λ same. ap (λ (i : Stored). i.entry.row) (sym same)) (λ none. absurd (among_none from.0 none)) (among_cons second_item [] from.0 more))
    (among_cons first_item (second_item ∷ []) from.0 from.1.stands) in
    subst (λ (r : List ℕ). Among (n, bytes) (flat (chunks_of 2 second_disk.items r))) (sym from.1.row_is ∙ is) h.among

not_held : Among (name 1 1, 3 ∷ []) (flat (chunks_of 2 second_disk.items row_id)) → ⊥
not_held (inl same) = absurd (let e : 1 ≡ 0 = ap (λ (x : ChunkName × List ℕ). x.0.ordinal) same in omega (arith, e))
not_held (inr (inl same)) = absurd (let e : 1 ≡ 2 = ap (λ (x : ChunkName × List ℕ). x.0.version) same in omega (arith, e))
not_held (inr (inr (inl same))) = absurd (let e : 1 ≡ 2 = ap (λ (x : ChunkName × List ℕ). x.0.ordinal) same in omega (arith, e))
not_held (inr (inr (inr none))) = none

pub not_too_many : Stands small (holding second_row chunks_too_many) second_disk → ⊥
not_too_many st = ⊎_elim (λ h. not_held (held_here (name 1 1) (3 ∷ []) h)) (λ none. none) (st.chunks.only (name 1 1) (3 ∷ []) refl)

pub not_too_few : Stands small (holding second_row chunks_too_few) second_disk → ⊥
not_too_few st = absurd (let e : None ≡ Some (5 ∷ []) = st.chunks.held (name 2 0) (5 ∷ []) (record { row = row_id; among = inr (inl refl) }) in cc)

pub not_older : (chunks : List (ChunkName × List ℕ)) → Stands small (holding first_row chunks) second_disk → ⊥
not_older chunks st = absurd (let e : 1 ≡ 2 = (st.held.rows row_id).version in omega (arith, e))

pub not_without_last : Stands small (holding without_last second_chunks) second_disk → ⊥
not_without_last st = absurd (let e : 0 ≡ 2 = ap (λ (p : Pair). p.number) ((st.held.rows row_id).lasts 3) in omega (arith, e))
