-- What a table has of a row, as a part is weighed by it, and what a client holds of one.
use Rattle.std.proofs.Common.{◌≡◌, ℕ, ◌<◌, Bool, true, false, List, [], ◌∷◌, ◌++◌, Option, Some, None, refl, sym, ◌∙◌, ap, subst, append-nil, append_assoc, true≢false}
use Rattle.std.specs.Prelude.{◌==◌, ◌&&◌, not, zip, is_some, option_map, if◌then◌else◌}
use Rattle.std.proofs.lemmas.Bool.{eqb-true, and_parts}
use Rattle.std.proofs.lemmas.List.{map-append}
use Rattle.row_value.specs.declared.schema.Schema.{Schema}
use Rattle.stab_base.specs.declared.chunk_name.ChunkName.{ChunkName}
use Rattle.stab_base.specs.declared.node.Node.TheVariants as nodes
use Rattle.table_model.specs.Last.{last_where}
use Rattle.step_tables.specs.Chunks.{Named, flat, each_chunk, objects_of, cut}
use Rattle.step_tables.specs.ClientMoves.{Client, ClientTask, TableDisk, table_at, seen}
use Rattle.step_tables.specs.Store.{Stored, current_of, is_of_row}
use Rattle.step_tables.specs.StoreMoves.{StoreTask, version_of, pair_of, is_by}
use Rattle.step_tables.proofs.Lists.{among_last, last_some}
use Rattle.part_tables.specs.ClientParts.{Held}
use Rattle.part_store.specs.View.{IsViewOf, under_names}
use Rattle.part_store.specs.View as views
use Rattle.part_store.specs.declared.view.RowView.{RowView}
use Rattle.client_node.specs.declared.calls.held.RowHeld.{RowHeld as RowFound}
use Rattle.client_node.specs.HeldRows.{row_held}
use Rattle.store_node.specs.Calls.{IsRowAt}
use Rattle.store_node.specs.declared.showing.WholeRow.{WholeRow}
use Rattle.journal_host.specs.Calls.{if_open, held_by, has_table}
use Rattle.wire_tables.specs.Wire.{Wire, is_hosted_up, is_client_up}
use Rattle.wire_laws.specs.Carried.{is_open_in}
use Rattle.wire_laws.proofs.Carried.{reached_world}
use Rattle.world_tables.specs.Ready.{is_idle, is_idle_table, is_table_ready, is_idle_client, is_client_ready}
use Rattle.world_tables.specs.World.{World as AWorld, Hosted, schema_at, hosted_at, client_at, chunk_in, owner_of, has_store, is_down, is_cut}
use Rattle.world_laws.proofs.Owners.{up_store}
use Rattle.fair_laws.specs.Worlds.{IsFair}
use Rattle.fair_laws.proofs.Worlds.{reached_fair, fits_opened}
use Rattle.wire_steps.specs.Reached.{IsReached}
use Rattle.wire_steps.specs.Delivering.{takes_at}

-- ---- chunks under their names

pub named_both : (xs ys : List Named) → under_names (xs ++ ys) ≡ under_names xs ++ under_names ys
named_both xs ys = map-append (λ (chunk : Named). (Some chunk.0, chunk.1)) xs ys

pub no_names : (size : ℕ) (objects : List (List ℕ)) → flat (each_chunk {X = ChunkName} size [] objects) ≡ []
no_names size [] = refl
no_names size (object ∷ objects) = none (cut size object) (no_names size objects)
  where
    none : (chunks : List (List ℕ)) → flat (each_chunk {X = ChunkName} size [] objects) ≡ [] → zip [] chunks ++ flat (each_chunk {X = ChunkName} size [] objects) ≡ []
    none [] rest = rest
    none (chunk ∷ chunks) rest = rest

-- where no names are left
pub named_end : (size : ℕ) (names : List (List ChunkName)) (objects : List (List ℕ)) (now all : List Held) → names ≡ []
    → now ++ under_names (flat (each_chunk size names objects)) ≡ all → now ≡ all
named_end size names objects now all none so_far =
    sym (append-nil now) ∙ (ap (λ (l : List Named). now ++ under_names l) (sym (no_names size objects))
    ∙ (ap (λ (ns : List (List ChunkName)). now ++ under_names (flat (each_chunk size ns objects))) (sym none) ∙ so_far))

-- where no chunks are left
pub nothing_left : (now : List Held) (names : List ChunkName) (chunks : List (List ℕ)) (all : List Held) → chunks ≡ [] → now ++ under_names (zip names chunks) ≡ all → now ≡ all
nothing_left now names chunks all none so_far =
    sym (append-nil now) ∙ (ap (λ (l : List Named). now ++ under_names l) (sym (no_chunks names)) ∙ (ap (λ (l : List (List ℕ)). now ++ under_names (zip names l)) (sym none) ∙ so_far))
  where
    no_chunks : (ns : List ChunkName) → ◌≡◌ {A = List Named} (zip ns []) []
    no_chunks [] = refl
    no_chunks (n ∷ ns) = refl

-- one object more
pub more_named : (size : ℕ) (names : List ChunkName) (others : List (List ChunkName)) (object : List ℕ) (objects : List (List ℕ)) (before now after : List Held) (all : List Held)
    → now ++ under_names (flat (each_chunk size (names ∷ others) (object ∷ objects))) ≡ all → after ≡ now ++ under_names (zip names (cut size object))
    → after ++ under_names (flat (each_chunk size others objects)) ≡ all
more_named size names others object objects before now after all so_far is =
    ap (λ (l : List Held). l ++ under_names (flat (each_chunk size others objects))) is
    ∙ (append_assoc now (under_names (zip names (cut size object))) (under_names (flat (each_chunk size others objects)))
    ∙ (ap (λ (l : List Held). now ++ l) (sym (named_both (zip names (cut size object)) (flat (each_chunk size others objects)))) ∙ so_far))

-- ---- a row that nothing was written to

none_by : (client : ℕ) (row : List ℕ) (items : List Stored) → current_of items row ≡ None → last_where (is_by client row) items ≡ None
none_by client row items none = go (last_where (is_by client row) items) refl
  where
    both : (a b : Bool) → (a && b) ≡ true → b ≡ true
    both true b is = is
    both false b is = absurd (true≢false (sym is))

    go : (o : Option Stored) → last_where (is_by client row) items ≡ o → last_where (is_by client row) items ≡ None
    go None at = at
    go (Some item) at =
        let a = among_last (is_by client row) items item at in
        let k = last_some (is_of_row row) items item a.0 (both _ (is_of_row row item) a.1) in
        absurd (let bad : Some k.0 ≡ None = sym k.1 ∙ none in cc)

pub nothing_viewed : (size : ℕ) (items : List Stored) (client : ℕ) (row : List ℕ) (view : RowView) → current_of items row ≡ None → view.version ≡ 0
    → views.pair_of view.yours ≡ record { number = 0; version = 0 } → view.chunks.items ≡ [] → IsViewOf size items client row view
nothing_viewed size items client row view none version yours chunks = record {
  version_is = version ∙ sym (ap version_of none);
  yours_is = yours ∙ sym (ap pair_of (none_by client row items none));
  chunks_are = chunks ∙ sym (ap (λ (o : Option Stored). under_names (flat (chunks_now o))) none);
}
  where
    chunks_now : Option Stored → List (List Named)
    chunks_now None = []
    chunks_now (Some item) = each_chunk size item.names (objects_of item.content)

-- no row was found
pub none_now : (items : List Stored) (row : List ℕ) (o : Option Stored) (found : Option WholeRow) → IsRowAt items row o found → found ≡ None → o ≡ None
none_now items row None found k is = refl
none_now items row (Some item) None k is = absurd k
none_now items row (Some item) (Some x) k is = absurd cc

-- ---- tables and clients that take messages

pub record IsReadyTable (w : AWorld) (table : ℕ) : Type 0 where
  pub hosted : Hosted
  pub there : hosted_at w table ≡ Some hosted
  pub idle : hosted.store.agenda ≡ Some []
  pub up : is_down w (nodes.Store (owner_of w table)) ≡ false

idle_is : {X : Type 0} (o : Option (List X)) → is_idle o ≡ true → o ≡ Some []
idle_is None e = absurd (true≢false (sym e))
idle_is (Some []) e = refl
idle_is (Some (x ∷ xs)) e = absurd (true≢false (sym e))

pub ready_table : (w : AWorld) (table : ℕ) → is_table_ready w table ≡ true → IsReadyTable w table
ready_table w table ready = by (is_down w (nodes.Store (owner_of w table))) refl ready
  where
    at : is_down w (nodes.Store (owner_of w table)) ≡ false → (o : Option Hosted) → hosted_at w table ≡ o → is_idle_table o ≡ true → IsReadyTable w table
    at up None there e = absurd (true≢false (sym e))
    at up (Some hosted) there e = record { hosted = hosted; there = there; idle = idle_is hosted.store.agenda e; up = up }

    by : (b : Bool) → is_down w (nodes.Store (owner_of w table)) ≡ b → (not b && is_idle_table (hosted_at w table)) ≡ true → IsReadyTable w table
    by true down e = absurd (true≢false (sym e))
    by false up e = at up (hosted_at w table) refl e

pub record IsReadyClient (w : AWorld) (c : ℕ) : Type 0 where
  pub node : Client
  pub there : client_at w c ≡ Some node
  pub idle : node.agenda ≡ Some []

pub ready_client : (w : AWorld) (c : ℕ) → is_client_ready w c ≡ true → IsReadyClient w c
ready_client w c ready = by (is_cut w c) ready
  where
    at : (o : Option Client) → client_at w c ≡ o → is_idle_client o ≡ true → IsReadyClient w c
    at None there e = absurd (true≢false (sym e))
    at (Some node) there e = record { node = node; there = there; idle = idle_is node.agenda e }

    by : (b : Bool) → (not b && is_idle_client (client_at w c)) ≡ true → IsReadyClient w c
    by true e = absurd (true≢false (sym e))
    by false e = at (client_at w c) refl e

-- its owner is declared
pub owner_there : (w : AWorld) (table : ℕ) → is_table_ready w table ≡ true → has_store w (owner_of w table) ≡ true
owner_there w table ready = (up_store w (owner_of w table) (ready_table w table ready).up).0

-- a Store that keeps a table which takes messages
pub takes_both : (w : AWorld) (store table : ℕ) → takes_at w store table ≡ true → (owner_of w table ≡ store) × (is_table_ready w table ≡ true)
takes_both w store table takes = let k = and_parts (owner_of w table == store) (is_table_ready w table) takes in (eqb-true (owner_of w table) store k.0, k.1)

-- they are up
pub table_up : (w : AWorld) (table : ℕ) → is_table_ready w table ≡ true → is_hosted_up (hosted_at w table) ≡ true
table_up w table ready =
    let k = ready_table w table ready in ap is_hosted_up k.there ∙ ap (λ (o : Option (List StoreTask)). is_some o) k.idle

pub client_up : (w : AWorld) (c : ℕ) → is_client_ready w c ≡ true → is_client_up (client_at w c) ≡ true
client_up w c ready = let k = ready_client w c ready in ap is_client_up k.there ∙ ap (λ (o : Option (List ClientTask)). is_some o) k.idle

-- the chunks of a declared table have some size
pub some_size : (w : AWorld) → IsFair w → (table : ℕ) (hosted : Hosted) → hosted_at w table ≡ Some hosted → 0 < chunk_in (schema_at w table)
some_size w f table hosted there = go (schema_at w table) refl
  where
    go : (o : Option Schema) → schema_at w table ≡ o → 0 < chunk_in (schema_at w table)
    go (Some schema) at = subst (λ (o : Option Schema). 0 < chunk_in o) (sym at) (f.made table schema at).size
    go None at = absurd (true≢false (sym (sym (ap (λ (o : Option Schema). is_some o) at) ∙ (f.both table ∙ ap (λ (o : Option Hosted). is_some o) there))))

pub chunk_there : (v : Wire) → IsReached v → (table : ℕ) → is_table_ready v.world table ≡ true → 0 < chunk_in (schema_at v.world table)
chunk_there v r table ready =
    let k = ready_table v.world table ready in some_size v.world (reached_fair v.world (reached_world v r.run r.built r.is)) table k.hosted k.there

-- those of an opened table
pub opened_size : (w : AWorld) → IsFair w → (c : ℕ) (node : Client) → client_at w c ≡ Some node → (table : ℕ) (opened : TableDisk) → table_at (seen node.disk) table ≡ Some opened
    → 0 < opened.schema.chunk
opened_size w f c node there table opened at = (f.made table opened.schema (fits_opened (schema_at w) c node (f.clients c node there) table opened at)).size

-- ---- what is opened

pub record IsOpened (w : AWorld) (c table : ℕ) : Type 0 where
  pub node : Client
  pub there : client_at w c ≡ Some node
  pub opened : TableDisk
  pub at : table_at (seen node.disk) table ≡ Some opened
  pub free : opened.closed ≡ false

pub opened_there : (w : AWorld) (c table : ℕ) → true ≡ has_table (client_at w c) table → IsOpened w c table
opened_there w c table e = go (client_at w c) refl e
  where
    by_table : (node : Client) → client_at w c ≡ Some node → (o : Option TableDisk) → table_at (seen node.disk) table ≡ o → true ≡ is_some (if_open o) → IsOpened w c table
    by_table node there None at e = absurd (true≢false e)
    by_table node there (Some opened) at e = by_closed opened.closed refl e
      where
        by_closed : (b : Bool) → opened.closed ≡ b → true ≡ is_some (if b then None else Some opened) → IsOpened w c table
        by_closed true closed e = absurd (true≢false e)
        by_closed false free e = record { node = node; there = there; opened = opened; at = at; free = free }

    go : (o : Option Client) → client_at w c ≡ o → true ≡ has_table o table → IsOpened w c table
    go None there e = absurd (true≢false e)
    go (Some node) there e = by_table node there (table_at (seen node.disk) table) refl e

pub not_opened : (w : AWorld) (c table : ℕ) (node : Client) → client_at w c ≡ Some node → false ≡ has_table (client_at w c) table → is_open_in (table_at (seen node.disk) table) ≡ false
not_opened w c table node there e = go (table_at (seen node.disk) table) (e ∙ ap (λ (o : Option Client). has_table o table) there)
  where
    by_closed : (b : Bool) (opened : TableDisk) → false ≡ is_some (if b then None else Some opened) → not b ≡ false
    by_closed true opened e = refl
    by_closed false opened e = sym e

    go : (o : Option TableDisk) → false ≡ is_some (if_open o) → is_open_in o ≡ false
    go None e = refl
    go (Some opened) e = by_closed opened.closed opened e

-- what is held of a row of an opened table
pub held_there : (w : AWorld) (c table : ℕ) (row : List ℕ) (found : Option RowFound) → found ≡ held_by (client_at w c) table row → (node : Client) → client_at w c ≡ Some node
    → (opened : TableDisk) → table_at (seen node.disk) table ≡ Some opened → opened.closed ≡ false → found ≡ Some (row_held row opened)
held_there w c table row found is node there opened at free =
    is ∙ (ap (λ (o : Option Client). held_by o table row) there ∙ (ap (λ (o : Option TableDisk). option_map (row_held row) (if_open o)) at
    ∙ ap (λ (b : Bool). option_map (row_held row) (if b then None else Some opened)) free))

-- its chunks have some size
pub found_size : (w : AWorld) → IsFair w → (c table : ℕ) (row : List ℕ) (x : RowFound) → Some x ≡ held_by (client_at w c) table row → 0 < x.chunk
found_size w f c table row x is = go (client_at w c) refl is
  where
    by_table : (node : Client) → client_at w c ≡ Some node → (o : Option TableDisk) → table_at (seen node.disk) table ≡ o → Some x ≡ option_map (row_held row) (if_open o) → 0 < x.chunk
    by_table node there None at e = absurd cc
    by_table node there (Some opened) at e = by_closed opened.closed e
      where
        by_closed : (b : Bool) → Some x ≡ option_map (row_held row) (if b then None else Some opened) → 0 < x.chunk
        by_closed true e = absurd cc
        by_closed false e =
            let same : x ≡ row_held row opened = cc in subst (λ (y : RowFound). 0 < y.chunk) (sym same) (opened_size w f c node there table opened at)

    go : (o : Option Client) → client_at w c ≡ o → Some x ≡ held_by o table row → 0 < x.chunk
    go None there e = absurd cc
    go (Some node) there e = by_table node there (table_at (seen node.disk) table) refl e
