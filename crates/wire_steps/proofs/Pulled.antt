-- A pull of a client, which asks for torn rows where it takes messages.
use Rattle.std.proofs.Common.{◌≡◌, ◌≢◌, ℕ, Bool, true, false, List, [], ◌∷◌, map, refl, sym, ◌∙◌, ap, true≢false}
use Rattle.std.specs.Prelude.{◌==◌, ◌&&◌, ◌||◌, filter, if◌then◌else◌}
use Rattle.std.specs.List.{list_any}
use Rattle.std.specs.BTreeSet.{insert_key}
use Rattle.std.specs.declared.cmp.Ordering.{Ordering}
use Rattle.std.specs.declared.cmp.Ordering.TheVariants.{Less, Equal, Greater}
use Rattle.std.specs.Ordering.{match_ordering, nat_cmp}
use Rattle.std.specs.BTreeMap as tree
use Rattle.disk_trait.specs.Calls.{DiskState}
use Rattle.std.proofs.lemmas.Bool.{eq-eqb}
use Rattle.table_model.specs.declared.event.Event.TheVariants as events
use Rattle.table_model.specs.History.{same_row}
use Rattle.step_tables.specs.Client.{row_cmp}
use Rattle.step_tables.proofs.Lists.{same_row-refl}
use Rattle.world_tables.specs.Ready.{is_client_ready}
use Rattle.world_tables.specs.World.{Lucks, step}
use Rattle.part_tables.specs.Arriving.{Arriving, same_torn, with_torn, with_all_torn, rising_rows, unfinished, asking, torn_rows}
use Rattle.part_client.specs.declared.arriving.Arriving.{Arriving as Keeping}
use Rattle.wire_tables.specs.Wire.{Wire, WireStep, arriving_at, with_arriving, pulling, spread, wire_step}
use Rattle.wire_steps.specs.declared.world.World.{World}
use Rattle.wire_steps.specs.Reached.{IsReached}
use Rattle.wire_steps.specs.Holds.{Holds, HoldsMemory, KeepsThere}
use Rattle.wire_steps.specs.Calls.{IsToPull, pull_step}
use Rattle.wire_steps.proofs.Delivered.{wire_reached}
use Rattle.wire_steps.proofs.Remembering.{memory_arrived}
use Rattle.wire_steps.proofs.Viewed.{client_up}

-- ---- where there are rows to tell as torn, there are rows to ask for

inserted_some : (row : List ℕ) (rows : List (List ℕ)) → insert_key row_cmp rows row ≡ [] → ⊥
inserted_some row [] e = absurd cc
inserted_some row (x ∷ xs) e = pick (row_cmp row x) e
  where
    pick : (o : Ordering) → match_ordering o (row ∷ x ∷ xs) (x ∷ xs) (x ∷ insert_key row_cmp xs row) ≡ [] → ⊥
    pick Less e = absurd cc
    pick Equal e = absurd cc
    pick Greater e = absurd cc

none_rise : (rows : List (List ℕ)) → rising_rows rows ≡ [] → rows ≡ []
none_rise [] e = refl
none_rise (row ∷ rows) e = absurd (inserted_some row (rising_rows rows) e)

module _ (table : ℕ) where
  abbrev of_table : ℕ × List ℕ → Bool
  of_table torn = torn.0 == table

  mapped_none : (xs : List (ℕ × List ℕ)) → map (λ (torn : ℕ × List ℕ). torn.1) xs ≡ [] → xs ≡ []
  mapped_none [] e = refl
  mapped_none (x ∷ xs) e = absurd cc

  -- one of the table is left
  one_left : (row : List ℕ) (some : List (ℕ × List ℕ)) → list_any (same_torn table row) some ≡ true → filter of_table some ≡ [] → ⊥
  one_left row [] any none = absurd (true≢false (sym any))
  one_left row (x ∷ xs) any none = go (x.0 == table) refl (λ more e. one_left row xs more e) none
    where
      front : (b c d : Bool) → ((b && c) || d) ≡ true → b ≡ false → d ≡ true
      front true c d e f = absurd (true≢false f)
      front false c d e f = e

      go : (b : Bool) → (x.0 == table) ≡ b → (list_any (same_torn table row) xs ≡ true → filter of_table xs ≡ [] → ⊥)
          → (if b then x ∷ filter of_table xs else filter of_table xs) ≡ [] → ⊥
      go true is rest e = absurd cc
      go false is rest e = rest (front (x.0 == table) (same_row x.1 row) (list_any (same_torn table row) xs) any is) e

  torn_there : (row : List ℕ) (some : List (ℕ × List ℕ)) → list_any (same_torn table row) (with_torn table row some) ≡ true
  torn_there row some = go (list_any (same_torn table row) some) refl
    where
      itself : (table == table) ≡ true → ((table == table) && same_row row row) ≡ true
      itself e = ap (λ (b : Bool). b && same_row row row) e ∙ same_row-refl row

      go : (b : Bool) → list_any (same_torn table row) some ≡ b → list_any (same_torn table row) (if b then some else (table, row) ∷ some) ≡ true
      go true is = is
      go false is = ap (λ (b : Bool). b || list_any (same_torn table row) some) (itself (eq-eqb table table refl))

  pub none_asked : (a : Arriving) → torn_rows table (asking table a) ≡ [] → unfinished table a ≡ []
  none_asked a none = go (unfinished table a) refl
    where
      left : filter of_table (with_all_torn table (unfinished table a) a.torn) ≡ []
      left = mapped_none (filter of_table (with_all_torn table (unfinished table a) a.torn)) (none_rise _ none)

      go : (rows : List (List ℕ)) → unfinished table a ≡ rows → rows ≡ []
      go [] is = refl
      go (row ∷ rows) is = absurd (one_left row (with_torn table row (with_all_torn table rows a.torn)) (torn_there row (with_all_torn table rows a.torn))
          (ap (λ (rs : List (List ℕ)). filter of_table (with_all_torn table rs a.torn)) (sym is) ∙ left))

-- ---- as steps of the wire

module _ (v : Wire) (c table : ℕ) (lucks : Lucks) where
  abbrev by_ready : Bool → WireStep
  by_ready b = if b
      then spread (with_arriving c (asking table (arriving_at v c)) v) (step v.world (events.Pull c table) (pulling v c table lucks))
      else spread v (step v.world (events.Pull c table) (record lucks { tears = []; asks = [] }))

  pulls_next : is_client_ready v.world c ≡ false → wire_step v (events.Pull c table) lucks ≡ pull_step v c table [] [] lucks
  pulls_next e = ap by_ready e

  pub pulls_torn : is_client_ready v.world c ≡ true → (tears asks : List (List ℕ)) → tears ≡ unfinished table (arriving_at v c) → asks ≡ torn_rows table (asking table (arriving_at v c))
      → wire_step v (events.Pull c table) lucks ≡ pull_step (with_arriving c (asking table (arriving_at v c)) v) c table tears asks lucks
  pulls_torn e tears asks t k =
      ap by_ready e
      ∙ (ap (λ (rows : List (List ℕ)). pull_step (with_arriving c (asking table (arriving_at v c)) v) c table rows (torn_rows table (asking table (arriving_at v c))) lucks) (sym t)
      ∙ ap (λ (rows : List (List ℕ)). pull_step (with_arriving c (asking table (arriving_at v c)) v) c table tears rows lucks) (sym k))

-- one that isn't ready tells and asks for none
pub pulls_none : (v : Wire) (c table : ℕ) → is_client_ready v.world c ≡ false → (lucks : Lucks) → wire_step v (events.Pull c table) lucks ≡ wire_step v (events.Ask c table) lucks
pulls_none v c table idle lucks = pulls_next v c table lucks idle

-- and so does one that asks for the next change, whatever is torn
pub asks_none : (v : Wire) (c table : ℕ) (tears asks : List (List ℕ)) → tears ≡ [] → asks ≡ [] → (lucks : Lucks)
    → wire_step v (events.Ask c table) lucks ≡ pull_step v c table tears asks lucks
asks_none v c table tears asks t k lucks =
    (ap (λ (rows : List (List ℕ)). pull_step v c table rows [] lucks) (sym t) ∙ ap (λ (rows : List (List ℕ)). pull_step v c table tears rows lucks) (sym k))

-- one that is ready keeps what it asks for
module _ {D : Type 0} (state : D → DiskState) (v : Wire) (r : IsReached v) (world : World D) (h : Holds state v world) (c table : ℕ) (ready : is_client_ready v.world c ≡ true)
    (after : tree.BTreeMap ℕ Keeping) (kept : KeepsThere (asking table (arriving_at v c)) (tree.get nat_cmp after c))
    (others : (q : ℕ) → q ≢ c → tree.get nat_cmp after q ≡ tree.get nat_cmp world.arriving q) where
  pub torn_memory : HoldsMemory (with_arriving c (asking table (arriving_at v c)) v) world.gathered after
  torn_memory = memory_arrived v world.gathered world.arriving h.memory c (asking table (arriving_at v c)) after (client_up v.world c ready) kept others

  abbrev pub torn_pull : IsToPull state (record world { arriving = after })
  torn_pull = record {
    kept = with_arriving c (asking table (arriving_at v c)) v;
    reached = wire_reached v r;
    held = record { nodes = h.nodes; packets = h.packets; memory = torn_memory };
  }
