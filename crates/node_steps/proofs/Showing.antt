-- What is shown of the tables.
use Rattle.std.proofs.Common.{◌≡◌, ℕ, Bool, true, false, List, [], ◌∷◌, length, Option, Some, None, Result, Ok, Err, refl, sym, ◌∙◌, ap, subst, rules}
use Rattle.std.specs.Prelude.{IfOk, IsSome, is_some, option_map, ◌==◌, if◌then◌else◌}
use Rattle.std.specs.Ordering.{nat_cmp}
use Rattle.std.proofs.lemmas.Bool.{eqb-true, eq-eqb}
use Rattle.std.specs.BTreeMap as tree
use Rattle.disk_trait.specs.Calls.{DiskState}
use Rattle.table_model.specs.declared.entry.Entry.{Entry}
use Rattle.step_tables.specs.Facts.{AnswerLine}
use Rattle.step_tables.specs.Facts as facts
use Rattle.step_tables.specs.Messages.{Luck}
use Rattle.step_tables.specs.Messages as messages
use Rattle.step_tables.specs.Store.{current_of}
use Rattle.store_host.specs.declared.host.StoreHost.{StoreHost}
use Rattle.store_host.specs.declared.hosted.Hosted.{Hosted as Kept}
use Rattle.store_host.specs.Holds.{HoldsStore, HoldsTables, HostedThere, store_in, owner_at, is_up_at, is_up_if, is_up_for}
use Rattle.world_tables.specs.World.{Lucks, no_lucks, WorldStep, Hosted, hosted_at, hosted_by, schema_at, refused, answering, entry_lines, history_lines, row_read, row_shown, store_falls, owner_of}
use Rattle.world_tables.specs.World as moves
use Rattle.node_steps.specs.declared.fault.WorldFault.{WorldFault}
use Rattle.node_steps.specs.declared.told.Told.{Told}
use Rattle.node_steps.specs.declared.world.World.{World}
use Rattle.node_steps.specs.Holds.{Holds}
use Rattle.node_steps.specs.Outs.{Goes, read_moves}
use Rattle.node_steps.specs.Calls.{IsDone, Comes}
use Rattle.node_steps.specs.Told.{IsOnly}
use Rattle.node_steps.proofs.Going.{still_goes, failing_goes, store_falls_goes}
use Rattle.node_steps.proofs.Done.{stays, comes_as, no_outs_told}

pub some_of : {X : Type 0} (o : Option X) → true ≡ is_some o → (x : X) × (o ≡ Some x)
some_of None e = absurd cc
some_of (Some x) e = (x, refl)

pub none_of : {X : Type 0} (o : Option X) → false ≡ is_some o → o ≡ None
none_of None e = refl
none_of (Some x) e = absurd cc

pub there_now : {X : Type 0} (o : Option X) → true ≡ is_some o → IsSome o
there_now None e = absurd cc
there_now (Some x) e = search rules

pub there_at : {D : Type 0} (state : D → DiskState) (w : moves.World) (store : StoreHost D) (table : ℕ) → HoldsStore state w store → IsSome (tree.get nat_cmp store.tables table)
    → (hosted : Hosted) × (hosted_at w table ≡ Some hosted)
there_at {D} state w store table h there = go (hosted_at w table) refl (tree.get nat_cmp store.tables table) there (h.tables.there table)
  where
    go : (o : Option Hosted) → hosted_at w table ≡ o → (it : Option (Kept D)) → IsSome it → HostedThere state (owner_of w table) (schema_at w table) table o it → (hosted : Hosted) × (hosted_at w table ≡ Some hosted)
    go (Some hosted) at it there k = (hosted, at)
    go None at None there k = absurd cc
    go None at (Some it) there k = absurd k

-- a table whose owner is up, as one that is there
pub up_for : {D : Type 0} (store : StoreHost D) (table : ℕ) → is_up_at store (owner_at store.tables table) ≡ true → is_up_for store table ≡ true
up_for {D} store table up = go (tree.get nat_cmp store.tables table) up
  where
    go : (it : Option (Kept D)) → is_up_at store (store_in it) ≡ true → is_up_if store it ≡ true
    go None up = refl
    go (Some it) up = up

-- the Store that keeps a table is its owner
pub table_owner : {D : Type 0} (state : D → DiskState) (w : moves.World) (tables : tree.BTreeMap ℕ (Kept D)) (table : ℕ) (hosted : Hosted) → HoldsTables state w tables → hosted_at w table ≡ Some hosted
    → (number : ℕ) → owner_at tables table ≡ number → owner_of w table ≡ number
table_owner {D} state w tables table hosted h at number is =
    go (tree.get nat_cmp tables table) (subst (λ (o : Option Hosted). HostedThere state (owner_of w table) (schema_at w table) table o (tree.get nat_cmp tables table)) at (h.there table)) is
  where
    go : (it : Option (Kept D)) → HostedThere state (owner_of w table) (schema_at w table) table (Some hosted) it → store_in it ≡ number → owner_of w table ≡ number
    go None k is = absurd k
    go (Some it) k is = sym k.owner ∙ is

-- a Store that keeps the table, and one that doesn't
pub kept_here : (w : moves.World) (number table : ℕ) → owner_of w table ≡ number → hosted_by w number table ≡ hosted_at w table
kept_here w number table is = ap (λ (b : Bool). if b then hosted_at w table else None) (eq-eqb (owner_of w table) number is)

pub not_here : (w : moves.World) (number table : ℕ) → (owner_of w table ≡ number → ⊥) → (owner_of w table == number) ≡ false
not_here w number table isnt = go (owner_of w table == number) refl
  where
    go : (b : Bool) → (owner_of w table == number) ≡ b → b ≡ false
    go true is = absurd (isnt (eqb-true (owner_of w table) number is))
    go false is = refl

-- ---- a table that is there, and one that isn't

module _ {D : Type 0} (state : D → DiskState) (w : moves.World) where
  pub comes_there : (table : ℕ) (f : Lucks → Option Hosted → WorldStep) (result : Result Told WorldFault) (new : World D) → true ≡ is_some (hosted_at w table)
      → ((hosted : Hosted) → hosted_at w table ≡ Some hosted → Comes state w (λ lucks. f lucks (Some hosted)) result new) → Comes state w (λ lucks. f lucks (hosted_at w table)) result new
  comes_there table f result new is k =
      let x = some_of (hosted_at w table) is in
      comes_as state w (λ lucks. f lucks (hosted_at w table)) (λ lucks. f lucks (Some x.0)) result new (λ lucks. ap (f lucks) x.1) (k x.0 x.1)

  module _ (world : World D) (h : Holds state w world) (table : ℕ) where
    pub comes_not_there : (f : Lucks → Option Hosted → WorldStep) → ((lucks : Lucks) → f lucks None ≡ refused w facts.NoTable) → (result : Result Told WorldFault)
        → false ≡ is_some (hosted_at w table) → IfOk result (IsOnly (AnswerLine (facts.Refuses facts.NoTable) ∷ []))
        → Comes state w (λ lucks. f lucks (hosted_at w table)) result world
    comes_not_there f none result is k =
        comes_as state w (λ lucks. f lucks (hosted_at w table)) (λ lucks. refused w facts.NoTable) result world (λ lucks. ap (f lucks) (none_of (hosted_at w table) is) ∙ none lucks)
        (stays state w world h (facts.Refuses facts.NoTable) result k)

    -- ---- histories

    pub history_comes : (history : List Entry) → Some history ≡ option_map (λ (x : Hosted). x.history) (hosted_at w table) → (result : Result Told WorldFault)
        → IfOk result (IsOnly (AnswerLine (facts.Number (length history)) ∷ entry_lines table history))
        → Comes state w (λ lucks. history_lines w table (hosted_at w table)) result world
    history_comes history is (Err e) k = tt
    history_comes history is (Ok told) k = go (hosted_at w table) is
      where
        go : (o : Option Hosted) → Some history ≡ option_map (λ (x : Hosted). x.history) o → (lucks : Lucks) × IsDone state w (history_lines w table o) told world
        go None e = absurd cc
        go (Some hosted) e =
            let same : history ≡ hosted.history = cc in (
              no_lucks,
              record {
                lines_are = k.lines_are ∙ ap (λ (es : List Entry). AnswerLine (facts.Number (length es)) ∷ entry_lines table es) same;
                outs_are = no_outs_told (owner_of w) told.outs k.none;
                held = h;
                tables = λ q. refl;
                clients = λ c. refl;
              },
            )

    pub no_history : None ≡ option_map (λ (x : Hosted). x.history) (hosted_at w table) → (result : Result Told WorldFault)
        → IfOk result (IsOnly (AnswerLine (facts.Refuses facts.NoTable) ∷ [])) → Comes state w (λ lucks. history_lines w table (hosted_at w table)) result world
    no_history is result k = comes_not_there (λ lucks o. history_lines w table o) (λ lucks. refl) result (go (hosted_at w table) is) k
      where
        go : (o : Option Hosted) → None ≡ option_map (λ (x : Hosted). x.history) o → false ≡ is_some o
        go None e = refl
        go (Some hosted) e = absurd cc

-- ---- a look at a row

pub read_goes : (w : moves.World) (table : ℕ) (luck : Luck) → Goes w (read_moves w table luck)
read_goes w table messages.Done = still_goes w
read_goes w table messages.FailedBefore = failing_goes w (store_falls (owner_of w table) w) (store_falls_goes (owner_of w table) w)
read_goes w table messages.FailedAfter = failing_goes w (store_falls (owner_of w table) w) (store_falls_goes (owner_of w table) w)

pub read_is : (w : moves.World) (table : ℕ) (hosted : Hosted) (row : List ℕ) (luck : Luck)
    → row_read w table hosted row luck ≡ answering (row_shown (current_of hosted.store.disk.items row)) (read_moves w table luck)
read_is w table hosted row messages.Done = refl
read_is w table hosted row messages.FailedBefore = refl
read_is w table hosted row messages.FailedAfter = refl
