-- Each table that was made is up where no crash and no disk has taken its owner down: what moves make of that.
use Rattle.std.proofs.Common.{◌≡◌, ◌≢◌, ◌⊎◌, inl, inr, ℕ, Bool, true, false, List, [], ◌∷◌, Option, Some, None, refl, sym, ap, ◌∙◌, subst, ⊎_elim, true≢false}
use Rattle.std.specs.Prelude.{◌==◌, ◌&&◌, ◌||◌, nat_lt, not, if◌then◌else◌}
use Rattle.std.specs.List.{list_any}
use Rattle.std.specs.Map.{keys_of}
use Rattle.stab_base.specs.declared.node.Node.{Node}
use Rattle.stab_base.specs.declared.node.Node.TheVariants as nodes
use Rattle.row_value.specs.declared.schema.Scheme.{Scheme}
use Rattle.step_tables.specs.Chunks.{is_spelled}
use Rattle.step_tables.specs.Store.{Stored, current_of}
use Rattle.step_tables.specs.Messages.{Request, Pair, Message, Luck, SyncRequest, SyncResponse, PullRequest, PullResponse, TornRowRequest, TornRowResponse}
use Rattle.step_tables.specs.Facts as facts
use Rattle.step_tables.specs.Messages as messages
use Rattle.step_tables.specs.StoreMoves as store
use Rattle.step_tables.specs.StoreMoves.{StoreDisk, StoreTask, StoreMove, SidePut, StoreStep}
use Rattle.world_tables.specs.World.{World, Hosted, Moved, schema_at, hosted_at, owner_of, has_store, tables_of, has_node, without_down, is_unmade, has_unmade, scheme_in, chunk_in, and_then, and_unless}
use Rattle.world_tables.specs.World.{first_luck, other_lucks, after_table, table_step, move_hosted, move_table, declared_late, start_hosted, table_starts, table_falls, tables_fall, tables_start, table_crashes, busy_table}
use Rattle.store_host.specs.Holds.{IsUpAt, AreUp, AreUpBut, behind_step}
use Rattle.store_host.specs.Calls.{restart_moves}
use Rattle.store_host.proofs.Maps.{look_cases, has, has_found}
use Rattle.store_host.proofs.Alike.{IsKept, owner_same, tables_same}
use Rattle.store_host.proofs.Downs.{number_itself, number_apart, same_or_apart, others_stay, owns, of_owner, busy_owner, any_alike, any_none}

-- ---- a table's moves

module _ (x : Scheme) (size table : ℕ) (d : StoreDisk) where
  judged_up : (from : Node) (q : Request) (current : ℕ) → IsUpAt (store.judged x size table d from q current).store.agenda
  judged_up from q current = go (store.takes x q.base current && store.keeps_there size d.items q)
    where
      go : (b : Bool) → IsUpAt (if b then store.quiet d (Some (store.accepting size table d.items from q (store.item_for d.items q))) facts.Done
          else store.sending d (store.responded from q (store.unaccepted x q.base current) ∷ [])).store.agenda
      go true = (_, refl)
      go false = ([], refl)

  decided_up : (from : Node) (q : Request) (yours : Pair) → IsUpAt (store.decided x size table d from q yours).store.agenda
  decided_up from q yours = go (yours.number == q.number) (nat_lt q.number yours.number)
    where
      go : (a b : Bool) → IsUpAt (if a then store.sending d (store.responded from q (messages.Again yours.version) ∷ [])
          else (if b then store.sending d (store.responded from q (messages.Late yours.number) ∷ [])
          else store.judged x size table d from q (store.version_of (current_of d.items q.row)))).store.agenda
      go true b = ([], refl)
      go false true = ([], refl)
      go false false = judged_up from q (store.version_of (current_of d.items q.row))

  asked_up : (from : Node) (q : Request) → IsUpAt (store.asked x size table d from q).store.agenda
  asked_up from q = go (is_spelled size q.content q.pieces)
    where
      go : (b : Bool) → IsUpAt (if b then store.decided x size table d from q (store.yours_in d.items q.client q.row) else store.quiet d (Some []) facts.Done).store.agenda
      go true = decided_up from q (store.yours_in d.items q.client q.row)
      go false = ([], refl)

  taken_up : (agenda : List StoreTask) (from : Node) (m : Message) → IsUpAt (store.taken x size table d (Some agenda) from m).store.agenda
  taken_up (task ∷ more) from m = (task ∷ more, refl)
  taken_up [] from (SyncRequest q) = asked_up from q
  taken_up [] from (PullRequest q) = ([], refl)
  taken_up [] from (SyncResponse q) = ([], refl)
  taken_up [] from (PullResponse q) = ([], refl)
  taken_up [] from (TornRowRequest q) = ([], refl)
  taken_up [] from (TornRowResponse q) = ([], refl)

  pub taken_at : (o : Option (List StoreTask)) → IsUpAt o → (from : Node) (m : Message) → IsUpAt (store.taken x size table d o from m).store.agenda
  taken_at None up from m = absurd (let e = up.1 in cc)
  taken_at (Some agenda) up from m = taken_up agenda from m

  pub placed_at : (o : Option (List StoreTask)) → IsUpAt o → (put : SidePut) → IsUpAt (store.placed table d o put).store.agenda
  placed_at None up put = absurd (let e = up.1 in cc)
  placed_at (Some (task ∷ more)) up put = (task ∷ more, refl)
  placed_at (Some []) up put = (_, refl)

  pub done_at : (o : Option (List StoreTask)) → IsUpAt o → IsUpAt (store.done d o).store.agenda
  done_at None up = absurd (let e = up.1 in cc)
  done_at (Some []) up = ([], refl)
  done_at (Some (task ∷ more)) up = (more, refl)

  started_at : (number : ℕ) (o : Option (List StoreTask)) → IsUpAt (store.started number table d o).store.agenda
  started_at number (Some agenda) = (agenda, refl)
  started_at number None = recover d.pending
    where
      found : (pending : Stored) (i : Option Stored) → IsUpAt (store.recovered number table d pending i).store.agenda
      found pending None = (_, refl)
      found pending (Some i) = (_, refl)

      recover : (o : Option Stored) → IsUpAt (store.recover number table d o).store.agenda
      recover None = (_, refl)
      recover (Some pending) = found pending (store.item_at pending.entry.version d.items)

-- ---- one table's moves, in a world

-- behind a step of a table
after_cases : (w : World) (table : ℕ) (hosted : Hosted) (s : StoreStep) (q : ℕ) (found : Hosted) → hosted_at (after_table w table hosted s).world q ≡ Some found
    → ((q ≡ table) × (behind_step hosted s ≡ found)) ⊎ ((q ≢ table) × (hosted_at w q ≡ Some found))
after_cases w table hosted s q found at = ⊎_elim
    (λ e. let both : Some (behind_step hosted s) ≡ Some found = sym e.1 ∙ at in let same : behind_step hosted s ≡ found = cc in inl (e.0, same))
    (λ e. inr (e.0, sym e.1 ∙ at)) (look_cases w.tables table (behind_step hosted s) q)

move_up : (w : World) (table : ℕ) (move : StoreMove)
    → ((hosted : Hosted) → hosted_at w table ≡ Some hosted → IsUpAt hosted.store.agenda → IsUpAt (table_step w table hosted move).store.agenda) → AreUp w → AreUp (move_table table move w).world
move_up w table move f all = go (hosted_at w table) refl
  where
    go : (o : Option Hosted) → hosted_at w table ≡ o → AreUp (move_hosted w table move o).world
    go None at = all
    go (Some hosted) at = λ q found there made out. ⊎_elim
        (λ e. subst (λ (x : Hosted). IsUpAt x.store.agenda) e.1
        (f hosted at (all table hosted at (ap (λ (x : Hosted). x.made) e.1 ∙ made) (ap (λ (n : ℕ). has_node w.downs (nodes.Store (owner_of w n))) (sym e.0) ∙ out))))
        (λ e. all q found e.1 made out)
        (after_cases w table hosted (table_step w table hosted move) q found there)

pub take_up : (w : World) (table : ℕ) (from : Node) (m : Message) → AreUp w → AreUp (move_table table (store.Take from m) w).world
take_up w table from m up = move_up w table (store.Take from m)
    (λ hosted at is. taken_at (scheme_in (schema_at w table)) (chunk_in (schema_at w table)) table hosted.store.disk hosted.store.agenda is from m) up

pub place_up : (w : World) (table : ℕ) (put : SidePut) → AreUp w → AreUp (move_table table (store.Place put) w).world
place_up w table put up = move_up w table (store.Place put)
    (λ hosted at is. placed_at (scheme_in (schema_at w table)) (chunk_in (schema_at w table)) table hosted.store.disk hosted.store.agenda is put) up

pub work_up : (w : World) (table : ℕ) → AreUp w → AreUp (move_table table (store.Work messages.Done) w).world
work_up w table up = move_up w table (store.Work messages.Done)
    (λ hosted at is. done_at (scheme_in (schema_at w table)) (chunk_in (schema_at w table)) table hosted.store.disk hosted.store.agenda is) up

-- ---- a move of one table of a Store, whatever it makes of it

pub up_but : (w : World) (number : ℕ) → AreUp w → AreUpBut w number
up_but w number all q found at made out apart = all q found at made out

pub move_but : (w : World) (number table : ℕ) (move : StoreMove) → owner_of w table ≡ number → AreUp w → AreUpBut (move_table table move w).world number
move_but w number table move own all = go (hosted_at w table)
  where
    go : (o : Option Hosted) → AreUpBut (move_hosted w table move o).world number
    go None = up_but w number all
    go (Some hosted) = λ q found there made out apart. ⊎_elim
        (λ e. absurd (apart (ap (owner_of w) e.0 ∙ own)))
        (λ e. all q found e.1 made out)
        (after_cases w table hosted (table_step w table hosted move) q found there)

pub crash_but : (w : World) (number : ℕ) (luck : Luck) → AreUp w → AreUpBut (table_crashes luck (busy_table w number) w).world number
crash_but w number luck all = go (busy_table w number) refl
  where
    go : (o : Option ℕ) → busy_table w number ≡ o → AreUpBut (table_crashes luck o w).world number
    go None is = up_but w number all
    go (Some table) is = move_but w number table (store.Crash luck) (busy_owner w number table is) all

-- ---- tables that don't move

move_other : (w : World) (table : ℕ) (move : StoreMove) (q : ℕ) → q ≢ table → hosted_at (move_table table move w).world q ≡ hosted_at w q
move_other w table move q apart = go (hosted_at w table)
  where
    go : (o : Option Hosted) → hosted_at (move_hosted w table move o).world q ≡ hosted_at w q
    go None = refl
    go (Some hosted) = ⊎_elim (λ e. absurd (apart e.0)) (λ e. e.1) (look_cases w.tables table (behind_step hosted (table_step w table hosted move)) q)

start_other : (w : World) (table q : ℕ) → q ≢ table → hosted_at (table_starts table messages.Done w).world q ≡ hosted_at w q
start_other w table q apart = go (hosted_at w table)
  where
    go : (o : Option Hosted) → hosted_at (start_hosted w table o).world q ≡ hosted_at w q
    go None = refl
    go (Some hosted) = by_made hosted.made
      where
        late : StoreStep
        late = declared_late (owner_of w table) table hosted.store.disk.state

        by_made : (b : Bool) → hosted_at (if b then move_table table store.Start w else after_table w table (record hosted { made = true }) late).world q ≡ hosted_at w q
        by_made true = move_other w table store.Start q apart
        by_made false = ⊎_elim (λ e. absurd (apart e.0)) (λ e. e.1) (look_cases w.tables table (behind_step (record hosted { made = true }) late) q)

not_head : (k : ℕ) (ks : List ℕ) (q : ℕ) → has (k ∷ ks) q ≡ false → (q ≢ k) × (has ks q ≡ false)
not_head k ks q none = go (q == k) refl
  where
    go : (b : Bool) → (q == k) ≡ b → (q ≢ k) × (has ks q ≡ false)
    go true is = absurd (true≢false (sym (ap (λ (b : Bool). b || has ks q) is) ∙ none))
    go false is = (
      λ e. true≢false (sym (ap (λ (n : ℕ). q == n) (sym e) ∙ number_itself q) ∙ is),
      sym (ap (λ (b : Bool). b || has ks q) is) ∙ none,
    )

pub falls_other : (ks : List ℕ) (w : World) (q : ℕ) → has ks q ≡ false → hosted_at (tables_fall ks w).world q ≡ hosted_at w q
falls_other [] w q none = refl
falls_other (k ∷ ks) w q none =
    let n = not_head k ks q none in
    falls_other ks (table_falls k w).world q n.1 ∙ move_other w k (store.Crash messages.FailedBefore) q n.0

starts_other : (ks : List ℕ) (lucks : List Luck) (w : World) (q : ℕ) → has ks q ≡ false → hosted_at (tables_start ks lucks w).world q ≡ hosted_at w q
starts_other [] lucks w q none = refl
starts_other (k ∷ ks) lucks w q none = by_luck (λ v. starts_other ks (other_lucks lucks) v q (not_head k ks q none).1) (first_luck lucks)
  where
    rest : Moved → Moved
    rest m = and_unless m (tables_start ks (other_lucks lucks))

    by_luck : ((v : World) → hosted_at (tables_start ks (other_lucks lucks) v).world q ≡ hosted_at v q) → (luck : Luck) → hosted_at (rest (table_starts k luck w)).world q ≡ hosted_at w q
    by_luck more messages.FailedBefore = refl
    by_luck more messages.FailedAfter = refl
    by_luck more messages.Done = go (table_starts k messages.Done w).failed
      where
        m : Moved
        m = table_starts k messages.Done w

        first : hosted_at m.world q ≡ hosted_at w q
        first = start_other w k q (not_head k ks q none).0

        go : (b : Bool) → hosted_at (if b then m else and_then m (tables_start ks (other_lucks lucks))).world q ≡ hosted_at w q
        go true = first
        go false = more m.world ∙ first

pub restart_other : (ks : List ℕ) (lucks : List Luck) (w : World) (q : ℕ) → has ks q ≡ false → hosted_at (restart_moves ks lucks w).world q ≡ hosted_at w q
restart_other ks lucks w q none = starts_other ks lucks (tables_fall ks w).world q none ∙ falls_other ks w q none

-- ---- the start of some tables

-- it is up, and was made
abbrev IsStarted : Hosted → Type 0
IsStarted hosted = IsUpAt hosted.store.agenda × (hosted.made ≡ true)

abbrev StartedAt : World → ℕ → Type 0
StartedAt w q = (hosted : Hosted) → hosted_at w q ≡ Some hosted → IsStarted hosted

start_here : (w : World) (table : ℕ) → StartedAt (table_starts table messages.Done w).world table
start_here w table = go (hosted_at w table) refl
  where
    behind : (hosted : Hosted) (s : StoreStep) → IsUpAt s.store.agenda → hosted.made ≡ true → StartedAt (after_table w table hosted s).world table
    behind hosted s up made found at = ⊎_elim
        (λ e. subst IsStarted e.1 (up, made))
        (λ e. absurd (e.0 refl))
        (after_cases w table hosted s table found at)

    go : (o : Option Hosted) → hosted_at w table ≡ o → StartedAt (start_hosted w table o).world table
    go None is = λ hosted at. absurd (let both : None ≡ Some hosted = sym is ∙ at in cc)
    go (Some hosted) is = by_made hosted.made refl
      where
        by_made : (b : Bool) → hosted.made ≡ b → StartedAt (if b then move_table table store.Start w else after_table w table (record hosted { made = true }) (declared_late (owner_of w table) table hosted.store.disk.state)).world table
        by_made true made = subst (λ (o : Option Hosted). StartedAt (move_hosted w table store.Start o).world table) (sym is)
            (behind hosted (table_step w table hosted store.Start) (started_at (scheme_in (schema_at w table)) (chunk_in (schema_at w table)) table hosted.store.disk (owner_of w table) hosted.store.agenda) made)
        by_made false made = behind (record hosted { made = true }) (declared_late (owner_of w table) table hosted.store.disk.state) ([], refl) refl

starts_here : (ks : List ℕ) (lucks : List Luck) (w : World) (q : ℕ) → (has ks q ≡ true) ⊎ StartedAt w q → (tables_start ks lucks w).failed ≡ false → StartedAt (tables_start ks lucks w).world q
starts_here [] lucks w q (inl there) fine = absurd cc
starts_here [] lucks w q (inr up) fine = up
starts_here (k ∷ ks) lucks w q a fine = by_luck (λ v b safe. starts_here ks (other_lucks lucks) v q b safe) (first_luck lucks) fine
  where
    rest : Moved → Moved
    rest m = and_unless m (tables_start ks (other_lucks lucks))

    by_luck : ((v : World) → (has ks q ≡ true) ⊎ StartedAt v q → (tables_start ks (other_lucks lucks) v).failed ≡ false → StartedAt (tables_start ks (other_lucks lucks) v).world q)
        → (luck : Luck) → (rest (table_starts k luck w)).failed ≡ false → StartedAt (rest (table_starts k luck w)).world q
    by_luck more messages.FailedBefore safe = absurd cc
    by_luck more messages.FailedAfter safe = absurd cc
    by_luck more messages.Done safe = go m.failed refl safe
      where
        m : Moved
        m = table_starts k messages.Done w

        apart_from : q ≢ k → (has ks q ≡ true) ⊎ StartedAt m.world q
        apart_from apart = ⊎_elim
            (λ there. inl (sym (ap (λ (b : Bool). b || has ks q) (number_apart q k apart)) ∙ there))
            (λ up. inr (λ hosted at. up hosted (sym (start_other w k q apart) ∙ at)))
            a

        next : (has ks q ≡ true) ⊎ StartedAt m.world q
        next = same_or_apart q k (λ same. inr (subst (λ (n : ℕ). StartedAt m.world n) (sym same) (start_here w k))) apart_from

        go : (b : Bool) → m.failed ≡ b → (if b then m else and_then m (tables_start ks (other_lucks lucks))).failed ≡ false
            → StartedAt (if b then m else and_then m (tables_start ks (other_lucks lucks))).world q
        go true is safe_here = absurd (true≢false (sym is ∙ safe_here))
        go false is safe_here = more m.world next (sym (ap (λ (b : Bool). b || (tables_start ks (other_lucks lucks) m.world).failed) is) ∙ safe_here)

-- each of a Store's tables is started
pub restart_here : (w : World) (ks : List ℕ) (lucks : List Luck) → (tables_start ks lucks (tables_fall ks w).world).failed ≡ false → (q : ℕ) → has ks q ≡ true → StartedAt (restart_moves ks lucks w).world q
restart_here w ks lucks fine q there = starts_here ks lucks (tables_fall ks w).world q (inl there) fine

unmade_not : (o : Option Hosted) → ((hosted : Hosted) → o ≡ Some hosted → IsStarted hosted) → is_unmade o ≡ false
unmade_not None up = refl
unmade_not (Some hosted) up = ap not (up hosted refl).1

module _ (w : World) (number : ℕ) (lucks : List Luck) (kept : IsKept w (restart_moves (tables_of w number) lucks w).world) where
  abbrev v : World
  v = (restart_moves (tables_of w number) lucks w).world

  -- another Store's table
  elsewhere : (q : ℕ) → owner_of w q ≢ number → hosted_at v q ≡ hosted_at w q
  elsewhere q apart = restart_other (tables_of w number) lucks w q (out (has (tables_of w number) q) refl)
    where
      out : (b : Bool) → has (tables_of w number) q ≡ b → has (tables_of w number) q ≡ false
      out true is = absurd (apart (of_owner w number q is))
      out false is = is

  pub restart_made : (q : ℕ) → owner_of w q ≢ number → is_unmade (hosted_at v q) ≡ is_unmade (hosted_at w q)
  restart_made q apart = ap is_unmade (elsewhere q apart)

  pub restart_but : v.downs ≡ w.downs → AreUp w → AreUpBut v number
  restart_but downs all q found at made out apart =
      let own = owner_same w v kept q in
      let away : owner_of w q ≢ number = λ e. apart (own ∙ e) in
      all q found (sym (elsewhere q away) ∙ at) made (ap (λ (n : ℕ). has_node w.downs (nodes.Store n)) (sym own) ∙ (ap (λ ds. has_node ds (nodes.Store (owner_of v q))) (sym downs) ∙ out))

  module _ (fine : (tables_start (tables_of w number) lucks (tables_fall (tables_of w number) w).world).failed ≡ false) where
    -- none of the Store's tables is left to be made
    pub restart_all : has_unmade v number ≡ false
    restart_all =
        ap (λ (ns : List ℕ). list_any (λ table. is_unmade (hosted_at v table)) ns) (tables_same w v kept number)
        ∙ (any_alike (λ table. is_unmade (hosted_at v table)) (λ table. false) (tables_of w number) (λ q there. unmade_not (hosted_at v q) (restart_here w (tables_of w number) lucks fine q there))
        ∙ any_none (tables_of w number))

    pub restart_up : has_store w number ≡ true → v.downs ≡ w.downs → AreUp w → AreUp (without_down (nodes.Store number) v)
    restart_up declared downs all q found at made out =
        let own = owner_same w v kept q in
        let there : has (keys_of w.tables) q ≡ true = ap (λ (ks : List ℕ). has ks q) (sym kept.keys) ∙ has_found v.tables q found at in
        same_or_apart (owner_of w q) number
        (λ same. (restart_here w (tables_of w number) lucks fine q (owns w number q declared there same) found at).0)
        (λ apart. restart_but downs all q found at made (sym (others_stay number (owner_of v q) (λ e. apart (sym own ∙ e)) v.downs) ∙ out) (λ e. apart (sym own ∙ e)))
