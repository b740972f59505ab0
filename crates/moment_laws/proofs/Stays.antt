-- At each event of a run a table's items stay with its history.
use Rattle.std.proofs.Common.{◌≡◌, ◌⊎◌, inl, inr, ⊎_elim, ℕ, zero, suc, Bool, true, false, List, [], ◌∷◌, ◌++◌, Option, Some, None, refl, sym, ◌∙◌, ap, subst, arith, append-nil, true≢false}
use Rattle.std.specs.Prelude.{◌==◌, slice_get, if◌then◌else◌}
use Rattle.std.proofs.lemmas.Bool.Decides.{nat_tests}
use Rattle.stab_base.specs.declared.node.Node.{Node}
use Rattle.stab_base.specs.declared.node.Node.TheVariants as nodes
use Rattle.table_model.specs.declared.entry.Entry.{Entry}
use Rattle.table_model.specs.declared.event.Event.{Event}
use Rattle.table_model.specs.declared.event.Event.TheVariants as events
use Rattle.table_model.specs.declared.table_state.TableState.{TableState}
use Rattle.step_tables.specs.Messages.{Luck, Message, table_of}
use Rattle.step_tables.specs.Store.{Stored}
use Rattle.step_tables.specs.StoreMoves as store
use Rattle.step_tables.specs.StoreMoves.{SidePut}
use Rattle.world_tables.specs.Turns.{Happening, world_from}
use Rattle.world_tables.specs.World.{Lucks, World, Packet, Hosted, start, owner_of, schema_at, scheme_in, chunk_in, hosted_at, table_step, move_table, declared_late, new_hosted, step}
use Rattle.world_tables.specs.Passed.{items_behind, entries_of, IsBetween, taken_by, taken_from, taken_part, first_part}
use Rattle.moment_laws.proofs.Kept.{IsKeptTable, Near, IsWithinTable}
use Rattle.moment_laws.proofs.Landing.{near_here}
use Rattle.moment_laws.proofs.Moving.{Takes, worked_keeps, placed_keeps, crashed_keeps, started_keeps, taken}
use Rattle.moment_laws.proofs.Along.{behind_step, All, move_all}
use Rattle.moment_laws.proofs.Events.{Fresh, step_all, first_all}

-- ---- every table keeps what it keeps

abbrev KeptAt : ℕ → Hosted → Type 0
KeptAt table x = IsKeptTable x

kept_works : (w : World) (table : ℕ) (x : Hosted) (luck : Luck) → KeptAt table x → KeptAt table (behind_step x (table_step w table x (store.Work luck)))
kept_works w table x luck k = let n = near_here x.history x.store.disk x.store.agenda k.at in (worked_keeps x.history x.store.disk x.made x.history n.0 x.store.agenda luck k n.1).0

kept_crashes : (w : World) (table : ℕ) (x : Hosted) (luck : Luck) → KeptAt table x → KeptAt table (behind_step x (table_step w table x (store.Crash luck)))
kept_crashes w table x luck k = let n = near_here x.history x.store.disk x.store.agenda k.at in (crashed_keeps x.history x.store.disk x.made x.history n.0 x.store.agenda luck k n.1).0

kept_starts : (w : World) (table : ℕ) (x : Hosted) → x.made ≡ true → KeptAt table x → KeptAt table (behind_step x (table_step w table x store.Start))
kept_starts w table x made k =
    let n = near_here x.history x.store.disk x.store.agenda k.at in
    (started_keeps (owner_of w table) table x.history x.store.disk x.made x.history n.0 made x.store.agenda k n.1).0

kept_late : (w : World) (table : ℕ) (x : Hosted) → x.made ≡ false → KeptAt table x → KeptAt table (behind_step (record x { made = true }) (declared_late (owner_of w table) table x.store.disk.state))
kept_late w table x made k = record { counted = tt; at = (sym (k.unmade made).0, (None, refl)); unmade = λ not_made. absurd (true≢false not_made) }

kept_places : (w : World) (table : ℕ) (x : Hosted) (put : SidePut) → KeptAt table x → KeptAt table (behind_step x (table_step w table x (store.Place put)))
kept_places w table x put k = let n = near_here x.history x.store.disk x.store.agenda k.at in (placed_keeps x.history x.store.disk x.made x.history n.0 table x.store.agenda put k n.1).0

kept_new : (state : TableState) (made : Bool) → IsKeptTable (new_hosted state made)
kept_new state true = record { counted = tt; at = (refl, (None, refl)); unmade = λ not_made. absurd (true≢false not_made) }
kept_new state false = record { counted = tt; at = inl refl; unmade = λ not_made. (refl, refl, refl) }

kept_fresh : (w : World) → Fresh KeptAt w
kept_fresh w table none state made = kept_new state made

takes : (w : World) (table : ℕ) (from : Node) (m : Message) (x : Hosted) → IsKeptTable x
    → Takes x.history x.store.disk x.store.agenda x.made (table_step w table x (store.Take from m))
takes w table from m x k = taken (scheme_in (schema_at w table)) (chunk_in (schema_at w table)) table x.history x.store.disk x.made x.store.agenda from m k

kept_taken_from : (w : World) (o : Option Packet) → All KeptAt w → All KeptAt (taken_from w o)
kept_taken_from w None all = all
kept_taken_from w (Some p) all = go p.to
  where
    go : (to : Node) → All KeptAt (taken_by w p to)
    go (nodes.Store number) = by_owner (owner_of w (table_of p.message) == number)
      where
        by_owner : (b : Bool) → All KeptAt (if b then (move_table (table_of p.message) (store.Take p.from p.message) w).world else w)
        by_owner true = move_all KeptAt kept_works kept_crashes kept_starts kept_late w (table_of p.message) (store.Take p.from p.message)
            (λ x at k. (takes w (table_of p.message) p.from p.message x k).kept) all
        by_owner false = all
    go (nodes.Client c) = all
    go (nodes.Gate gate) = all

kept_taken : (w : World) (event : Event) → All KeptAt w → All KeptAt (taken_part w event)
kept_taken w (events.Deliver n) all = kept_taken_from w (slice_get w.packets n) all
kept_taken w other all = all

kept_step : (w : World) (event : Event) (lucks : Lucks) → All KeptAt w → All KeptAt (step w event lucks).world
kept_step w event lucks all = step_all KeptAt kept_works kept_crashes kept_starts kept_late kept_places w event lucks all (kept_taken w event all) (kept_fresh w)

kept_from : (run : List Happening) (w : World) → All KeptAt w → All KeptAt (world_from w run)
kept_from [] w all = all
kept_from (h ∷ run) w all = kept_from run (step w h.event h.lucks).world (kept_step w h.event h.lucks all)

kept_run : (run : List Happening) → All KeptAt (world_from start run)
kept_run run = kept_from run start (λ table x at. absurd cc)

-- ---- near the history from before an event

module _ (q : ℕ) (near : List Entry) (o : Option Stored) where
  abbrev NearAt : ℕ → Hosted → Type 0
  NearAt table x = IsKeptTable x × (table ≡ q → IsWithinTable near o x)

  near_works : (w : World) (table : ℕ) (x : Hosted) (luck : Luck) → NearAt table x → NearAt table (behind_step x (table_step w table x (store.Work luck)))
  near_works w table x luck k = (kept_works w table x luck k.0, λ is. (worked_keeps x.history x.store.disk x.made near o x.store.agenda luck k.0 (k.1 is)).1)

  near_crashes : (w : World) (table : ℕ) (x : Hosted) (luck : Luck) → NearAt table x → NearAt table (behind_step x (table_step w table x (store.Crash luck)))
  near_crashes w table x luck k = (kept_crashes w table x luck k.0, λ is. (crashed_keeps x.history x.store.disk x.made near o x.store.agenda luck k.0 (k.1 is)).1)

  near_starts : (w : World) (table : ℕ) (x : Hosted) → x.made ≡ true → NearAt table x → NearAt table (behind_step x (table_step w table x store.Start))
  near_starts w table x made k = (kept_starts w table x made k.0, λ is. (started_keeps (owner_of w table) table x.history x.store.disk x.made near o made x.store.agenda k.0 (k.1 is)).1)

  near_late : (w : World) (table : ℕ) (x : Hosted) → x.made ≡ false → NearAt table x → NearAt table (behind_step (record x { made = true }) (declared_late (owner_of w table) table x.store.disk.state))
  near_late w table x made k = (kept_late w table x made k.0, λ is. record { told = (k.1 is).told; items = λ j. none j ((k.1 is).items 0) })
    where
      none : (j : ℕ) → Near near o (entries_of x.store.disk.items) → Near near o (entries_of (items_behind (behind_step (record x { made = true }) (declared_late (owner_of w table) table x.store.disk.state)) j))
      none zero n = subst (λ (items : List Stored). Near near o (entries_of items)) (k.0.unmade made).1 n
      none (suc j) n = subst (λ (items : List Stored). Near near o (entries_of items)) (k.0.unmade made).1 n

  near_places : (w : World) (table : ℕ) (x : Hosted) (put : SidePut) → NearAt table x → NearAt table (behind_step x (table_step w table x (store.Place put)))
  near_places w table x put k = (kept_places w table x put k.0, λ is. (placed_keeps x.history x.store.disk x.made near o table x.store.agenda put k.0 (k.1 is)).1)

  near_all : (w : World) (x : Hosted) → hosted_at w q ≡ Some x → All KeptAt w → IsWithinTable near o x → All NearAt w
  near_all w x there all within table y at = (
    all table y at,
    λ is.
        let both : Some x ≡ Some y = sym there ∙ (ap (hosted_at w) (sym is) ∙ at) in let same : x ≡ y = cc in subst (IsWithinTable near o) same within,
  )

  -- no table is declared again
  near_fresh : (w : World) (x : Hosted) → hosted_at w q ≡ Some x → Fresh NearAt w
  near_fresh w x there table none = λ state made. (kept_fresh w table none state made, λ is. absurd (apart is))
    where
      apart : table ≡ q → ⊥
      apart is = let both : None ≡ Some x = sym none ∙ (ap (hosted_at w) is ∙ there) in cc

-- the item that may land at an event, near which the table is before the event and behind what it takes
pub record IsLanding (q : ℕ) (w : World) (event : Event) (x : Hosted) : Type 0 where
  pub item : Option Stored
  pub before : All (NearAt q x.history item) w
  pub behind : All (NearAt q x.history item) (taken_part w event)

lands_here : (q : ℕ) (w : World) (event : Event) (x : Hosted) → hosted_at w q ≡ Some x → All KeptAt w → taken_part w event ≡ w → IsLanding q w event x
lands_here q w event x there all same =
    let n = near_here x.history x.store.disk x.store.agenda (all q x there).at in
    let before = near_all q x.history n.0 w x there all n.1 in
    record { item = n.0; before = before; behind = subst (All (NearAt q x.history n.0)) (sym same) before }

module _ (q : ℕ) (w : World) (x : Hosted) (there : hosted_at w q ≡ Some x) (all : All KeptAt w) where
  -- what a message to a table makes of the one that is looked at, where it is that one, and where it is another
  taken_near : (p : Packet) (o : Option Stored)
      → (table_of p.message ≡ q → IsWithinTable x.history o (behind_step x (table_step w (table_of p.message) x (store.Take p.from p.message))))
      → All (NearAt q x.history o) w → All (NearAt q x.history o) (move_table (table_of p.message) (store.Take p.from p.message) w).world
  taken_near p o within before = move_all (NearAt q x.history o) (near_works q x.history o) (near_crashes q x.history o) (near_starts q x.history o) (near_late q x.history o)
      w (table_of p.message) (store.Take p.from p.message) (λ y at k. (
        (takes w (table_of p.message) p.from p.message y k.0).kept,
        λ is.
            let both : Some x ≡ Some y = sym there ∙ (ap (hosted_at w) (sym is) ∙ at) in let same : x ≡ y = cc in
            subst (λ (z : Hosted). IsWithinTable x.history o (behind_step z (table_step w (table_of p.message) z (store.Take p.from p.message)))) same (within is),
      )) before

  abbrev LandsBy : Packet → Node → Type 0
  LandsBy p to = (o : Option Stored) × All (NearAt q x.history o) w × All (NearAt q x.history o) (taken_by w p to)

  lands_by : (p : Packet) (to : Node) → LandsBy p to
  lands_by p (nodes.Client c) = let n = near_here x.history x.store.disk x.store.agenda (all q x there).at in let before = near_all q x.history n.0 w x there all n.1 in (n.0, before, before)
  lands_by p (nodes.Gate gate) = let n = near_here x.history x.store.disk x.store.agenda (all q x there).at in let before = near_all q x.history n.0 w x there all n.1 in (n.0, before, before)
  lands_by p (nodes.Store number) = go (table_of p.message == q) refl
    where
      by_owner : (o : Option Stored) (b : Bool) → All (NearAt q x.history o) (move_table (table_of p.message) (store.Take p.from p.message) w).world → All (NearAt q x.history o) w
          → All (NearAt q x.history o) (if b then (move_table (table_of p.message) (store.Take p.from p.message) w).world else w)
      by_owner o true moved before = moved
      by_owner o false moved before = before

      go : (b : Bool) → (table_of p.message == q) ≡ b → LandsBy p (nodes.Store number)
      go true is =
          let t = takes w (table_of p.message) p.from p.message x (all q x there) in
          let before = near_all q x.history t.item w x there all t.before in
          (t.item, before, by_owner t.item (owner_of w (table_of p.message) == number) (taken_near p t.item (λ same. t.within) before) before)
      go false is =
          let n = near_here x.history x.store.disk x.store.agenda (all q x there).at in
          let before = near_all q x.history n.0 w x there all n.1 in
          (n.0, before, by_owner n.0 (owner_of w (table_of p.message) == number) (taken_near p n.0 (λ same. absurd (grind (arith, nat_tests, is, same))) before) before)

  lands_from : (n : ℕ) (o : Option Packet) → slice_get w.packets n ≡ o → IsLanding q w (events.Deliver n) x
  lands_from n None at = lands_here q w (events.Deliver n) x there all (ap (taken_from w) at)
  lands_from n (Some p) at = let l = lands_by p p.to in
      record { item = l.0; before = l.1; behind = subst (λ (o : Option Packet). All (NearAt q x.history l.0) (taken_from w o)) (sym at) l.2 }

  landing : (event : Event) → IsLanding q w event x
  landing (events.Deliver n) = lands_from n (slice_get w.packets n) refl
  landing other = lands_here q w other x there all refl

  -- ---- the law at one event

  between_of : (o : Option Stored) (after : List Entry) (items : List Stored) → Near x.history o after → Near x.history o (entries_of items) → IsBetween x.history after items
  between_of o after items told lies = ⊎_elim (λ e. ⊎_elim (still e) (one e) lies) (λ m. ⊎_elim (told_one m) (both m) lies) told
    where
      plain : x.history ++ [] ≡ x.history
      plain = append-nil x.history

      still : after ≡ x.history → entries_of items ≡ x.history → IsBetween x.history after items
      still e is = record { more = []; from = is ∙ sym plain; to = inl ([], e ∙ sym (append-nil (x.history ++ []) ∙ plain)) }

      one : after ≡ x.history → (item : Stored) × (o ≡ Some item) × (entries_of items ≡ x.history ++ item.entry ∷ []) → IsBetween x.history after items
      one e m = record { more = m.0.entry ∷ []; from = m.2; to = inr (m.0.entry, ap (λ (es : List Entry). es ++ m.0.entry ∷ []) (sym e)) }

      told_one : (item : Stored) × (o ≡ Some item) × (after ≡ x.history ++ item.entry ∷ []) → entries_of items ≡ x.history → IsBetween x.history after items
      told_one m is = record { more = []; from = is ∙ sym plain; to = inl (m.0.entry ∷ [], m.2 ∙ ap (λ (es : List Entry). es ++ m.0.entry ∷ []) (sym plain)) }

      both : (item : Stored) × (o ≡ Some item) × (after ≡ x.history ++ item.entry ∷ []) → (item : Stored) × (o ≡ Some item) × (entries_of items ≡ x.history ++ item.entry ∷ [])
          → IsBetween x.history after items
      both m n =
          let some : Some m.0 ≡ Some n.0 = sym m.1 ∙ n.1 in
          let same : m.0 ≡ n.0 = cc in
          record {
            more = n.0.entry ∷ [];
            from = n.2;
            to = inl ([], m.2 ∙ (ap (λ (i : Stored). x.history ++ i.entry ∷ []) same ∙ sym (append-nil (x.history ++ n.0.entry ∷ []))));
          }

  module _ (event : Event) (lucks : Lucks) (after : Hosted) (is_after : hosted_at (step w event lucks).world q ≡ Some after) where
    told_near : (l : IsLanding q w event x) → Near x.history l.item after.history
    told_near l = ((step_all (NearAt q x.history l.item) (near_works q x.history l.item) (near_crashes q x.history l.item) (near_starts q x.history l.item) (near_late q x.history l.item)
        (near_places q x.history l.item) w event lucks l.before l.behind (near_fresh q x.history l.item w x there) q after is_after).1 refl).told

    stays_before : (k : ℕ) → IsBetween x.history after.history (items_behind x k)
    stays_before k = let l = landing event in between_of l.item after.history (items_behind x k) (told_near l) (((l.before q x there).1 refl).items k)

    stays_between : (middle : Hosted) → hosted_at (first_part w event lucks) q ≡ Some middle → (k : ℕ) → IsBetween x.history after.history (items_behind middle k)
    stays_between middle at k =
        let l = landing event in
        let first = first_all (NearAt q x.history l.item) (near_works q x.history l.item) (near_crashes q x.history l.item) (near_starts q x.history l.item) (near_late q x.history l.item)
        (near_places q x.history l.item) w event lucks l.before l.behind in
        between_of l.item after.history (items_behind middle k) (told_near l) (((first q middle at).1 refl).items k)

pub rows_stay_before : (run : List Happening) (event : Event) (lucks : Lucks) (table k : ℕ) (before after : Hosted) → hosted_at (world_from start run) table ≡ Some before
    → hosted_at (step (world_from start run) event lucks).world table ≡ Some after → IsBetween before.history after.history (items_behind before k)
rows_stay_before run event lucks table k before after there is_after = stays_before table (world_from start run) before there (kept_run run) event lucks after is_after k

pub rows_stay_between : (run : List Happening) (event : Event) (lucks : Lucks) (table k : ℕ) (before middle after : Hosted) → hosted_at (world_from start run) table ≡ Some before
    → hosted_at (first_part (world_from start run) event lucks) table ≡ Some middle
    → hosted_at (step (world_from start run) event lucks).world table ≡ Some after → IsBetween before.history after.history (items_behind middle k)
rows_stay_between run event lucks table k before middle after there at is_after = stays_between table (world_from start run) before there (kept_run run) event lucks after is_after middle at k
