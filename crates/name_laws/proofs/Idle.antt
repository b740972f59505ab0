-- When no table of a Store has writes to do, but such that put something beside its rows.
use Rattle.std.proofs.Common.{◌≡◌, ◌≢◌, ◌⊎◌, inl, inr, ⊎_elim, ℕ, zero, suc, ◌<◌, ◌≤◌, Bool, true, false, List, [], ◌∷◌, length, Option, Some, None, refl, sym, ◌∙◌, ap, subst, arith, true≢false}
use Rattle.std.proofs.Common.{length-append}
use Rattle.std.specs.Prelude.{◌==◌, ◌||◌, drop, filter, if◌then◌else◌}
use Rattle.std.specs.List.{flat_map}
use Rattle.stab_base.specs.declared.node.Node.{Node}
use Rattle.stab_base.specs.declared.node.Node.TheVariants as nodes
use Rattle.step_tables.specs.Members.{Among}
use Rattle.step_tables.specs.Messages.{Message, Luck}
use Rattle.step_tables.specs.Messages as messages
use Rattle.step_tables.specs.StoreMoves as store
use Rattle.step_tables.specs.StoreMoves.{StoreDisk, StoreTask, StoreChange, StoreMove, SidePut}
use Rattle.step_tables.proofs.Lists.{among_none, among_cons, among_here, among_next, among_found, find_some}
use Rattle.world_tables.specs.World.{World, Hosted, Moved, owner_of, has_store, tables_of, hosted_at, hosted_tasks, tasks_in, has_node, still, and_then, and_unless, is_fault}
use Rattle.world_tables.specs.World.{history_on, table_step, move_hosted, move_table, first_luck, other_lucks}
use Rattle.world_tables.specs.World.{table_falls, tables_fall, without_down, store_falls, is_at_work, busy_table, write_next, store_works, tasks_of, store_until_idle, store_follows, table_follows}
use Rattle.world_tables.specs.World.{tables_start, store_starts, schema_at, scheme_in, chunk_in}
use Rattle.world_laws.proofs.Looks.{look_cases}
use Rattle.world_laws.proofs.Owners.{IsBeside, owners_stay, lookup_among, among_tables, table_owned}
use Rattle.name_laws.proofs.Keys.{keys_stay}
use Rattle.name_laws.proofs.Left.{Clears}
use Rattle.name_laws.proofs.Plain.{IsFrom}
use Rattle.name_laws.proofs.Moves.{IsFine, Went, stores_went, owners_went, table_went, downs_went, begins_went}

-- no chunk and no row is changed
abbrev IsBesideRows : StoreChange → Type 0
IsBesideRows (store.PutBeside put) = Unit {0}
IsBesideRows other = ⊥

abbrev pub AreBesideRows : List StoreTask → Type 0
AreBesideRows [] = Unit {0}
AreBesideRows (task ∷ more) = IsBesideRows task.change × AreBesideRows more

none_beside : (tasks : List StoreTask) → tasks ≡ [] → AreBesideRows tasks
none_beside tasks none = subst AreBesideRows (sym none) tt

-- no table of this Store has other writes to do
abbrev pub Idle : World → ℕ → Type 0
Idle w number = (table : ℕ) (hosted : Hosted) → owner_of w table ≡ number → hosted_at w table ≡ Some hosted → AreBesideRows (tasks_in hosted.store.agenda)

-- none has any
abbrev Rests : World → ℕ → Type 0
Rests w number = (table : ℕ) (hosted : Hosted) → owner_of w table ≡ number → hosted_at w table ≡ Some hosted → tasks_in hosted.store.agenda ≡ []

rests_idle : (w : World) (number : ℕ) → Rests w number → Idle w number
rests_idle w number rests q hosted own at = none_beside (tasks_in hosted.store.agenda) (rests q hosted own at)

-- ---- behind such writes nothing is left over that wasn't, and the names are those that were

put_left : (d : StoreDisk) (put : SidePut) → (store.put_beside d put).left ≡ d.left
put_left d (store.PutState state) = refl
put_left d (store.PutSub client terms) = refl

beside_left : (d : StoreDisk) (change : StoreChange) → IsBesideRows change → (store.changed d change).left ≡ d.left
beside_left d (store.PutBeside put) is = put_left d put
beside_left d store.OpenChunks is = absurd is
beside_left d store.OpenRows is = absurd is
beside_left d store.OpenLog is = absurd is
beside_left d (store.Open item) is = absurd is
beside_left d (store.PutChunk name) is = absurd is
beside_left d (store.Put item named old) is = absurd is
beside_left d (store.DropChunk name) is = absurd is
beside_left d store.Close is = absurd is

pub clear_now : (tasks : List StoreTask) (d : StoreDisk) → AreBesideRows tasks → Clears d tasks → d.left ≡ []
clear_now [] d beside clears = clears
clear_now (task ∷ more) d beside clears =
    sym (beside_left d task.change beside.0) ∙ clear_now more (store.changed d task.change) beside.1 clears.1

-- what another Store does leaves it so
pub other_idle : (number other : ℕ) (w v : World) → IsBeside number w v → other ≢ number → Idle w other → Idle v other
other_idle number other w v b apart idle q hosted own at =
    let owned : owner_of w q ≡ other = sym (owners_stay number w v b q) ∙ own in
    idle q hosted owned (sym (b.others q (λ e. apart (sym owned ∙ e))) ∙ at)

-- ---- a table that falls has none

crashed_none : (d : StoreDisk) (agenda : Option (List StoreTask)) (luck : Luck) → tasks_in (store.crashed d agenda luck).store.agenda ≡ []
crashed_none d None luck = refl
crashed_none d (Some []) luck = refl
crashed_none d (Some (task ∷ more)) messages.Done = refl
crashed_none d (Some (task ∷ more)) messages.FailedBefore = refl
crashed_none d (Some (task ∷ more)) messages.FailedAfter = refl

module _ (number : ℕ) where
  -- each of its tables has none, or is still to fall
  abbrev Awaits : World → List ℕ → Type 0
  Awaits w tables = (q : ℕ) (hosted : Hosted) → owner_of w q ≡ number → hosted_at w q ≡ Some hosted → (tasks_in hosted.store.agenda ≡ []) ⊎ Among tables q

  fall_awaits : (w : World) (table : ℕ) (tables : List ℕ) → Awaits w (table ∷ tables) → Awaits (table_falls table w).world tables
  fall_awaits w table tables a = go (hosted_at w table) refl
    where
      go : (o : Option Hosted) → hosted_at w table ≡ o → Awaits (move_hosted w table (store.Crash messages.FailedBefore) o).world tables
      go None none q hosted own at = ⊎_elim (λ idle. inl idle)
          (λ b. ⊎_elim (λ e. absurd (let both : Some hosted ≡ None = sym at ∙ (ap (hosted_at w) (sym e) ∙ none) in cc)) (λ more. inr more) (among_cons table tables q b)) (a q hosted own at)
      go (Some here) is q hosted own at = ⊎_elim
          (λ e. let both : Some new ≡ Some hosted = sym e.1 ∙ at in let same : new ≡ hosted = cc in
          inl (subst (λ (y : Hosted). tasks_in y.store.agenda ≡ []) same (crashed_none here.store.disk here.store.agenda messages.FailedBefore)))
          (λ e. ⊎_elim (λ idle. inl idle) (λ b. ⊎_elim (λ same. absurd (e.0 (sym same))) (λ more. inr more) (among_cons table tables q b)) (a q hosted own (sym e.1 ∙ at)))
          (look_cases w.tables table new q)
        where
          new : Hosted
          new =
              let s = table_step w table here (store.Crash messages.FailedBefore) in
              record { store = s.store; history = history_on here.history s.facts; made = here.made }

  falls_rest : (tables : List ℕ) (w : World) → Awaits w tables → Rests (tables_fall tables w).world number
  falls_rest [] w a = λ q hosted own at. ⊎_elim (λ idle. idle) (λ b. absurd (among_none q b)) (a q hosted own at)
  falls_rest (table ∷ tables) w a = falls_rest tables (table_falls table w).world (fall_awaits w table tables a)

  fallen_rests : (w : World) → has_store w number ≡ true → Rests (store_falls number w).world number
  fallen_rests w has = falls_rest (tables_of w number) w (λ q hosted own at. inr (among_tables w number q hosted has own at))

  pub fallen_idle : (w : World) → has_store w number ≡ true → Idle (store_falls number w).world number
  fallen_idle w has = rests_idle (store_falls number w).world number (fallen_rests w has)

-- ---- tables at work

no_work : (w : World) (table : ℕ) → hosted_tasks (hosted_at w table) ≡ [] → is_at_work w table ≡ false
no_work w table none = rw none refl

some_work : (w : World) (table : ℕ) (task : StoreTask) (more : List StoreTask) → hosted_tasks (hosted_at w table) ≡ task ∷ more → is_at_work w table ≡ true
some_work w table task more some = rw some refl

at_rest : (w : World) (table : ℕ) → is_at_work w table ≡ false → hosted_tasks (hosted_at w table) ≡ []
at_rest w table is = go (hosted_tasks (hosted_at w table)) refl
  where
    go : (tasks : List StoreTask) → hosted_tasks (hosted_at w table) ≡ tasks → hosted_tasks (hosted_at w table) ≡ []
    go [] e = e
    go (task ∷ more) e = absurd (true≢false (sym (some_work w table task more e) ∙ is))

pub record IsWorking (w : World) (table : ℕ) : Type 0 where
  pub task : StoreTask
  pub more : List StoreTask
  pub tasks : hosted_tasks (hosted_at w table) ≡ task ∷ more

at_work : (w : World) (table : ℕ) → is_at_work w table ≡ true → IsWorking w table
at_work w table is = go (hosted_tasks (hosted_at w table)) refl
  where
    go : (tasks : List StoreTask) → hosted_tasks (hosted_at w table) ≡ tasks → IsWorking w table
    go [] e = absurd (true≢false (sym is ∙ no_work w table e))
    go (task ∷ more) e = record { task = task; more = more; tasks = e }

none_in : (f : ℕ → List StoreTask) (keys : List ℕ) (q : ℕ) → length (flat_map f keys) ≤ 0 → Among keys q → f q ≡ []
none_in f [] q le a = absurd (among_none q a)
none_in f (k ∷ keys) q le a =
    let sum = length-append (f k) (flat_map f keys) in
    ⊎_elim (λ e. subst (λ (n : ℕ). f n ≡ []) e (empty (f k) (omega arith))) (λ b. none_in f keys q (omega arith) b) (among_cons k keys q a)
  where
    empty : (xs : List StoreTask) → length xs ≤ 0 → xs ≡ []
    empty [] l = refl
    empty (x ∷ xs) l = absurd (omega arith)

none_left : (w : World) (number : ℕ) → has_store w number ≡ true → length (tasks_of w number) ≤ 0 → Rests w number
none_left w number has le = λ q hosted own at.
    subst (λ (o : Option Hosted). hosted_tasks o ≡ []) at
    (none_in (λ table. hosted_tasks (hosted_at w table)) (tables_of w number) q le (among_tables w number q hosted has own at))

no_more : (f g : ℕ → List StoreTask) (keys : List ℕ) → ((q : ℕ) → length (g q) ≤ length (f q)) → length (flat_map g keys) ≤ length (flat_map f keys)
no_more f g [] le = omega arith
no_more f g (k ∷ keys) le =
    let a = length-append (f k) (flat_map f keys) in
    let b = length-append (g k) (flat_map g keys) in
    let first = le k in
    let rest = no_more f g keys le in
    omega arith

fewer : (f g : ℕ → List StoreTask) (keys : List ℕ) (k : ℕ) → ((q : ℕ) → length (g q) ≤ length (f q)) → length (g k) < length (f k) → Among keys k → length (flat_map g keys) < length (flat_map f keys)
fewer f g [] k le less a = absurd (among_none k a)
fewer f g (x ∷ keys) k le less a =
    let p = length-append (f x) (flat_map f keys) in
    let q = length-append (g x) (flat_map g keys) in
    let first = le x in
    let rest = no_more f g keys le in
    ⊎_elim (λ e. let here : length (g x) < length (f x) = subst (λ (n : ℕ). length (g n) < length (f n)) (sym e) less in omega arith) (λ b. let later = fewer f g keys k le less b in omega arith)
    (among_cons x keys k a)

-- a write that is done leaves one task less
work_tasks : (d : StoreDisk) (o : Option (List StoreTask)) (task : StoreTask) (more : List StoreTask) (luck : Luck) → tasks_in o ≡ task ∷ more → is_fault (store.worked d o luck).answer ≡ false
    → tasks_in (store.worked d o luck).store.agenda ≡ more
work_tasks d None task more luck is fine = absurd cc
work_tasks d (Some []) task more luck is fine = absurd cc
work_tasks d (Some (t ∷ ts)) task more messages.Done is fine = cc
work_tasks d (Some (t ∷ ts)) task more messages.FailedBefore is fine = absurd cc
work_tasks d (Some (t ∷ ts)) task more messages.FailedAfter is fine = absurd cc

module _ (number : ℕ) where
  work_less : (w : World) (table : ℕ) (luck : Luck) → IsFine w → Among (tables_of w number) table → IsWorking w table → (move_table table (store.Work luck) w).failed ≡ false
      → length (tasks_of (move_table table (store.Work luck) w).world number) < length (tasks_of w number)
  work_less w table luck f there k = go (hosted_at w table) refl
    where
      go : (o : Option Hosted) → hosted_at w table ≡ o → (move_hosted w table (store.Work luck) o).failed ≡ false
          → length (tasks_of (move_hosted w table (store.Work luck) o).world number) < length (tasks_of w number)
      go None at fine = absurd (let none : [] ≡ k.task ∷ k.more = sym (ap hosted_tasks at) ∙ k.tasks in cc)
      go (Some hosted) at fine =
          subst (λ (keys : List ℕ). length (flat_map (λ q. hosted_tasks (hosted_at x q)) (own keys)) < length (tasks_of w number))
          (sym (keys_stay w.tables table new f.keys (lookup_among w.tables table hosted at)))
          (fewer (λ q. hosted_tasks (hosted_at w q)) (λ q. hosted_tasks (hosted_at x q)) (tables_of w number) table le less there)
        where
          own : List ℕ → List ℕ
          own keys = if has_store w number then filter (λ q. owner_of w q == number) keys else []

          new : Hosted
          new =
              let s = table_step w table hosted (store.Work luck) in
              record { store = s.store; history = history_on hosted.history s.facts; made = hosted.made }

          x : World
          x = (move_hosted w table (store.Work luck) (Some hosted)).world

          before : hosted_tasks (hosted_at w table) ≡ k.task ∷ k.more
          before = k.tasks

          now : tasks_in new.store.agenda ≡ k.more
          now = work_tasks hosted.store.disk hosted.store.agenda k.task k.more luck (sym (ap hosted_tasks at) ∙ k.tasks) fine

          at_table : hosted_tasks (hosted_at x table) ≡ k.more
          at_table = ⊎_elim (λ e. ap hosted_tasks e.1 ∙ now) (λ e. absurd (e.0 refl)) (look_cases w.tables table new table)

          less : length (hosted_tasks (hosted_at x table)) < length (hosted_tasks (hosted_at w table))
          less = let a = ap length at_table in let b = ap length before in omega arith

          le : (q : ℕ) → length (hosted_tasks (hosted_at x q)) ≤ length (hosted_tasks (hosted_at w q))
          le q = ⊎_elim (λ e. subst (λ (n : ℕ). length (hosted_tasks (hosted_at x n)) ≤ length (hosted_tasks (hosted_at w n))) (sym e.0) (omega (arith, less)))
              (λ e. let same = ap (λ (o : Option Hosted). length (hosted_tasks o)) e.1 in omega arith) (look_cases w.tables table new q)

  -- ---- work until idle

  unless_rests : (m : Moved) (f : World → Moved) → (m.failed ≡ true → Rests m.world number) → (m.failed ≡ false → Rests (f m.world).world number) → Rests (and_unless m f).world number
  unless_rests m f a b = go m.failed refl
    where
      go : (c : Bool) → m.failed ≡ c → Rests (if c then m else and_then m f).world number
      go true is = a is
      go false is = b is

  no_busy : (w : World) → has_store w number ≡ true → busy_table w number ≡ None → Rests w number
  no_busy w has none q hosted own at = subst (λ (o : Option Hosted). hosted_tasks o ≡ []) at (at_rest w q (rests (is_at_work w q) refl))
    where
      rests : (b : Bool) → is_at_work w q ≡ b → is_at_work w q ≡ false
      rests false is = is
      rests true is =
          let k = find_some (is_at_work w) (tables_of w number) q (among_tables w number q hosted has own at) is in
          absurd (let both : Some k.0 ≡ None = sym k.1 ∙ none in cc)

  no_tasks : (f : ℕ → List StoreTask) (keys : List ℕ) → ((q : ℕ) → Among keys q → f q ≡ []) → length (flat_map f keys) ≤ 0
  no_tasks f [] none = omega arith
  no_tasks f (k ∷ keys) none =
      let a = length-append (f k) (flat_map f keys) in
      let b = ap length (none k (among_here k keys)) in
      let rest = no_tasks f keys (λ q there. none q (among_next k keys q there)) in
      omega arith

  -- a table of a Store that rests
  rest_tasks : (w : World) → Rests w number → (q : ℕ) → Among (tables_of w number) q → hosted_tasks (hosted_at w q) ≡ []
  rest_tasks w rests q a = let t = table_owned w number q a in subst (λ (o : Option Hosted). hosted_tasks o ≡ []) (sym t.there) (rests q t.hosted t.owned t.there)

  works_rest : (count : ℕ) (lucks : List Luck) (w : World) → IsFine w → has_store w number ≡ true → length (tasks_of w number) ≤ count → Rests (store_works number count lucks w).world number
  works_rest zero lucks w f has le = none_left w number has le
  works_rest (suc more) lucks w f has le = go (busy_table w number) refl (λ x fine there few. works_rest more (other_lucks lucks) x fine there few)
    where
      luck : Luck
      luck = first_luck lucks

      next : World → Moved
      next = store_works number more (other_lucks lucks)

      go : (o : Option ℕ) → busy_table w number ≡ o → ((x : World) → IsFine x → has_store x number ≡ true → length (tasks_of x number) ≤ more → Rests (next x).world number)
          → Rests (and_unless (write_next number luck o w) next).world number
      go None is rest =
          rest w f has (let none = no_tasks (λ table. hosted_tasks (hosted_at w table)) (tables_of w number) (rest_tasks w (no_busy w has is)) in omega arith)
      go (Some table) is rest = split m.failed refl
        where
          m : Moved
          m = move_table table (store.Work luck) w

          found : Among (tables_of w number) table × (is_at_work w table ≡ true)
          found = among_found (is_at_work w) (tables_of w number) table is

          went : Went w m
          went = table_went w table (store.Work luck) tt f

          has_too : has_store m.world number ≡ true
          has_too = stores_went w m went number ∙ has

          split : (b : Bool) → m.failed ≡ b → Rests (and_unless (if b then and_then m (store_falls number) else m) next).world number
          split true failed = unless_rests (and_then m (store_falls number)) next (λ e. fallen_rests number m.world has_too)
              (λ e. absurd (true≢false (sym (ap (λ (c : Bool). c || (store_falls number m.world).failed) failed) ∙ e)))
          split false fine = unless_rests m next (λ e. absurd (true≢false (sym e ∙ fine)))
              (λ e. rest m.world went.fine has_too (let less = work_less w table luck f found.0 (at_work w table found.1) fine in omega arith))

  pub until_idle : (lucks : List Luck) (w : World) → IsFine w → has_store w number ≡ true → Idle (store_until_idle number lucks w).world number
  until_idle lucks w f has =
      rests_idle (store_until_idle number lucks w).world number (works_rest (length (tasks_of w number)) lucks w f has (omega arith))

  -- where the Store isn't on hold, or is idle
  pub follows_idle : (lucks : List Luck) (w : World) → IsFine w → has_store w number ≡ true → (has_node w.holds (nodes.Store number) ≡ true → Idle w number)
      → Idle (store_follows number lucks w).world number
  follows_idle lucks w f has held = go (has_node w.holds (nodes.Store number)) refl
    where
      go : (b : Bool) → has_node w.holds (nodes.Store number) ≡ b → Idle (if b then still w else store_until_idle number lucks w).world number
      go true is = held is
      go false is = until_idle lucks w f has

-- ---- a move of a table

moved_idle : (w : World) (table number : ℕ) (hosted : Hosted) (move : StoreMove) → Idle w number → AreBesideRows (tasks_in (table_step w table hosted move).store.agenda)
    → Idle (move_hosted w table move (Some hosted)).world number
moved_idle w table number hosted move idle beside q found own at = ⊎_elim
    (λ e. let both : Some new ≡ Some found = sym e.1 ∙ at in let same : new ≡ found = cc in subst (λ (y : Hosted). AreBesideRows (tasks_in y.store.agenda)) same beside)
    (λ e. idle q found own (sym e.1 ∙ at)) (look_cases w.tables table new q)
  where
    new : Hosted
    new =
        let s = table_step w table hosted move in
        record { store = s.store; history = history_on hosted.history s.facts; made = hosted.made }

-- where it begins work, the Store isn't on hold or is idle then too
pub table_follows_idle : (w : World) (table : ℕ) (move : StoreMove) (lucks : List Luck) → IsFine w → IsFrom move → has_store w (owner_of w table) ≡ true
    → Idle w (owner_of w table) → (has_node w.holds (nodes.Store (owner_of w table)) ≡ true → Idle (move_table table move w).world (owner_of w table))
    → Idle (table_follows table lucks (move_table table move w).world).world (owner_of w table)
table_follows_idle w table move lucks f from has idle held = go (is_at_work x table) refl
  where
    number : ℕ
    number = owner_of w table

    x : World
    x = (move_table table move w).world

    went : Went w (move_table table move w)
    went = table_went w table move from f

    own : owner_of x table ≡ number
    own = owners_went w (move_table table move w) went table

    rests : (o : Option Hosted) → hosted_at w table ≡ o → hosted_tasks (hosted_at (move_hosted w table move o).world table) ≡ []
        → Idle (move_hosted w table move o).world number
    rests None at none = idle
    rests (Some hosted) at none = moved_idle w table number hosted move idle
        (none_beside (tasks_in (table_step w table hosted move).store.agenda) (⊎_elim (λ e. sym (ap hosted_tasks e.1) ∙ none) (λ e. absurd (e.0 refl))
        (look_cases w.tables table (let s = table_step w table hosted move in record { store = s.store; history = history_on hosted.history s.facts; made = hosted.made }) table)))

    go : (b : Bool) → is_at_work x table ≡ b → Idle (if b then store_follows (owner_of x table) lucks x else still x).world number
    go true is = subst (λ (n : ℕ). Idle (store_follows n lucks x).world number) (sym own)
        (follows_idle number lucks x went.fine (stores_went w (move_table table move w) went number ∙ has)
        (λ on. held (sym (ap (λ (hs : List Node). has_node hs (nodes.Store number)) went.holds) ∙ on)))
    go false is = rests (hosted_at w table) refl (at_rest x table is)

-- a table that isn't free for a message stays as it is
pub kept_idle : (w : World) (table number : ℕ) (hosted : Hosted) (from : Node) (m : Message) → Idle w number → owner_of w table ≡ number → hosted_at w table ≡ Some hosted
    → hosted.store.agenda ≢ Some [] → Idle (move_hosted w table (store.Take from m) (Some hosted)).world number
kept_idle w table number hosted from m idle own at busy = moved_idle w table number hosted (store.Take from m) idle (go hosted.store.agenda busy (idle table hosted own at))
  where
    go : (o : Option (List StoreTask)) → o ≢ Some [] → AreBesideRows (tasks_in o)
        → AreBesideRows (tasks_in (store.taken (scheme_in (schema_at w table)) (chunk_in (schema_at w table)) table hosted.store.disk o from m).store.agenda)
    go None is beside = beside
    go (Some []) is beside = absurd (is refl)
    go (Some (task ∷ more)) is beside = beside

-- what is put beside the rows leaves the Store idle
placed_beside : (table : ℕ) (d : StoreDisk) (agenda : Option (List StoreTask)) (put : SidePut) → AreBesideRows (tasks_in agenda)
    → AreBesideRows (tasks_in (store.placed table d agenda put).store.agenda)
placed_beside table d None put beside = beside
placed_beside table d (Some []) put beside = (tt, tt)
placed_beside table d (Some (task ∷ more)) put beside = beside

pub placed_idle : (w : World) (table number : ℕ) (put : SidePut) → Idle w number → owner_of w table ≡ number → Idle (move_table table (store.Place put) w).world number
placed_idle w table number put idle own = go (hosted_at w table) refl
  where
    go : (o : Option Hosted) → hosted_at w table ≡ o → Idle (move_hosted w table (store.Place put) o).world number
    go None at = idle
    go (Some hosted) at = moved_idle w table number hosted (store.Place put) idle (placed_beside table hosted.store.disk hosted.store.agenda put (idle table hosted own at))

-- a Store's next write leaves it idle
worked_beside : (d : StoreDisk) (agenda : Option (List StoreTask)) (luck : Luck) → AreBesideRows (tasks_in agenda) → AreBesideRows (tasks_in (store.worked d agenda luck).store.agenda)
worked_beside d None messages.Done beside = tt
worked_beside d None messages.FailedBefore beside = tt
worked_beside d None messages.FailedAfter beside = tt
worked_beside d (Some []) messages.Done beside = tt
worked_beside d (Some []) messages.FailedBefore beside = tt
worked_beside d (Some []) messages.FailedAfter beside = tt
worked_beside d (Some (task ∷ more)) messages.Done beside = beside.1
worked_beside d (Some (task ∷ more)) messages.FailedBefore beside = tt
worked_beside d (Some (task ∷ more)) messages.FailedAfter beside = tt

pub write_idle : (number : ℕ) (luck : Luck) (w : World) → IsFine w → has_store w number ≡ true → Idle w number → Idle (write_next number luck (busy_table w number) w).world number
write_idle number luck w f has idle = go (busy_table w number) refl
  where
    go : (o : Option ℕ) → busy_table w number ≡ o → Idle (write_next number luck o w).world number
    go None is = idle
    go (Some table) is = split m.failed
      where
        m : Moved
        m = move_table table (store.Work luck) w

        own : owner_of w table ≡ number
        own = (table_owned w number table (among_found (is_at_work w) (tables_of w number) table is).0).owned

        moved : (o : Option Hosted) → hosted_at w table ≡ o → Idle (move_hosted w table (store.Work luck) o).world number
        moved None at = idle
        moved (Some hosted) at = moved_idle w table number hosted (store.Work luck) idle (worked_beside hosted.store.disk hosted.store.agenda luck (idle table hosted own at))

        split : (b : Bool) → Idle (if b then and_then m (store_falls number) else m).world number
        split true = fallen_idle number m.world (stores_went w m (table_went w table (store.Work luck) tt f) number ∙ has)
        split false = moved (hosted_at w table) refl

-- ---- a start

pub starts_idle : (number : ℕ) (lucks : List Luck) (w : World) → IsFine w → has_store w number ≡ true → has_node w.holds (nodes.Store number) ≡ false → Idle (store_starts number lucks w).world number
starts_idle number lucks w f has free = go m.failed
  where
    tables : List ℕ
    tables = tables_of w number

    m : Moved
    m = and_then (tables_fall tables w) (tables_start tables lucks)

    went : Went w m
    went = begins_went tables lucks w f

    has_too : has_store m.world number ≡ true
    has_too = stores_went w m went number ∙ has

    go : (b : Bool) → Idle (if b then and_then m (store_falls number) else and_then m (λ x. store_follows number (drop (length tables) lucks) (without_down (nodes.Store number) x))).world number
    go true = fallen_idle number m.world has_too
    go false =
        let x : World = without_down (nodes.Store number) m.world in
        follows_idle number (drop (length tables) lucks) x (downs_went m.world x.downs went.fine).fine has_too
        (λ on. absurd (true≢false (sym on ∙ (ap (λ (hs : List Node). has_node hs (nodes.Store number)) went.holds ∙ free))))
