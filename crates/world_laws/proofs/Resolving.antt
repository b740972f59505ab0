-- All conflicts of a table, resolved in one way.
use Rattle.std.proofs.Common.{◌≡◌, ℕ, ◌+◌, Bool, true, false, List, [], ◌∷◌, ◌++◌, Option, Some, None, refl, sym, ap, ◌∙◌, subst, arith, inl, inr, ⊎_elim, true≢false}
use Rattle.std.specs.Prelude.{ℤ, int_lt, drop, ◌==◌, ◌||◌, if◌then◌else◌}
use Rattle.std.proofs.lemmas.Bool.Decides.{nat_tests}
use Rattle.row_value.specs.declared.schema.Schema.{Schema}
use Rattle.conflicts.specs.declared.pair.Choice.{Choice}
use Rattle.conflicts.specs.declared.pair.Choice.TheVariants as choices
use Rattle.conflicts.specs.declared.pair.Pair.{Pair}
use Rattle.conflicts.specs.declared.stored.Stored.{Stored}
use Rattle.conflicts.specs.declared.stored.Stored.TheVariants as resolvers
use Rattle.conflicts.specs.Stored.{chosen, larger_side, int_at}
use Rattle.table_model.specs.declared.line.RowPair.{RowPair}
use Rattle.table_model.specs.History.{same_row}
use Rattle.step_tables.specs.Slots.{Main}
use Rattle.step_tables.specs.Slots.{Shadow}
use Rattle.step_tables.specs.Facts.{ClientFact}
use Rattle.step_tables.specs.Facts as facts
use Rattle.step_tables.specs.Members.{Among}
use Rattle.step_tables.specs.Messages.{Luck}
use Rattle.step_tables.specs.Messages as messages
use Rattle.step_tables.specs.ClientMoves as client
use Rattle.step_tables.specs.ClientMoves.{Slots, TableDisk, Plan, ClientDisk, ClientTask, Client, ClientMove, ClientStep, Shape, no_slots, slots_at, slots_of, table_at, seen, planned_in, pair_of, begun, choose, planning}
use Rattle.step_tables.specs.ClientMoves.{resolve_over, resolve_in, client_step}
use Rattle.step_tables.proofs.Lists.{among_none, among_cons, among_here, among_next, among_left, same_row-is, same_row-refl}
use Rattle.world_tables.specs.World.{World, Moved, client_at, moved_client, move_client, and_then, and_unless, failing, first_luck, other_lucks, client_tasks, client_works, client_until_idle, client_falls}
use Rattle.world_tables.specs.World.{first_shape, other_shapes, plan_size, chosen_in, chosen_of, resolve_by, resolve_each}
use Rattle.world_laws.specs.Resolving.{pair_for, content_for, IsMain, IsResolved}
use Rattle.world_laws.proofs.Working.{or_false, moved_is, moved_at, Ends, works_end, all_changed, plan, behind, AsEither, finished, finished_as, plan_always, plan_ends}

-- ---- what a stored resolver chooses

abbrev IsOld : Choice → Type 0
IsOld choices.Mine = Unit {0}
IsOld choices.Theirs = Unit {0}
IsOld (choices.New content) = ⊥

-- it makes no new content
chosen_old : (by : Stored) (pair : Pair) → IsOld (chosen by pair)
chosen_old resolvers.Mine pair = tt
chosen_old resolvers.Theirs pair = tt
chosen_old (resolvers.Larger column) pair = larger (int_at pair.mine column) (int_at pair.theirs column)
  where
    larger : (a b : Option ℤ) → IsOld (larger_side a b)
    larger None b = tt
    larger (Some a) None = tt
    larger (Some a) (Some b) = one (int_lt b a)
      where
        one : (t : Bool) → IsOld (if t then choices.Mine else choices.Theirs)
        one true = tt
        one false = tt

-- ---- a row in conflict: its resolving begins a plan that puts it as it was chosen

record Begins (c : ℕ) (shape : Shape) (d : ClientDisk) (table : ℕ) (row : List ℕ) (main : Main) (x : Shadow) (choice : Choice) (before : Slots) (step : ClientStep) : Type 0 where
  pub number : ℕ
  pub last : ℕ
  pub slots : Slots
  pub told : List ClientFact
  pub is : step ≡ begun shape d (facts.Number number) (record { last = last; table = table; row = Some (record { row = row; slots = slots }); position = None; alters = None; facts = told }) []
  pub written : IsMain x.version (content_for choice main) slots.main
  pub read : slots.shadow ≡ Some x
  pub waits : slots.out ≡ before.out
  pub free : slots.conflict ≡ None

module _ (c : ℕ) (shape : Shape) (d : ClientDisk) (table : ℕ) (row : List ℕ) (schema : Schema) (before : Slots) (main : Main) (x : Shadow) where
  choice_begins : (choice : Choice) → IsOld choice → Begins c shape d table row main x choice before (choose c shape d table row schema before main x choice)
  choice_begins choices.Mine old = record {
    number = d.last + 1;
    last = d.last + 1;
    slots = record before { main = Some (record { number = d.last + 1; read = x.version; content = main.content }); shadow = Some x; conflict = None };
    told = (client.over_plan c d table row before main x main.content).facts;
    is = refl;
    written = (d.last + 1, refl);
    read = refl;
    waits = refl;
    free = refl;
  }
  choice_begins choices.Theirs old = record {
    number = 0;
    last = d.last;
    slots = record before { main = None; shadow = Some x; conflict = None };
    told = (client.theirs_plan c d table row before main x).facts;
    is = refl;
    written = refl;
    read = refl;
    waits = refl;
    free = refl;
  }
  choice_begins (choices.New content) old = absurd old

-- ---- the rows in conflict, one after the other

seen_idle : (d : ClientDisk) → d.plan ≡ None → seen d ≡ d
seen_idle d free = ap (λ (p : Option Plan). planned_in d p) free

unless_is : (m : Moved) (f : World → Moved) → m.failed ≡ false → and_unless m f ≡ and_then m f
unless_is m f none = ap (λ (b : Bool). if b then m else and_then m f) none

apart_turned : (a b : List ℕ) → same_row a b ≡ false → same_row b a ≡ false
apart_turned a b apart = go (same_row b a) refl
  where
    go : (t : Bool) → same_row b a ≡ t → t ≡ false
    go false is = refl
    go true is = absurd (true≢false (sym (same_row-refl a) ∙ (ap (λ (z : List ℕ). same_row a z) (sym (same_row-is b a is)) ∙ apart)))

-- ids of rows that are different
abbrev pub AreApart : List RowPair → Type 0
AreApart [] = Unit {0}
AreApart (pair ∷ pairs) = ((other : RowPair) → Among pairs other → same_row pair.row other.row ≡ false) × AreApart pairs

module _ (c table : ℕ) (by : Stored) where
  -- each of these rows is in conflict so
  abbrev pub Stand : ClientDisk → List RowPair → Type 0
  Stand d pairs = (pair : RowPair) → Among pairs pair → pair_of pair.row (slots_of d table pair.row).main (slots_of d table pair.row).conflict ≡ Some pair

  pub record Resolves (d : ClientDisk) (pairs : List RowPair) (m : Moved) : Type 0 where
    pub node : Client
    pub there : client_at m.world c ≡ Some node
    pub done : List RowPair
    pub rest : List RowPair
    pub split : pairs ≡ done ++ rest
    pub resolved : (pair : RowPair) → Among done pair → IsResolved by pair.row (slots_of d table pair.row) (slots_of (seen node.disk) table pair.row)
    pub left : (row : List ℕ) → ((pair : RowPair) → Among done pair → same_row pair.row row ≡ false) → slots_of (seen node.disk) table row ≡ slots_of d table row
    pub all : m.failed ≡ false → rest ≡ []

  -- where none is resolved, since a device failed
  none_resolved : (d : ClientDisk) (pairs : List RowPair) (m : Moved) (node : Client) → client_at m.world c ≡ Some node → m.failed ≡ true
      → ((row : List ℕ) → slots_of (seen node.disk) table row ≡ slots_of d table row) → Resolves d pairs m
  none_resolved d pairs m node at failed same = record {
    node = node;
    there = at;
    done = [];
    rest = pairs;
    split = refl;
    resolved = λ pair a. absurd (among_none pair a);
    left = λ row outside. same row;
    all = λ none. absurd (true≢false (sym failed ∙ none));
  }

  -- ---- a row in conflict

  record InConflict (d : ClientDisk) (pair : RowPair) : Type 0 where
    pub main : Main
    pub theirs : Shadow
    pub main_is : (slots_of d table pair.row).main ≡ Some main
    pub conflict_is : (slots_of d table pair.row).conflict ≡ Some theirs
    pub version_is : theirs.version ≡ pair.version
    pub opened : TableDisk
    pub at : table_at d table ≡ Some opened

  in_conflict : (d : ClientDisk) (pair : RowPair) → pair_of pair.row (slots_of d table pair.row).main (slots_of d table pair.row).conflict ≡ Some pair → InConflict d pair
  in_conflict d pair is = by_slots (slots_of d table pair.row).main refl (slots_of d table pair.row).conflict refl is
    where
      by_table : (m : Main) → (slots_of d table pair.row).main ≡ Some m → (x : Shadow) → (slots_of d table pair.row).conflict ≡ Some x → x.version ≡ pair.version
          → (o : Option TableDisk) → table_at d table ≡ o → InConflict d pair
      by_table m main x conflict version (Some o) at = record { main = m; theirs = x; main_is = main; conflict_is = conflict; version_is = version; opened = o; at = at }
      by_table m main x conflict version None at =
          absurd (let e : None ≡ Some m = sym (ap (λ (o : Option TableDisk). (client.slots_in o pair.row).main) at) ∙ main in cc)

      by_slots : (m : Option Main) → (slots_of d table pair.row).main ≡ m → (x : Option Shadow) → (slots_of d table pair.row).conflict ≡ x
          → pair_of pair.row m x ≡ Some pair → InConflict d pair
      by_slots None main x conflict e = absurd cc
      by_slots (Some m) main None conflict e = absurd cc
      by_slots (Some m) main (Some x) conflict e =
          let same : record { row = pair.row; number = m.number; version = x.version } ≡ pair = cc in
          by_table m main x conflict (ap (λ (p : RowPair). p.version) same) (table_at d table) refl

  module _ (d : ClientDisk) (free : d.plan ≡ None) (w : World) (here : client_at w c ≡ Some (record { disk = d; agenda = Some [] })) (pair : RowPair) (f : InConflict d pair) (shape : Shape) where
    abbrev node : Client
    node = record { disk = d; agenda = Some [] }

    abbrev row : List ℕ
    row = pair.row

    abbrev before : Slots
    before = slots_of d table row

    abbrev choice : Choice
    choice = chosen by (pair_for row f.main f.theirs)

    before_is : slots_at f.opened row ≡ before
    before_is = ap (λ (o : Option TableDisk). client.slots_in o row) (sym f.at)

    chosen_is : chosen_of by row (client_at w c) table ≡ choice
    chosen_is =
        ap (λ (o : Option Client). chosen_of by row o table) here
        ∙ (ap (λ (e : ClientDisk). chosen_in by row (slots_of e table row).main (slots_of e table row).conflict) (seen_idle d free)
        ∙ (ap (λ (m : Option Main). chosen_in by row m before.conflict) f.main_is ∙ ap (λ (x : Option Shadow). chosen_in by row (Some f.main) x) f.conflict_is))

    begins : Begins c shape d table row f.main f.theirs choice (slots_at f.opened row) (choose c shape d table row f.opened.schema (slots_at f.opened row) f.main f.theirs choice)
    begins = choice_begins c shape d table row f.opened.schema (slots_at f.opened row) f.main f.theirs choice (chosen_old by (pair_for row f.main f.theirs))

    abbrev the_plan : Plan
    the_plan = plan table row begins.slots begins.last begins.told d f.opened f.at free

    abbrev step : ClientStep
    step = begun shape d (facts.Number begins.number) the_plan []

    abbrev move : ClientMove
    move = client.Resolve table row pair.version choice

    same_version : (n m : ℕ) (x y : ClientStep) → n ≡ m → (if n == m then x else y) ≡ x
    same_version n m x y e = grind (arith, nat_tests, e)

    step_is : client_step c shape node move ≡ step
    step_is =
        ap (λ (e : ClientDisk). resolve_in c shape d [] table row pair.version choice (table_at e table)) (seen_idle d free)
        ∙ (ap (λ (o : Option TableDisk). resolve_in c shape d [] table row pair.version choice o) f.at
        ∙ (ap (λ (m : Option Main). resolve_over c shape d table row f.opened.schema (slots_at f.opened row) pair.version choice m (slots_at f.opened row).conflict)
        (ap (λ (s : Slots). s.main) before_is ∙ f.main_is)
        ∙ (ap (λ (x : Option Shadow). resolve_over c shape d table row f.opened.schema (slots_at f.opened row) pair.version choice (Some f.main) x)
        (ap (λ (s : Slots). s.conflict) before_is ∙ f.conflict_is)
        ∙ (same_version f.theirs.version pair.version (choose c shape d table row f.opened.schema (slots_at f.opened row) f.main f.theirs choice)
        (client.refused d (facts.Moved pair.version f.theirs.version)) f.version_is ∙ begins.is))))

    first_is : resolve_by c table by shape pair messages.Done w ≡ moved_client w c move step
    first_is =
        ap (λ (x : Choice). move_client c (client.Resolve table row pair.version x) shape w) chosen_is
        ∙ (moved_is w c move shape node here ∙ ap (λ (s : ClientStep). moved_client w c move s) step_is)

    -- the plan that the resolving begins, worked to its end, or to where a device fails
    abbrev first : Moved
    first = resolve_by c table by shape pair messages.Done w

    first_well : first.failed ≡ false
    first_well = ap (λ (m : Moved). m.failed) first_is

    first_at : client_at first.world c ≡ Some (record { disk = d; agenda = Some (planning shape the_plan []) })
    first_at = ap (λ (m : Moved). client_at m.world c) first_is ∙ moved_at w c move step

    abbrev AsChosen : ClientDisk → Type 0
    AsChosen e = AsEither table row begins.slots begins.last begins.told d f.opened f.at free e

    abbrev last_disk : ClientDisk
    last_disk = finished table row begins.slots begins.last begins.told d f.opened f.at free

    worked : (lucks : List Luck) → Ends AsChosen c last_disk (and_unless first (client_until_idle c lucks))
    worked lucks =
        let tasks_are : client_tasks (client_at first.world c) ≡ planning shape the_plan [] = ap client_tasks first_at in
        let ends : Ends AsChosen c (all_changed d (planning shape the_plan [])) (client_until_idle c lucks first.world) =
        subst (λ (tasks : List ClientTask). Ends AsChosen c (all_changed d (planning shape the_plan [])) (client_works c tasks lucks first.world)) (sym tasks_are)
        (works_end AsChosen c (planning shape the_plan []) lucks first.world d first_at (plan_always table row begins.slots begins.last begins.told d f.opened f.at free shape)) in
        subst (λ (m : Moved). Ends AsChosen c last_disk m) (sym (unless_is first (client_until_idle c lucks) first_well))
        (record {
          node = ends.node;
          there = ends.there;
          holds = ends.holds;
          well = λ none. ends.well (or_false first.failed (client_until_idle c lucks first.world).failed none).1
              ∙ ap (λ (e : ClientDisk). record { disk = e; agenda = Some [] }) (plan_ends table row begins.slots begins.last begins.told d f.opened f.at free shape);
        })

    -- the rows behind the plan: this one is resolved, and the others as they were
    abbrev rows_behind : List ℕ → Slots
    rows_behind other = behind table row begins.slots begins.last begins.told d f.opened f.at free other

    row_resolved : IsResolved by row before (rows_behind row)
    row_resolved = subst (λ (s : Slots). IsResolved by row before s) (sym (ap (λ (b : Bool). if b then begins.slots else before) (same_row-refl row)))
        (record {
          main = f.main;
          theirs = f.theirs;
          was_main = f.main_is;
          was_conflict = f.conflict_is;
          written = begins.written;
          read = begins.read;
          waits = begins.waits ∙ ap (λ (s : Slots). s.out) before_is;
          free = begins.free;
        })

    others_left : (other : List ℕ) → same_row row other ≡ false → rows_behind other ≡ slots_of d table other
    others_left other apart = ap (λ (b : Bool). if b then begins.slots else slots_of d table other) apart

    -- a device failed behind the commit
    one_resolved : (pairs : List RowPair) (m : Moved) (x : Client) → client_at m.world c ≡ Some x → m.failed ≡ true
        → ((other : List ℕ) → slots_of (seen x.disk) table other ≡ rows_behind other) → Resolves d (pair ∷ pairs) m
    one_resolved pairs m x at failed holds = record {
      node = x;
      there = at;
      done = pair ∷ [];
      rest = pairs;
      split = refl;
      resolved = λ p a. ⊎_elim
          (λ (same : pair ≡ p). subst (λ (z : RowPair). IsResolved by z.row (slots_of d table z.row) (slots_of (seen x.disk) table z.row)) same
          (subst (λ (s : Slots). IsResolved by row before s) (sym (holds row)) row_resolved))
          (λ b. absurd (among_none p b)) (among_cons pair [] p a);
      left = λ other outside. holds other ∙ others_left other (outside pair (among_here pair []));
      all = λ none. absurd (true≢false (sym failed ∙ none));
    }

    -- all went well, and the others were resolved behind it
    all_resolved : (pairs : List RowPair) → ((other : RowPair) → Among pairs other → same_row row other.row ≡ false) → (m k : Moved) → m.failed ≡ false
        → Resolves last_disk pairs k → Resolves d (pair ∷ pairs) (record { world = k.world; outs = m.outs ++ k.outs; failed = m.failed || k.failed })
    all_resolved pairs apart m k well r = record {
      node = r.node;
      there = r.there;
      done = pair ∷ r.done;
      rest = r.rest;
      split = ap (λ (ps : List RowPair). pair ∷ ps) r.split;
      resolved = λ p a. ⊎_elim
          (λ (same : pair ≡ p). subst (λ (z : RowPair). IsResolved by z.row (slots_of d table z.row) (slots_of (seen r.node.disk) table z.row)) same
          (subst (λ (s : Slots). IsResolved by row before s) (sym (r.left row (λ q b. apart_turned row q.row (apart q (among q b))) ∙ behind_is row)) row_resolved))
          (λ b. subst (λ (s : Slots). IsResolved by p.row s (slots_of (seen r.node.disk) table p.row)) (behind_is p.row ∙ others_left p.row (apart p (among p b))) (r.resolved p b))
          (among_cons pair r.done p a);
      left = λ other outside. r.left other (λ q b. outside q (among_next pair r.done q b)) ∙ (behind_is other ∙ others_left other (outside pair (among_here pair r.done)));
      all = λ none. r.all (or_false m.failed k.failed none).1;
    }
      where
        among : (q : RowPair) → Among r.done q → Among pairs q
        among q b = subst (λ (ps : List RowPair). Among ps q) (sym r.split) (among_left r.done r.rest q b)

        behind_is : (other : List ℕ) → slots_of last_disk table other ≡ rows_behind other
        behind_is other = finished_as table row begins.slots begins.last begins.told d f.opened f.at free other

  -- ---- all of them

  abbrev Rest : List Shape → List RowPair → Type 0
  Rest shapes pairs = (lucks : List Luck) (w : World) (d : ClientDisk) → client_at w c ≡ Some (record { disk = d; agenda = Some [] }) → d.plan ≡ None → Stand d pairs
      → Resolves d pairs (resolve_each c table by shapes lucks pairs w)

  pub each_resolved : (pairs : List RowPair) → AreApart pairs → (shapes : List Shape) (lucks : List Luck) (w : World) (d : ClientDisk)
      → client_at w c ≡ Some (record { disk = d; agenda = Some [] }) → d.plan ≡ None → Stand d pairs → Resolves d pairs (resolve_each c table by shapes lucks pairs w)
  each_resolved [] apart shapes lucks w d here free stand = record {
    node = record { disk = d; agenda = Some [] };
    there = here;
    done = [];
    rest = [];
    split = refl;
    resolved = λ pair a. absurd (among_none pair a);
    left = λ row outside. ap (λ (e : ClientDisk). slots_of e table row) (seen_idle d free);
    all = λ none. refl;
  }
  each_resolved (pair ∷ pairs) apart shapes lucks w d here free stand =
      by_luck (λ more v e there idle now. each_resolved pairs apart.1 (other_shapes shapes) more v e there idle now) (first_luck lucks)
    where
      f : InConflict d pair
      f = in_conflict d pair (stand pair (among_here pair pairs))

      shape : Shape
      shape = first_shape shapes

      -- the client is down where the row can't be read
      unread : (m : Moved) → m ≡ failing (client_falls c w) → Resolves d (pair ∷ pairs) m
      unread m is = none_resolved d (pair ∷ pairs) m (record { disk = d; agenda = None })
          (ap (λ (x : Moved). client_at x.world c) (is ∙ ap failing (moved_is w c (client.Crash messages.FailedBefore) client.no_shape (record { disk = d; agenda = Some [] }) here))
          ∙ moved_at w c (client.Crash messages.FailedBefore) (client_step c client.no_shape (record { disk = d; agenda = Some [] }) (client.Crash messages.FailedBefore)))
          (ap (λ (x : Moved). x.failed) is) (λ row. ap (λ (e : ClientDisk). slots_of e table row) (seen_idle d free))

      resolving : Rest (other_shapes shapes) pairs → (more : List Luck)
          → Resolves d (pair ∷ pairs) (and_unless (and_unless (resolve_by c table by shape pair messages.Done w) (client_until_idle c (other_lucks lucks)))
          (resolve_each c table by (other_shapes shapes) more pairs))
      resolving rest more = by_fault m.failed refl
        where
          m : Moved
          m = and_unless (resolve_by c table by shape pair messages.Done w) (client_until_idle c (other_lucks lucks))

          e : Ends (AsChosen d free w here pair f shape) c (last_disk d free w here pair f shape) m
          e = worked d free w here pair f shape (other_lucks lucks)

          stand_on : Stand (last_disk d free w here pair f shape) pairs
          stand_on other a = subst (λ (s : Slots). pair_of other.row s.main s.conflict ≡ Some other)
              (sym (finished_as table pair.row (begins d free w here pair f shape).slots (begins d free w here pair f shape).last (begins d free w here pair f shape).told d f.opened f.at free other.row
              ∙ others_left d free w here pair f shape other.row (apart.0 other a)))
              (stand other (among_next pair pairs other a))

          fallen : m.failed ≡ true → AsChosen d free w here pair f shape e.node.disk → Resolves d (pair ∷ pairs) m
          fallen failed (inl holds) = none_resolved d (pair ∷ pairs) m e.node e.there failed holds
          fallen failed (inr holds) = one_resolved d free w here pair f shape pairs m e.node e.there failed holds

          by_fault : (b : Bool) → m.failed ≡ b → Resolves d (pair ∷ pairs) (if b then m else and_then m (resolve_each c table by (other_shapes shapes) more pairs))
          by_fault true is = fallen is e.holds
          by_fault false is =
              all_resolved d free w here pair f shape pairs apart.0 m (resolve_each c table by (other_shapes shapes) more pairs m.world) is
              (rest more m.world (last_disk d free w here pair f shape) (e.there ∙ ap Some (e.well is)) refl stand_on)

      by_luck : Rest (other_shapes shapes) pairs → (luck : Luck)
          → Resolves d (pair ∷ pairs) (let resolved : Moved = resolve_by c table by shape pair luck w in
          and_unless (and_unless resolved (client_until_idle c (other_lucks lucks)))
          (resolve_each c table by (other_shapes shapes) (drop (1 + plan_size c resolved.world) lucks) pairs))
      by_luck rest messages.FailedBefore = unread (failing (client_falls c w)) refl
      by_luck rest messages.FailedAfter = unread (failing (client_falls c w)) refl
      by_luck rest messages.Done = resolving rest (drop (1 + plan_size c (resolve_by c table by shape pair messages.Done w).world) lucks)
