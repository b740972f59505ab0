-- What becomes of the rows of a client that resolves all conflicts of a table in one way.
use Rattle.std.proofs.Common.{◌≡◌, ℕ, Bool, true, false, List, [], ◌∷◌, ◌++◌, length, Option, Some, None, Result, Ok, Err, refl, sym, ap, ◌∙◌, subst}
use Rattle.std.proofs.Common.{append-nil}
use Rattle.std.specs.Prelude.{option_to_list, if◌then◌else◌}
use Rattle.std.specs.declared.cmp.Ordering.TheVariants.{Less}
use Rattle.std.specs.Ordering.{is_eq}
use Rattle.stab_base.specs.declared.node.Node.TheVariants as nodes
use Rattle.row_value.specs.declared.fit.FitFault.{FitFault}
use Rattle.row_value.specs.declared.schema.Scheme.{Scheme}
use Rattle.conflicts.specs.declared.stored.Stored.{Stored}
use Rattle.table_model.specs.declared.line.RowPair.{RowPair}
use Rattle.table_model.specs.History.{same_row}
use Rattle.step_tables.specs.Slots.{Main}
use Rattle.step_tables.specs.Slots.{Shadow}
use Rattle.step_tables.specs.Client.{row_cmp}
use Rattle.step_tables.specs.Facts.{Answer, Refusal}
use Rattle.step_tables.specs.Facts as facts
use Rattle.step_tables.specs.Members.{Among}
use Rattle.step_tables.specs.Messages.{Luck}
use Rattle.step_tables.specs.Messages as messages
use Rattle.step_tables.specs.Sayings.{Said}
use Rattle.step_tables.specs.ClientMoves as client
use Rattle.step_tables.specs.ClientMoves.{Slots, TableDisk, Plan, ClientDisk, or_none, ClientTask, Client, ClientMove, ClientStep, Shape, no_shape, slots_at, slots_of, table_at, seen, planned_in, pair_of, pairs_of, client_step}
use Rattle.step_tables.specs.ClientMoves.{can_resolve, all_idle, all_fitting, all_in, all_step}
use Rattle.step_tables.proofs.Lists.{among_none, same_row-is}
use Rattle.client_laws.specs.Part.{Rising, Tied}
use Rattle.client_laws.specs.Part as part
use Rattle.client_laws.proofs.Sends.{rows_found}
use Rattle.std.specs.Map.{lookup}
use Rattle.std.specs.BTreeMap.{is_at}
use Rattle.world_tables.specs.World.{World, Moved, WorldStep, client_at, move_there, move_client, has_node, still, and_then, other_lucks, client_tasks, client_works}
use Rattle.world_tables.specs.World.{client_falls, client_follows, client_follows_from, client_until_idle, gets_tasks, answering, call, client_pairs, resolve_each, resolve_all}
use Rattle.world_laws.specs.Resolving.{slots_in, kept_at, IsResolved, FirstResolved, AllResolved}
use Rattle.world_laws.proofs.Calls.{call_is}
use Rattle.world_laws.proofs.Kept.{Kept}
use Rattle.world_laws.proofs.Forms.{IsNumber, all_form}
use Rattle.world_laws.proofs.Listings.{pair_stands, pair_among}
use Rattle.world_laws.proofs.Working.{moved_is, moved_at}
use Rattle.world_laws.proofs.Resolving.{AreApart, Stand, Resolves, each_resolved}

-- ---- the rows in conflict are different rows, and stand so in their table

pair_row : (row : List ℕ) (m : Option Main) (x : Option Shadow) (pair : RowPair) → pair_of row m x ≡ Some pair → pair.row ≡ row
pair_row row None x pair is = absurd cc
pair_row row (Some m) None pair is = absurd cc
pair_row row (Some m) (Some x) pair is = let same : record { row = row; number = m.number; version = x.version } ≡ pair = cc in sym (ap (λ (p : RowPair). p.row) same)

above_rows : (row : List ℕ) (rows : List (List ℕ × Slots)) → ((other : List ℕ × Slots) → Among rows other → row_cmp row other.0 ≡ Less)
    → (pair : RowPair) → Among (pairs_of rows) pair → same_row row pair.row ≡ false
above_rows row rows above pair a =
    let f = pair_stands rows pair a in
    subst (λ (z : List ℕ). same_row row z ≡ false) (sym (pair_row f.0.0 f.0.1.main f.0.1.conflict pair f.2)) (ap is_eq (above f.0 f.1))

pairs_apart : (rows : List (List ℕ × Slots)) → Rising rows → AreApart (pairs_of rows)
unfolding Rising
pairs_apart [] rising = tt
pairs_apart (e ∷ rows) rising = by_slots (pairs_apart rows rising.1) e.1.main e.1.conflict
  where
    by_slots : AreApart (pairs_of rows) → (m : Option Main) (x : Option Shadow) → AreApart (option_to_list (pair_of e.0 m x) ++ pairs_of rows)
    by_slots rest None x = rest
    by_slots rest (Some m) None = rest
    by_slots rest (Some m) (Some x) = (above_rows e.0 rows rising.0, rest)

pairs_stand : (c table : ℕ) (by : Stored) (d : ClientDisk) (o : TableDisk) → table_at d table ≡ Some o → Rising o.rows → Stand c table by d (pairs_of o.rows)
pairs_stand c table by d o at rising pair a =
    let f = pair_stands o.rows pair a in
    let slots_are : slots_of d table f.0.0 ≡ f.0.1 = ap (λ (m : Option TableDisk). client.slots_in m f.0.0) at ∙ rows_found o f.0 rising f.1 in
    let row_is : pair.row ≡ f.0.0 = pair_row f.0.0 f.0.1.main f.0.1.conflict pair f.2 in
    subst (λ (z : List ℕ). pair_of z (slots_of d table z).main (slots_of d table z).conflict ≡ Some pair) (sym row_is)
    (ap (λ (s : Slots). pair_of f.0.0 s.main s.conflict) slots_are ∙ f.2)

-- and a row that is in conflict is one of them
pair_there : (o : TableDisk) (row : List ℕ) (main : Main) (x : Shadow) → (slots_at o row).main ≡ Some main → (slots_at o row).conflict ≡ Some x
    → Among (pairs_of o.rows) (record { row = row; number = main.number; version = x.version })
pair_there o row main x main_is conflict_is = by_row (lookup (is_at (row_cmp row)) o.rows) refl
  where
    by_row : (l : Option Slots) → lookup (is_at (row_cmp row)) o.rows ≡ l → Among (pairs_of o.rows) (record { row = row; number = main.number; version = x.version })
    by_row None none = absurd (let e : None ≡ Some main = sym (ap (λ (l : Option Slots). (or_none l).main) none) ∙ main_is in cc)
    by_row (Some z) found =
        let z_is : slots_at o row ≡ z = ap or_none found in
        pair_among o.rows row z (record { row = row; number = main.number; version = x.version }) found
        (ap (λ (s : Slots). pair_of row s.main s.conflict) (sym z_is)
        ∙ (ap (λ (m : Option Main). pair_of row m (slots_at o row).conflict) main_is ∙ ap (λ (q : Option Shadow). pair_of row (Some main) q) conflict_is))

-- ---- the call itself

-- a client that is asked is idle, and answers how many rows are in conflict
record IsAsked (d : ClientDisk) (agenda : Option (List ClientTask)) (table n : ℕ) : Type 0 where
  pub idle : agenda ≡ Some []
  pub opened : TableDisk
  pub at : table_at (seen d) table ≡ Some opened
  pub count : n ≡ length (pairs_of opened.rows)

module _ (shape : Shape) (d : ClientDisk) (table : ℕ) (by : Stored) where
  asked : (agenda : Option (List ClientTask)) (n : ℕ) → (all_step shape d agenda table by).answer ≡ facts.Number n → IsAsked d agenda table n
  asked None n is = absurd cc
  asked (Some agenda) n is = by_table (table_at (seen d) table) refl is
    where
      by_work : (tasks : List ClientTask) → agenda ≡ tasks → (o : TableDisk) → table_at (seen d) table ≡ Some o → (all_idle shape d tasks o).answer ≡ facts.Number n
          → IsAsked d (Some agenda) table n
      by_work (task ∷ more) tasks o at e = absurd cc
      by_work [] idle o at e = record { idle = ap Some idle; opened = o; at = at; count = (let same : length (pairs_of o.rows) ≡ n = cc in sym same) }

      by_fit : (o : TableDisk) → table_at (seen d) table ≡ Some o → (fit : Result (Unit {0}) FitFault) → (all_fitting shape d agenda o fit).answer ≡ facts.Number n
          → IsAsked d (Some agenda) table n
      by_fit o at (Ok fits) e = by_work agenda refl o at e
      by_fit o at (Err fault) e = absurd cc

      by_table : (m : Option TableDisk) → table_at (seen d) table ≡ m → (all_in shape d agenda by m).answer ≡ facts.Number n → IsAsked d (Some agenda) table n
      by_table None at e = absurd cc
      by_table (Some o) at e = by_fit o at (can_resolve o.schema by) e

  -- the question changes nothing of a client
  unchanged : (agenda : Option (List ClientTask)) → (all_step shape d agenda table by).client ≡ record { disk = d; agenda = agenda }
  unchanged None = refl
  unchanged (Some agenda) = by_table (table_at (seen d) table)
    where
      by_work : (tasks : List ClientTask) (o : TableDisk) → (all_idle shape d tasks o).client ≡ record { disk = d; agenda = Some tasks }
      by_work (task ∷ more) o = refl
      by_work [] o = refl

      by_fit : (o : TableDisk) (fit : Result (Unit {0}) FitFault) → (all_fitting shape d agenda o fit).client ≡ record { disk = d; agenda = Some agenda }
      by_fit o (Ok fits) = by_work agenda o
      by_fit o (Err fault) = refl

      by_table : (m : Option TableDisk) → (all_in shape d agenda by m).client ≡ record { disk = d; agenda = Some agenda }
      by_table None = refl
      by_table (Some o) = by_fit o (can_resolve o.schema by)

-- so nothing follows it
nothing_follows : (c : ℕ) (lucks : List Luck) (v : World) (d : ClientDisk) (agenda : Option (List ClientTask)) → client_at v c ≡ Some (record { disk = d; agenda = agenda })
    → (client_follows_from agenda c lucks v).world ≡ v
nothing_follows c lucks v d None at = refl
nothing_follows c lucks v d (Some (task ∷ more)) at = refl
nothing_follows c lucks v d (Some []) at = by_tasks (gets_tasks (Some []) v c)
  where
    idle : client_tasks (client_at v c) ≡ []
    idle = ap client_tasks at

    by_hold : (held : Bool) → (if held then still v else client_until_idle c lucks v).world ≡ v
    by_hold true = refl
    by_hold false = ap (λ (tasks : List ClientTask). (client_works c tasks lucks v).world) idle

    by_tasks : (b : Bool) → (if b then client_follows c lucks v else still v).world ≡ v
    by_tasks true = by_hold (has_node v.holds (nodes.Client c))
    by_tasks false = refl

-- ---- what is resolved

module _ (g : ℕ → Scheme) (w : World) (s : Said) (k : Kept g w s) (c table : ℕ) (by : Stored) where
  abbrev pairs : List RowPair
  pairs = client_pairs (client_at w c) table

  -- nothing is resolved where all is read as it was
  none_resolved : (v : World) → ((row : List ℕ) → kept_at v c table row ≡ kept_at w c table row) → FirstResolved by c table w v
  none_resolved v same = record { done = []; rest = pairs; split = refl; resolved = λ pair a. absurd (among_none pair a); left = λ row outside. same row }

  -- a move of the client that leaves its devices
  same_kept : (move : ClientMove) (shape : Shape) → ((node : Client) → client_at w c ≡ Some node → (client_step c shape node move).client.disk ≡ node.disk)
      → (row : List ℕ) → kept_at (move_client c move shape w).world c table row ≡ kept_at w c table row
  same_kept move shape same row = go (client_at w c) refl
    where
      go : (o : Option Client) → client_at w c ≡ o → kept_at (move_client c move shape w).world c table row ≡ kept_at w c table row
      go None at = ap (λ (o : Option Client). kept_at (move_there w c move shape o).world c table row) at
      go (Some node) at =
          ap (λ (m : Moved). kept_at m.world c table row) (moved_is w c move shape node at)
          ∙ (ap (λ (o : Option Client). slots_in o table row) (moved_at w c move (client_step c shape node move))
          ∙ (ap (λ (d : ClientDisk). slots_of (seen d) table row) (same node at) ∙ sym (ap (λ (o : Option Client). slots_in o table row) at)))

  fallen_kept : (row : List ℕ) → kept_at (client_falls c w).world c table row ≡ kept_at w c table row
  fallen_kept = same_kept (client.Crash messages.FailedBefore) no_shape (λ node at. stays node.disk node.agenda)
    where
      stays : (d : ClientDisk) (agenda : Option (List ClientTask)) → (client.crashed d agenda messages.FailedBefore).client.disk ≡ d
      stays d None = refl
      stays d (Some []) = refl
      stays d (Some (task ∷ more)) = refl

  asked_kept : (shape : Shape) (lucks : List Luck) (node : Client) → client_at w c ≡ Some node
      → (row : List ℕ) → kept_at (and_then (move_client c (client.ResolveAll table by) shape w) (client_follows_from node.agenda c lucks)).world c table row ≡ kept_at w c table row
  asked_kept shape lucks node at row =
      let move : ClientMove = client.ResolveAll table by in
      let v : World = (move_client c move shape w).world in
      let there : client_at v c ≡ Some node =
      ap (λ (m : Moved). client_at m.world c) (moved_is w c move shape node at)
      ∙ (moved_at w c move (client_step c shape node move) ∙ ap Some (unchanged shape node.disk table by node.agenda)) in
      ap (λ (x : World). kept_at x c table row) (nothing_follows c lucks v node.disk node.agenda there)
      ∙ same_kept move shape (λ x is. ap (λ (y : Client). y.disk) (unchanged shape x.disk table by x.agenda)) row

  -- ---- the rows in conflict of an idle client

  module _ (d : ClientDisk) (here : client_at w c ≡ Some (record { disk = d; agenda = Some [] })) (o : TableDisk) (at : table_at (seen d) table ≡ Some o) where
    part_is : part.Runs g c k.items (k.sent c) d (s.heard c) []
    part_is = k.clients c (record { disk = d; agenda = Some [] }) here

    free : d.plan ≡ None
    free = part_is.1

    seen_is : seen d ≡ d
    seen_is = ap (λ (p : Option Plan). planned_in d p) free

    opened : table_at d table ≡ Some o
    opened = subst (λ (e : ClientDisk). table_at e table ≡ Some o) seen_is at

    rising : Rising o.rows
    rising = (part_is.0.opened table o opened).rising

    pairs_are : pairs ≡ pairs_of o.rows
    pairs_are = ap (λ (q : Option Client). client_pairs q table) here ∙ listed
      where
        listed : client_pairs (Some (record { disk = d; agenda = Some [] })) table ≡ pairs_of o.rows
        listed = rw at refl

    kept_is : (row : List ℕ) → kept_at w c table row ≡ slots_of d table row
    kept_is row = ap (λ (q : Option Client). slots_in q table row) here ∙ ap (λ (e : ClientDisk). slots_of e table row) seen_is

    all_of : (shapes : List Shape) (lucks : List Luck) → Resolves c table by d pairs (resolve_each c table by shapes lucks pairs w)
    all_of shapes lucks = subst (λ (ps : List RowPair). Resolves c table by d ps (resolve_each c table by shapes lucks ps w)) (sym pairs_are)
        (each_resolved c table by (pairs_of o.rows) (pairs_apart o.rows rising) shapes lucks w d here free (pairs_stand c table by d o opened rising))

    first_resolved : (m : Moved) → Resolves c table by d pairs m → FirstResolved by c table w m.world
    first_resolved m r = record {
      done = r.done;
      rest = r.rest;
      split = r.split;
      resolved = λ pair a. subst (λ (z : Slots). IsResolved by pair.row z (kept_at m.world c table pair.row)) (sym (kept_is pair.row))
          (subst (λ (z : Slots). IsResolved by pair.row (slots_of d table pair.row) z) (sym (behind pair.row)) (r.resolved pair a));
      left = λ row outside. behind row ∙ (r.left row outside ∙ sym (kept_is row));
    }
      where
        behind : (row : List ℕ) → kept_at m.world c table row ≡ slots_of (seen r.node.disk) table row
        behind row = ap (λ (q : Option Client). slots_in q table row) r.there

    -- where no row is left
    all_resolved : (v : World) (first : FirstResolved by c table w v) → first.rest ≡ [] → AllResolved by c table w v
    all_resolved v first none = record { resolved = resolved; left = left; free = freed }
      where
        slots_are : (row : List ℕ) → kept_at w c table row ≡ slots_at o row
        slots_are row = kept_is row ∙ ap (λ (m : Option TableDisk). client.slots_in m row) opened

        done_is : pairs_of o.rows ≡ first.done
        done_is = sym pairs_are ∙ (first.split ∙ (ap (λ (ps : List RowPair). first.done ++ ps) none ∙ append-nil first.done))

        resolved : (row : List ℕ) (main : Main) (x : Shadow) → (kept_at w c table row).main ≡ Some main → (kept_at w c table row).conflict ≡ Some x
            → IsResolved by row (kept_at w c table row) (kept_at v c table row)
        resolved row main x main_is conflict_is =
            first.resolved (record { row = row; number = main.number; version = x.version })
            (subst (λ (ps : List RowPair). Among ps (record { row = row; number = main.number; version = x.version })) done_is
            (pair_there o row main x (ap (λ (z : Slots). z.main) (sym (slots_are row)) ∙ main_is) (ap (λ (z : Slots). z.conflict) (sym (slots_are row)) ∙ conflict_is)))

        left : (row : List ℕ) → (kept_at w c table row).conflict ≡ None → kept_at v c table row ≡ kept_at w c table row
        left row none_here = first.left row (λ pair a. outside pair a (same_row pair.row row) refl)
          where
            outside : (pair : RowPair) → Among first.done pair → (b : Bool) → same_row pair.row row ≡ b → b ≡ false
            outside pair a false is = refl
            outside pair a true is =
                let f = first.resolved pair a in
                absurd (let e : Some f.theirs ≡ None = sym f.was_conflict ∙ (ap (λ (z : List ℕ). (kept_at w c table z).conflict) (same_row-is pair.row row is) ∙ none_here) in cc)

        freed : (row : List ℕ) → (kept_at v c table row).conflict ≡ None
        freed row = by_conflict (kept_at w c table row).conflict refl
          where
            by_conflict : (q : Option Shadow) → (kept_at w c table row).conflict ≡ q → (kept_at v c table row).conflict ≡ None
            by_conflict None is = ap (λ (z : Slots). z.conflict) (left row is) ∙ is
            by_conflict (Some x) is =
                let tied = part_is.0.rows table row in
                let met = tied.fit.conflict x (ap (λ (z : Slots). z.conflict) (sym (kept_is row)) ∙ is) in
                (resolved row met.main x (ap (λ (z : Slots). z.main) (kept_is row) ∙ met.in_main) is).free

  -- ---- the event

  pub record IsDoneSo (x : WorldStep) : Type 0 where
    pub first : FirstResolved by c table w x.world
    pub all : (n : ℕ) → x.answer ≡ Some (facts.Number n) → AllResolved by c table w x.world × (n ≡ length pairs)

  refused_so : (r : Refusal) (m : Moved) → ((row : List ℕ) → kept_at m.world c table row ≡ kept_at w c table row)
      → IsDoneSo (record { world = m.world; answer = Some (facts.Refuses r); counted = []; outs = m.outs })
  refused_so r m same = record { first = none_resolved m.world same; all = λ n is. absurd cc }

  each_so : (d : ClientDisk) → client_at w c ≡ Some (record { disk = d; agenda = Some [] }) → (o : TableDisk) → table_at (seen d) table ≡ Some o
      → (shapes : List Shape) (lucks : List Luck) (n : ℕ) → n ≡ length (pairs_of o.rows) → IsDoneSo (answering (facts.Number n) (resolve_each c table by shapes lucks pairs w))
  unfolding first_resolved all_of
  each_so d here o at shapes lucks n count = by_fault m.failed refl
    where
      m : Moved
      m = resolve_each c table by shapes lucks pairs w

      r : Resolves c table by d pairs m
      r = all_of d here o at shapes lucks

      first : FirstResolved by c table w m.world
      first = first_resolved d here o at m r

      by_fault : (b : Bool) → m.failed ≡ b → IsDoneSo (record { world = m.world; answer = Some (if b then facts.Refuses facts.NoDevice else facts.Number n); counted = []; outs = m.outs })
      by_fault true is = record { first = first; all = λ i e. absurd cc }
      by_fault false is = record {
        first = first;
        all = λ i e. (
          all_resolved d here o at m.world first (r.all is),
          (let same : n ≡ i = cc in sym same ∙ (count ∙ ap (λ (ps : List RowPair). length ps) (sym (pairs_are d here o at)))),
        );
      }

  pub all_so : (shape : Shape) (shapes : List Shape) (lucks more : List Luck) → IsDoneSo (resolve_all w c table by shapes more (call w c (client.ResolveAll table by) shape lucks))
  all_so shape shapes lucks more =
      call_is (λ (x : WorldStep). IsDoneSo (resolve_all w c table by shapes more x)) w c (client.ResolveAll table by) shape lucks
      (λ r before. record { first = none_resolved w (λ row. refl); all = λ n is. absurd cc })
      (record { first = none_resolved (client_falls c w).world fallen_kept; all = λ n is. absurd cc }) (λ no. absurd no)
      (λ node at. by_node node at) (client_at w c) refl
    where
      by_node : (node : Client) → client_at w c ≡ Some node → IsDoneSo (resolve_all w c table by shapes more
          (answering (client_step c shape node (client.ResolveAll table by)).answer (and_then (move_client c (client.ResolveAll table by) shape w) (client_follows_from node.agenda c (other_lucks lucks)))))
      by_node node at = by_fault m.failed
        where
          m : Moved
          m = and_then (move_client c (client.ResolveAll table by) shape w) (client_follows_from node.agenda c (other_lucks lucks))

          same : (row : List ℕ) → kept_at m.world c table row ≡ kept_at w c table row
          same = asked_kept shape (other_lucks lucks) node at

          by_answer : (a : Answer) → (client_step c shape node (client.ResolveAll table by)).answer ≡ a → IsNumber a
              → IsDoneSo (resolve_all w c table by shapes more (record { world = m.world; answer = Some a; counted = []; outs = m.outs }))
          by_answer (facts.Number n) is f =
              let q = asked shape node.disk table by node.agenda n is in
              each_so node.disk (at ∙ ap (λ (agenda : Option (List ClientTask)). Some (record { disk = node.disk; agenda = agenda })) q.idle) q.opened q.at shapes more n q.count
          by_answer (facts.Refuses r) is f = refused_so r m same
          by_answer other is f = absurd f

          by_fault : (b : Bool) → IsDoneSo (resolve_all w c table by shapes more
              (record { world = m.world; answer = Some (if b then facts.Refuses facts.NoDevice else (client_step c shape node (client.ResolveAll table by)).answer); counted = []; outs = m.outs }))
          by_fault true = refused_so facts.NoDevice m same
          by_fault false = by_answer (client_step c shape node (client.ResolveAll table by)).answer refl (all_form c shape node.disk node.agenda table by)
