-- What a client's disk keeps, behind a device write and behind more that is noted.
use Rattle.std.proofs.Common.{◌≡◌, ◌⊎◌, inl, inr, ℕ, Bool, true, false, cond, List, [], ◌∷◌, Option, Some, None, refl, sym, ◌∙◌, ap, subst}
use Rattle.std.specs.List.Sorted.{IsStrictlySortedBy}
use Rattle.std.specs.Prelude.{IfSome}
use Rattle.std.specs.Ordering.{nat_cmp}
use Rattle.std.specs.Cmp.{nat_cmp_total}
use Rattle.std.specs.Cmp.Lexicographic.{nat_list_cmp_total}
use Rattle.std.specs.Map.{lookup}
use Rattle.std.specs.BTreeMap.{insert_entry, is_at}
use Rattle.std.proofs.lemmas.Map.Lookups.{exact_bytes}
use Rattle.spare_map.proofs.Changes.{lookup-changed}
use Rattle.slot_store.proofs.Keys.{equal_is}
use Rattle.row_value.specs.declared.schema.Schema.{Schema}
use Rattle.value_codec.specs.SchemaSpelling.{HasSchemaSpelling}
use Rattle.plan_log.specs.Spelling.{IsTable}
use Rattle.step_tables.specs.Client.{row_cmp}
use Rattle.step_tables.specs.ClientMoves.{seen, planned_in, Slots, TableDisk, RowPut, Plan, ClientDisk, ClientChange, ClientTask, Commit, PutRow, PutTable, Finish, Keep, changed, slots_at, table_at, put_row, put_position, with_table, row_put, table_put, or_none}
use Rattle.step_tables.specs.ClientMoves.{TableChange, Opens, Closes, opened_table, open_table, close_table, altered, put_of, applied_by}
use Rattle.journal_laws.proofs.Tables.{table_here, table_or_not}
use Rattle.slot_store.specs.Data.{key_at}
use Rattle.client_node.specs.declared.waiting.Waiting.{Waiting}
use Rattle.client_node.specs.Waiting.{IsMore}
use Rattle.client_node.specs.Steady.{IsNoted, IsShortSchema, IsSteadyTable, IsSteadyAlter, IsSteadyPlan, IsSteady, IsSteadyChange, AreSteady}
use Rattle.client_node.proofs.Rising.{sorted_insert}

module _ (w : Waiting) where
  -- a table with one row put, and one moved
  put_steady : (number : ℕ) (x : RowPut) (t : TableDisk) → IsNoted w number x.row x.slots → IsSteadyTable w number t → IsSteadyTable w number (put_row x t)
  put_steady number x t noted h = record {
    numbered = h.numbered;
    spelled = h.spelled;
    short = h.short;
    rising = sorted_insert nat_list_cmp_total t.rows x.row x.slots h.rising;
    noted = λ r. subst (λ (s : Slots). IsNoted w number r s) (sym (ap or_none (lookup-changed row_cmp nat_list_cmp_total t.rows x.row (Some x.slots) r))) (pick r (is_at (row_cmp x.row) r) refl);
  }
    where
      pick : (r : List ℕ) (b : Bool) → is_at (row_cmp x.row) r ≡ b → IsNoted w number r (or_none (cond b (Some x.slots) (lookup (is_at (row_cmp r)) t.rows)))
      pick r true is = subst (λ (q : List ℕ). IsNoted w number q x.slots) (exact_bytes x.row r (equal_is (row_cmp x.row r) is)) noted
      pick r false is = h.noted r

  moved_steady : (number position : ℕ) (t : TableDisk) → IsSteadyTable w number t → IsSteadyTable w number (put_position position t)
  moved_steady number position t h = record { numbered = h.numbered; spelled = h.spelled; short = h.short; rising = h.rising; noted = h.noted }

  closed_steady : (number : ℕ) (t : TableDisk) → IsSteadyTable w number t → IsSteadyTable w number (close_table t)
  closed_steady number t h = record { numbered = h.numbered; spelled = h.spelled; short = h.short; rising = h.rising; noted = h.noted }

  -- a table that is opened just now
  pub opened_steady : (number : ℕ) (schema : Schema) → IsTable number → HasSchemaSpelling schema → IsShortSchema schema → IsSteadyTable w number (opened_table schema)
  unfolding IsStrictlySortedBy
  opened_steady number schema numbered spelled short = record {
    numbered = numbered;
    spelled = spelled;
    short = short;
    rising = tt;
    noted = λ row. record { sent = λ some. absurd cc; ready = λ some. absurd cc; conflict = λ some. absurd cc; sized = λ some. absurd cc };
  }

  -- a table is put on the disk
  entry_steady : (d : ClientDisk) (number : ℕ) (t : TableDisk) → IsSteadyTable w number t → IsSteady w d → IsSteady w (record d { tables = insert_entry nat_cmp d.tables number t })
  entry_steady d number t new h = record {
    few = h.few;
    rising = sorted_insert nat_cmp_total d.tables number t h.rising;
    each = λ q. pick q (table_or_not d.tables number t q);
    plan = h.plan;
  }
    where
      pick : (q : ℕ) → (number ≡ q) ⊎ ((is_at (nat_cmp number) q ≡ false) × (lookup (is_at (nat_cmp q)) (insert_entry nat_cmp d.tables number t) ≡ lookup (is_at (nat_cmp q)) d.tables))
          → IfSome (lookup (is_at (nat_cmp q)) (insert_entry nat_cmp d.tables number t)) (IsSteadyTable w q)
      pick q (inl same) =
          subst (λ (x : ℕ). IfSome (lookup (is_at (nat_cmp x)) (insert_entry nat_cmp d.tables number t)) (IsSteadyTable w x)) same
          (subst (λ (o : Option TableDisk). IfSome o (IsSteadyTable w number)) (sym (table_here d.tables number t)) new)
      pick q (inr other) = subst (λ (o : Option TableDisk). IfSome o (IsSteadyTable w q)) (sym other.1) (h.each q)

  -- a table of the disk is changed
  with_steady : (d : ClientDisk) (number : ℕ) (f : TableDisk → TableDisk) → ((t : TableDisk) → IsSteadyTable w number t → IsSteadyTable w number (f t)) → (o : Option TableDisk) → table_at d number ≡ o → IsSteady w d → IsSteady w (with_table d number o f)
  with_steady d number f keeps None is h = h
  with_steady d number f keeps (Some t) is h = entry_steady d number (f t) (keeps t (subst (λ (o : Option TableDisk). IfSome o (IsSteadyTable w number)) is (h.each number))) h

  numbered_steady : (d : ClientDisk) (p : Plan) → IsSteadyPlan w p → IsSteady w d → IsSteady w (record d { last = p.last })
  numbered_steady d p s h = record { few = s.few; rising = h.rising; each = h.each; plan = h.plan }

  row_steady : (d : ClientDisk) (p : Plan) → IsSteadyPlan w p → IsSteady w d → IsSteady w (row_put d p.last p.table p.row)
  row_steady d p s h = pick p.row s.noted
    where
      pick : (o : Option RowPut) → IfSome o (λ x. IsNoted w p.table x.row x.slots) → IsSteady w (row_put d p.last p.table o)
      pick None noted = h
      pick (Some x) noted = with_steady (record d { last = p.last }) p.table (put_row x) (λ t k. put_steady p.table x t noted k) (table_at d p.table) refl (numbered_steady d p s h)

  table_steady : (d : ClientDisk) (table : ℕ) (position : Option ℕ) → IsSteady w d → IsSteady w (table_put d table position)
  table_steady d table None h = h
  table_steady d table (Some position) h = with_steady d table (put_position position) (λ t k. moved_steady table position t k) (table_at d table) refl h

  -- a table is opened or closed
  altered_steady : (d : ClientDisk) (table : ℕ) (change : TableChange) → IsSteadyAlter table (Some change) → IsSteady w d → IsSteady w (altered d table change)
  altered_steady d table (Opens schema) s h = pick (table_at d table)
    where
      pick : (o : Option TableDisk) → IsSteady w (open_table d table schema o)
      pick None = entry_steady d table (opened_table schema) (opened_steady table schema s.0 s.1 s.2) h
      pick (Some t) = h
  altered_steady d table Closes s h = with_steady d table close_table (λ t k. closed_steady table t k) (table_at d table) refl h

  put_by_steady : (d : ClientDisk) (p : Plan) (o : Option TableChange) → IsSteadyAlter p.table o → IsSteady w d → IsSteady w (put_of d p o)
  put_by_steady d p None s h = table_steady d p.table p.position h
  put_by_steady d p (Some change) s h = altered_steady d p.table change s h

  applied_steady : (d : ClientDisk) (p : Plan) (o : Option TableChange) → IsSteadyAlter p.table o → IsSteadyPlan w p → IsSteady w d → IsSteady w (applied_by p d o)
  applied_steady d p None a s h = table_steady (row_put d p.last p.table p.row) p.table p.position (row_steady d p s h)
  applied_steady d p (Some change) a s h = altered_steady d p.table change a h

  -- more rows are noted
  module _ (more : Waiting) (m : IsMore w more) where
    noted_more : (table : ℕ) (row : List ℕ) (slots : Slots) → IsNoted w table row slots → IsNoted more table row slots
    noted_more table row slots h = record { sent = λ some. m.outs (key_at table row) (h.sent some); ready = λ some. m.ready (key_at table row) (h.ready some); conflict = λ some. m.conflicts (key_at table row) (h.conflict some); sized = h.sized }

    table_more : (number : ℕ) (o : Option TableDisk) → IfSome o (IsSteadyTable w number) → IfSome o (IsSteadyTable more number)
    table_more number None h = tt
    table_more number (Some t) h = record { numbered = h.numbered; spelled = h.spelled; short = h.short; rising = h.rising; noted = λ r. noted_more number r (slots_at t r) (h.noted r) }

    put_more : (table : ℕ) (o : Option RowPut) → IfSome o (λ x. IsNoted w table x.row x.slots) → IfSome o (λ x. IsNoted more table x.row x.slots)
    put_more table None h = tt
    put_more table (Some x) h = noted_more table x.row x.slots h

    plan_more : (p : Plan) → IsSteadyPlan w p → IsSteadyPlan more p
    plan_more p h = record { few = h.few; alters = h.alters; noted = put_more p.table p.row h.noted }

    plan_if_more : (o : Option Plan) → IfSome o (IsSteadyPlan w) → IfSome o (IsSteadyPlan more)
    plan_if_more None h = tt
    plan_if_more (Some p) h = plan_more p h

    pub steady_more : (d : ClientDisk) → IsSteady w d → IsSteady more d
    steady_more d h = record { few = h.few; rising = h.rising; each = λ q. table_more q (table_at d q) (h.each q); plan = plan_if_more d.plan h.plan }

    change_more : (change : ClientChange) → IsSteadyChange w change → IsSteadyChange more change
    change_more (Commit p) h = plan_more p h
    change_more (PutRow p) h = plan_more p h
    change_more (PutTable p) h = plan_more p h
    change_more Finish h = tt
    change_more (Keep step) h = tt

    pub tasks_more : (tasks : List ClientTask) → AreSteady w tasks → AreSteady more tasks
    tasks_more [] h = tt
    tasks_more (task ∷ tasks) h = (change_more task.change h.0, tasks_more tasks h.1)

  pub steady_changed : (d : ClientDisk) (change : ClientChange) → IsSteadyChange w change → IsSteady w d → IsSteady w (changed d change)
  steady_changed d (Commit p) s h = record { few = h.few; rising = h.rising; each = h.each; plan = s }
  steady_changed d (PutRow p) s h = row_steady d p s h
  steady_changed d (PutTable p) s h = put_by_steady d p p.alters s.alters h
  steady_changed d Finish s h = record { few = h.few; rising = h.rising; each = h.each; plan = tt }
  steady_changed d (Keep step) s h = h

  -- the disk as it is read
  pub steady_seen : (d : ClientDisk) → IsSteady w d → IsSteady w (seen d)
  steady_seen d h = pick d.plan h.plan
    where
      pick : (o : Option Plan) → IfSome o (IsSteadyPlan w) → IsSteady w (planned_in d o)
      pick None s = h
      pick (Some p) s = applied_steady d p p.alters s.alters s h
