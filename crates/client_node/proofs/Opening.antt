-- What a client's disk keeps once its tables are opened.
use Rattle.std.proofs.Common.{◌≡◌, ◌⊎◌, inl, inr, ℕ, false, List, [], ◌∷◌, Option, Some, None, refl, sym, subst, arith}
use Rattle.std.specs.Prelude.{IfSome}
use Rattle.std.specs.Ordering.{nat_cmp}
use Rattle.std.specs.Cmp.{nat_cmp_total}
use Rattle.std.specs.Map.{lookup, keys_of}
use Rattle.std.specs.BTreeMap.{insert_entry, is_at}
use Rattle.std.specs.List.{AllByRecursion}
use Rattle.std.specs.List.Sorted.{IsStrictlySortedBy}
use Rattle.row_value.specs.declared.schema.Schema.{Schema}
use Rattle.step_tables.specs.ClientMoves.{TableDisk, opened_table}
use Rattle.journal_laws.proofs.Tables.{table_here, table_or_not}
use Rattle.client_node.specs.declared.waiting.Waiting.{Waiting}
use Rattle.client_node.specs.Node.{IsToOpen, opened_all, to_open}
use Rattle.client_node.specs.Steady.{IsSteadyTable, IsSteady}
use Rattle.client_node.proofs.Rising.{sorted_insert}
use Rattle.client_node.proofs.Steadies.{opened_steady}

module _ (w : Waiting) where
  record AreSteadyTables (some : List (ℕ × TableDisk)) : Type 0 where
    pub rising : IsStrictlySortedBy nat_cmp (keys_of some)
    pub each : (q : ℕ) → IfSome (lookup (is_at (nat_cmp q)) some) (IsSteadyTable w q)

  one_opened : (some : List (ℕ × TableDisk)) (table : ℕ × Schema) → IsToOpen table → AreSteadyTables some → AreSteadyTables (insert_entry nat_cmp some table.0 (opened_table table.1))
  one_opened some table o h = record {
    rising = sorted_insert nat_cmp_total some table.0 (opened_table table.1) h.rising;
    each = λ q. pick q (table_or_not some table.0 (opened_table table.1) q);
  }
    where
      pick : (q : ℕ) → (table.0 ≡ q) ⊎ ((is_at (nat_cmp table.0) q ≡ false) × (lookup (is_at (nat_cmp q)) (insert_entry nat_cmp some table.0 (opened_table table.1)) ≡ lookup (is_at (nat_cmp q)) some))
          → IfSome (lookup (is_at (nat_cmp q)) (insert_entry nat_cmp some table.0 (opened_table table.1))) (IsSteadyTable w q)
      pick q (inl same) =
          subst (λ (x : ℕ). IfSome (lookup (is_at (nat_cmp x)) (insert_entry nat_cmp some table.0 (opened_table table.1))) (IsSteadyTable w x)) same
          (subst (λ (o : Option TableDisk). IfSome o (IsSteadyTable w table.0)) (sym (table_here some table.0 (opened_table table.1))) (opened_steady w table.0 table.1 o.numbered o.spelled o.short))
      pick q (inr other) = subst (λ (o : Option TableDisk). IfSome o (IsSteadyTable w q)) (sym other.1) (h.each q)

  all_opened : (some : List (ℕ × TableDisk)) (tables : List (ℕ × Schema)) → AllByRecursion IsToOpen tables → AreSteadyTables some → AreSteadyTables (opened_all some tables)
  all_opened some [] o h = h
  all_opened some (table ∷ tables) o h = all_opened (insert_entry nat_cmp some table.0 (opened_table table.1)) tables o.1 (one_opened some table o.0 h)

  pub opens_steady : (tables : List (ℕ × Schema)) → AllByRecursion IsToOpen tables → IsSteady w (to_open tables)
  unfolding IsStrictlySortedBy
  opens_steady tables o =
      let h = all_opened [] tables o (record { rising = tt; each = λ q. tt }) in
      record { few = omega arith; rising = h.rising; each = h.each; plan = tt }
