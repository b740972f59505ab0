-- A client that has nothing but the tables that it has opened.
use Rattle.std.proofs.Common.{◌≡◌, ℕ, ◌≤◌, List, [], ◌∷◌, Option, Some, None, refl, sym, ap, subst, ◌∙◌, arith}
use Rattle.std.specs.Prelude.{option_map}
use Rattle.std.specs.Ordering.{nat_cmp}
use Rattle.std.specs.Map.{lookup}
use Rattle.std.specs.BTreeMap.{is_at}
use Rattle.row_value.specs.declared.schema.Scheme.{Scheme}
use Rattle.row_value.specs.declared.schema.Scheme.TheVariants.{Strong, Causal, Eventual}
use Rattle.step_tables.specs.Store.{Stored}
use Rattle.step_tables.specs.Client.{row_cmp}
use Rattle.step_tables.specs.Sayings.{no_row, nothing_heard, open_of, open_in}
use Rattle.step_tables.specs.ClientMoves.{Slots, TableDisk, ClientDisk, Client, no_slots, or_none, slots_in, slots_of, table_at, position_in, position_of}
use Rattle.step_tables.specs.Items.{latest}
use Rattle.step_tables.proofs.Lists.{among_none}
use Rattle.client_laws.specs.Part.{Items, main_for, Rising, RowTied, TableTied, IsOpened, Tied, ClientPart}

none_open : (g : Scheme) → None ≡ option_map main_for (open_in g (open_of no_row))
none_open Strong = refl
none_open Causal = refl
none_open Eventual = refl

empty_row : (g : Scheme) (c : ℕ) (h : List Stored) (table : ℕ) (row : List ℕ) → RowTied g c h table row no_slots [] no_row []
empty_row g c h table row = record {
  fit = record {
    mine = λ m at. absurd cc;
    clear = λ m at. absurd cc;
    weak = λ m at. absurd cc;
    shadow = λ y at. absurd cc;
    low = omega arith;
    out = λ o at. absurd cc;
    conflict = λ y at. absurd cc;
    own = λ causal m at. absurd cc;
    lower = λ r a. absurd (among_none r a);
    sent_out = λ o r at. absurd cc;
    unsent = λ m r none free at. absurd cc;
  };
  main = none_open g;
  read = refl;
  level = λ free. refl;
  under = omega arith;
  based = omega arith;
}

none_rise : (rows : List (List ℕ × Slots)) → rows ≡ [] → Rising rows
unfolding Rising
none_rise [] e = tt
none_rise (x ∷ rows) e = absurd cc

pub fresh_part : (g : ℕ → Scheme) (c : ℕ) (h : Items) (tables : List (ℕ × TableDisk))
    → ((table : ℕ) (x : TableDisk) → lookup (is_at (nat_cmp table)) tables ≡ Some x → (x.schema.scheme ≡ g table) × (x.position ≡ 0) × (x.rows ≡ []))
    → ClientPart g c h [] nothing_heard (record { disk = record { last = 0; tables = tables; plan = None }; agenda = Some [] })
fresh_part g c h tables fresh = (
  record {
    last = refl;
    rows = λ q row. subst (λ (s : Slots). RowTied (g q) c (h q) q row s [] no_row []) (sym (no_slots_in q row (table_at disk q) refl)) (empty_row (g q) c (h q) q row);
    tables = λ q. subst (λ (n : ℕ). TableTied (h q) q n nothing_heard) (sym (at_start q (table_at disk q) refl))
        (record { told = refl; low = omega arith; covered = λ row le. omega (arith, le) });
    opened = λ q x is. let f = fresh q x is in record { scheme_is = f.0; rising = none_rise x.rows f.2 };
  },
  refl,
)
  where
    disk : ClientDisk
    disk = record { last = 0; tables = tables; plan = None }

    no_slots_in : (q : ℕ) (row : List ℕ) (m : Option TableDisk) → lookup (is_at (nat_cmp q)) tables ≡ m → slots_in m row ≡ no_slots
    no_slots_in q row None is = refl
    no_slots_in q row (Some x) is = ap (λ (rows : List (List ℕ × Slots)). or_none (lookup (is_at (row_cmp row)) rows)) (fresh q x is).2

    at_start : (q : ℕ) (m : Option TableDisk) → lookup (is_at (nat_cmp q)) tables ≡ m → position_in m ≡ 0
    at_start q None is = refl
    at_start q (Some x) is = (fresh q x is).1
