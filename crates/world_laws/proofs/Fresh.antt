-- A client that has nothing keeps its part.
use Rattle.std.proofs.Common.{◌≡◌, ℕ, List, [], Option, Some, None, refl, sym, subst, arith}
use Rattle.std.specs.Prelude.{option_map}
use Rattle.std.specs.Ordering.{nat_cmp}
use Rattle.std.specs.Map.{lookup}
use Rattle.std.specs.BTreeMap.{is_at}
use Rattle.row_value.specs.declared.schema.Scheme.{Scheme}
use Rattle.row_value.specs.declared.schema.Scheme.TheVariants.{Strong, Causal, Eventual}
use Rattle.step_tables.specs.Store.{Stored}
use Rattle.step_tables.specs.Messages as messages
use Rattle.step_tables.specs.Sayings.{nothing_heard, no_row, open_in}
use Rattle.step_tables.specs.ClientMoves.{Slots, TableDisk, no_slots, slots_in, position_in}
use Rattle.step_tables.proofs.Lists.{among_none}
use Rattle.client_laws.specs.Part.{Items, Rising, RowTied, main_for, ClientPart}
use Rattle.world_tables.specs.World.{new_client}
use Rattle.world_laws.proofs.Runs.{AreFresh, FreshParts}

open_none : (x : Scheme) → None ≡ option_map main_for (open_in x None)
open_none Strong = refl
open_none Causal = refl
open_none Eventual = refl

no_rows : Rising []
unfolding Rising
no_rows = tt

row_fresh : (g : Scheme) (c : ℕ) (h : List Stored) (table : ℕ) (row : List ℕ) → RowTied g c h table row no_slots [] no_row []
row_fresh g c h table row = record {
  fit = record {
    mine = λ m at. absurd cc;
    clear = λ m at. absurd cc;
    weak = λ m at. absurd cc;
    shadow = λ y at. absurd cc;
    low = omega arith;
    out = λ o at. absurd cc;
    conflict = λ y at. absurd cc;
    own = λ causal m at. absurd cc;
    lower = λ r a. absurd (among_none r a);
    sent_out = λ o r at. absurd cc;
    unsent = λ m r none free at. absurd cc;
  };
  main = open_none g;
  read = refl;
  level = λ free. refl;
  under = omega arith;
  based = omega arith;
}

tied_part : (g : ℕ → Scheme) (c : ℕ) (h : Items) (tables : List (ℕ × TableDisk)) → AreFresh g tables → ClientPart g c h [] nothing_heard (new_client tables (Some []))
tied_part g c h tables fresh = (
  record {
    last = refl;
    rows = λ table row. subst (λ (s : Slots). RowTied (g table) c (h table) table row s [] no_row []) (sym (slots table row)) (row_fresh (g table) c (h table) table row);
    tables = λ table. record {
      told = position table;
      low = (let e = position table in omega arith);
      covered = λ row le. (let e = position table in omega arith);
    };
    opened = λ table x at. let f = fresh table x at in record { scheme_is = f.0; rising = subst Rising (sym f.2) no_rows };
  },
  refl,
)
  where
    slots : (table : ℕ) (row : List ℕ) → slots_in (lookup (is_at (nat_cmp table)) tables) row ≡ no_slots
    slots table row = go (lookup (is_at (nat_cmp table)) tables) refl
      where
        go : (o : Option TableDisk) → lookup (is_at (nat_cmp table)) tables ≡ o → slots_in o row ≡ no_slots
        go None at = refl
        go (Some x) at = let e = (fresh table x at).2 in rw e refl

    position : (table : ℕ) → position_in (lookup (is_at (nat_cmp table)) tables) ≡ 0
    position table = go (lookup (is_at (nat_cmp table)) tables) refl
      where
        go : (o : Option TableDisk) → lookup (is_at (nat_cmp table)) tables ≡ o → position_in o ≡ 0
        go None at = refl
        go (Some x) at = (fresh table x at).1

-- a client in whose declaration a disk failed has nothing either
pub fresh_part : FreshParts
fresh_part g c h tables messages.Done fresh = tied_part g c h tables fresh
fresh_part g c h tables messages.FailedBefore fresh = (tied_part g c h tables fresh).0
fresh_part g c h tables messages.FailedAfter fresh = (tied_part g c h tables fresh).0
