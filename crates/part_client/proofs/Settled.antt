-- What is settled of a table stands.
use Rattle.std.proofs.Common.{◌≡◌, ℕ, true, false, cond, List, [], ◌∷◌, Some, None, refl, sym, ap, ◌∙◌, subst}
use Rattle.std.specs.Prelude.{option_map, Result, Ok, Err, IfOk, OnOk, OnErr}
use Rattle.std.specs.List.{find, list_all}
use Rattle.std.specs.BTreeMap as tree
use Rattle.std.specs.BTreeMap.{is_at}
use Rattle.std.specs.BTreeSet as set
use Rattle.std.proofs.lemmas.Bool.{and_parts}
use Rattle.step_tables.specs.Client.{row_cmp}
use Rattle.step_tables.specs.Travels.{message_of}
use Rattle.step_tables.specs.declared.message.Message.{Message}
use Rattle.part_tables.specs.ClientParts.{Answering, Whole, Tears, Waits, is_of_table, without_table}
use Rattle.part_tables.specs.Arriving.{Arriving, Arrived, WholeRow, is_of_row, without_row}
use Rattle.part_client.specs.declared.pulls.Pulling.{Pulling}
use Rattle.part_client.specs.declared.rows.TornRow.{TornRow}
use Rattle.part_client.specs.declared.taken.Taken.{Taken}
use Rattle.part_client.specs.declared.taken.Taken.TheVariants as takens
use Rattle.part_client.specs.declared.table.TableParts.{TableParts}
use Rattle.part_client.specs.Weighing.{answering_of, whole_of}
use Rattle.part_client.specs.Calls.{pull_settled, row_settled}
use Rattle.part_client.specs.Keeping.{KeepsTable, IsTakenAt}
use Rattle.part_contents.proofs.Filters.{find_of_filter}
use Rattle.part_client.proofs.Stands.{no_pull, pull_put, row_gone, row_put, torn_put, torn_gone}

module _ (table : ℕ) (a : Arriving) (it : TableParts) (k : KeepsTable table a it) where
  pub whole_settled : (message : Message) → IsTakenAt table (pull_settled table a (record { taken = Whole (message_of message); answerings = [] })) (record it { pull = None }) (takens.Whole message)
  whole_settled message = record { taken = refl; kept = record { pull = no_pull table a.pulls; rows = k.rows; torn = k.torn } }

  pub tears_settled : (row : List ℕ) (torn : set.BTreeSet (List ℕ)) → ((q : List ℕ) → set.contains row_cmp torn q ≡ cond (is_at (row_cmp row) q) true (set.contains row_cmp it.torn q))
      → IsTakenAt table (pull_settled table a (record { taken = Tears row; answerings = [] })) (record it { pull = None; torn = torn }) (takens.Tears row)
  tears_settled row torn at = record { taken = refl; kept = record { pull = no_pull table a.pulls; rows = k.rows; torn = torn_put table row it.torn torn a.torn k.torn at } }

  pub waits_settled : (x : Pulling) → list_all (is_of_table table) (answering_of x ∷ []) ≡ true
      → IsTakenAt table (pull_settled table a (record { taken = Waits; answerings = answering_of x ∷ [] })) (record it { pull = Some x }) takens.Waits
  waits_settled x all = record {
    taken = refl;
    kept = record { pull = pull_put table a.pulls x (and_parts (is_of_table table (answering_of x)) true all).0; rows = k.rows; torn = k.torn };
  }

  module _ (row : List ℕ) where
    pub row_whole : (message : Message) (rows : tree.BTreeMap (List ℕ) TornRow) (torn : set.BTreeSet (List ℕ))
        → ((q : List ℕ) → tree.get row_cmp rows q ≡ cond (is_at (row_cmp row) q) None (tree.get row_cmp it.rows q))
        → ((q : List ℕ) → set.contains row_cmp torn q ≡ cond (is_at (row_cmp row) q) false (set.contains row_cmp it.torn q))
        → IsTakenAt table (row_settled table row a (record { taken = Whole (message_of message); rows = [] })) (record it { rows = rows; torn = torn }) (takens.Whole message)
    row_whole message rows torn gone mended = record {
      taken = refl;
      kept = record { pull = k.pull; rows = row_gone table row it.rows rows a.rows k.rows gone; torn = torn_gone table row it.torn torn a.torn k.torn mended };
    }

    pub row_waits : (x : TornRow) (rows : tree.BTreeMap (List ℕ) TornRow) → list_all (is_of_row table row) (whole_of x ∷ []) ≡ true
        → ((q : List ℕ) → tree.get row_cmp rows q ≡ cond (is_at (row_cmp row) q) (Some x) (tree.get row_cmp it.rows q))
        → IsTakenAt table (row_settled table row a (record { taken = Waits; rows = whole_of x ∷ [] })) (record it { rows = rows }) takens.Waits
    row_waits x rows all put = record {
      taken = refl;
      kept = record { pull = k.pull; rows = row_put table row it.rows rows a.rows k.rows x (and_parts (is_of_row table row (whole_of x)) true all).0 put; torn = k.torn };
    }

  pub no_pull_stands : KeepsTable table (record a { pulls = without_table table a.pulls }) (record it { pull = None })
  no_pull_stands = record { pull = no_pull table a.pulls; rows = k.rows; torn = k.torn }

  pub no_row_stands : (row : List ℕ) (rows : tree.BTreeMap (List ℕ) TornRow) → ((q : List ℕ) → tree.get row_cmp rows q ≡ cond (is_at (row_cmp row) q) None (tree.get row_cmp it.rows q))
      → KeepsTable table (record a { rows = without_row table row a.rows }) (record it { rows = rows })
  no_row_stands row rows gone = record { pull = k.pull; rows = row_gone table row it.rows rows a.rows k.rows gone; torn = k.torn }

-- an equal outcome
pub taken_as : (table : ℕ) (x y : Arrived) (it : TableParts) (told : Taken) → x ≡ y → IsTakenAt table x it told → IsTakenAt table y it told
taken_as table x y it told e h = subst (λ (z : Arrived). IsTakenAt table z it told) e h

pub nothing_changes : (table : ℕ) (a : Arriving) (it : TableParts) → KeepsTable table a it → IsTakenAt table (record { taken = Waits; arriving = a }) it takens.Waits
nothing_changes table a it k = record { taken = refl; kept = k }

-- ---- what is found of a table

module _ (table : ℕ) (a : Arriving) (it : TableParts) (k : KeepsTable table a it) where
  pub pull_found : find (is_of_table table) a.pulls ≡ option_map answering_of it.pull
  pull_found = find_of_filter (is_of_table table) a.pulls (option_map answering_of it.pull) k.pull

  module _ (x : Answering) (pulled : Pulling) (found : find (is_of_table table) a.pulls ≡ Some x) (there : it.pull ≡ Some pulled) where
    pub same_pull : answering_of pulled ≡ x
    same_pull = some_same (answering_of pulled) x (ap (option_map answering_of) (sym there) ∙ (sym pull_found ∙ found))
      where
        some_same : (y z : Answering) → Some y ≡ Some z → y ≡ z
        some_same y z e = cc

  module _ (row : List ℕ) (x : WholeRow) (torn : TornRow) (found : find (is_of_row table row) a.rows ≡ Some x) (there : tree.get row_cmp it.rows row ≡ Some torn) where
    pub same_whole : whole_of torn ≡ x
    same_whole = some_same (whole_of torn) x (ap (option_map whole_of) (sym there) ∙ (sym (k.rows row) ∙ found))
      where
        some_same : (y z : WholeRow) → Some y ≡ Some z → y ≡ z
        some_same y z e = cc

pub always_err : {X Y : Type 0} (r : Result X Y) (P : Type 0) → P → OnErr r P
always_err (Ok x) P p = tt
always_err (Err y) P p = p

pub err_weaker : {X Y : Type 0} (r : Result X Y) (P Q : Type 0) → (P → Q) → OnErr r P → OnErr r Q
err_weaker (Ok x) P Q f p = tt
err_weaker (Err y) P Q f p = f p

pub ok_then : {X Y : Type 0} (r : Result X Y) (P : X → Type 0) (Q : Type 0) → ((x : X) → P x → Q) → IfOk r P → OnOk r Q
ok_then (Ok x) P Q f p = f x p
ok_then (Err y) P Q f p = tt
