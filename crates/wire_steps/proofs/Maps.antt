-- One table's or client's entry among those in memory.
use Rattle.std.proofs.Common.{◌≡◌, ◌≢◌, ℕ, Bool, false, cond, List, [], Option, Some, None, refl, sym, ◌∙◌, ap, subst, arith}
use Rattle.std.specs.Prelude.{◌==◌, OnOk, Result, Ok, Err}
use Rattle.std.proofs.lemmas.Bool.{eq-eqb}
use Rattle.std.proofs.lemmas.Bool.Decides.{nat_tests}
use Rattle.std.specs.Cmp.{unsigned_tied}
use Rattle.std.specs.Ordering.{nat_cmp}
use Rattle.std.specs.BTreeMap as tree
use Rattle.std.specs.BTreeMap.{is_at}
use Rattle.part_tables.specs.StoreParts.{Gathering, StoreTaken}
use Rattle.part_tables.specs.Arriving as arrivals
use Rattle.part_tables.specs.Arriving.{Arrived, nothing_arriving}
use Rattle.part_store.specs.Calls as at_store
use Rattle.part_store.specs.Gathered.{HasGathered}
use Rattle.part_store.specs.declared.gatherings.Gatherings.{Gatherings}
use Rattle.part_store.specs.declared.gatherings.Taken.{Taken as StoreTook}
use Rattle.part_client.specs.Keeping as at_client
use Rattle.part_client.specs.Keeping.{Keeps, KeepsIn, KeepsTable, HasNothing}
use Rattle.part_client.specs.declared.arriving.Arriving.{Arriving}
use Rattle.part_client.specs.declared.table.TableParts.{TableParts}
use Rattle.part_client.specs.declared.taken.Taken.{Taken as ClientTook}
use Rattle.wire_steps.specs.Holds.{HasGatheredThere, KeepsThere}
use Rattle.wire_steps.specs.Delivering.{IsGatheredThere, IsKeptThere}

-- ---- one entry

module _ {V : Type 0} (old new : tree.BTreeMap ℕ V) (k : ℕ) (x : V) (at : (q : ℕ) → tree.get nat_cmp new q ≡ cond (is_at (nat_cmp k) q) (Some x) (tree.get nat_cmp old q)) where
  pub put_here : tree.get nat_cmp new k ≡ Some x
  put_here = at k ∙ ap (λ (b : Bool). cond b (Some x) (tree.get nat_cmp old k)) (unsigned_tied k k ∙ eq-eqb k k refl)

  pub put_other : (q : ℕ) → q ≢ k → tree.get nat_cmp new q ≡ tree.get nat_cmp old q
  put_other q apart = at q ∙ ap (λ (b : Bool). cond b (Some x) (tree.get nat_cmp old q)) (unsigned_tied k q ∙ other)
    where
      other : (k == q) ≡ false
      other = grind (arith, nat_tests, apart)

pub any_other : {T E : Type 0} (result : Result T E) (P : Type 0) → P → OnOk result P
any_other (Ok x) P p = p
any_other (Err e) P p = tt

-- ---- nothing is kept

pub none_gathered : (it : Gatherings) (gs : List Gathering) → HasGathered it [] → HasGatheredThere gs None → HasGathered it gs
none_gathered it gs h none = record { each = λ client. none client ∙ h.each client }

pub none_kept : (it : Arriving) (a : arrivals.Arriving) → Keeps it nothing_arriving → KeepsThere a None → Keeps it a
none_kept it a k none = record { tables = λ table. go table (tree.get nat_cmp it.tables table) (k.tables table) }
  where
    go : (table : ℕ) (o : Option TableParts) → KeepsIn table nothing_arriving o → KeepsIn table a o
    go table None n = none table
    go table (Some parts) p = record {
      pull = (none table).pull ∙ p.pull;
      rows = λ row. (none table).rows row ∙ p.rows row;
      torn = λ row. (none table).torn row ∙ p.torn row;
    }

-- ---- what a part came to

pub taken_here : (x : StoreTaken) (it : Gatherings) (told : StoreTook) (o : Option Gatherings) → o ≡ Some it → at_store.IsTaken x it told → IsGatheredThere x o told
taken_here x it told o at k = (k.taken, subst (HasGatheredThere x.gatherings) (sym at) k.kept)

pub came_here : (x : Arrived) (it : Arriving) (told : ClientTook) (o : Option Arriving) → o ≡ Some it → at_client.IsTaken x it told → IsKeptThere x o told
came_here x it told o at k = (k.taken, subst (KeepsThere x.arriving) (sym at) k.kept)
