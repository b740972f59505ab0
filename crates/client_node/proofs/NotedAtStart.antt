-- How the rows of the devices that wait are noted, one by one.
use Rattle.std.proofs.Common.{◌≡◌, ◌⊎◌, inl, inr, ℕ, zero, suc, ◌+◌, ◌<◌, ◌≤◌, Bool, true, false, List, [], ◌∷◌, length, drop, get_or, Option, Some, None, Ok, refl, sym, ◌∙◌, ap, subst, arith}
use Rattle.std.specs.Prelude.{slice_index_or, nat_lt, IfSome, IsSome}
use Rattle.std.specs.List.{Contains}
use Rattle.std.proofs.lemmas.Bool.Decides.{nat_tests}
use Rattle.std.proofs.lemmas.List.{drop_more, drop_all}
use Rattle.disk_trait.specs.Image.{IsImage}
use Rattle.disk_trait.specs.Calls.{DiskState}
use Rattle.plan_log.specs.Spelling.{IsTable}
use Rattle.plan_log.specs.declared.plan.RowChange.{RowChange}
use Rattle.slot_store.specs.declared.held.RowSlots.{RowSlots}
use Rattle.slot_store.specs.Data.{key_at, slots_of}
use Rattle.client_journal.specs.declared.devs.Journal.{Journal}
use Rattle.client_journal.specs.declared.rolled.Redone.{Redone}
use Rattle.client_journal.specs.declared.rolled.Rolled.{Rolled}
use Rattle.client_journal.specs.Devs.{ClientDevs}
use Rattle.client_journal.specs.Redone.{redone}
use Rattle.client_journal.specs.Standing.{devs, writes_of, AreUp, IsReady}
use Rattle.journal_laws.specs.Holds.{slots_or_empty}
use Rattle.client_node.specs.declared.waiting.Waiting.{Waiting}
use Rattle.client_node.specs.Carrying.{IsNotedRow}
use Rattle.client_node.specs.Looks.{Looks}
use Rattle.client_node.specs.Noting.{IsNotedAt, AreNotedOf, IsRedoneNoted}
use Rattle.client_node.specs.Waiting.{IsMore, IsNotedTwice}
use Rattle.client_node.proofs.AskedAgain.{ok_not}
use Rattle.client_node.proofs.Serving.{looks_none, looks_then}

pub more_then : (first now new : Waiting) → IsMore first now → IsMore now new → IsMore first new
more_then first now new a b = record { outs = λ key is. b.outs key (a.outs key is); ready = λ key is. b.ready key (a.ready key is); conflicts = λ key is. b.conflicts key (a.conflicts key is) }

twice_more : (now new : Waiting) (table : ℕ) (row : List ℕ) → IsMore now new → IsNotedTwice now table row → IsNotedTwice new table row
twice_more now new table row m t = record { out = m.outs (key_at table row) t.out; ready = m.ready (key_at table row) t.ready; conflict = m.conflicts (key_at table row) t.conflict }

row_more : (now new : Waiting) (table : ℕ) (change : RowChange) → IsMore now new → IsNotedRow now table change → IsNotedRow new table change
row_more now new table change m n = record {
  out = λ some. m.outs (key_at table change.row) (n.out some);
  ready = λ can. m.ready (key_at table change.row) (n.ready can);
  conflict = λ some. m.conflicts (key_at table change.row) (n.conflict some);
  sized = n.sized;
}

if_more : (now new : Waiting) (table : ℕ) (o : Option (List ℕ)) → IsMore now new → IfSome o (IsNotedTwice now table) → IfSome o (IsNotedTwice new table)
if_more now new table None m n = tt
if_more now new table (Some row) m n = twice_more now new table row m n

redone_more : (now new : Waiting) (o : Option Redone) → IsMore now new → IfSome o (λ r. IfSome r.row (IsNotedTwice now r.table)) → IfSome o (λ r. IfSome r.row (IsNotedTwice new r.table))
redone_more now new None m n = tt
redone_more now new (Some r) m n = if_more now new r.table r.row m n

-- a row that has no slots waits for nothing
pub none_noted : (d : ClientDevs) (w : Waiting) (table : ℕ) (row : List ℕ) → slots_of (redone d) table row ≡ None → IsNotedAt d w table row
none_noted d w table row none =
    subst (λ (o : Option RowSlots). IsNotedRow w table (record { row = row; slots = slots_or_empty o })) (sym none) (record {
      out = λ some. absurd cc;
      ready = λ can. absurd cc;
      conflict = λ some. absurd cc;
      sized = λ some. absurd cc;
    })

-- so all are, where those that have slots are
pub all_of : (d : ClientDevs) (w : Waiting) (table : ℕ) → ((row : List ℕ) → IsSome (slots_of (redone d) table row) → IsNotedAt d w table row) → AreNotedOf d w table
all_of d w table some row = pick (slots_of (redone d) table row) refl
  where
    pick : (o : Option RowSlots) → slots_of (redone d) table row ≡ o → IsNotedAt d w table row
    pick None is = none_noted d w table row is
    pick (Some stored) is = some row (subst (λ (x : Option RowSlots). IsSome x) (sym is) refl)

-- ---- the rows of a table

-- a row among others
abbrev Among : List (List ℕ) → List ℕ → Type 0
Among [] row = ⊥
Among (r ∷ rows) row = (r ≡ row) ⊎ Among rows row

among : (rows : List (List ℕ)) (row : List ℕ) (k : ℕ) → k < length rows → slice_index_or rows k row ≡ row → Among rows row
among [] row k lt is = absurd (omega (arith, lt))
among (r ∷ rows) row zero lt is = inl is
among (r ∷ rows) row (suc k) lt is = inr (among rows row k (omega (arith, lt)) is)

module _ {D : Type 0} (state : D → DiskState) (images : D → ℕ → List ℕ → Type 0) (first : Journal D) (table : ℕ) (rows : List (List ℕ)) (before : Waiting) where
  -- the devices were only read, and those rows are noted that aren't left
  pub record HaveNoted (done : ℕ) (now : Journal D) (w : Waiting) : Type 0 where
    pub looks : Looks {T = Unit {0}} state images first now (Ok tt)
    pub more : IsMore before w
    pub left : (row : List ℕ) → Among rows row → Among (drop done rows) row ⊎ IsNotedAt (devs state first) w table row

module _ {D : Type 0} (state : D → DiskState) (images : D → ℕ → List ℕ → Type 0) (only_now : (disk : D) (image : List ℕ) → images disk (state disk).moment image → IsImage (state disk).pending image) (first : Journal D) (up : AreUp first) (ready : IsReady state first (writes_of first))
    (table : ℕ) (rows : List (List ℕ)) (before : Waiting) where
  pub nothing_noted : HaveNoted state images first table rows before 0 first before
  nothing_noted = record {
    looks = looks_none state images only_now first up ready (Ok tt) (ok_not tt);
    more = record { outs = λ key is. is; ready = λ key is. is; conflicts = λ key is. is };
    left = λ row a. inl a;
  }

  module _ (done : ℕ) (now : Journal D) (w : Waiting) (h : HaveNoted state images first table rows before done now w) where
    pub one_noted : (new : Journal D) (more : Waiting) (row e : List ℕ) → done < length rows → row ≡ get_or rows done e → Looks {T = Unit {0}} state images now new (Ok tt) → IsMore w more → IsNotedAt (devs state now) more table row → HaveNoted state images first table rows before (done + 1) new more
    one_noted new more row e lt is l m noted = record {
      looks = looks_then state images first new up ready now tt (Ok tt) h.looks l;
      more = more_then before w more h.more m;
      left = λ r at. pick r (h.left r at);
    }
      where
        here : IsNotedAt (devs state first) more table row
        here = subst (λ (d : ClientDevs). IsNotedAt d more table row) (h.looks.serves.same (λ no. cc)) noted

        pick : (r : List ℕ) → Among (drop done rows) r ⊎ IsNotedAt (devs state first) w table r → Among (drop (done + 1) rows) r ⊎ IsNotedAt (devs state first) more table r
        pick r (inr n) = inr (row_more w more table _ m n)
        pick r (inl at) = next (subst (λ (l : List (List ℕ)). Among l r) (drop_more rows done e lt) at)
          where
            next : (get_or rows done e ≡ r) ⊎ Among (drop (done + 1) rows) r → Among (drop (done + 1) rows) r ⊎ IsNotedAt (devs state first) more table r
            next (inr later) = inl later
            next (inl same) = inr (subst (λ (x : List ℕ). IsNotedAt (devs state first) more table x) (is ∙ same) here)

    pub all_noted : length rows ≤ done → (row : List ℕ) → Contains rows row → IsNotedAt (devs state first) w table row
    all_noted all row there = pick (subst (λ (l : List (List ℕ)). Among l row ⊎ IsNotedAt (devs state first) w table row) (drop_all done rows all) (h.left row (among rows row there.0 there.1 there.2)))
      where
        pick : Among [] row ⊎ IsNotedAt (devs state first) w table row → IsNotedAt (devs state first) w table row
        pick (inl at) = absurd at
        pick (inr n) = n

-- ---- and those of each table

below_or_at : (a b : ℕ) → a < b + 1 → (a < b) ⊎ (a ≡ b)
below_or_at a b lt = pick (nat_lt a b) refl
  where
    pick : (c : Bool) → nat_lt a b ≡ c → (a < b) ⊎ (a ≡ b)
    pick true is = inl (grind (arith, nat_tests))
    pick false is = inr (grind (arith, nat_tests))

module _ {D : Type 0} (state : D → DiskState) (images : D → ℕ → List ℕ → Type 0) (first : Journal D) (rolled : Rolled) where
  -- the devices were only read, and the rows of the tables below this one are noted, with that of the plan that is redone
  pub record HaveHeld (next : ℕ) (now : Journal D) (w : Waiting) : Type 0 where
    pub looks : Looks {T = Unit {0}} state images first now (Ok tt)
    pub noted : (table : ℕ) → 1 ≤ table → table < next → AreNotedOf (devs state first) w table
    pub again : IsRedoneNoted w rolled

module _ {D : Type 0} (state : D → DiskState) (images : D → ℕ → List ℕ → Type 0) (only_now : (disk : D) (image : List ℕ) → images disk (state disk).moment image → IsImage (state disk).pending image) (first : Journal D) (up : AreUp first) (ready : IsReady state first (writes_of first)) (rolled : Rolled) where
  pub nothing_held : (w : Waiting) → IsRedoneNoted w rolled → HaveHeld state images first rolled 1 first w
  nothing_held w again = record { looks = looks_none state images only_now first up ready (Ok tt) (ok_not tt); noted = λ table least lt. absurd (omega (arith, least, lt)); again = again }

  pub one_held : (next : ℕ) (now new : Journal D) (w more : Waiting) → HaveHeld state images first rolled next now w → Looks {T = Unit {0}} state images now new (Ok tt) → IsMore w more → AreNotedOf (devs state now) more next → HaveHeld state images first rolled (next + 1) new more
  one_held next now new w more h l m n = record {
    looks = looks_then state images first new up ready now tt (Ok tt) h.looks l;
    noted = λ table least lt. pick table least (below_or_at table next lt);
    again = redone_more w more rolled.redone m h.again;
  }
    where
      here : AreNotedOf (devs state first) more next
      here = subst (λ (d : ClientDevs). AreNotedOf d more next) (h.looks.serves.same (λ no. cc)) n

      pick : (table : ℕ) → 1 ≤ table → (table < next) ⊎ (table ≡ next) → AreNotedOf (devs state first) more table
      pick table least (inl lt) = λ row. row_more w more table _ m (h.noted table least lt row)
      pick table least (inr same) = subst (AreNotedOf (devs state first) more) (sym same) here

  pub all_held : (next : ℕ) (now : Journal D) (w : Waiting) → HaveHeld state images first rolled next now w → 65 ≤ next → (table : ℕ) → IsTable table → AreNotedOf (devs state first) w table
  all_held next now w h most table numbered = let last = numbered.most in h.noted table numbered.least (omega (arith, most, last))
