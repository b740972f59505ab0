-- What a Store's moves come to: whether one failed, and moves put together.
use Rattle.std.proofs.Common.{◌≡◌, ℕ, zero, suc, Bool, true, false, List, [], ◌∷◌, ◌++◌, length, Option, Some, None, refl, sym, ◌∙◌, ap, subst, append_assoc, append-nil}
use Rattle.std.specs.Prelude.{if◌then◌else◌, ◌||◌, drop, IfOk, Result, Ok, Err}
use Rattle.std.proofs.lemmas.List.Elements.{filter-append}
use Rattle.disk_trait.specs.Calls.{DiskState}
use Rattle.stab_base.specs.declared.node.Node.{Node}
use Rattle.stab_base.specs.declared.node.Node.TheVariants as nodes
use Rattle.table_model.specs.declared.line.Answer.{Answer}
use Rattle.step_tables.specs.Facts as facts
use Rattle.step_tables.specs.Lines.{answer_of}
use Rattle.step_tables.specs.Messages.{Luck}
use Rattle.step_tables.specs.Messages as messages
use Rattle.step_tables.specs.StoreMoves as store
use Rattle.world_tables.specs.World.{World, Moved, Hosted, Outbox, has_node, still, and_then, and_unless, hosted_at, move_hosted, move_table, or_falls}
use Rattle.world_tables.specs.World.{store_falls, write_next, busy_table}
use Rattle.world_tables.specs.World.{first_luck, other_lucks, tables_of, tables_fall, tables_start, table_starts, without_down, store_until_idle, store_follows, store_starts, crash_luck}
use Rattle.world_tables.specs.World.{table_crashes, store_crashes}
use Rattle.store_host.specs.declared.host.StoreHost.{StoreHost}
use Rattle.store_host.specs.Holds.{HoldsStore, outs_of, says_something, said_by}
use Rattle.store_host.specs.Calls.{IsMoved, restart_moves}
use Rattle.store_host.proofs.Moving.{done_answer, crash_silent, falls_silent}
use Rattle.node_steps.specs.declared.fault.WorldFault.{WorldFault}
use Rattle.node_steps.specs.Outs.{IsAnswered}
use Rattle.node_steps.proofs.Going.{restart_goes}

-- ---- whether a move failed

hosted_well : (w : World) (table : ℕ) (o : Option Hosted) → (move_hosted w table (store.Work messages.Done) o).failed ≡ false
hosted_well w table None = refl
hosted_well w table (Some hosted) = done_answer hosted.store.disk hosted.store.agenda

pub write_well : (number : ℕ) (w : World) (busy : Option ℕ) → (write_next number messages.Done busy w).failed ≡ false
write_well number w None = refl
write_well number w (Some table) = go (move_table table (store.Work messages.Done) w) (hosted_well w table (hosted_at w table))
  where
    go : (m : Moved) → m.failed ≡ false → (or_falls number m).failed ≡ false
    go m well = ap (λ (b : Bool). (if b then and_then m (store_falls number) else m).failed) well ∙ well

falls_well : (number : ℕ) (w : World) → (store_falls number w).failed ≡ false
falls_well number w = ap (λ (b : Bool). b || false) (falls_silent (tables_of w number) w).failed

pub crashes_well : (number calls : ℕ) (lucks : List Luck) (w : World) → (store_crashes number calls lucks w).failed ≡ false
crashes_well number calls lucks w =
    let m : Moved = table_crashes luck (busy_table w number) w in
    ap (λ (b : Bool). b || (store_falls number m.world).failed) (one (busy_table w number)) ∙ falls_well number m.world
  where
    luck : Luck
    luck = crash_luck calls (other_lucks lucks) (first_luck lucks)

    one : (o : Option ℕ) → (table_crashes luck o w).failed ≡ false
    one None = refl
    one (Some table) = (crash_silent w table luck).failed

-- ---- answers

module _ {D : Type 0} (state : D → DiskState) (old new : StoreHost D) (a : facts.Answer) (m : Moved) (given : Answer) where
  pub well_answered : IsMoved state old new m → m.failed ≡ false → answer_of given ≡ a → IsAnswered state old new a m given
  well_answered moved well is = record { moved = moved; answer_is = is ∙ sym (ap (λ (b : Bool). if b then facts.Refuses facts.NoDevice else a) well) }

  pub badly_answered : IsMoved state old new m → m.failed ≡ true → answer_of given ≡ facts.Refuses facts.NoDevice → IsAnswered state old new a m given
  badly_answered moved bad is = record { moved = moved; answer_is = is ∙ sym (ap (λ (b : Bool). if b then facts.Refuses facts.NoDevice else a) bad) }

-- ---- the work that follows

module _ {D : Type 0} (state : D → DiskState) (old new : StoreHost D) (number : ℕ) (w : World) where
  follows_is : (lucks : List Luck) (b : Bool) → b ≡ has_node w.holds (nodes.Store number) → store_follows number lucks w ≡ (if b then still w else store_until_idle number lucks w)
  follows_is lucks b is = ap (λ (x : Bool). if x then still w else store_until_idle number lucks w) (sym is)

  pub held_back : HoldsStore state w old → true ≡ has_node w.holds (nodes.Store number) → (given : Answer) → answer_of given ≡ facts.Done
      → (lucks : List Luck) × IsAnswered state old old facts.Done (store_follows number lucks w) given
  held_back h is given answer = (
    [],
    subst (λ (m : Moved). IsAnswered state old old facts.Done m given) (sym (follows_is [] true is))
        (record { moved = record { held = h; outs = sym (append-nil (outs_of old)) }; answer_is = answer }),
  )

  pub follows_well : false ≡ has_node w.holds (nodes.Store number) → (lucks : List Luck) → (store_until_idle number lucks w).failed ≡ false → IsMoved state old new (store_until_idle number lucks w)
      → (given : Answer) → answer_of given ≡ facts.Done → (lucks : List Luck) × IsAnswered state old new facts.Done (store_follows number lucks w) given
  follows_well is lucks well moved given answer = (
    lucks,
    subst (λ (m : Moved). IsAnswered state old new facts.Done m given) (sym (follows_is lucks false is))
        (well_answered state old new facts.Done (store_until_idle number lucks w) given moved well answer),
  )

  pub follows_badly : false ≡ has_node w.holds (nodes.Store number) → (lucks : List Luck) → (store_until_idle number lucks w).failed ≡ true → IsMoved state old new (store_until_idle number lucks w)
      → (given : Answer) → answer_of given ≡ facts.Refuses facts.NoDevice → (lucks : List Luck) × IsAnswered state old new facts.Done (store_follows number lucks w) given
  follows_badly is lucks bad moved given answer = (
    lucks,
    subst (λ (m : Moved). IsAnswered state old new facts.Done m given) (sym (follows_is lucks false is))
        (badly_answered state old new facts.Done (store_until_idle number lucks w) given moved bad answer),
  )

-- ---- a start

-- so many lucks, a write being done where none is left
abbrev padded : ℕ → List Luck → List Luck
padded zero lucks = []
padded (suc n) lucks = first_luck lucks ∷ padded n (other_lucks lucks)

pad_drop : (n : ℕ) (lucks more : List Luck) → drop n (padded n lucks ++ more) ≡ more
pad_drop zero lucks more = refl
pad_drop (suc n) lucks more = pad_drop n (other_lucks lucks) more

unless_same : (m : Moved) (f g : World → Moved) → f m.world ≡ g m.world → and_unless m f ≡ and_unless m g
unless_same m f g e =
    ap (λ (x : Moved). if m.failed then m else record { world = x.world; outs = m.outs ++ x.outs; failed = m.failed || x.failed }) e

pad_starts : (tables : List ℕ) (lucks more : List Luck) (w : World) → tables_start tables (padded (length tables) lucks ++ more) w ≡ tables_start tables lucks w
pad_starts [] lucks more w = refl
pad_starts (table ∷ tables) lucks more w =
    let m : Moved = table_starts table (first_luck lucks) w in
    unless_same m (tables_start tables (padded (length tables) (other_lucks lucks) ++ more)) (tables_start tables (other_lucks lucks))
    (pad_starts tables (other_lucks lucks) more m.world)

pad_restart : (tables : List ℕ) (lucks more : List Luck) (w : World) → restart_moves tables (padded (length tables) lucks ++ more) w ≡ restart_moves tables lucks w
pad_restart tables lucks more w =
    let fallen : Moved = tables_fall tables w in
    ap (λ (x : Moved). record { world = x.world; outs = fallen.outs ++ x.outs; failed = fallen.failed || x.failed }) (pad_starts tables lucks more fallen.world)

module _ {D : Type 0} (state : D → DiskState) (old : StoreHost D) (number : ℕ) (w : World) (lucks : List Luck) where
  abbrev tables : List ℕ
  tables = tables_of w number

  abbrev m : Moved
  m = restart_moves tables lucks w

  abbrev up : World → World
  up x = without_down (nodes.Store number) x

  -- all tables have started
  pub starts_well : (mid new : StoreHost D) → m.failed ≡ false → IsMoved state old mid (and_then m (λ x. still (up x))) → (given : Answer)
      → (more : List Luck) → IsAnswered state mid new facts.Done (store_follows number more (up m.world)) given
      → (all : List Luck) × IsAnswered state old new facts.Done (store_starts number all w) given × (restart_moves tables all w ≡ m)
  starts_well mid new well first given more then_ =
      let all : List Luck = padded (length tables) lucks ++ more in
      let f : World → Moved = λ x. store_follows number more (up x) in
      let whole : store_starts number all w ≡ and_then m f =
      ap (λ (x : Moved). if x.failed then and_then x (store_falls number) else and_then x (λ y. store_follows number (drop (length tables) all) (up y)))
      (pad_restart tables lucks more w)
      ∙ (ap (λ (b : Bool). if b then and_then m (store_falls number) else and_then m (λ y. store_follows number (drop (length tables) all) (up y))) well
      ∙ ap (λ (ls : List Luck). and_then m (λ y. store_follows number ls (up y))) (pad_drop (length tables) lucks more)) in (
        all,
        subst (λ (x : Moved). IsAnswered state old new facts.Done x given) (sym whole) (record {
          moved = record {
            held = then_.moved.held;
            outs = then_.moved.outs ∙ (ap (λ (l : List Outbox). l ++ said_by (f m.world)) first.outs
                ∙ (append_assoc (outs_of old) (said_by (and_then m (λ x. still (up x)))) (said_by (f m.world))
                ∙ ap (λ (l : List Outbox). outs_of old ++ l)
                (ap (λ (l : List Outbox). l ++ said_by (f m.world)) (ap (λ (l : List Outbox). said_by (record m { outs = l })) (append-nil m.outs))
                ∙ sym (filter-append says_something m.outs (f m.world).outs))));
          };
          answer_is = then_.answer_is ∙ sym (ap (λ (b : Bool). if b || (f m.world).failed then facts.Refuses facts.NoDevice else facts.Done) well);
        }),
        pad_restart tables lucks more w,
      )

  -- one hasn't
  pub starts_badly : (new : StoreHost D) → m.failed ≡ true → IsMoved state old new (and_then m (store_falls number)) → (given : Answer) → answer_of given ≡ facts.Refuses facts.NoDevice
      → (all : List Luck) × IsAnswered state old new facts.Done (store_starts number all w) given × (restart_moves tables all w ≡ m)
  starts_badly new bad moved given answer =
      let whole : store_starts number lucks w ≡ and_then m (store_falls number) =
      ap (λ (b : Bool). if b then and_then m (store_falls number) else and_then m (λ y. store_follows number (drop (length tables) lucks) (up y))) bad in (
        lucks,
        subst (λ (x : Moved). IsAnswered state old new facts.Done x given) (sym whole)
            (record { moved = moved; answer_is = answer ∙ sym (ap (λ (b : Bool). if b || (store_falls number m.world).failed then facts.Refuses facts.NoDevice else facts.Done) bad) }),
        refl,
      )

  pub starts_ok : (mid new : StoreHost D) → m.failed ≡ false → IsMoved state old mid (and_then m (λ x. still (up x)))
      → (is_held : Bool) → is_held ≡ has_node w.holds (nodes.Store number) → (result : Result Answer WorldFault)
      → ((x : World) → HoldsStore state x mid → is_held ≡ has_node x.holds (nodes.Store number) → IfOk result
      (λ given. (more : List Luck) × IsAnswered state mid new facts.Done (store_follows number more x) given))
      → IfOk result (λ given. (all : List Luck) × IsAnswered state old new facts.Done (store_starts number all w) given × (restart_moves tables all w ≡ m))
  starts_ok mid new well first is_held is (Err e) k = tt
  starts_ok mid new well first is_held is (Ok given) k =
      let same : m.world.holds ≡ w.holds = (restart_goes tables lucks w).holds in
      let x = k (up m.world) first.held (is ∙ ap (λ (ns : List Node). has_node ns (nodes.Store number)) (sym same)) in
      starts_well mid new well first given x.0 x.1
