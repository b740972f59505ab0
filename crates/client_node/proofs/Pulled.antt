-- What a client makes of a row from the Store.
use Rattle.std.proofs.Common.{◌≡◌, ℕ, ◌+◌, ◌<◌, ◌≤◌, Bool, true, false, List, [], ◌∷◌, Option, Some, None, Result, Ok, Err, refl, sym, ◌∙◌, ap, subst, arith, eqb-true}
use Rattle.std.specs.Prelude.{◌==◌, ◌^◌, ◌&&◌, nat_le, OnOk, IfOk, IfSome, IsSome, option_map, if◌then◌else◌}
use Rattle.std.proofs.lemmas.Bool.Decides.{nat_tests}
use Rattle.stab_base.specs.declared.limits.TheConstants.{NUMBER_MAX}
use Rattle.row_value.specs.Fit.{fit_of}
use Rattle.held_value.specs.declared.slots.Slots.{Slots as HeldSlots}
use Rattle.held_value.specs.declared.tell.Tell.{Tell}
use Rattle.slot_store.specs.declared.held.TableRecord.{TableRecord}
use Rattle.slot_store.specs.Data.{record_of}
use Rattle.field_codec.specs.Forms.{IsOption}
use Rattle.plan_log.specs.declared.plan.RowChange.{RowChange}
use Rattle.plan_log.specs.declared.plan.RecordChange.{RecordChange}
use Rattle.plan_log.specs.Spelling.{IsTable, IsPosition}
use Rattle.client_tables.specs.Change.{seen_in}
use Rattle.client_journal.specs.Devs.{ClientDevs}
use Rattle.client_journal.specs.Plan.{IsPlan}
use Rattle.client_journal.specs.Redone.{redone}
use Rattle.step_tables.specs.declared.message.Message.TheVariants as kinds
use Rattle.step_tables.specs.declared.message.PullResponse.{PullResponse}
use Rattle.step_tables.specs.declared.message.RowHeader.{RowHeader}
use Rattle.step_tables.specs.Chunks.{is_named}
use Rattle.step_tables.specs.Facts as facts
use Rattle.step_tables.specs.Messages.{Header, Pulled, Send}
use Rattle.step_tables.specs.ClientMoves.{TableDisk, Plan, ClientDisk, Shape, table_at, slots_at, seen, begun, ignored, top, row_plan, row_placed, position_plan, next_pull, row_taken, comes_next, pulled_taken, pulled_in}
use Rattle.step_tables.specs.Travels.{header_of as table_header, pulled_of, message_of}
use Rattle.journal_laws.specs.Holds.{Say, StandsChange}
use Rattle.journal_laws.proofs.Becomes.{plain_plan_of}
use Rattle.plan_limits.specs.Fit.{IsFitChange}
use Rattle.plan_limits.specs.Short.{IsRowless, IsShort, AreFewTells}
use Rattle.plan_limits.proofs.Commits.{rowless_short}
use Rattle.client_node.specs.declared.fault.CallFault.{CallFault}
use Rattle.client_node.specs.declared.planning.Planned.{Planned}
use Rattle.client_node.specs.declared.waiting.Waiting.{Waiting}
use Rattle.client_node.specs.Answers.{record_at, held_at}
use Rattle.client_node.specs.Placing.{IsWhole, IsNext, IsOfPosition, PlansRow, plan_at}
use Rattle.client_node.specs.Readied.{IsReadied, IsIdleAt, Readies, taken_at}
use Rattle.client_node.specs.Taking.{FitsTable, FitsClient}
use Rattle.client_node.proofs.BarePlans.{bare_plan}
use Rattle.client_node.proofs.RowReady.{seen_is, newest, last_is, closed_now, steady_here}
use Rattle.client_node.proofs.RowsTaken.{both_true, opened_as, fits_back, fits_now, fit_there, fit_found, named_there, named_found, seen_at}

module _ (d : ClientDevs) (c : ℕ) (pulled : PullResponse) where
  abbrev q : Pulled
  q = pulled_of pulled

  -- what the message makes of the client
  in_table : (disk : ClientDisk) (w : Waiting) (idle : IsIdleAt d c w disk) (shape : Shape) → taken_at c (kinds.PullResponse pulled) shape disk ≡ pulled_in c shape disk q (table_at disk pulled.table)
  in_table disk w idle shape = ap (λ (x : ClientDisk). pulled_in c shape disk q (table_at x pulled.table)) (seen_is c d disk idle.stands idle.rests)

  -- the table isn't opened
  pub pulled_closed : record_at d pulled.table ≡ None → Readies d c (kinds.PullResponse pulled) None
  pulled_closed none = record {
    none = λ _ w disk shape idle fit. in_table disk w idle shape ∙ ap (λ (o : Option TableDisk). pulled_in c shape disk q o) (closed_now c d disk idle.stands idle.rests pulled.table none);
    some = tt;
  }

  module _ (found : TableRecord) (opened : record_at d pulled.table ≡ Some found) where
    module _ (w : Waiting) (disk : ClientDisk) (idle : IsIdleAt d c w disk) where
      abbrev t : TableDisk
      t = (opened_as d c pulled.table found opened w disk idle).0

      in_opened : (shape : Shape) → taken_at c (kinds.PullResponse pulled) shape disk ≡ pulled_taken c shape disk q t q.header
      in_opened shape = in_table disk w idle shape ∙ ap (λ (o : Option TableDisk). pulled_in c shape disk q o) (opened_as d c pulled.table found opened w disk idle).1

    -- it comes without a row
    pub pulled_empty : pulled.header ≡ None → Readies d c (kinds.PullResponse pulled) None
    pulled_empty none = record {
      none = λ _ w disk shape idle fit. in_opened w disk idle shape ∙ ap (λ (o : Option Header). pulled_taken c shape disk q (t w disk idle) o) (ap (option_map table_header) none);
      some = tt;
    }

    module _ (header : RowHeader) (has : pulled.header ≡ Some header) where
      abbrev h : Header
      h = table_header header

      header_is : q.header ≡ Some h
      header_is = ap (option_map table_header) has

      -- whether it comes next
      comes : (t : TableDisk) → comes_next q t h ≡ (pulled.from == t.position) && is_named t.schema.chunk header.content header.names
      comes t = refl

      -- it doesn't come next, or doesn't fit, or isn't named
      pub pulled_other : (IsNext found pulled.from header → ⊥) → Readies d c (kinds.PullResponse pulled) None
      pulled_other other = record {
        none = λ _ w disk shape idle fit.
            in_opened w disk idle shape ∙ (ap (λ (o : Option Header). pulled_taken c shape disk q (t w disk idle) o) header_is ∙ pick w disk idle shape (fits_now d c pulled.table found opened w disk idle (Some h) (subst (λ (o : Option Header). FitsTable (table_at (seen disk) pulled.table) o) header_is fit)) (comes_next q (t w disk idle) h) refl);
        some = tt;
      }
        where
          pick : (w : Waiting) (disk : ClientDisk) (idle : IsIdleAt d c w disk) (shape : Shape) → fit_of (t w disk idle).schema header.content ≡ Ok tt → (b : Bool) → comes_next q (t w disk idle) h ≡ b
              → pulled_taken c shape disk q (t w disk idle) (Some h) ≡ ignored disk
          pick w disk idle shape fit true is =
              let both = both_true (pulled.from == (t w disk idle).position) (is_named (t w disk idle).schema.chunk header.content header.names) is in
              absurd (other (record {
                position = eqb-true pulled.from (t w disk idle).position both.0 ∙ sym (opened_as d c pulled.table found opened w disk idle).2.position;
                row = record {
                  fits = fit_found d c pulled.table found opened header w disk idle fit;
                  named = named_found d c pulled.table found opened header w disk idle both.1;
                };
              }))
          pick w disk idle shape fit false is = ap (λ (b : Bool). if b then row_taken c shape disk q (t w disk idle) h (slots_at (t w disk idle) h.row) else ignored disk) is

      module _ (from : pulled.from ≡ found.position) (whole : IsWhole found header) where
        abbrev now : HeldSlots
        now = held_at d pulled.table header.row

        module _ (w : Waiting) (disk : ClientDisk) (idle : IsIdleAt d c w disk) where
          at_position : (pulled.from == (t w disk idle).position) ≡ true
          at_position = let same : pulled.from ≡ (t w disk idle).position = from ∙ (opened_as d c pulled.table found opened w disk idle).2.position in grind (arith, nat_tests)

          comes_here : comes_next q (t w disk idle) h ≡ true
          comes_here = ap (λ (b : Bool). b && is_named (t w disk idle).schema.chunk header.content header.names) at_position ∙ named_there d c pulled.table found opened header w disk idle whole.named

          -- the row is taken
          taken_step : (shape : Shape) → taken_at c (kinds.PullResponse pulled) shape disk ≡ row_taken c shape disk q (t w disk idle) h (slots_at (t w disk idle) header.row)
          taken_step shape =
              in_opened w disk idle shape ∙ (ap (λ (o : Option Header). pulled_taken c shape disk q (t w disk idle) o) header_is
              ∙ ap (λ (b : Bool). if b then row_taken c shape disk q (t w disk idle) h (slots_at (t w disk idle) h.row) else ignored disk) comes_here)

          its_fit : FitsClient disk (message_of (kinds.PullResponse pulled))
          its_fit =
              subst (λ (o : Option Header). FitsTable (table_at (seen disk) pulled.table) o) (sym header_is)
              (fits_back d c pulled.table found opened w disk idle (Some h) (fit_there d c pulled.table found opened header w disk idle whole.fits))

          seen_here : top (slots_at (t w disk idle) header.row).conflict (slots_at (t w disk idle) header.row).shadow ≡ seen_in now.conflict now.shadow
          seen_here = seen_at d c pulled.table found opened header w disk idle

        -- ---- a row that isn't newer

        module _ (old : nat_le header.version (seen_in now.conflict now.shadow) ≡ true) (planned : Planned) (o : IsOfPosition c pulled.table (redone d).last pulled.to (next_pull c pulled.table q) planned) (few : pulled.to < 2 ^ 64) where
          module _ (w : Waiting) (disk : ClientDisk) (idle : IsIdleAt d c w disk) where
            abbrev p : Plan
            p = position_plan c disk pulled.table pulled.to

            rowless : IsRowless planned.plan
            rowless = record {
              table = subst IsTable (sym o.table_is) (steady_here c d disk idle.stands idle.rests pulled.table header.row found opened w idle.steady).numbered;
              last = subst (λ (n : ℕ). n ≤ NUMBER_MAX) (sym (o.last_is ∙ last_is c d disk idle.stands idle.rests)) idle.steady.few;
              row = o.no_row;
              position = subst (λ (x : Option ℕ). IsOption IsPosition x) (sym o.position_is) few;
              new_record = o.new_record;
              brought = o.brought;
              drops = o.drops;
              tells = subst AreFewTells (sym o.tells) (record { few = omega arith; spelled = (few, tt) });
            }

            short : IsShort planned.plan
            short = rowless_short planned.plan rowless

            is_plan : IsPlan d planned.plan
            is_plan = bare_plan d planned.plan o.no_row o.brought o.drops short

            moved : IsReadied d c idle.stands.0 disk planned (position_plan c disk pulled.table pulled.to) (next_pull c pulled.table q)
            moved = record {
              taken = is_plan;
              its = plain_plan_of c idle.stands.0 d disk (d.journal.greatest + 1) idle.stands.1 idle.rests (newest c d disk idle.stands idle.rests) planned.plan (position_plan c disk pulled.table pulled.to) is_plan o.table_is (o.last_is ∙ last_is c d disk idle.stands idle.rests) o.position_is (subst (λ (r : Option RecordChange). StandsChange r (position_plan c disk pulled.table pulled.to) None) (sym o.new_record) tt) o.no_row refl
                  (subst (λ (l : List Tell). Say c pulled.table None l (facts.Position c pulled.table pulled.to ∷ [])) (sym o.tells) refl);
              at = record { last = omega arith; opened = subst (λ (x : Option TableDisk). IsSome x) (sym (opened_as d c pulled.table found opened w disk idle).1) refl };
              few = idle.steady.few;
              tells = o.facts_are;
              sends_are = o.sends_are;
              alters = tt;
              fit = subst (λ (r : Option RowChange). IfSome r (IsFitChange idle.stands.0 (d.journal.greatest + 1) planned.plan.brought (record_of d.held planned.plan.table))) (sym o.no_row) tt;
            }

            moved_step : (shape : Shape) → taken_at c (kinds.PullResponse pulled) shape disk ≡ begun shape disk facts.Done (position_plan c disk pulled.table pulled.to) (next_pull c pulled.table q)
            moved_step shape =
                let is_old : nat_le header.version (top (slots_at (t w disk idle) header.row).conflict (slots_at (t w disk idle) header.row).shadow) ≡ true = ap (nat_le header.version) (seen_here w disk idle) ∙ old in
                taken_step w disk idle shape
                ∙ ap (λ (b : Bool). if b then begun shape disk facts.Done (position_plan c disk pulled.table pulled.to) (next_pull c pulled.table q) else begun shape disk facts.Done (row_plan c disk pulled.table header.row pulled.to
                (row_placed (t w disk idle).schema.scheme c pulled.table h (slots_at (t w disk idle) header.row) (slots_at (t w disk idle) header.row).out)) (next_pull c pulled.table q)) is_old

          pub moved_readies : Readies d c (kinds.PullResponse pulled) (Some planned)
          moved_readies = record {
            none = λ no. absurd cc;
            some = λ w disk idle. (its_fit w disk idle, position_plan c disk pulled.table pulled.to, next_pull c pulled.table q, moved w disk idle, moved_step w disk idle);
          }

        -- ---- a newer row

        module _ (newer : nat_le header.version (seen_in now.conflict now.shadow) ≡ false) where
          placed_step : (w : Waiting) (disk : ClientDisk) (idle : IsIdleAt d c w disk) (shape : Shape)
              → taken_at c (kinds.PullResponse pulled) shape disk ≡ begun shape disk facts.Done (plan_at c disk pulled.table (t w disk idle) h (Some pulled.to)) (next_pull c pulled.table q)
          placed_step w disk idle shape =
              let is_new : nat_le header.version (top (slots_at (t w disk idle) header.row).conflict (slots_at (t w disk idle) header.row).shadow) ≡ false = ap (nat_le header.version) (seen_here w disk idle) ∙ newer in
              taken_step w disk idle shape
              ∙ ap (λ (b : Bool). if b then begun shape disk facts.Done (position_plan c disk pulled.table pulled.to) (next_pull c pulled.table q) else begun shape disk facts.Done (plan_at c disk pulled.table (t w disk idle) h (Some pulled.to)) (next_pull c pulled.table q)) is_new

          pub placed_readies : (o : Option Planned) → PlansRow d c pulled.table header (Some pulled.to) (next_pull c pulled.table q) o → Readies d c (kinds.PullResponse pulled) o
          placed_readies None k = absurd (k.some refl)
          placed_readies (Some planned) k = record {
            none = λ no. absurd cc;
            some = λ w disk idle.
                (its_fit w disk idle, plan_at c disk pulled.table (t w disk idle) h (Some pulled.to), next_pull c pulled.table q, k.plan w disk idle (t w disk idle) (opened_as d c pulled.table found opened w disk idle).1, placed_step w disk idle);
          }

-- ---- of what is found

module _ (d : ClientDevs) (c : ℕ) (pulled : PullResponse) (found : TableRecord) (opened : record_at d pulled.table ≡ Some found) (header : RowHeader) (has : pulled.header ≡ Some header) (next : IsNext found pulled.from header) (slots : HeldSlots)
    (here : slots ≡ held_at d pulled.table header.row) where
  pub moved_found : nat_le header.version (seen_in slots.conflict slots.shadow) ≡ true → (last : ℕ) → last ≡ (redone d).last → pulled.to < 2 ^ 64 → (o : Option Planned) → (o ≡ None → ⊥) → IfSome o (IsOfPosition c pulled.table last pulled.to (next_pull c pulled.table (pulled_of pulled)))
      → Readies d c (kinds.PullResponse pulled) o
  moved_found old last is few None none some = absurd (none refl)
  moved_found old last is few (Some planned) none some =
      moved_readies d c pulled found opened header has next.position next.row (ap (λ (s : HeldSlots). nat_le header.version (seen_in s.conflict s.shadow)) (sym here) ∙ old) planned (subst (λ (n : ℕ). IsOfPosition c pulled.table n pulled.to (next_pull c pulled.table (pulled_of pulled)) planned) is some) few

  pub moved_result : nat_le header.version (seen_in slots.conflict slots.shadow) ≡ true → (last : ℕ) → last ≡ (redone d).last → (r : Result (Option Planned) CallFault) → OnOk r (pulled.to < 2 ^ 64) → IfOk r (λ o. o ≡ None → ⊥) → IfOk r (λ o. IfSome o (IsOfPosition c pulled.table last pulled.to (next_pull c pulled.table (pulled_of pulled))))
      → IfOk r (Readies d c (kinds.PullResponse pulled))
  moved_result old last is (Ok o) few none some = moved_found old last is few o none some
  moved_result old last is (Err e) few none some = tt

  pub placed_result : nat_le header.version (seen_in slots.conflict slots.shadow) ≡ false → (position : ℕ) → position ≡ pulled.to → (sends : List Send) → sends ≡ next_pull c pulled.table (pulled_of pulled) → (r : Result (Option Planned) CallFault)
      → IfOk r (PlansRow d c pulled.table header (Some position) sends) → IfOk r (Readies d c (kinds.PullResponse pulled))
  placed_result newer position same sends sends_are (Err e) k = tt
  placed_result newer position same sends sends_are (Ok o) k =
      placed_readies d c pulled found opened header has next.position next.row (ap (λ (s : HeldSlots). nat_le header.version (seen_in s.conflict s.shadow)) (sym here) ∙ newer) o
      (subst (λ (n : ℕ). PlansRow d c pulled.table header (Some n) (next_pull c pulled.table (pulled_of pulled)) o) same (subst (λ (l : List Send). PlansRow d c pulled.table header (Some position) l o) sends_are k))
