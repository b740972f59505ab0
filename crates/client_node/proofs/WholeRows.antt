-- What a client makes of a row that it asked for whole.
use Rattle.std.proofs.Common.{◌≡◌, ℕ, Bool, true, false, List, [], ◌∷◌, Option, Some, None, Ok, refl, sym, ◌∙◌, ap, subst}
use Rattle.std.specs.Prelude.{nat_le, option_map, if◌then◌else◌}
use Rattle.held_value.specs.declared.slots.Slots.{Slots as HeldSlots}
use Rattle.slot_store.specs.declared.held.TableRecord.{TableRecord}
use Rattle.client_tables.specs.Change.{seen_in}
use Rattle.client_journal.specs.Devs.{ClientDevs}
use Rattle.row_value.specs.Fit.{fit_of}
use Rattle.step_tables.specs.declared.message.Message.TheVariants as kinds
use Rattle.step_tables.specs.declared.message.RowHeader.{RowHeader}
use Rattle.step_tables.specs.declared.message.TornRowResponse.{TornRowResponse}
use Rattle.step_tables.specs.Chunks.{is_named}
use Rattle.step_tables.specs.Facts as facts
use Rattle.step_tables.specs.Messages.{Header, TornPulled, Send}
use Rattle.step_tables.specs.ClientMoves.{TableDisk, ClientDisk, ClientStep, Shape, table_at, slots_at, seen, begun, ignored, top, pull_from, torn_row_taken, torn_taken, torn_in}
use Rattle.step_tables.specs.Travels.{header_of as table_header, torn_pulled_of, message_of}
use Rattle.client_node.specs.declared.planning.Planned.{Planned}
use Rattle.client_node.specs.declared.waiting.Waiting.{Waiting}
use Rattle.client_node.specs.Answers.{record_at, held_at}
use Rattle.client_node.specs.Placing.{IsWhole, PlansRow, plan_at}
use Rattle.client_node.specs.Readied.{IsIdleAt, Readies, SendsBack, Reacts, begins, taken_at}
use Rattle.client_node.specs.Taking.{FitsTable, FitsClient}
use Rattle.client_node.proofs.RowReady.{seen_is, closed_now}
use Rattle.client_node.proofs.RowsTaken.{opened_as, fits_back, fits_now, fit_there, fit_found, named_there, named_found, seen_at}

module _ (d : ClientDevs) (c : ℕ) (answer : TornRowResponse) where
  abbrev q : TornPulled
  q = torn_pulled_of answer

  -- what the message makes of the client
  in_table : (disk : ClientDisk) (w : Waiting) (idle : IsIdleAt d c w disk) (shape : Shape) → taken_at c (kinds.TornRowResponse answer) shape disk ≡ torn_in c shape disk q (table_at disk answer.table)
  in_table disk w idle shape = ap (λ (x : ClientDisk). torn_in c shape disk q (table_at x answer.table)) (seen_is c d disk idle.stands idle.rests)

  -- the table isn't opened
  pub torn_closed : record_at d answer.table ≡ None → Readies d c (kinds.TornRowResponse answer) None
  torn_closed none = record {
    none = λ _ w disk shape idle fit. in_table disk w idle shape ∙ ap (λ (o : Option TableDisk). torn_in c shape disk q o) (closed_now c d disk idle.stands idle.rests answer.table none);
    some = tt;
  }

  module _ (found : TableRecord) (opened : record_at d answer.table ≡ Some found) where
    module _ (w : Waiting) (disk : ClientDisk) (idle : IsIdleAt d c w disk) where
      abbrev t : TableDisk
      t = (opened_as d c answer.table found opened w disk idle).0

      in_opened : (shape : Shape) → taken_at c (kinds.TornRowResponse answer) shape disk ≡ torn_taken c shape disk answer.table t q.header
      in_opened shape = in_table disk w idle shape ∙ ap (λ (o : Option TableDisk). torn_in c shape disk q o) (opened_as d c answer.table found opened w disk idle).1

      -- the next change is asked for
      asks_next : record (ignored disk) { sends = pull_from c answer.table t.position ∷ [] } ≡ record (ignored disk) { sends = pull_from c answer.table found.position ∷ [] }
      asks_next = ap (λ (n : ℕ). record (ignored disk) { sends = pull_from c answer.table n ∷ [] }) (sym (opened_as d c answer.table found opened w disk idle).2.position)

    abbrev next : List Send
    next = pull_from c answer.table found.position ∷ []

    -- the Store has no such row
    pub torn_empty : answer.header ≡ None → (sends : List Send) → sends ≡ next → SendsBack d c (kinds.TornRowResponse answer) sends
    torn_empty none sends same = subst (λ (l : List Send). SendsBack d c (kinds.TornRowResponse answer) l) (sym same) (record {
      fits = λ w disk idle. subst (λ (o : Option Header). FitsTable (table_at (seen disk) answer.table) o) (sym none_is) (fits_back d c answer.table found opened w disk idle None tt);
      step = λ w disk shape idle. in_opened w disk idle shape ∙ (ap (λ (o : Option Header). torn_taken c shape disk answer.table (t w disk idle) o) none_is ∙ asks_next w disk idle);
    })
      where
        none_is : q.header ≡ None
        none_is = ap (option_map table_header) none

    module _ (header : RowHeader) (has : answer.header ≡ Some header) where
      abbrev h : Header
      h = table_header header

      header_is : q.header ≡ Some h
      header_is = ap (option_map table_header) has

      -- what the row makes of the client, where it is named or not
      named_step : (w : Waiting) (disk : ClientDisk) (idle : IsIdleAt d c w disk) (shape : Shape) (b : Bool) → is_named (t w disk idle).schema.chunk header.content header.names ≡ b
          → taken_at c (kinds.TornRowResponse answer) shape disk ≡ (if b then torn_row_taken c shape disk answer.table (t w disk idle) h (slots_at (t w disk idle) header.row) else ignored disk)
      named_step w disk idle shape b is =
          in_opened w disk idle shape
          ∙ (ap (λ (o : Option Header). torn_taken c shape disk answer.table (t w disk idle) o) header_is
          ∙ ap (λ (x : Bool). if x then torn_row_taken c shape disk answer.table (t w disk idle) h (slots_at (t w disk idle) header.row) else ignored disk) is)

      -- it doesn't fit, or isn't named
      pub torn_other : (IsWhole found header → ⊥) → Readies d c (kinds.TornRowResponse answer) None
      torn_other other = record {
        none = λ _ w disk shape idle fit.
            pick w disk idle shape (fits_now d c answer.table found opened w disk idle (Some h) (subst (λ (o : Option Header). FitsTable (table_at (seen disk) answer.table) o) header_is fit))
            (is_named (t w disk idle).schema.chunk header.content header.names) refl;
        some = tt;
      }
        where
          pick : (w : Waiting) (disk : ClientDisk) (idle : IsIdleAt d c w disk) (shape : Shape) → fit_of (t w disk idle).schema header.content ≡ Ok tt → (b : Bool) → is_named (t w disk idle).schema.chunk header.content header.names ≡ b
              → taken_at c (kinds.TornRowResponse answer) shape disk ≡ ignored disk
          pick w disk idle shape fit true is =
              absurd (other (record { fits = fit_found d c answer.table found opened header w disk idle fit; named = named_found d c answer.table found opened header w disk idle is }))
          pick w disk idle shape fit false is = named_step w disk idle shape false is

      module _ (whole : IsWhole found header) (slots : HeldSlots) (here : slots ≡ held_at d answer.table header.row) where
        abbrev read : ℕ
        read = seen_in slots.conflict slots.shadow

        module _ (w : Waiting) (disk : ClientDisk) (idle : IsIdleAt d c w disk) where
          row_step : (shape : Shape) → taken_at c (kinds.TornRowResponse answer) shape disk ≡ torn_row_taken c shape disk answer.table (t w disk idle) h (slots_at (t w disk idle) header.row)
          row_step shape = named_step w disk idle shape true (named_there d c answer.table found opened header w disk idle whole.named)

          row_fits : FitsClient disk (message_of (kinds.TornRowResponse answer))
          row_fits =
              subst (λ (o : Option Header). FitsTable (table_at (seen disk) answer.table) o) (sym header_is)
              (fits_back d c answer.table found opened w disk idle (Some h) (fit_there d c answer.table found opened header w disk idle whole.fits))

          -- it is newer than what was read, or it isn't
          seen_here : nat_le header.version (top (slots_at (t w disk idle) header.row).conflict (slots_at (t w disk idle) header.row).shadow) ≡ nat_le header.version read
          seen_here = ap (nat_le header.version) (seen_at d c answer.table found opened header w disk idle ∙ ap (λ (s : HeldSlots). seen_in s.conflict s.shadow) (sym here))

          abbrev begun_row : Shape → ClientStep
          begun_row shape = begun shape disk facts.Done (plan_at c disk answer.table (t w disk idle) h None) (pull_from c answer.table (t w disk idle).position ∷ [])

          by_age : (shape : Shape) (b : Bool) → nat_le header.version read ≡ b
              → taken_at c (kinds.TornRowResponse answer) shape disk ≡ (if b then record (ignored disk) { sends = pull_from c answer.table (t w disk idle).position ∷ [] } else begun_row shape)
          by_age shape b is =
              row_step shape ∙ ap (λ (x : Bool). if x then record (ignored disk) { sends = pull_from c answer.table (t w disk idle).position ∷ [] } else begun_row shape) (seen_here ∙ is)

        pub torn_old : nat_le header.version read ≡ true → (sends : List Send) → sends ≡ next → SendsBack d c (kinds.TornRowResponse answer) sends
        torn_old old sends same = subst (λ (l : List Send). SendsBack d c (kinds.TornRowResponse answer) l) (sym same) (record {
          fits = λ w disk idle. row_fits w disk idle;
          step = λ w disk shape idle. by_age w disk idle shape true old ∙ asks_next w disk idle;
        })

        torn_new : nat_le header.version read ≡ false → (o : Option Planned) → PlansRow d c answer.table header None next o → Reacts d c (kinds.TornRowResponse answer) (begins o)
        torn_new newer None k = absurd (k.some refl)
        torn_new newer (Some planned) k = record {
          none = λ no. absurd cc;
          some = λ w disk idle. (
            row_fits w disk idle,
            plan_at c disk answer.table (t w disk idle) h None,
            next,
            k.plan w disk idle (t w disk idle) (opened_as d c answer.table found opened w disk idle).1,
            λ shape. by_age w disk idle shape false newer
                ∙ ap (λ (n : ℕ). begun shape disk facts.Done (plan_at c disk answer.table (t w disk idle) h None) (pull_from c answer.table n ∷ [])) (sym (opened_as d c answer.table found opened w disk idle).2.position),
          );
        }

        pub torn_found : nat_le header.version read ≡ false → (sends : List Send) → sends ≡ next → (o : Option Planned) → PlansRow d c answer.table header None sends o → Reacts d c (kinds.TornRowResponse answer) (begins o)
        torn_found newer sends same o k = torn_new newer o (subst (λ (l : List Send). PlansRow d c answer.table header None l o) same k)
