-- What a run that came to its end reports.
use Rattle.std.proofs.Common.{◌≡◌, ℕ, zero, suc, ◌+◌, ◌∷◌, [], ◌++◌, List, Option, Some, None, refl, sym, ap, subst, ◌∙◌, arith, append-nil, append_assoc, inl, inr, true≢false}
use Rattle.std.specs.Prelude.{Bool, is_some, option_to_list}
use Rattle.std.specs.List.{flat_map, range_with_len}
use Rattle.std.specs.Io.KnownBytes.{Appends}
use Rattle.disk_trait.specs.Calls.{DiskState}
use Rattle.row_value.specs.declared.schema.Schema.{Schema}
use Rattle.table_model.specs.declared.entry.Entry.{Entry}
use Rattle.table_model.specs.declared.line.TextLine.{TextLine}
use Rattle.world_tables.specs.Turns.{Happening}
use Rattle.world_tables.specs.World.{World, Hosted, schema_at, hosted_at}
use Rattle.fair_laws.specs.Worlds.{IsFair}
use Rattle.fair_laws.proofs.Worlds.{reached_fair}
use Rattle.gated_tables.specs.Net.{start}
use Rattle.gated_tables.specs.Runs.{net_from}
use Rattle.gated_laws.specs.Runs.{AreDeclaredFirst}
use Rattle.gated_laws.proofs.NetLaws.{nets_told}
use Rattle.wire_laws.specs.Runs.{AreBuilt}
use Rattle.run_report.specs.declared.table.TableReport.{TableReport}
use Rattle.run_report.specs.Text.{report_text}
use Rattle.node_steps.specs.Holds as nodes
use Rattle.stab_io.specs.Faults.{AppendsFront}
use Rattle.simba_top.specs.declared.output.Output.TheVariants.{Report}
use Rattle.simba_top.specs.declared.turn.Run.{Run}
use Rattle.simba_top.specs.declared.stop.Stop.TheVariants.{Put, Memory}
use Rattle.simba_top.specs.Ends.{IsRun}
use Rattle.simba_top.specs.Faults.{Led, AnyRun, told_history}
use Rattle.simba_top.specs.Outputs.{table_told, tables_told, history_in, report_of, lines_counted}
use Rattle.simba_top.specs.Stands.{IsFinished, IsDone, Stopped}
use Rattle.simba_top.proofs.Behind.{nodes_reached}
use Rattle.simba_top.proofs.Endings.{run_map}
use Rattle.simba_top.proofs.Sounds.{is_run}

-- ---- the tables up to a number

pub tables_more : {X : Type 0} (f : ℕ → List X) (a n : ℕ) → flat_map f (range_with_len a (suc n)) ≡ flat_map f (range_with_len a n) ++ f (a + n)
tables_more f a zero = append-nil (f a) ∙ ap f (omega arith)
tables_more f a (suc n) =
    ap (λ more. f a ++ more) (tables_more f (a + 1) n)
    ∙ sym (append_assoc (f a) (flat_map f (range_with_len (a + 1) n)) (f (a + 1 + n)))
    ∙ ap (λ (k : ℕ). (f a ++ flat_map f (range_with_len (a + 1) n)) ++ f k) (omega arith)

-- ---- histories that are alike where a table is declared

module _ (w : World) (f g : ℕ → List Entry) (same : (table : ℕ) (schema : Schema) → schema_at w table ≡ Some schema → f table ≡ g table) where
  one_alike : (table : ℕ) (o : Option Schema) → schema_at w table ≡ o → option_to_list (table_told table (f table) o) ≡ option_to_list (table_told table (g table) o)
  one_alike table None at = refl
  one_alike table (Some schema) at = ap (λ (history : List Entry). option_to_list (table_told table history (Some schema))) (same table schema at)

  pub told_alike : (tables : List ℕ) → flat_map (λ table. option_to_list (table_told table (f table) (schema_at w table))) tables
      ≡ flat_map (λ table. option_to_list (table_told table (g table) (schema_at w table))) tables
  told_alike [] = refl
  told_alike (table ∷ tables) =
      ap (λ list. list ++ flat_map (λ table. option_to_list (table_told table (f table) (schema_at w table))) tables) (one_alike table (schema_at w table) refl)
      ∙ ap (λ list. option_to_list (table_told table (g table) (schema_at w table)) ++ list) (told_alike tables)

-- those of the world behind a run are the ones that its lines tell
module _ (run : List Happening) (first : AreDeclaredFirst run) (built : AreBuilt run) where
  abbrev w : World
  w = (net_from start run).wire.world

  fair : IsFair w
  fair = reached_fair w (nodes_reached run first built)

  history_alike : (table : ℕ) (schema : Schema) → schema_at w table ≡ Some schema → history_in (hosted_at w table) ≡ told_history run table
  history_alike table schema at = go (hosted_at w table) refl
    where
      go : (o : Option Hosted) → hosted_at w table ≡ o → history_in o ≡ told_history run table
      go None none = absurd (true≢false (sym (ap (λ (s : Option Schema). is_some s) at) ∙ (fair.both table ∙ ap (λ (h : Option Hosted). is_some h) none)))
      go (Some hosted) there = nets_told run first built table hosted there

  pub report_alike : tables_told w (λ table. history_in (hosted_at w table)) ≡ tables_told w (told_history run)
  report_alike = told_alike w (λ table. history_in (hosted_at w table)) (told_history run) history_alike (range_with_len 1 64)

-- ---- a run that came to its end

module _ {D : Type 0} (state : D → DiskState) (input : List ℕ) (run : Run D) (is_out : ℕ → Bool) (finished : IsFinished state input run is_out) (P : List Happening → Type 0)
    (kept : (r : List Happening) → Led state run.world r → P r) where
  abbrev lines : List TextLine
  lines = finished.1

  abbrev the_run : IsRun P finished.0 lines
  the_run = run_map (Led state run.world) P kept finished.0 lines (is_run state finished.0 lines run.names run.world is_out finished.3)

  -- the text is that of its report
  module _ (text : List ℕ)
      (is : (w : World) → nodes.Holds state w run.world.wire.nodes → text ≡ report_text (record { lines = run.told; tables = tables_told w (λ table. history_in (hosted_at w table)) })) where
    text_is : text ≡ report_text (report_of the_run.run lines)
    text_is =
        is (net_from start finished.3.run).wire.world finished.3.behind.held.wire.nodes
        ∙ ap (λ (n : ℕ). report_text (record { lines = n; tables = tables_told (net_from start finished.3.run).wire.world (λ table. history_in (hosted_at (net_from start finished.3.run).wire.world table)) })) finished.4
        ∙ ap (λ (ts : List TableReport). report_text (record { lines = lines_counted lines; tables = ts })) (report_alike finished.3.run finished.3.behind.first finished.3.behind.built)

    pub report_done : (before after : Option (List ℕ)) → Appends before after text → IsDone Report P input before after
    report_done before after put = (finished.0, finished.2, (lines, the_run, subst (λ (t : List ℕ). Appends before after t) text_is put))

    pub report_failed : (left before after : Option (List ℕ)) → AppendsFront before after text → Stopped Report P Put input left before after
    report_failed left before after put = (text, inl (finished.0, lines, the_run, inr (inr (inr (finished.2, text_is)))), put)

  pub report_refused : (left held : Option (List ℕ)) → Appends held held [] → Stopped Report P Memory input left held held
  report_refused left held none = (
    finished.2.0,
    (
      finished.0,
      (finished.2.1, [], finished.2.2),
      (lines, run_map P AnyRun (λ r k. tt) finished.0 lines the_run, none),
    ),
  )
