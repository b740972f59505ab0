-- Every world that a script leads to is fair; what its clients have seen and what they pull fits their tables.
use Rattle.std.proofs.Common.{◌≡◌, ℕ, Option, Some, None, Ok, sym, ◌∙◌, subst}
use Rattle.row_value.specs.declared.schema.Schema.{Schema}
use Rattle.row_value.specs.Fit.{fit_of}
use Rattle.step_tables.specs.Members.{Among}
use Rattle.step_tables.specs.Messages.{Header, Pulled, PullResponse, TornPulled, TornRowResponse}
use Rattle.step_tables.specs.ClientMoves.{TableDisk, Plan, ClientDisk, Client, table_at, planned_in, seen}
use Rattle.world_tables.specs.World.{World, Packet, start, schema_at, client_at}
use Rattle.fair_laws.specs.Fair.{IsFitContent, IsFairPlan, IsFairDisk, IsFairClient}
use Rattle.fair_laws.specs.Reached.{IsReached}
use Rattle.fair_laws.specs.Worlds.{IsFairHeader, IsFairMessage, IsFair}
use Rattle.fair_laws.proofs.Fairness.{tables_seen, applied_plan_is, some_is}
use Rattle.fair_laws.proofs.Events.{run_fair, start_fair}

pub reached_fair : (w : World) → IsReached w → IsFair w
reached_fair w r = subst IsFair (sym r.is) (run_fair start r.run r.built start_fair)

-- a plan's slots put into the disk
pub seen_fair : (known : ℕ → Option Schema) (c : ℕ) (d : ClientDisk) → IsFairDisk known d → IsFairDisk known (seen d)
seen_fair known c d f = record { tables = tables_seen known c d f; plan = go d.plan f.plan }
  where
    go : (o : Option Plan) → ((p : Plan) → d.plan ≡ Some p → IsFairPlan known p) → (p : Plan) → (planned_in d o).plan ≡ Some p → IsFairPlan known p
    go None plan p e = plan p e
    go (Some x) plan p e = plan p (sym (applied_plan_is known c d x) ∙ e)

pub fits_opened : (known : ℕ → Option Schema) (c : ℕ) (s : Client) → IsFairClient known c s → (table : ℕ) (t : TableDisk) → table_at (seen s.disk) table ≡ Some t
    → known table ≡ Some t.schema
fits_opened known c s f table t at = (tables_seen known c s.disk f.disk table t at).schema

-- a row for a table fits where a client has opened it
row_fits : (w : World) → IsFair w → (table : ℕ) (o : Option Header) → IsFairHeader (schema_at w) table o
    → (c : ℕ) (s : Client) → client_at w c ≡ Some s → (t : TableDisk) → table_at (seen s.disk) table ≡ Some t
    → (header : Header) → o ≡ Some header → fit_of t.schema header.content ≡ Ok tt
row_fits w f table o fair c s there t at header e =
    let row = fair header e in
    let same : row.1.0 ≡ t.schema = some_is (schema_at w table) row.1.0 t.schema row.1.1 (fits_opened (schema_at w) c s (f.clients c s there) table t at) in
    subst (λ (schema : Schema). IsFitContent schema header.content) same row.1.2

pub pulled_fits : (w : World) → IsFair w → (packet : Packet) → Among w.packets packet → (pulled : Pulled) → packet.message ≡ PullResponse pulled
    → (c : ℕ) (s : Client) → client_at w c ≡ Some s → (t : TableDisk) → table_at (seen s.disk) pulled.table ≡ Some t
    → (header : Header) → pulled.header ≡ Some header → fit_of t.schema header.content ≡ Ok tt
pulled_fits w f packet a pulled is c s there t at header e =
    row_fits w f pulled.table pulled.header (subst (IsFairMessage (schema_at w) packet.from) is (f.packets packet a)).0 c s there t at header e

pub torn_fits : (w : World) → IsFair w → (packet : Packet) → Among w.packets packet → (torn : TornPulled) → packet.message ≡ TornRowResponse torn
    → (c : ℕ) (s : Client) → client_at w c ≡ Some s → (t : TableDisk) → table_at (seen s.disk) torn.table ≡ Some t
    → (header : Header) → torn.header ≡ Some header → fit_of t.schema header.content ≡ Ok tt
torn_fits w f packet a torn is c s there t at header e =
    row_fits w f torn.table torn.header (subst (IsFairMessage (schema_at w) packet.from) is (f.packets packet a)).0 c s there t at header e
