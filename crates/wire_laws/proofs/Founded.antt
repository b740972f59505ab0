-- What is known of every world that a run of built events leads to.
use Rattle.std.proofs.Common.{◌≡◌, ℕ, List, [], ◌∷◌, Option, Some, None, refl, sym, ◌∙◌, ap, subst, true≢false}
use Rattle.std.specs.Prelude.{is_some}
use Rattle.stab_base.specs.declared.node.Node.{Node}
use Rattle.row_value.specs.declared.schema.Schema.{Schema}
use Rattle.step_tables.specs.Messages.{Message, SyncRequest, SyncResponse, PullRequest, PullResponse, TornRowRequest, TornRowResponse}
use Rattle.world_tables.specs.Turns.{Happening, world_from}
use Rattle.world_tables.specs.World.{World, Hosted, start, schema_at, hosted_at, step}
use Rattle.name_laws.proofs.Moves.{IsFine}
use Rattle.name_laws.proofs.Steps.{step_stepped}
use Rattle.name_laws.proofs.Quiets.{start_follows}
use Rattle.piece_laws.proofs.Runs.{all_stand}
use Rattle.fair_laws.specs.Worlds.{IsFairMessage, IsFair}
use Rattle.fair_laws.proofs.Worlds.{reached_fair, fits_opened}
use Rattle.wire_laws.specs.Carried.{IsFit}
use Rattle.wire_laws.specs.Runs.{AreBuilt}
use Rattle.wire_laws.proofs.Ground.{IsGround}

run_fine : (hs : List Happening) (w : World) → IsFine w → IsFine (world_from w hs)
run_fine [] w f = f
run_fine (h ∷ hs) w f = run_fine hs (step w h.event h.lucks).world (step_stepped w h.event h.lucks f).fine

module _ (w : World) (f : IsFair w) where
  has_schema : (table : ℕ) (hosted : Hosted) → hosted_at w table ≡ Some hosted → (schema : Schema) × (schema_at w table ≡ Some schema)
  has_schema table hosted at = go (schema_at w table) refl
    where
      go : (o : Option Schema) → schema_at w table ≡ o → (schema : Schema) × (schema_at w table ≡ Some schema)
      go (Some schema) e = (schema, e)
      go None e = absurd (true≢false (sym (ap (λ (o : Option Schema). is_some o) (sym e) ∙ (f.both table ∙ ap (λ (o : Option Hosted). is_some o) at))))

  no_schema : (table : ℕ) → hosted_at w table ≡ None → schema_at w table ≡ None
  no_schema table none = go (schema_at w table) refl
    where
      go : (o : Option Schema) → schema_at w table ≡ o → schema_at w table ≡ None
      go None e = e
      go (Some schema) e = absurd (true≢false (ap (λ (o : Option Schema). is_some o) (sym e) ∙ (f.both table ∙ ap (λ (o : Option Hosted). is_some o) none)))

fair_fits : (known : ℕ → Option Schema) (from : Node) (m : Message) → IsFairMessage known from m → IsFit known from m
fair_fits known from (SyncRequest q) f = f
fair_fits known from (SyncResponse r) f = tt
fair_fits known from (PullRequest pull) f = tt
fair_fits known from (PullResponse pulled) f = f.0
fair_fits known from (TornRowRequest torn) f = tt
fair_fits known from (TornRowResponse t) f = f.0

pub ground : (run : List Happening) → AreBuilt run → IsGround (world_from start run)
ground run built = record {
  fine = run_fine run start start_follows.fine;
  names = all_stand run;
  sized = λ table schema at. (fair.made table schema at).size;
  declared = has_schema w fair;
  unhosted = no_schema w fair;
  requests = λ p q a is. let m = subst (IsFairMessage (schema_at w) p.from) is (fair.packets p a) in (m.0.0, m.0.1, m.2);
  pulls = λ p pulled h a is header. let m = (subst (IsFairMessage (schema_at w) p.from) is (fair.packets p a)).0 h header in (m.1.0, m.1.1);
  rows = λ p t h a is header. let m = (subst (IsFairMessage (schema_at w) p.from) is (fair.packets p a)).0 h header in (m.1.0, m.1.1);
  fits = λ p a. fair_fits (schema_at w) p.from p.message (fair.packets p a);
  opened = λ c node there table t at. fits_opened (schema_at w) c node (fair.clients c node there) table t at;
}
  where
    w : World
    w = world_from start run

    fair : IsFair w
    fair = reached_fair w (record { run = run; built = built; is = refl })
