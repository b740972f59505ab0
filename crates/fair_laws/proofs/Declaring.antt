-- A table more, and a client more.
use Rattle.std.proofs.Common.{◌≡◌, ℕ, Bool, true, false, cond, List, [], Option, Some, None, refl, sym, ◌∙◌, ap}
use Rattle.std.specs.Prelude.{is_some}
use Rattle.std.specs.Ordering.{nat_cmp}
use Rattle.std.specs.Cmp.{nat_cmp_total}
use Rattle.std.specs.Map.{lookup}
use Rattle.std.specs.BTreeMap.{is_at, insert_entry}
use Rattle.stab_base.specs.declared.node.Node.{Node}
use Rattle.row_value.specs.declared.schema.Schema.{Schema}
use Rattle.row_store.specs.Spelling.{IsClient}
use Rattle.table_model.specs.declared.table_state.TableState.{TableState}
use Rattle.step_tables.specs.ClientMoves.{Client}
use Rattle.step_tables.specs.Messages.{Message, Luck, SyncRequest, SyncResponse, PullRequest, PullResponse, TornRowRequest, TornRowResponse}
use Rattle.step_tables.specs.Messages as messages
use Rattle.step_tables.specs.StoreMoves.{new_disk}
use Rattle.step_tables.proofs.Lists.{lookup-insert}
use Rattle.world_tables.specs.World.{World, Hosted, schema_at, hosted_at, agenda_of, new_hosted, with_table, made_with, declared, joined, open_all, new_client, first_agenda}
use Rattle.fair_laws.specs.Fair.{IsFairClient}
use Rattle.fair_laws.specs.Reached.{IsMade}
use Rattle.fair_laws.specs.Worlds.{IsFairMessage, IsFairStore, IsFair}
use Rattle.fair_laws.proofs.Fairness.{at_same, client_more, new_fair}
use Rattle.fair_laws.proofs.Stores.{none_fair, store_more, row_more, header_more}
use Rattle.fair_laws.proofs.Hosting.{all_after}

nothing_at : {X : Type 0} (o : Option X) → is_some o ≡ false → o ≡ None
nothing_at None e = refl
nothing_at (Some x) e = absurd cc

-- ---- where more is known

message_more : (known more : ℕ → Option Schema) → ((number : ℕ) (schema : Schema) → known number ≡ Some schema → more number ≡ Some schema) → (from : Node) (m : Message)
    → IsFairMessage known from m → IsFairMessage more from m
message_more known more is from (SyncRequest q) f = (row_more known more is q.table q.content f.0, f.1, f.2)
message_more known more is from (PullRequest q) f = f
message_more known more is from (SyncResponse r) f = f
message_more known more is from (PullResponse q) f = (header_more known more is q.table q.header f.0, f.1)
message_more known more is from (TornRowRequest q) f = f
message_more known more is from (TornRowResponse q) f = (header_more known more is q.table q.header f.0, f.1)

-- ---- a table more

module _ (w : World) (f : IsFair w) (table : ℕ) (schema : Schema) (is_made : IsMade table schema) where
  module _ (state : TableState) (none : hosted_at w table ≡ None) (made : Bool) where
    abbrev new_table : Hosted
    new_table = new_hosted state made

    abbrev after : World
    after = with_table w table schema state made

    unknown : schema_at w table ≡ None
    unknown = nothing_at (schema_at w table) (f.both table ∙ ap (λ (o : Option Hosted). is_some o) none)

    known : (q : ℕ) → schema_at after q ≡ cond (is_at (nat_cmp table) q) (Some schema) (schema_at w q)
    known q = lookup-insert nat_cmp nat_cmp_total w.schemas table schema q

    there : (q : ℕ) → hosted_at after q ≡ cond (is_at (nat_cmp table) q) (Some new_table) (hosted_at w q)
    there q = lookup-insert nat_cmp nat_cmp_total w.tables table new_table q

    more_known : (q : ℕ) (s : Schema) → schema_at w q ≡ Some s → schema_at after q ≡ Some s
    more_known q s at = known q ∙ go (is_at (nat_cmp table) q) refl
      where
        go : (b : Bool) → is_at (nat_cmp table) q ≡ b → cond b (Some schema) (schema_at w q) ≡ Some s
        go true e = let same : Some s ≡ None = sym at ∙ (ap (λ (k : ℕ). schema_at w k) (sym (at_same table q e)) ∙ unknown) in absurd cc
        go false e = at

    new_is_fair : (b : Bool) → IsFairStore (schema_at after) table (record { disk = new_disk state; agenda = agenda_of b })
    new_is_fair true = none_fair (schema_at after) table state (Some []) tt
    new_is_fair false = none_fair (schema_at after) table state None tt

    with_fair : IsFair after
    with_fair = record {
      both = λ q. ap (λ (o : Option Schema). is_some o) (known q) ∙ (go q (is_at (nat_cmp table) q) ∙ sym (ap (λ (o : Option Hosted). is_some o) (there q)));
      made = all_after IsMade w.schemas table schema is_made f.made;
      numbers = f.numbers;
      tables = all_after (λ (q : ℕ) (x : Hosted). IsFairStore (schema_at after) q x.store) w.tables table new_table (new_is_fair made)
          (λ q x at. store_more (schema_at w) (schema_at after) more_known q x.store (f.tables q x at));
      clients = λ c s at. client_more (schema_at w) (schema_at after) c more_known s (f.clients c s at);
      packets = λ p a. message_more (schema_at w) (schema_at after) more_known p.from p.message (f.packets p a);
    }
      where
        go : (q : ℕ) (b : Bool) → is_some (cond b (Some schema) (schema_at w q)) ≡ is_some (cond b (Some new_table) (hosted_at w q))
        go q true = refl
        go q false = f.both q

  pub declared_fair : (state : TableState) (luck : Luck) (o : Option Hosted) → hosted_at w table ≡ o → IsFair (declared w table schema state luck o)
  declared_fair state luck (Some hosted) at = f
  declared_fair state luck None at = go luck
    where
      go : (x : Luck) → IsFair (made_with w table schema state x)
      go messages.Done = with_fair state at true
      go messages.FailedBefore = with_fair state at false
      go messages.FailedAfter = with_fair state at false

-- ---- a client more

module _ (w : World) (f : IsFair w) (c : ℕ) (is : IsClient c) (tables : List ℕ) where
  first_fair : (luck : Luck) → IsFairClient (schema_at w) c (new_client (open_all w [] tables) (first_agenda luck))
  first_fair messages.Done = new_fair w c tables
  first_fair messages.FailedBefore = let x = new_fair w c tables in record { disk = x.disk; tasks = tt }
  first_fair messages.FailedAfter = let x = new_fair w c tables in record { disk = x.disk; tasks = tt }

  some_there : {X : Type 0} (o : Option X) → is_some o ≡ true → (x : X) × (o ≡ Some x)
  some_there None e = absurd cc
  some_there (Some x) e = (x, refl)

  pub joined_fair : (luck : Luck) (o : Option Client) → IsFair (joined w c tables luck o)
  joined_fair luck (Some node) = f
  joined_fair luck None = record {
    both = f.both;
    made = f.made;
    numbers = λ q there.
        let x = some_there (lookup (is_at (nat_cmp q)) (insert_entry nat_cmp w.clients c new)) there in
        all_after (λ (n : ℕ) (y : Client). IsClient n) w.clients c new is (λ n y at. f.numbers n (ap (λ (o : Option Client). is_some o) at)) q x.0 x.1;
    tables = f.tables;
    clients = all_after (IsFairClient (schema_at w)) w.clients c new (first_fair luck) f.clients;
    packets = f.packets;
  }
    where
      new : Client
      new = new_client (open_all w [] tables) (first_agenda luck)
