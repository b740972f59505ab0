-- What a crash leaves of the disks of rows that went back.
use Rattle.std.proofs.Common.{◌≡◌, ◌⊎◌, inl, inr, ⊎_elim, ℕ, ◌+◌, ◌<◌, ◌≤◌, Bool, true, false, List, [], ◌∷◌, ◌++◌, length, Option, Some, None, refl, sym, ◌∙◌, ap, subst, append-nil, arith, length-append}
use Rattle.std.specs.Prelude.{IfSome, is_some, if◌then◌else◌}
use Rattle.std.specs.Ordering.{nat_cmp}
use Rattle.std.specs.BTreeMap as tree
use Rattle.std.specs.Map.{keys_of}
use Rattle.std.specs.List.Sorted.{IsStrictlySortedBy}
use Rattle.disk_trait.specs.Image.{IsImage}
use Rattle.disk_trait.specs.Calls.{DiskState}
use Rattle.disk_trait.specs.Fuse.{inner_of}
use Rattle.vault.specs.File.{StandsForOne}
use Rattle.vault.specs.Standing.{disk_of}
use Rattle.row_value.specs.declared.schema.Schema.{Schema}
use Rattle.row_store.specs.Data.{TableData, data_of}
use Rattle.row_store.specs.Standing as rows
use Rattle.table_model.specs.declared.entry.Entry.{Entry}
use Rattle.table_model.specs.declared.event.Event.TheVariants as events
use Rattle.step_tables.specs.Store.{Stored}
use Rattle.device_laws.specs.Stands.{HasRows}
use Rattle.store_node.proofs.Working.{node_rows}
use Rattle.world_tables.specs.Passed.{IsBetween}
use Rattle.step_tables.specs.ClientMoves.{Client}
use Rattle.world_tables.specs.World.{no_lucks, Hosted, owner_of, schema_at, hosted_at, client_at, is_cut}
use Rattle.world_tables.specs.World as moves
use Rattle.moment_laws.proofs.Stays.{rows_stay_before}
use Rattle.store_host.specs.declared.hosted.Hosted.{Hosted as Kept}
use Rattle.store_host.specs.declared.host.StoreHost.{StoreHost}
use Rattle.store_host.specs.Holds.{IsHosted, HostedThere, HoldsStore, faults_at, faults_in}
use Rattle.client_node.specs.declared.node.ClientNode.{ClientNode}
use Rattle.journal_host.specs.declared.host.ClientHost.{ClientHost}
use Rattle.journal_host.specs.Holds.{HoldsClients}
use Rattle.journal_host.specs.Holds as hosts
use Rattle.store_host.proofs.Lefts.{between}
use Rattle.node_steps.specs.declared.world.World.{World}
use Rattle.fair_laws.specs.Reached.{IsReached}
use Rattle.node_steps.specs.Closes.{AreBack, AreClientBack, StayBelow}
use Rattle.node_steps.specs.Holds.{Holds, AreOut, first_disk, first_client_disk}
use Rattle.node_steps.specs.Faults.{all_faults, all_faults_back, faults_back, faults_told, faults_in_disk, client_faults_back, client_faults_told}
use Rattle.node_steps.specs.Numbers.{AreNumbered}
use Rattle.node_steps.proofs.Closing.{AreThree, AreTablesClosing, AreClientsClosing, of_table, of_client, tables_apart, clients_apart, closing_starts, closing_ends, none_out, stays_told, all_below, all_above}
use Rattle.node_steps.proofs.Sums.{sum_same}
use Rattle.node_steps.specs.Rows.{IsNear, HasRowsNear, IsRowsBack, AreRowsBack}

-- ---- disks that came back

-- of each table
abbrev pub AreTablesBack : {D : Type 0} → tree.BTreeMap ℕ (Kept D) → (ℕ → Option D) → Type 0
AreTablesBack {D} tables disks = (table : ℕ) (it : Kept D) → tree.get nat_cmp tables table ≡ Some it → AreBack disks table it

-- and of each client
abbrev pub AreClientsBack : {D : Type 0} → tree.BTreeMap ℕ (ClientNode D) → (ℕ → Option D) → Type 0
AreClientsBack {D} nodes disks = (c : ℕ) (node : ClientNode D) → tree.get nat_cmp nodes c ≡ Some node → AreClientBack disks c node

-- ---- items that are near a history

no_more : (history more rest : List Entry) → history ≡ (history ++ more) ++ rest → length more ≡ 0
no_more history more rest e =
    let all = ap (λ (es : List Entry). length es) e in
    omega (arith, all, length-append (history ++ more) rest, length-append history more)

none : (more : List Entry) → length more ≡ 0 → more ≡ []
none [] e = refl
none (x ∷ more) e = absurd (omega (arith, e))

near : (history : List Entry) (items : List Stored) → IsBetween history history items → IsNear history items
near history items b = ⊎_elim
    (λ k. inl (b.from ∙ (ap (λ (es : List Entry). history ++ es) (none b.more (no_more history b.more k.0 k.1)) ∙ append-nil history)))
    (λ k. inr (k.0, b.from ∙ k.1)) b.to

module _ {D : Type 0} (state : D → DiskState) (images : D → ℕ → List ℕ → Type 0)
    (counts_now : (disk : D) (t : ℕ) (image : List ℕ) → t ≤ (state disk).moment → IsImage (state disk).pending image → images disk t image)
    (only_now : (disk : D) (image : List ℕ) → images disk (state disk).moment image → IsImage (state disk).pending image) (w : moves.World) (reached : IsReached w) where
  -- a table's items, between two events
  items_near : (table : ℕ) (hosted : Hosted) → hosted_at w table ≡ Some hosted → IsNear hosted.history hosted.store.disk.items
  items_near table hosted at =
      let there = sym (ap (λ (x : moves.World). hosted_at x table) reached.is) ∙ at in
      near hosted.history hosted.store.disk.items (rows_stay_before reached.run (events.Store 0) no_lucks table 0 hosted hosted there there)

  rows_near : (table : ℕ) (hosted : Hosted) → hosted_at w table ≡ Some hosted → (schema : Schema) (held : TableData) → HasRows schema held hosted.store.disk → HasRowsNear schema hosted.history held
  rows_near table hosted at schema held h = record {
    disk = hosted.store.disk;
    rows = h;
    near = items_near table hosted at;
  }

  stands_near : (table : ℕ) (hosted : Hosted) → hosted_at w table ≡ Some hosted → (schema : Schema) (image : List ℕ)
      → StandsForOne (λ list. HasRows schema (data_of list) hosted.store.disk ⊎ HasRows schema (data_of list) hosted.store.disk) image
      → StandsForOne (λ list. HasRowsNear schema hosted.history (data_of list)) image
  stands_near table hosted at schema image s = (s.0, s.1, rows_near table hosted at schema (data_of s.0) (⊎_elim (λ x. x) (λ x. x) s.2))

  rows_back : (disks : ℕ → Option D) (table : ℕ) (hosted : Hosted) → hosted_at w table ≡ Some hosted → hosted.made ≡ true → (it : Kept D) → IsHosted state (owner_of w table) (schema_at w table) table hosted it
      → AreBack disks table it → IsRowsBack state disks w table hosted.history
  rows_back disks table hosted at made it k b =
      let disk = inner_of (disk_of (rows.vault_of it.node.devs.rows)) in
      let leaves = node_rows state images (λ d image left. only_now (inner_of d) image left) it.node hosted.store.disk hosted.store.agenda k.node (k.made ∙ made) in
      record {
        schema = it.node.schema;
        declared = k.schema;
        disk = disk;
        back = b.rows;
        rows = λ image left. stands_near table hosted at it.node.schema image (leaves.each image (counts_now disk (state disk).moment image (omega arith) left));
      }

  module _ (world : World D) (h : Holds state w world) where
    pub all_rows_back : (told : Option (ℕ → Option D)) → IfSome told (AreTablesBack world.store.tables) → IfSome told (λ disks. AreRowsBack state disks w)
    all_rows_back None k = tt
    all_rows_back (Some disks) k = λ table hosted at made.
        let m = between state images (owner_of w table) (schema_at w table) table hosted (tree.get nat_cmp world.store.tables table)
        (subst (λ (o : Option Hosted). HostedThere state (owner_of w table) (schema_at w table) table o (tree.get nat_cmp world.store.tables table)) at (h.store.tables.there table)) in
        rows_back disks table hosted at made m.0 m.2 (k table m.0 m.1)

-- ---- tables and clients of a world

module _ {D : Type 0} (state : D → DiskState) (w : moves.World) (numbered : AreNumbered w) where
  module _ (store : StoreHost D) (h : HoldsStore state w store) where
    tables_same : (table : ℕ) → is_some (hosted_at w table) ≡ is_some (tree.get nat_cmp store.tables table)
    tables_same table = go (hosted_at w table) (tree.get nat_cmp store.tables table) (h.tables.there table)
      where
        go : (o : Option Hosted) (it : Option (Kept D)) → HostedThere state (owner_of w table) (schema_at w table) table o it → is_some o ≡ is_some it
        go None None k = refl
        go None (Some it) k = absurd k
        go (Some hosted) None k = absurd k
        go (Some hosted) (Some it) k = refl

    pub tables_ranged : (table : ℕ) → is_some (tree.get nat_cmp store.tables table) ≡ true → (1 ≤ table) × (table ≤ 64)
    tables_ranged table there = numbered.tables table (tables_same table ∙ there)

    pub table_ranged : (table : ℕ) (it : Kept D) → tree.get nat_cmp store.tables table ≡ Some it → (1 ≤ table) × (table ≤ 64)
    table_ranged table it at = tables_ranged table (ap (λ (o : Option (Kept D)). is_some o) at)

    pub tables_rise : IsStrictlySortedBy nat_cmp (keys_of store.tables.entries)
    tables_rise = subst (λ (ks : List ℕ). IsStrictlySortedBy nat_cmp ks) h.tables.keys h.tables.rising

    pub tables_start : (is_out : ℕ → Bool) (told : Option (ℕ → Option D)) → AreOut is_out w → AreTablesClosing store.tables store.tables is_out told
    tables_start is_out told outs =
        closing_starts first_disk of_table (λ q. q ≤ 64) (λ q most. most) tables_apart store.tables is_out told tables_ranged
        (λ q k one most small. outs.tables q k one most small ∙ tables_same q)

  module _ (host : ClientHost D) (h : HoldsClients state w host) where
    clients_same : (c : ℕ) → is_some (client_at w c) ≡ is_some (tree.get nat_cmp host.clients c)
    clients_same c = go (client_at w c) (tree.get nat_cmp host.clients c) (h.there c)
      where
        go : (o : Option Client) (it : Option (ClientNode D)) → hosts.ClientThere state (is_cut w c) c o it → is_some o ≡ is_some it
        go None None k = refl
        go None (Some it) k = absurd k
        go (Some s) None k = absurd k
        go (Some s) (Some it) k = refl

    clients_ranged : (c : ℕ) → is_some (tree.get nat_cmp host.clients c) ≡ true → (1 ≤ c) × (c ≤ 64)
    clients_ranged c there = let n = numbered.clients c (clients_same c ∙ there) in (n.least, n.most)

    pub client_ranged : (c : ℕ) (node : ClientNode D) → tree.get nat_cmp host.clients c ≡ Some node → (1 ≤ c) × (c ≤ 64)
    client_ranged c node at = clients_ranged c (ap (λ (o : Option (ClientNode D)). is_some o) at)

    pub clients_start : (is_out : ℕ → Bool) (told : Option (ℕ → Option D)) → ((c k : ℕ) → 1 ≤ c → k < 3 → is_out (first_client_disk c + k) ≡ is_some (client_at w c))
        → AreClientsClosing host.clients host.clients is_out told
    clients_start is_out told outs =
        closing_starts first_client_disk of_client (λ q. Unit {0}) (λ q most. tt) clients_apart host.clients is_out told clients_ranged (λ q k one most small. outs q k one small ∙ clients_same q)

-- ---- where none is left

module _ {D : Type 0} (all left : tree.BTreeMap ℕ (Kept D)) (is_out : ℕ → Bool) (told : Option (ℕ → Option D)) (c : AreTablesClosing all left is_out told) (none : left.entries ≡ []) where
  pub tables_out : (k : ℕ) → k < 192 → is_out k ≡ false
  tables_out = all_below is_out (none_out first_disk of_table (λ q. q ≤ 64) (λ q most. most) tables_apart all left is_out told c none)

  pub tables_end : IfSome told (AreTablesBack all)
  tables_end = go told (closing_ends first_disk of_table (λ q. q ≤ 64) (λ q most. most) tables_apart all left is_out told c none)
    where
      go : (o : Option (ℕ → Option D)) → IfSome o (λ disks. (q : ℕ) (it : Kept D) → tree.get nat_cmp all q ≡ Some it → AreThree disks (first_disk q) (of_table it)) → IfSome o (AreTablesBack all)
      go None k = tt
      go (Some disks) k = λ table it at. let b = k table it at in record { chunks = b.one; rows = b.two; log = b.three }

module _ {D : Type 0} (all left : tree.BTreeMap ℕ (ClientNode D)) (is_out : ℕ → Bool) (told : Option (ℕ → Option D)) (c : AreClientsClosing all left is_out told) (none : left.entries ≡ []) where
  pub clients_out : (k : ℕ) → 192 ≤ k → is_out k ≡ false
  clients_out = all_above is_out (λ q k one small. none_out first_client_disk of_client (λ q. Unit {0}) (λ q most. tt) clients_apart all left is_out told c none q k one tt small)

  pub clients_end : IfSome told (AreClientsBack all)
  clients_end = go told (closing_ends first_client_disk of_client (λ q. Unit {0}) (λ q most. tt) clients_apart all left is_out told c none)
    where
      go : (o : Option (ℕ → Option D)) → IfSome o (λ disks. (q : ℕ) (it : ClientNode D) → tree.get nat_cmp all q ≡ Some it → AreThree disks (first_client_disk q) (of_client it))
          → IfSome o (AreClientsBack all)
      go None k = tt
      go (Some disks) k = λ q node at. let b = k q node at in record { journal = b.one; slots = b.two; chunks = b.three }

-- ---- of a whole world

module _ {D : Type 0} (state : D → DiskState) (w : moves.World) (world : World D) (h : Holds state w world) where
  -- what is told below the clients' numbers of tables is told still
  pub tables_stay_back : (mid new : Option (ℕ → Option D)) → StayBelow mid new 192 → IfSome mid (AreTablesBack world.store.tables) → IfSome new (AreTablesBack world.store.tables)
  tables_stay_back mid new stay back = stays_told mid new 192 (AreTablesBack world.store.tables) (λ a b same k table it at.
      let range = table_ranged state w h.numbered world.store h.store table it at in
      let was = k table it at in record {
        chunks = same (first_disk table) (low table 0 range.1 (omega arith)) ∙ was.chunks;
        rows = same (first_disk table + 1) (lower table 1 range.1 (omega arith)) ∙ was.rows;
        log = same (first_disk table + 2) (lower table 2 range.1 (omega arith)) ∙ was.log;
      }) stay back
    where
      lower : (table k : ℕ) → table ≤ 64 → k < 3 → first_disk table + k < 192
      lower table k most small = omega (arith, most, small)

      low : (table k : ℕ) → table ≤ 64 → k < 3 → first_disk table < 192
      low table k most small = omega (arith, most)

  -- ---- faults

  told_at : (disks : ℕ → Option D) → AreTablesBack world.store.tables disks → (table : ℕ) → faults_back state disks w table ≡ faults_at state world.store.tables table
  told_at disks back table = go (hosted_at w table) (tree.get nat_cmp world.store.tables table) refl (h.store.tables.there table)
    where
      go : (o : Option Hosted) (it : Option (Kept D)) → tree.get nat_cmp world.store.tables table ≡ it → HostedThere state (owner_of w table) (schema_at w table) table o it
          → (if is_some o then faults_told state disks table else 0) ≡ faults_in state it
      go None None e k = refl
      go None (Some it) e k = absurd k
      go (Some hosted) None e k = absurd k
      go (Some hosted) (Some it) e k =
          let b = back table it e in
          let one = ap (λ (o : Option D). faults_in_disk state o) b.chunks in
          let two = ap (λ (o : Option D). faults_in_disk state o) b.rows in
          let three = ap (λ (o : Option D). faults_in_disk state o) b.log in
          omega (arith, one, two, three)

  client_told_at : (disks : ℕ → Option D) → AreClientsBack world.clients.clients disks → (c : ℕ) → client_faults_back state disks w c ≡ hosts.faults_at state world.clients.clients c
  client_told_at disks back c = go (client_at w c) (tree.get nat_cmp world.clients.clients c) refl (h.clients.there c)
    where
      go : (o : Option Client) (it : Option (ClientNode D)) → tree.get nat_cmp world.clients.clients c ≡ it → hosts.ClientThere state (is_cut w c) c o it
          → (if is_some o then client_faults_told state disks c else 0) ≡ hosts.faults_in state it
      go None None e k = refl
      go None (Some it) e k = absurd k
      go (Some s) None e k = absurd k
      go (Some s) (Some it) e k =
          let b = back c it e in
          let one = ap (λ (o : Option D). faults_in_disk state o) b.chunks in
          let two = ap (λ (o : Option D). faults_in_disk state o) b.slots in
          let three = ap (λ (o : Option D). faults_in_disk state o) b.journal in
          omega (arith, one, two, three)

  both_sums : (a b c d : ℕ) → a ≡ c → b ≡ d → a + b ≡ c + d
  both_sums a b c d one two = omega (arith, one, two)

  pub all_told : (told : Option (ℕ → Option D)) → IfSome told (AreTablesBack world.store.tables) → IfSome told (AreClientsBack world.clients.clients)
      → IfSome told (λ disks. all_faults_back state disks w ≡ all_faults state world)
  all_told None tables nodes = tt
  all_told (Some disks) tables nodes =
      both_sums _ _ _ _ (sum_same (faults_back state disks w) (faults_at state world.store.tables) 64 (told_at disks tables))
      (sum_same (client_faults_back state disks w) (hosts.faults_at state world.clients.clients) 64 (client_told_at disks nodes))
