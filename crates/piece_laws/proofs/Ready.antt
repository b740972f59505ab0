-- What the moves of a world may use of what its lines say: numbers that were never sent, items that answers name.
use Rattle.std.proofs.Common.{◌≡◌, ◌⊎◌, inl, inr, ⊎_elim, ℕ, ◌≤◌, ◌<◌, List, [], ◌∷◌, Option, Some, None, refl, sym, ◌∙◌, ap, subst, arith}
use Rattle.stab_base.specs.declared.node.Node.{Node}
use Rattle.stab_base.specs.declared.node.Node.TheVariants as nodes
use Rattle.row_value.specs.declared.schema.Scheme.{Scheme}
use Rattle.table_model.specs.Last.{last_where}
use Rattle.table_model.specs.declared.line.Write.{Write}
use Rattle.step_tables.specs.Store.{Stored}
use Rattle.step_tables.specs.Items.{IsItemOf, IsItemAt}
use Rattle.step_tables.specs.Members.{Among}
use Rattle.step_tables.specs.Messages.{Request, Response, Outcome, Message, SyncRequest, SyncResponse, PullRequest, PullResponse, TornRowRequest, TornRowResponse}
use Rattle.step_tables.specs.Messages as messages
use Rattle.step_tables.specs.Sayings.{Said, write_of}
use Rattle.step_tables.specs.StoreMoves.{StoreDisk, StoreTask, pair_of, is_by, yours_in}
use Rattle.step_tables.specs.ClientMoves.{ClientDisk, ClientTask, Client}
use Rattle.step_tables.proofs.Lists.{among_none, among_left}
use Rattle.store_laws.specs.Part as stores
use Rattle.store_laws.proofs.Items.{Counts-push, one_version, own_is, own_none, own_last}
use Rattle.client_laws.specs.Part.{Sending, write_for, Fit, Tied, ClientPart, IsAt, Runs}
use Rattle.client_laws.specs.Part as part
use Rattle.world_tables.specs.World.{World, Packet, Hosted, hosted_at, client_at}
use Rattle.world_laws.proofs.Kept.{KnownIn, IsFairMessage, Kept}
use Rattle.piece_laws.specs.Pieces.{items_in, items_at, asked_in, IsOutcome, IsKnown}
use Rattle.piece_laws.proofs.Moves.{IsReady, IsGiven, IsGivenOutcome}
use Rattle.piece_laws.proofs.Worlds.{there_request, IsNamedWorld}

some_write : (x y : Write) → Some x ≡ Some y → x ≡ y
some_write x y e = cc

module _ (g : ℕ → Scheme) (size : ℕ → ℕ) (w : World) (s : Said) (k : Kept g w s) where
  -- ---- the items that were told are on the devices

  resting_there : (table : ℕ) (d : StoreDisk) → stores.IsResting (g table) (KnownIn s.heard k.sent table) (k.items table) d → (i : Stored) → Among (k.items table) i → Among d.items i
  resting_there table d (inl told) i a = subst (λ (l : List Stored). Among l i) (sym told.items) a
  resting_there table d (inr untold) i a = subst (λ (l : List Stored). Among l i) (sym untold.items) (among_left (k.items table) (untold.item ∷ []) i a)

  at_there : (table : ℕ) (d : StoreDisk) (agenda : Option (List StoreTask)) → stores.IsAt (g table) table (KnownIn s.heard k.sent table) (k.items table) d agenda
      → (i : Stored) → Among (k.items table) i → Among d.items i
  at_there table d None is i a = resting_there table d is i a
  at_there table d (Some []) is i a = subst (λ (l : List Stored). Among l i) (sym is.0.items) a
  at_there table d (Some (task ∷ more)) is i a = subst (λ (l : List Stored). Among l i) (sym is.0.items) a

  told_there : (table : ℕ) (i : Stored) → Among (k.items table) i → Among (items_at w table) i
  told_there table i a = go (hosted_at w table) refl
    where
      go : (o : Option Hosted) → hosted_at w table ≡ o → Among (items_in o) i
      go None at = absurd (among_none i (subst (λ (l : List Stored). Among l i) (k.no_store table at) a))
      go (Some hosted) at = at_there table hosted.store.disk hosted.store.agenda (k.stores table hosted at).0.state i a

  item_there : (table c n : ℕ) (row : List ℕ) (version : ℕ) (i : Stored) → IsItemOf (k.items table) c n row version i → IsItemOf (items_at w table) c n row version i
  item_there table c n row version i is =
      record { stands = told_there table i is.stands; client_is = is.client_is; number_is = is.number_is; row_is = is.row_is; version_is = is.version_is }

  -- ---- the items on the devices have the versions 1, 2, .., so that a row has one content at a version

  resting_counted : (table : ℕ) (d : StoreDisk) → stores.IsResting (g table) (KnownIn s.heard k.sent table) (k.items table) d → stores.Counts 0 d.items
  resting_counted table d (inl told) = subst (stores.Counts 0) (sym told.items) (k.tables table).counted
  resting_counted table d (inr untold) = subst (stores.Counts 0) (sym untold.items) (Counts-push 0 (k.items table) untold.item (k.tables table).counted (let next = untold.next.next in omega (arith, next)))

  at_counted : (table : ℕ) (d : StoreDisk) (agenda : Option (List StoreTask)) → stores.IsAt (g table) table (KnownIn s.heard k.sent table) (k.items table) d agenda → stores.Counts 0 d.items
  at_counted table d None is = resting_counted table d is
  at_counted table d (Some []) is = resting_counted table d (inl is.0)
  at_counted table d (Some (task ∷ more)) is = resting_counted table d (inl is.0)

  there_counted : (table : ℕ) → stores.Counts 0 (items_at w table)
  there_counted table = go (hosted_at w table) refl
    where
      go : (o : Option Hosted) → hosted_at w table ≡ o → stores.Counts 0 (items_in o)
      go None at = tt
      go (Some hosted) at = at_counted table hosted.store.disk hosted.store.agenda (k.stores table hosted at).0.state

  pub one_item : (table : ℕ) (row : List ℕ) (version : ℕ) (i j : Stored) → IsItemAt (items_at w table) row version i → IsItemAt (items_at w table) row version j → i.content ≡ j.content
  one_item table row version i j x y =
      ap (λ (z : Stored). z.content) (one_version 0 (items_at w table) i j (there_counted table) x.stands y.stands (x.version_is ∙ sym y.version_is))

  -- ---- at an idle table a client's last item on a row has the greatest number

  pub below_yours : (table : ℕ) (hosted : Hosted) → hosted_at w table ≡ Some hosted → hosted.store.agenda ≡ Some [] → (c : ℕ) (row : List ℕ) (i : Stored) → Among hosted.store.disk.items i
      → i.entry.client ≡ c → i.entry.row ≡ row → i.entry.number ≤ (yours_in hosted.store.disk.items c row).number
  below_yours table hosted at idle c row i a client_is row_is = go (last_where (is_by c row) h) refl
    where
      h : List Stored
      h = hosted.store.disk.items

      state : stores.IsAt (g table) table (KnownIn s.heard k.sent table) (k.items table) hosted.store.disk (Some [])
      state = subst (λ (o : Option (List StoreTask)). stores.IsAt (g table) table (KnownIn s.heard k.sent table) (k.items table) hosted.store.disk o) idle (k.stores table hosted at).0.state

      lawful : stores.IsLawful (g table) (KnownIn s.heard k.sent table) h
      lawful = subst (stores.IsLawful (g table) (KnownIn s.heard k.sent table)) (sym state.0.items) (k.tables table)

      go : (o : Option Stored) → last_where (is_by c row) h ≡ o → i.entry.number ≤ (pair_of o).number
      go None none = absurd (own_none c row h i none a client_is row_is)
      go (Some last) is =
          let own = own_is c row h last is in
          let most = own_last c row h last i lawful.counted is a client_is row_is in
          ⊎_elim
          (λ less. let rises = lawful.rises i last a own.0 (client_is ∙ sym own.1) (row_is ∙ sym own.2) less in omega (arith, rises))
          (λ same. let one = one_version 0 h i last lawful.counted a own.0 same in let number : i.entry.number ≡ last.entry.number = ap (λ (x : Stored). x.entry.number) one in omega (arith, number))
          (less_or (i.entry.version) (last.entry.version) most)
        where
          less_or : (x y : ℕ) → x ≤ y → (x < y) ⊎ (x ≡ y)
          less_or x y le = grind (arith, le)

  -- ---- a request on the network is of a write that was told

  sending_of : (q : Request) → Among (asked_in w) q → KnownIn s.heard k.sent q.table q.client q.row q.number q.base q.content
  sending_of q a =
      let p = there_request w.packets q a in
      (subst (λ (m : Message). IsFairMessage g s.heard k.items k.sent p.0.from p.0.to m) p.2 (k.packets p.0 p.1)).1

  -- so that two requests of one write have one content
  pub one_content : (p q : Request) → Among (asked_in w) p → Among (asked_in w) q → p.client ≡ q.client → p.number ≡ q.number → p.content ≡ q.content
  one_content p q a b e n =
      let x = sending_of p a in
      let y = sending_of q b in
      let there : write_of p.number (s.heard p.client).writes ≡ Some y.0 =
      ap (λ (c : ℕ). write_of p.number (s.heard c).writes) e ∙ (ap (λ (m : ℕ). write_of m (s.heard q.client).writes) n ∙ y.1) in
      let same : x.0 ≡ y.0 = some_write x.0 y.0 (sym x.1 ∙ there) in
      sym x.4 ∙ (ap (λ (z : Write). z.content) same ∙ y.4)

  module _ (c : ℕ) (d : ClientDisk) (tied : Tied g c k.items (k.sent c) d (s.heard c)) where
    of_sent : (q : Request) → Among (asked_in w) q → q.client ≡ c → (x : Write) × (write_of q.number (s.heard c).writes ≡ Some x) × (x.table ≡ q.table) × (x.row ≡ q.row)
        × Among (k.sent c) (record { table = q.table; row = q.row; number = q.number; base = q.base })
    of_sent q a e =
        let known = subst (λ (n : ℕ). KnownIn s.heard k.sent q.table n q.row q.number q.base q.content) e (sending_of q a) in
        (known.0, known.1, known.2, known.3, known.5)

    -- one write has one row
    same_row_of : (n m : ℕ) (x y : Write) → n ≡ m → write_of n (s.heard c).writes ≡ Some x → write_of m (s.heard c).writes ≡ Some y → (x.table ≡ y.table) × (x.row ≡ y.row)
    same_row_of n m x y e a b =
        let both = some_write x y (sym a ∙ (ap (λ (z : ℕ). write_of z (s.heard c).writes) e ∙ b)) in (ap (λ (z : Write). z.table) both, ap (λ (z : Write). z.row) both)

    pub ready : IsReady c (asked_in w) d
    ready = record {
      rising = λ table opened at. (tied.opened table opened at).rising;
      unsent = λ table row m main out conflict q a e n.
          let fit = (tied.rows table row).fit in
          let q_sent = of_sent q a e in
          let row_of = same_row_of q.number m.number q_sent.0 (write_for c table row m) n q_sent.1 (fit.mine m main).0 in
          let less = fit.unsent m (record { table = q.table; row = q.row; number = q.number; base = q.base }) out conflict main q_sent.4 (sym q_sent.2 ∙ row_of.0) (sym q_sent.3 ∙ row_of.1) in
          absurd (omega (arith, less, n));
      others = λ table row m other place o main out n.
          same_row_of m.number o.number (write_for c table row m) (write_for c other place (record { number = o.number; read = o.read; content = o.content })) n
          ((tied.rows table row).fit.mine m main).0 ((tied.rows other place).fit.out o out).written;
      fresh = λ q a e n.
          let q_sent = of_sent q a e in
          let low = ((k.told.clients c).numbered q.number q_sent.0 q_sent.1).3 in
          let last = tied.last in
          absurd (omega (arith, low, last, n));
      fresh_out = λ table row o out n.
          let low = ((k.told.clients c).numbered o.number _ ((tied.rows table row).fit.out o out).written).3 in
          let last = tied.last in
          absurd (omega (arith, low, last, n));
    }

  pub ready_at : (c : ℕ) (node : Client) → client_at w c ≡ Some node → node.agenda ≡ Some [] → IsReady c (asked_in w) node.disk
  ready_at c node at idle = ready c node.disk
      (subst (λ (o : Option (List ClientTask)). IsAt g c k.items (k.sent c) node.disk (s.heard c) o) idle (k.clients c node at)).0

  -- ---- a message that comes to a client

  pub given_at : IsNamedWorld size w → (p : Packet) → Among w.packets p → (c : ℕ) → p.to ≡ nodes.Client c → IsGiven size c (items_at w) (asked_in w) p.message
  given_at named p a c to = go p.message (named.packets p a) (subst (λ (n : Node). IsFairMessage g s.heard k.items k.sent p.from n p.message) to (k.packets p a))
    where
      outcome : (r : Response) (o : Outcome) → c ≡ r.client → part.IsOutcome g r.client k.items (k.sent r.client) r o → IsOutcome size (items_at w) (asked_in w) r o
          → IsGivenOutcome size c (items_at w) (asked_in w) r o
      outcome r (messages.Accepted v) e f x = (f.0, item_there r.table c r.number r.row v f.0 (subst (λ (n : ℕ). IsItemOf (k.items r.table) n r.number r.row v f.0) (sym e) f.1))
      outcome r (messages.Again v) e f x = (f.0, item_there r.table c r.number r.row v f.0 (subst (λ (n : ℕ). IsItemOf (k.items r.table) n r.number r.row v f.0) (sym e) f.1))
      outcome r (messages.Late v) e f x = tt
      outcome r (messages.Stale v) e f x = tt
      outcome r (messages.Conflict v) e f x = tt
      outcome r messages.NeedWhole e f x = (sym e, x)

      go : (m : Message) → IsKnown size (items_at w) (asked_in w) m → IsFairMessage g s.heard k.items k.sent p.from (nodes.Client c) m → IsGiven size c (items_at w) (asked_in w) m
      go (SyncRequest q) x f = tt
      go (PullRequest q) x f = tt
      go (SyncResponse r) x f = outcome r r.outcome f.0 f.1 x
      go (PullResponse pulled) x f = x
      go (TornRowRequest q) x f = tt
      go (TornRowResponse q) x f = x
