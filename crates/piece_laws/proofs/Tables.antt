-- What a table at the Store keeps: its items are linked, each of a sent request, and its agenda puts the next one.
use Rattle.std.proofs.Common.{◌≡◌, ◌≢◌, ◌⊎◌, inl, inr, ℕ, ◌≤◌, Bool, true, false, List, [], ◌∷◌, ◌++◌, Option, Some, None, refl, sym, subst, arith}
use Rattle.std.specs.Prelude.{◌==◌, ◌&&◌, not, nat_lt, option_map, if◌then◌else◌}
use Rattle.std.specs.List.{list_any}
use Rattle.std.proofs.lemmas.Bool.{and_parts}
use Rattle.std.proofs.lemmas.Bool.Decides.{nat_tests}
use Rattle.stab_base.specs.declared.node.Node.{Node}
use Rattle.stab_base.specs.declared.chunk_name.ChunkName.{ChunkName}
use Rattle.row_value.specs.declared.schema.Scheme.{Scheme}
use Rattle.row_value.specs.declared.schema.Scheme.TheVariants.{Strong, Causal, Eventual}
use Rattle.step_tables.specs.Store.{Stored, current_of, is_of_row, next_changed}
use Rattle.step_tables.specs.Facts as facts
use Rattle.step_tables.specs.Members.{Among}
use Rattle.step_tables.specs.Messages.{Request, Response, Pull, Header, Pair, Outcome, Message, Send, Luck, SyncRequest, SyncResponse, PullRequest, PullResponse}
use Rattle.step_tables.specs.Messages.{TornPull, TornRowRequest, TornRowResponse}
use Rattle.step_tables.specs.Messages as messages
use Rattle.step_tables.specs.Chunks.{rising, new_names, old_names, is_spelled, is_of_each, are_counted, are_apart, kept_in, flat, objects_of}
use Rattle.step_tables.specs.StoreMoves.{StoreDisk, StoreTask, StoreChange, OpenChunks, OpenRows, OpenLog, Open, PutChunk, Put, DropChunk, Close, PutBeside, PutState, PutSub, SidePut, changed, StoreStep}
use Rattle.step_tables.specs.StoreMoves.{quiet, beside_task, placed, worked, crashed, item_at, drops, recovering, recovered, recover, started, takes, outdated, unaccepted, responded, sending, item_for, puts}
use Rattle.step_tables.specs.StoreMoves.{accepting, version_of, keeps_there, judged, decided, asked, taken, yours_in, header_for, answered, torn_answered}
use Rattle.step_tables.proofs.Lists.{among_here, among_next, among_left, among_last}
use Rattle.piece_laws.specs.Pieces.{IsDead, KeepsKnown, IsOfRequest, IsHeader}
use Rattle.piece_laws.proofs.Linked.{IsNext, AreLinked, item_next}
use Rattle.piece_laws.proofs.Gone.{refused_dead, accepted_alive}

-- ---- what a table's writes put

-- the next item, of a sent request that isn't dead
pub record IsPut (size : ℕ) (sent : List Request) (table : ℕ) (h : List Stored) (item : Stored) : Type 0 where
  pub next : IsNext size h item
  pub request : Request
  pub of : IsOfRequest sent table item request
  pub alive : IsDead size h item.entry.row request.pieces → ⊥

pub of_more : (sent more : List Request) (table : ℕ) (item : Stored) (q : Request) → IsOfRequest sent table item q → IsOfRequest (sent ++ more) table item q
of_more sent more table item q k = record {
  stands = among_left sent more q k.stands;
  client_is = k.client_is;
  number_is = k.number_is;
  table_is = k.table_is;
  row_is = k.row_is;
  content_is = k.content_is;
  names_are = k.names_are;
}

pub put_more : (size : ℕ) (sent more : List Request) (table : ℕ) (h : List Stored) (item : Stored) → IsPut size sent table h item → IsPut size (sent ++ more) table h item
put_more size sent more table h item k = record { next = k.next; request = k.request; of = of_more sent more table item k.request k.of; alive = k.alive }

abbrev pub items_behind : List Stored → StoreChange → List Stored
items_behind h (Put item named old) = h ++ item ∷ []
items_behind h other = h

abbrev pub PutsWell : ℕ → List Request → ℕ → List Stored → StoreChange → Type 0
PutsWell size sent table h (Put item named old) = IsPut size sent table h item
PutsWell size sent table h other = Unit {0}

abbrev pub Grows : ℕ → List Request → ℕ → List Stored → List StoreTask → Type 0
Grows size sent table h [] = Unit {0}
Grows size sent table h (task ∷ more) = PutsWell size sent table h task.change × Grows size sent table (items_behind h task.change) more

abbrev pub GrowsBy : ℕ → List Request → ℕ → List Stored → Option (List StoreTask) → Type 0
GrowsBy size sent table h None = Unit {0}
GrowsBy size sent table h (Some tasks) = Grows size sent table h tasks

-- the items behind a move: those before, or one more
abbrev pub Became : ℕ → List Request → ℕ → List Stored → List Stored → Type 0
Became size sent table h later = (later ≡ h) ⊎ ((item : Stored) × IsPut size sent table h item × (later ≡ h ++ item ∷ []))

-- all chunks are needed of a write that has no item: a sent request of it is dead
pub record IsNeededNow (size : ℕ) (sent : List Request) (table : ℕ) (h : List Stored) (r : Response) : Type 0 where
  pub request : Request
  pub stands : Among sent request
  pub client_is : request.client ≡ r.client
  pub number_is : request.number ≡ r.number
  pub table_is : request.table ≡ table
  pub row_is : request.row ≡ r.row
  pub dead : IsDead size h r.row request.pieces
  pub none : (i : Stored) → Among h i → i.entry.client ≡ r.client → i.entry.row ≡ r.row → i.entry.number ≢ r.number

abbrev pub NeedsBy : ℕ → List Request → ℕ → List Stored → Response → Outcome → Type 0
NeedsBy size sent table h r messages.NeedWhole = IsNeededNow size sent table h r
NeedsBy size sent table h r other = Unit {0}

abbrev pub IsAnswer : ℕ → List Request → ℕ → List Stored → Message → Type 0
IsAnswer size sent table h (SyncRequest q) = ⊥
IsAnswer size sent table h (PullRequest pull) = ⊥
IsAnswer size sent table h (SyncResponse r) = (r.table ≡ table) × NeedsBy size sent table h r r.outcome
IsAnswer size sent table h (PullResponse pulled) = (pulled.table ≡ table) × IsHeader h pulled.header
IsAnswer size sent table h (TornRowRequest torn) = ⊥
IsAnswer size sent table h (TornRowResponse answer) = (answer.table ≡ table) × IsHeader h answer.header

abbrev pub AreKnown : ℕ → List Request → ℕ → List Stored → List Send → Type 0
AreKnown size sent table h [] = Unit {0}
AreKnown size sent table h (send ∷ more) = IsAnswer size sent table h send.message × AreKnown size sent table h more

-- each write of an agenda sends such answers, with the items behind it
abbrev pub Sends : ℕ → List Request → ℕ → List StoreTask → Type 0
Sends size sent table [] = Unit {0}
Sends size sent table (task ∷ more) = ((h : List Stored) → AreKnown size sent table h task.sends) × Sends size sent table more

abbrev pub SendsBy : ℕ → List Request → ℕ → Option (List StoreTask) → Type 0
SendsBy size sent table None = Unit {0}
SendsBy size sent table (Some tasks) = Sends size sent table tasks

-- a move of a table: one item more at most, and an agenda that goes well still
pub record IsMove (size : ℕ) (sent : List Request) (table : ℕ) (h : List Stored) (s : StoreStep) : Type 0 where
  pub became : Became size sent table h s.store.disk.items
  pub grows : GrowsBy size sent table s.store.disk.items s.store.agenda
  pub sends : SendsBy size sent table s.store.agenda
  pub known : AreKnown size sent table s.store.disk.items s.sends

pub grows_more : (size : ℕ) (sent more : List Request) (table : ℕ) (h : List Stored) (tasks : List StoreTask) → Grows size sent table h tasks → Grows size (sent ++ more) table h tasks
grows_more size sent more table h [] g = tt
grows_more size sent more table h (task ∷ tasks) g = (by_change task.change g.0, grows_more size sent more table (items_behind h task.change) tasks g.1)
  where
    by_change : (change : StoreChange) → PutsWell size sent table h change → PutsWell size (sent ++ more) table h change
    by_change OpenChunks p = p
    by_change OpenRows p = p
    by_change OpenLog p = p
    by_change (Open item) p = p
    by_change (PutChunk name) p = p
    by_change (Put item named old) p = put_more size sent more table h item p
    by_change (DropChunk name) p = p
    by_change Close p = p
    by_change (PutBeside put) p = p

behind_is : (d : StoreDisk) (change : StoreChange) → (changed d change).items ≡ items_behind d.items change
behind_is d OpenChunks = refl
behind_is d OpenRows = refl
behind_is d OpenLog = refl
behind_is d (Open item) = refl
behind_is d (PutChunk name) = refl
behind_is d (Put item named old) = refl
behind_is d (DropChunk name) = refl
behind_is d Close = refl
behind_is d (PutBeside (PutState state)) = refl
behind_is d (PutBeside (PutSub client terms)) = refl

module _ (size : ℕ) (sent : List Request) (table : ℕ) where
  became_by : (h : List Stored) (change : StoreChange) → PutsWell size sent table h change → Became size sent table h (items_behind h change)
  became_by h OpenChunks p = inl refl
  became_by h OpenRows p = inl refl
  became_by h OpenLog p = inl refl
  became_by h (Open item) p = inl refl
  became_by h (PutChunk name) p = inl refl
  became_by h (Put item named old) p = inr (item, p, refl)
  became_by h (DropChunk name) p = inl refl
  became_by h Close p = inl refl
  became_by h (PutBeside put) p = inl refl

  changed_by : (d : StoreDisk) (change : StoreChange) → PutsWell size sent table d.items change → Became size sent table d.items (changed d change).items
  changed_by d change p = subst (Became size sent table d.items) (sym (behind_is d change)) (became_by d.items change p)

  stays : (d : StoreDisk) (agenda : Option (List StoreTask)) (answer : facts.Answer) → GrowsBy size sent table d.items agenda → SendsBy size sent table agenda
      → IsMove size sent table d.items (quiet d agenda answer)
  stays d agenda answer grows sends = record { became = inl refl; grows = grows; sends = sends; known = tt }

  -- ---- work and crashes

  down_move : (d e : StoreDisk) (answer : facts.Answer) → Became size sent table d.items e.items → IsMove size sent table d.items (quiet e None answer)
  down_move d e answer became = record { became = became; grows = tt; sends = tt; known = tt }

  pub worked_move : (d : StoreDisk) (agenda : Option (List StoreTask)) (luck : Luck) → GrowsBy size sent table d.items agenda → SendsBy size sent table agenda
      → IsMove size sent table d.items (worked d agenda luck)
  worked_move d None messages.Done g s = down_move d d _ (inl refl)
  worked_move d None messages.FailedBefore g s = down_move d d _ (inl refl)
  worked_move d None messages.FailedAfter g s = down_move d d _ (inl refl)
  worked_move d (Some []) messages.Done g s = stays d (Some []) _ tt tt
  worked_move d (Some []) messages.FailedBefore g s = down_move d d _ (inl refl)
  worked_move d (Some []) messages.FailedAfter g s = down_move d d _ (inl refl)
  worked_move d (Some (task ∷ more)) messages.Done g s = record {
    became = changed_by d task.change g.0;
    grows = subst (λ (h : List Stored). Grows size sent table h more) (sym (behind_is d task.change)) g.1;
    sends = s.1;
    known = s.0 (changed d task.change).items;
  }
  worked_move d (Some (task ∷ more)) messages.FailedBefore g s = down_move d d _ (inl refl)
  worked_move d (Some (task ∷ more)) messages.FailedAfter g s = down_move d (changed d task.change) _ (changed_by d task.change g.0)

  pub crashed_move : (d : StoreDisk) (agenda : Option (List StoreTask)) (luck : Luck) → GrowsBy size sent table d.items agenda → IsMove size sent table d.items (crashed d agenda luck)
  crashed_move d None luck g = down_move d d _ (inl refl)
  crashed_move d (Some []) luck g = down_move d d _ (inl refl)
  crashed_move d (Some (task ∷ more)) messages.Done g = down_move d (changed d task.change) _ (changed_by d task.change g.0)
  crashed_move d (Some (task ∷ more)) messages.FailedBefore g = down_move d d _ (inl refl)
  crashed_move d (Some (task ∷ more)) messages.FailedAfter g = down_move d (changed d task.change) _ (changed_by d task.change g.0)

  -- ---- what is put beside the rows

  pub placed_move : (d : StoreDisk) (agenda : Option (List StoreTask)) (put : SidePut) → GrowsBy size sent table d.items agenda → SendsBy size sent table agenda
      → IsMove size sent table d.items (placed table d agenda put)
  placed_move d None put g s = down_move d d _ (inl refl)
  placed_move d (Some (task ∷ more)) put g s = stays d (Some (task ∷ more)) _ g s
  placed_move d (Some []) put g s = stays d (Some (beside_task table put ∷ [])) facts.Done (tt, tt) ((λ h. tt), tt)

  -- ---- starts

  drops_grow : (h : List Stored) (names : List ChunkName) (more : List StoreTask) → Grows size sent table h more → Grows size sent table h (drops names ++ more)
  drops_grow h [] more g = g
  drops_grow h (name ∷ names) more g = (tt, drops_grow h names more g)

  drops_send : (names : List ChunkName) (more : List StoreTask) → Sends size sent table more → Sends size sent table (drops names ++ more)
  drops_send [] more s = s
  drops_send (name ∷ names) more s = ((λ h. tt), drops_send names more s)

  recovering_move : (store : ℕ) (d : StoreDisk) → Grows size sent table d.items (recovering store table d) × Sends size sent table (recovering store table d)
  recovering_move store d = (
    (tt, (tt, (tt, drops_grow d.items (rising d.left) _ (tt, tt)))),
    ((λ h. tt), ((λ h. tt), ((λ h. tt), drops_send (rising d.left) _ ((λ h. tt), tt)))),
  )

  pub started_move : (store : ℕ) (d : StoreDisk) (agenda : Option (List StoreTask)) → GrowsBy size sent table d.items agenda → SendsBy size sent table agenda
      → IsMove size sent table d.items (started store table d agenda)
  started_move store d (Some agenda) g s = stays d (Some agenda) _ g s
  started_move store d None g s = go d.pending
    where
      found : (i : Stored) (o : Option Stored) → IsMove size sent table d.items (recovered store table d i o)
      found i None = let r = recovering_move store d in record { became = inl refl; grows = r.0; sends = r.1; known = tt }
      found i (Some item) = let r = recovering_move store d in record { became = inl refl; grows = r.0; sends = r.1; known = tt }

      go : (o : Option Stored) → IsMove size sent table d.items (recover store table d o)
      go None = stays d _ _ (tt, (tt, (tt, tt))) ((λ h. tt), ((λ h. tt), ((λ h. tt), tt)))
      go (Some i) = found i (item_at i.entry.version d.items)

  -- ---- a request

  puts_grow : (h : List Stored) (names : List ChunkName) (more : List StoreTask) → Grows size sent table h more → Grows size sent table h (puts names ++ more)
  puts_grow h [] more g = g
  puts_grow h (name ∷ names) more g = (tt, puts_grow h names more g)

  puts_send : (names : List ChunkName) (more : List StoreTask) → Sends size sent table more → Sends size sent table (puts names ++ more)
  puts_send [] more s = s
  puts_send (name ∷ names) more s = ((λ h. tt), puts_send names more s)

  module _ (g : Scheme) (d : StoreDisk) (linked : AreLinked size d.items) (from : Node) (q : Request) (stands : Among sent q) (table_is : q.table ≡ table)
      (known : KeepsKnown size d.items q.row q.content q.pieces)
      (below : (i : Stored) → Among d.items i → i.entry.client ≡ q.client → i.entry.row ≡ q.row → i.entry.number ≤ (yours_in d.items q.client q.row).number) where
    respond : (outcome : Outcome) → NeedsBy size sent table d.items (record { client = q.client; table = q.table; row = q.row; number = q.number; outcome = outcome }) outcome
        → IsMove size sent table d.items (sending d (responded from q outcome ∷ []))
    respond outcome needs = record { became = inl refl; grows = tt; sends = tt; known = ((table_is, needs), tt) }

    accepted_move : is_spelled size q.content q.pieces ≡ true → keeps_there size d.items q ≡ true
        → IsMove size sent table d.items (quiet d (Some (accepting size table d.items from q (item_for d.items q))) facts.Done)
    accepted_move spelled there =
        let item : Stored = item_for d.items q in
        let put : IsPut size sent table d.items item =
        record {
          next = item_next size d.items linked.named q spelled there;
          request = q;
          of = record { stands = stands; client_is = refl; number_is = refl; table_is = table_is; row_is = refl; content_is = refl; names_are = refl };
          alive = accepted_alive size d.items linked q.row q.content q.pieces (each spelled) there;
        } in
        stays d _ _
        (tt, puts_grow d.items (new_names size item) _ (put, drops_grow (d.items ++ item ∷ []) (old_names size d.items item) _ (tt, tt)))
        ((λ h. tt), puts_send (new_names size item) _ ((λ h. tt), drops_send (old_names size d.items item) _ ((λ h. ((table_is, tt), tt)), tt)))
      where
        each : is_spelled size q.content q.pieces ≡ true → is_of_each size q.pieces (objects_of q.content) ≡ true
        each s = (and_parts (is_of_each size q.pieces (objects_of q.content)) (are_counted 0 (flat q.pieces) && are_apart (kept_in (flat q.pieces))) s).0

    unaccepted_move : (current : ℕ) → is_spelled size q.content q.pieces ≡ true → (takes g q.base current && keeps_there size d.items q) ≡ false
        → ((i : Stored) → Among d.items i → i.entry.client ≡ q.client → i.entry.row ≡ q.row → i.entry.number ≢ q.number)
        → IsMove size sent table d.items (sending d (responded from q (unaccepted g q.base current) ∷ []))
    unaccepted_move current spelled fails none = go (takes g q.base current) refl
      where
        each : is_of_each size q.pieces (objects_of q.content) ≡ true
        each = (and_parts (is_of_each size q.pieces (objects_of q.content)) (are_counted 0 (flat q.pieces) && are_apart (kept_in (flat q.pieces))) spelled).0

        old : (s : Scheme) → IsMove size sent table d.items (sending d (responded from q (outdated s current) ∷ []))
        old Strong = respond (messages.Stale current) tt
        old Causal = respond (messages.Conflict current) tt
        old Eventual = respond (messages.Stale current) tt

        go : (b : Bool) → takes g q.base current ≡ b → IsMove size sent table d.items (sending d (responded from q (if b then messages.NeedWhole else outdated g current) ∷ []))
        go false is = old g
        go true is = respond messages.NeedWhole (record {
          request = q;
          stands = stands;
          client_is = refl;
          number_is = refl;
          table_is = table_is;
          row_is = refl;
          dead = refused_dead size d.items linked q.row q.content q.pieces each known (subst (λ (b : Bool). (b && keeps_there size d.items q) ≡ false) is fails);
          none = none;
        })

    judged_move : (current : ℕ) → is_spelled size q.content q.pieces ≡ true
        → ((i : Stored) → Among d.items i → i.entry.client ≡ q.client → i.entry.row ≡ q.row → i.entry.number ≢ q.number)
        → IsMove size sent table d.items (judged g size table d from q current)
    judged_move current spelled none = go (takes g q.base current && keeps_there size d.items q) refl
      where
        go : (b : Bool) → (takes g q.base current && keeps_there size d.items q) ≡ b
            → IsMove size sent table d.items (if b then quiet d (Some (accepting size table d.items from q (item_for d.items q))) facts.Done else sending d (responded from q (unaccepted g q.base current) ∷ []))
        go true is = accepted_move spelled (and_parts (takes g q.base current) (keeps_there size d.items q) is).1
        go false is = unaccepted_move current spelled is none

    decided_move : is_spelled size q.content q.pieces ≡ true → IsMove size sent table d.items (decided g size table d from q (yours_in d.items q.client q.row))
    decided_move spelled = go (yours.number == q.number) refl (nat_lt q.number yours.number) refl
      where
        yours : Pair
        yours = yours_in d.items q.client q.row

        none : (yours.number == q.number) ≡ false → nat_lt q.number yours.number ≡ false
            → (i : Stored) → Among d.items i → i.entry.client ≡ q.client → i.entry.row ≡ q.row → i.entry.number ≢ q.number
        none a b i stands_ client_is row_is = λ same. let low = below i stands_ client_is row_is in absurd (grind (arith, nat_tests, low, same, a, b))

        go : (a : Bool) → (yours.number == q.number) ≡ a → (b : Bool) → nat_lt q.number yours.number ≡ b
            → IsMove size sent table d.items (if a then sending d (responded from q (messages.Again yours.version) ∷ [])
            else (if b then sending d (responded from q (messages.Late yours.number) ∷ []) else judged g size table d from q (version_of (current_of d.items q.row))))
        go true is b at = respond (messages.Again yours.version) tt
        go false is true at = respond (messages.Late yours.number) tt
        go false is false at = judged_move (version_of (current_of d.items q.row)) spelled (none is at)

    pub asked_move : IsMove size sent table d.items (asked g size table d from q)
    asked_move = go (is_spelled size q.content q.pieces) refl
      where
        go : (b : Bool) → is_spelled size q.content q.pieces ≡ b → IsMove size sent table d.items (if b then decided g size table d from q (yours_in d.items q.client q.row) else quiet d (Some []) facts.Done)
        go true is = decided_move is
        go false is = stays d (Some []) facts.Done tt tt

  -- ---- a row for a client

  row_header : (d : StoreDisk) (client : ℕ) (o : Option Stored) → ((item : Stored) → o ≡ Some item → Among d.items item) → IsHeader d.items (option_map (header_for d.items client) o)
  row_header d client None stands = tt
  row_header d client (Some item) stands = record {
    item = item;
    is = record { stands = stands item refl; row_is = refl; version_is = refl };
    content = refl;
    names = refl;
  }

  pub torn_move : (d : StoreDisk) (from : Node) (torn : TornPull) → torn.table ≡ table → IsMove size sent table d.items (torn_answered d from torn)
  torn_move d from torn table_is = record {
    became = inl refl;
    grows = tt;
    sends = tt;
    known = ((table_is, row_header d torn.client (current_of d.items torn.row) (λ item at. (among_last (is_of_row torn.row) d.items item at).0)), tt);
  }

  -- ---- a pull

  next_stands : (position : ℕ) (h : List Stored) (item : Stored) → next_changed position h ≡ Some item → Among h item
  next_stands position [] item at = absurd cc
  next_stands position (x ∷ more) item at =
      go (nat_lt position x.entry.version && not (list_any (is_of_row x.entry.row) more)) (λ e. next_stands position more item e) at
    where
      go : (b : Bool) → (next_changed position more ≡ Some item → Among more item) → (if b then Some x else next_changed position more) ≡ Some item → Among (x ∷ more) item
      go true later is = let same : x ≡ item = cc in subst (Among (x ∷ more)) same (among_here x more)
      go false later is = among_next x more item (later is)

  pub answered_move : (d : StoreDisk) (from : Node) (pull : Pull) → pull.table ≡ table → IsMove size sent table d.items (answered d from pull)
  answered_move d from pull table_is = record {
    became = inl refl;
    grows = tt;
    sends = tt;
    known = ((table_is, row_header d pull.client (next_changed pull.position d.items) (λ item at. next_stands pull.position d.items item at)), tt);
  }

  -- ---- any message: a table that is up and idle takes it

  pub taken_move : (g : Scheme) (d : StoreDisk) (agenda : Option (List StoreTask)) (from : Node) (m : Message) → AreLinked size d.items → GrowsBy size sent table d.items agenda
      → SendsBy size sent table agenda
      → (agenda ≡ Some [] → (q : Request) → m ≡ SyncRequest q → Among sent q × (q.table ≡ table) × KeepsKnown size d.items q.row q.content q.pieces
      × ((i : Stored) → Among d.items i → i.entry.client ≡ q.client → i.entry.row ≡ q.row → i.entry.number ≤ (yours_in d.items q.client q.row).number))
      → ((pull : Pull) → m ≡ PullRequest pull → pull.table ≡ table) → ((torn : TornPull) → m ≡ TornRowRequest torn → torn.table ≡ table)
      → IsMove size sent table d.items (taken g size table d agenda from m)
  taken_move g d None from m linked grows sends asks pulls torns = down_move d d _ (inl refl)
  taken_move g d (Some (task ∷ more)) from m linked grows sends asks pulls torns = stays d (Some (task ∷ more)) _ grows sends
  taken_move g d (Some []) from (SyncRequest q) linked grows sends asks pulls torns = let x = asks refl q refl in asked_move g d linked from q x.0 x.1 x.2 x.3
  taken_move g d (Some []) from (PullRequest pull) linked grows sends asks pulls torns = answered_move d from pull (pulls pull refl)
  taken_move g d (Some []) from (SyncResponse r) linked grows sends asks pulls torns = stays d (Some []) facts.Done tt tt
  taken_move g d (Some []) from (PullResponse pulled) linked grows sends asks pulls torns = stays d (Some []) facts.Done tt tt
  taken_move g d (Some []) from (TornRowRequest torn) linked grows sends asks pulls torns = torn_move d from torn (torns torn refl)
  taken_move g d (Some []) from (TornRowResponse answer) linked grows sends asks pulls torns = stays d (Some []) facts.Done tt tt
