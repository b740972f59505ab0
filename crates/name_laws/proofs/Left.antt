-- What a table leaves over: behind all that it has begun no chunk is there that no row names.
use Rattle.std.proofs.Common.{◌≡◌, ◌⊎◌, inl, inr, ⊎_elim, ℕ, Bool, true, false, List, [], ◌∷◌, ◌++◌, Option, Some, None, refl, sym, ◌∙◌, subst}
use Rattle.std.specs.Prelude.{◌==◌, ◌&&◌, nat_lt, if◌then◌else◌}
use Rattle.stab_base.specs.declared.node.Node.{Node}
use Rattle.stab_base.specs.declared.chunk_name.ChunkName.{ChunkName}
use Rattle.row_value.specs.declared.schema.Scheme.{Scheme}
use Rattle.step_tables.specs.Store.{Stored, current_of}
use Rattle.step_tables.specs.Facts.{Fact}
use Rattle.step_tables.specs.Facts as facts
use Rattle.step_tables.specs.Messages.{Request, Pair, Message, Send, Luck, SyncRequest, SyncResponse, PullRequest, PullResponse, TornRowRequest, TornRowResponse}
use Rattle.step_tables.specs.Messages as messages
use Rattle.step_tables.specs.Chunks.{is_of_version, without_names, rising, names_with, new_names, old_names, is_spelled}
use Rattle.step_tables.specs.StoreMoves.{StoreDisk, StoreTask, TableStore, StoreMove, Take, Place, Work, Crash, Start, Open, PutChunk, Put, DropChunk, Close, PutState, PutSub, SidePut, changed, store_step}
use Rattle.step_tables.specs.StoreMoves.{placed}
use Rattle.step_tables.specs.StoreMoves.{quiet, worked, crashed, item_at, ends_with, drops, recovering, recovered, recover, started, takes, unaccepted, responded, sending, item_for, puts}
use Rattle.step_tables.specs.StoreMoves.{accepting, version_of}
use Rattle.step_tables.specs.StoreMoves.{keeps_there, judged, decided, asked, taken, yours_in}
use Rattle.name_laws.proofs.Names.{Among, among_filter, either_among, among_without, without_all, rising_among, none_among}

-- nothing is left over where no entry is pending
abbrev pub IsTidy : StoreDisk → Type 0
IsTidy d = d.pending ≡ None → d.left ≡ []

-- an agenda behind which nothing is left over, and that a crash leaves tidy at any moment
abbrev pub Clears : StoreDisk → List StoreTask → Type 0
Clears d [] = d.left ≡ []
Clears d (task ∷ more) = IsTidy d × Clears (changed d task.change) more

abbrev pub IsClean : StoreDisk → Option (List StoreTask) → Type 0
IsClean d None = IsTidy d
IsClean d (Some agenda) = Clears d agenda

pub tidy_now : (d : StoreDisk) (agenda : List StoreTask) → Clears d agenda → IsTidy d
tidy_now d [] c = λ none. c
tidy_now d (task ∷ more) c = c.0

pending_tidy : (d : StoreDisk) (i : Stored) → d.pending ≡ Some i → IsTidy d
pending_tidy d i is = λ none. absurd (let both : Some i ≡ None = sym is ∙ none in cc)

-- ---- drops and puts, while an entry is pending

abbrev without : StoreDisk → ChunkName → StoreDisk
without d name = changed d (DropChunk name)

-- each chunk that is left is dropped, and then the entry is closed
drops_clear : (names : List ChunkName) (d : StoreDisk) (i : Stored) (last : StoreTask) → last.change ≡ Close → d.pending ≡ Some i
    → ((name : ChunkName) → Among name d.left → Among name names) → Clears d (drops names ++ last ∷ [])
drops_clear [] d i last closes is all =
    (pending_tidy d i is, subst (λ c. (changed d c).left ≡ []) (sym closes) (none_among d.left (λ name a. all name a)))
drops_clear (n ∷ names) d i last closes is all = (
  pending_tidy d i is,
  drops_clear names (without d n) i last closes is
      (λ name a. let r = among_without (n ∷ []) d.left name a in ⊎_elim (λ same. absurd (r.1 (inl same))) (λ more. more) (all name r.0)),
)

puts_clear : (names : List ChunkName) (d : StoreDisk) (i : Stored) (more : List StoreTask) → d.pending ≡ Some i
    → ((left : List ChunkName) → ((name : ChunkName) → Among name left → Among name d.left ⊎ Among name names) → Clears (record d { left = left }) more)
    → Clears d (puts names ++ more)
puts_clear [] d i more is then_ = then_ d.left (λ name a. inl a)
puts_clear (n ∷ names) d i more is then_ = (
  pending_tidy d i is,
  puts_clear names (changed d (PutChunk n)) i more is
      (λ left from. then_ left (λ name a. ⊎_elim
      (λ put. ⊎_elim (λ old. inl old) (λ new. inr (⊎_elim (λ same. inl same) (λ none. absurd none) new)) (either_among name d.left (n ∷ []) put))
      (λ later. inr (inr later)) (from name a))),
)

-- ---- agendas

accepting_clears : (size table : ℕ) (d : StoreDisk) (from : Node) (request : Request) (item : Stored) → d.left ≡ [] → Clears d (accepting size table d.items from request item)
accepting_clears size table d from request item none = (
  (λ open_. none),
  puts_clear (new_names size item) opened item _ refl
      (λ left from_. (pending_tidy (record opened { left = left }) item refl, drops_clear (old_names size d.items item) (placed left) item last refl refl (all left from_))),
)
  where
    last : StoreTask
    last = record { change = Close; facts = []; sends = responded from request (messages.Accepted item.entry.version) ∷ [] }

    opened : StoreDisk
    opened = changed d (Open item)

    placed : List ChunkName → StoreDisk
    placed left = changed (record opened { left = left }) (Put item (names_with size item) (old_names size d.items item))

    -- the new names are named
    gone : (left : List ChunkName) → ((name : ChunkName) → Among name left → Among name opened.left ⊎ Among name (new_names size item)) → without_names (names_with size item) left ≡ []
    gone left from_ = without_all (names_with size item) left
        (λ name a. ⊎_elim (λ old. absurd (subst (λ (l : List ChunkName). Among name l) none old))
        (λ new. (among_filter (is_of_version item.entry.version) name (names_with size item) new).1) (from_ name a))

    all : (left : List ChunkName) → ((name : ChunkName) → Among name left → Among name opened.left ⊎ Among name (new_names size item))
        → (name : ChunkName) → Among name (placed left).left → Among name (old_names size d.items item)
    all left from_ name a = subst (λ (l : List ChunkName). Among name (l ++ old_names size d.items item)) (gone left from_) a

recovering_clears : (store table : ℕ) (d : StoreDisk) (i : Stored) → d.pending ≡ Some i → Clears d (recovering store table d)
recovering_clears store table d i is =
    let tidy = pending_tidy d i is in
    (tidy, (tidy, (tidy, drops_clear (rising d.left) d i (ends_with Close (facts.StoreRecovered store table)) refl is (λ name a. rising_among name d.left a))))

-- ---- moves

done_clean : (d : StoreDisk) (agenda : Option (List StoreTask)) (luck : Luck) → IsClean d agenda → IsClean (worked d agenda luck).store.disk (worked d agenda luck).store.agenda
done_clean d None messages.Done c = c
done_clean d None messages.FailedBefore c = c
done_clean d None messages.FailedAfter c = c
done_clean d (Some []) messages.Done c = c
done_clean d (Some []) messages.FailedBefore c = λ none. c
done_clean d (Some []) messages.FailedAfter c = λ none. c
done_clean d (Some (task ∷ more)) messages.Done c = c.1
done_clean d (Some (task ∷ more)) messages.FailedBefore c = c.0
done_clean d (Some (task ∷ more)) messages.FailedAfter c = tidy_now (changed d task.change) more c.1

crash_clean : (d : StoreDisk) (agenda : Option (List StoreTask)) (luck : Luck) → IsClean d agenda → IsClean (crashed d agenda luck).store.disk (crashed d agenda luck).store.agenda
crash_clean d None luck c = c
crash_clean d (Some []) luck c = λ none. c
crash_clean d (Some (task ∷ more)) messages.Done c = tidy_now (changed d task.change) more c.1
crash_clean d (Some (task ∷ more)) messages.FailedBefore c = c.0
crash_clean d (Some (task ∷ more)) messages.FailedAfter c = tidy_now (changed d task.change) more c.1

start_clean : (store table : ℕ) (d : StoreDisk) (agenda : Option (List StoreTask)) → IsClean d agenda → IsClean (started store table d agenda).store.disk (started store table d agenda).store.agenda
start_clean store table d (Some agenda) c = c
start_clean store table d None c = go d.pending refl
  where
    found : (i : Stored) → d.pending ≡ Some i → (o : Option Stored) → IsClean (recovered store table d i o).store.disk (recovered store table d i o).store.agenda
    found i is None = recovering_clears store table d i is
    found i is (Some item) = recovering_clears store table d i is

    go : (o : Option Stored) → d.pending ≡ o → IsClean (recover store table d o).store.disk (recover store table d o).store.agenda
    go None is = (c, (c, (c, c is)))
    go (Some i) is = found i is (item_at i.entry.version d.items)

module _ (g : Scheme) (size table : ℕ) (d : StoreDisk) (none : d.left ≡ []) where
  judged_clean : (from : Node) (q : Request) (current : ℕ) → IsClean (judged g size table d from q current).store.disk (judged g size table d from q current).store.agenda
  judged_clean from q current = go (takes g q.base current && keeps_there size d.items q)
    where
      go : (b : Bool) → IsClean (if b then quiet d (Some (accepting size table d.items from q (item_for d.items q))) facts.Done else sending d (responded from q (unaccepted g q.base current) ∷ [])).store.disk
          (if b then quiet d (Some (accepting size table d.items from q (item_for d.items q))) facts.Done else sending d (responded from q (unaccepted g q.base current) ∷ [])).store.agenda
      go true = accepting_clears size table d from q (item_for d.items q) none
      go false = none

  decided_clean : (from : Node) (q : Request) (yours : Pair) → IsClean (decided g size table d from q yours).store.disk (decided g size table d from q yours).store.agenda
  decided_clean from q yours = go (yours.number == q.number) (nat_lt q.number yours.number)
    where
      late : List Send
      late = responded from q (messages.Late yours.number) ∷ []

      again : List Send
      again = responded from q (messages.Again yours.version) ∷ []

      current : ℕ
      current = version_of (current_of d.items q.row)

      go : (a b : Bool) → IsClean (if a then sending d again else (if b then sending d late else judged g size table d from q current)).store.disk
          (if a then sending d again else (if b then sending d late else judged g size table d from q current)).store.agenda
      go true b = none
      go false true = none
      go false false = judged_clean from q current

  asked_clean : (from : Node) (q : Request) → IsClean (asked g size table d from q).store.disk (asked g size table d from q).store.agenda
  asked_clean from q = go (is_spelled size q.content q.pieces)
    where
      yours : Pair
      yours = yours_in d.items q.client q.row

      go : (b : Bool) → IsClean (if b then decided g size table d from q yours else quiet d (Some []) facts.Done).store.disk
          (if b then decided g size table d from q yours else quiet d (Some []) facts.Done).store.agenda
      go true = decided_clean from q yours
      go false = none

take_clean : (g : Scheme) (size table : ℕ) (d : StoreDisk) (agenda : Option (List StoreTask)) (from : Node) (m : Message) → IsClean d agenda
    → IsClean (taken g size table d agenda from m).store.disk (taken g size table d agenda from m).store.agenda
take_clean g size table d None from m c = c
take_clean g size table d (Some (task ∷ more)) from m c = c
take_clean g size table d (Some []) from (SyncRequest q) c = asked_clean g size table d c from q
take_clean g size table d (Some []) from (PullRequest q) c = c
take_clean g size table d (Some []) from (SyncResponse q) c = c
take_clean g size table d (Some []) from (PullResponse q) c = c
take_clean g size table d (Some []) from (TornRowRequest q) c = c
take_clean g size table d (Some []) from (TornRowResponse q) c = c

place_clean : (table : ℕ) (d : StoreDisk) (agenda : Option (List StoreTask)) (put : SidePut) → IsClean d agenda
    → IsClean (placed table d agenda put).store.disk (placed table d agenda put).store.agenda
place_clean table d None put c = c
place_clean table d (Some (task ∷ more)) put c = c
place_clean table d (Some []) (PutState state) c = (λ none. c, c)
place_clean table d (Some []) (PutSub client terms) c = (λ none. c, c)

-- every move keeps it
pub move_clean : (store : ℕ) (g : Scheme) (size table : ℕ) (s : TableStore) (move : StoreMove) → IsClean s.disk s.agenda
    → IsClean (store_step store g size table s move).store.disk (store_step store g size table s move).store.agenda
move_clean store g size table s (Take from m) c = take_clean g size table s.disk s.agenda from m c
move_clean store g size table s (Place put) c = place_clean table s.disk s.agenda put c
move_clean store g size table s (Work luck) c = done_clean s.disk s.agenda luck c
move_clean store g size table s (Crash luck) c = crash_clean s.disk s.agenda luck c
move_clean store g size table s Start c = start_clean store table s.disk s.agenda c
