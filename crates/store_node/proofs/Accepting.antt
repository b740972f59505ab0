-- The tasks of an update, as they tell and send.
use Rattle.std.proofs.Common.{◌≡◌, ℕ, ◌++◌, Bool, List, [], ◌∷◌, Some, None, Ok, refl, sym, ◌∙◌, ap, subst, arith}
use Rattle.stab_base.specs.declared.chunk_name.ChunkName.{ChunkName}
use Rattle.stab_base.specs.declared.node.Node.{Node}
use Rattle.row_value.specs.declared.schema.Schema.{Schema}
use Rattle.row_value.specs.Fit.{fit_of}
use Rattle.store_commit.specs.Devs.{Devs, Write, changed_by}
use Rattle.step_tables.specs.Chunks.{names_with, new_names, old_names, without_names}
use Rattle.step_tables.specs.Messages.{Request}
use Rattle.step_tables.specs.Store.{Stored}
use Rattle.step_tables.specs.StoreMoves.{StoreDisk, StoreTask, accepting, item_for, puts, drops, only, ends_with, responded, changed, Open, PutChunk, Put, DropChunk, Close}
use Rattle.step_tables.specs.StoreMoves as moves
use Rattle.step_tables.specs.Messages as messages
use Rattle.step_tables.specs.Facts as facts
use Rattle.device_laws.specs.Stands.{Follows}
use Rattle.store_node.specs.Due.{told_at, sent_at, is_last_of, accepted}
use Rattle.store_node.specs.declared.owed.Owed.{Owed}
use Rattle.store_node.specs.declared.owed.Owed.TheVariants as owed
use Rattle.store_node.specs.Node.{AreOwed, AreFit, GoesWell, facts_in, sends_in}
use Rattle.store_node.proofs.Following.{same_step}

-- ---- tasks that tell and send what is owed, whatever their places are

abbrev TasksTell : ℕ → Owed → List StoreTask → Type 0
TasksTell table o [] = Unit {0}
TasksTell table o (task ∷ tasks) = ((is_last : Bool) → task.facts ≡ told_at table o (moves.step_of task.change) is_last)
    × (task.sends ≡ sent_at table o (moves.step_of task.change)) × TasksTell table o tasks

pub tell_owed : (table : ℕ) (o : Owed) (schema : Schema) (d : Devs) (ws : List Write) (disk : StoreDisk) (tasks : List StoreTask) → Follows schema d ws disk tasks → TasksTell table o tasks → AreOwed table o ws tasks
tell_owed table o schema d [] disk [] f t = tt
tell_owed table o schema d [] disk (task ∷ tasks) f t = absurd f
tell_owed table o schema d (w ∷ ws) disk [] f t = absurd f
tell_owed table o schema d (w ∷ ws) disk (task ∷ tasks) f t =
    let name = same_step schema.chunk disk.items w task.change f.1 in (
      t.0 (is_last_of ws) ∙ sym (ap (λ s. told_at table o s (is_last_of ws)) name),
      t.1 ∙ sym (ap (λ s. sent_at table o s) name),
      tell_owed table o schema (changed_by d w) ws (changed disk task.change) tasks f.2 t.2,
    )

-- ---- the tasks of an update

module _ (table : ℕ) (from : Node) (request : Request) (item : Stored) (of_table : request.table ≡ table) (is_client : item.entry.client ≡ request.client) (is_row : item.entry.row ≡ request.row) (is_number : item.entry.number ≡ request.number) where
  abbrev o : Owed
  o = owed.Update from item.entry

  close : StoreTask
  close = record { change = Close; facts = []; sends = responded from request (messages.Accepted item.entry.version) ∷ [] }

  answered : responded from request (messages.Accepted item.entry.version) ≡ accepted table from item.entry
  answered = rw (of_table, is_client, is_row, is_number) refl

  tail_tells : (names : List ChunkName) → TasksTell table o (drops names ++ record { change = Close; facts = []; sends = responded from request (messages.Accepted item.entry.version) ∷ [] } ∷ [])
  tail_tells [] = ((λ b. refl), ap (λ s. s ∷ []) answered, tt)
  tail_tells (name ∷ names) = ((λ b. refl), refl, tail_tells names)

  puts_tell : (names : List ChunkName) (tasks : List StoreTask) → TasksTell table o tasks → TasksTell table o (puts names ++ tasks)
  puts_tell [] tasks t = t
  puts_tell (name ∷ names) tasks t = ((λ b. refl), refl, puts_tell names tasks t)

  pub accepting_tells : (size : ℕ) (items : List Stored) → TasksTell table o (accepting size table items from request item)
  accepting_tells size items =
      ((λ b. refl), refl, puts_tell (new_names size item) _ ((λ b. refl), refl, tail_tells (old_names size items item)))

  tail_facts : (names : List ChunkName) → facts_in (drops names ++ record { change = Close; facts = []; sends = responded from request (messages.Accepted item.entry.version) ∷ [] } ∷ []) ≡ 0
  tail_facts [] = refl
  tail_facts (name ∷ names) = let more = tail_facts names in omega arith

  puts_facts : (names : List ChunkName) (tasks : List StoreTask) → facts_in (puts names ++ tasks) ≡ facts_in tasks
  puts_facts [] tasks = refl
  puts_facts (name ∷ names) tasks = let more = puts_facts names tasks in omega arith

  tail_sends : (names : List ChunkName) → sends_in (drops names ++ record { change = Close; facts = []; sends = responded from request (messages.Accepted item.entry.version) ∷ [] } ∷ []) ≡ 1
  tail_sends [] = refl
  tail_sends (name ∷ names) = let more = tail_sends names in omega arith

  puts_sends : (names : List ChunkName) (tasks : List StoreTask) → sends_in (puts names ++ tasks) ≡ sends_in tasks
  puts_sends [] tasks = refl
  puts_sends (name ∷ names) tasks = let more = puts_sends names tasks in omega arith

  pub accepting_facts : (size : ℕ) (items : List Stored) → facts_in (accepting size table items from request item) ≡ 1
  accepting_facts size items =
      let a = puts_facts (new_names size item) (ends_with (Put item (names_with size item) (old_names size items item)) (facts.Accepted table item.entry) ∷ (drops (old_names size items item) ++ record { change = Close; facts = []; sends = responded from request (messages.Accepted item.entry.version) ∷ [] } ∷ [])) in
      let b = tail_facts (old_names size items item) in
      omega arith

  pub accepting_sends : (size : ℕ) (items : List Stored) → sends_in (accepting size table items from request item) ≡ 1
  accepting_sends size items =
      let a = puts_sends (new_names size item) (ends_with (Put item (names_with size item) (old_names size items item)) (facts.Accepted table item.entry) ∷ (drops (old_names size items item) ++ record { change = Close; facts = []; sends = responded from request (messages.Accepted item.entry.version) ∷ [] } ∷ [])) in
      let b = tail_sends (old_names size items item) in
      omega arith

-- ---- what an update keeps

fit_push : (schema : Schema) (items : List Stored) (item : Stored) → AreFit schema items → fit_of schema item.content ≡ Ok tt → AreFit schema (items ++ item ∷ [])
fit_push schema [] item fits is = (is, tt)
fit_push schema (x ∷ items) item fits is = (fits.0, fit_push schema items item fits.1 is)

module _ (schema : Schema) (close : StoreTask) (closes : close.change ≡ Close) where
  tail_well : (disk : StoreDisk) (names : List ChunkName) → AreFit schema disk.items → GoesWell schema disk (drops names ++ close ∷ [])
  tail_well disk [] fit = (fit, subst (λ c. AreFit schema (changed disk c).items × ((changed disk c).pending ≡ None)) (sym closes) (fit, refl))
  tail_well disk (name ∷ names) fit = (fit, tail_well (record disk { left = without_names (name ∷ []) disk.left }) names fit)

  puts_well : (disk : StoreDisk) (names : List ChunkName) (tasks : List StoreTask) → AreFit schema disk.items
      → ((left : List ChunkName) → GoesWell schema (record disk { left = left }) tasks) → GoesWell schema disk (puts names ++ tasks)
  puts_well disk [] tasks fit more = more disk.left
  puts_well disk (name ∷ names) tasks fit more = (fit, puts_well (record disk { left = disk.left ++ name ∷ [] }) names tasks fit more)

pub accepting_well : (schema : Schema) (size table : ℕ) (disk : StoreDisk) (from : Node) (request : Request) (item : Stored) → AreFit schema disk.items → fit_of schema item.content ≡ Ok tt → GoesWell schema disk (accepting size table disk.items from request item)
accepting_well schema size table disk from request item fit is =
    let close : StoreTask = record { change = Close; facts = []; sends = responded from request (messages.Accepted item.entry.version) ∷ [] } in
    (fit, puts_well schema close refl (record disk { pending = Some item }) (new_names size item) _ fit (λ left. (fit, tail_well schema close refl _ (old_names size disk.items item) (fit_push schema disk.items item fit is))))
