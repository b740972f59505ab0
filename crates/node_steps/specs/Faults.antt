-- How often the disks of a world's tables and clients have failed, and what an event's lines say of it.
use Rattle.std.specs.Prelude.{◌≡◌, ℕ, zero, suc, ◌+◌, ◌<◌, Bool, true, false, List, [], ◌∷◌, map, Option, Some, None}
use Rattle.std.specs.Prelude.{is_some, Result, IfOk, if◌then◌else◌}
use Rattle.std.specs.BTreeMap as tree
use Rattle.disk_trait.specs.Calls.{DiskState}
use Rattle.step_tables.specs.Facts.{Line, AnswerLine, EntryLine, PairLine, FactLine}
use Rattle.step_tables.specs.Lines.{line_of}
use Rattle.world_tables.specs.World.{WorldStep, Lucks, hosted_at, client_at, is_fault}
use Rattle.world_tables.specs.World as moves
use Rattle.store_host.specs.declared.hosted.Hosted.{Hosted}
use Rattle.store_host.specs.Holds.{SameFaults, RisenFaults, faults_at}
use Rattle.journal_host.specs.Holds as clients
use Rattle.node_steps.specs.declared.fault.WorldFault.{WorldFault}
use Rattle.node_steps.specs.declared.told.Told.{Told}
use Rattle.node_steps.specs.declared.world.World.{World}
use Rattle.node_steps.specs.Holds.{Holds, AreOut, first_disk, first_client_disk}
use Rattle.node_steps.specs.Calls.{IsDone}

-- ---- sums over tables and clients

-- of those with the numbers 1 to n
unfoldable pub sum_to : (ℕ → ℕ) → ℕ → ℕ
sum_to f zero = 0
sum_to f (suc n) = sum_to f n + f (suc n)

-- how often the disks of all tables have failed: a table has a number from 1 to 64
abbrev pub table_faults : {D : Type 0} → (D → DiskState) → World D → ℕ
table_faults state world = sum_to (faults_at state world.store.tables) 64

-- and those of all clients, which have such numbers too
abbrev pub client_faults : {D : Type 0} → (D → DiskState) → World D → ℕ
client_faults state world = sum_to (clients.faults_at state world.clients.clients) 64

abbrev pub all_faults : {D : Type 0} → (D → DiskState) → World D → ℕ
all_faults state world = table_faults state world + client_faults state world

-- ---- disks that a depot tells

abbrev pub faults_in_disk : {D : Type 0} → (D → DiskState) → Option D → ℕ
faults_in_disk state None = 0
faults_in_disk state (Some disk) = (state disk).faults

-- how often the disks of a table have failed that came back last under its numbers
abbrev pub faults_told : {D : Type 0} → (D → DiskState) → (ℕ → Option D) → ℕ → ℕ
faults_told state disks table = faults_in_disk state (disks (first_disk table))
    + (faults_in_disk state (disks (first_disk table + 1)) + faults_in_disk state (disks (first_disk table + 2)))

-- where the table is declared
abbrev pub faults_back : {D : Type 0} → (D → DiskState) → (ℕ → Option D) → moves.World → ℕ → ℕ
faults_back state disks w table = if is_some (hosted_at w table) then faults_told state disks table else 0

-- how often the disks of a client have failed that came back last under its numbers
abbrev pub client_faults_told : {D : Type 0} → (D → DiskState) → (ℕ → Option D) → ℕ → ℕ
client_faults_told state disks c = faults_in_disk state (disks (first_client_disk c + 2))
    + (faults_in_disk state (disks (first_client_disk c + 1)) + faults_in_disk state (disks (first_client_disk c)))

-- where the client is there
abbrev pub client_faults_back : {D : Type 0} → (D → DiskState) → (ℕ → Option D) → moves.World → ℕ → ℕ
client_faults_back state disks w c = if is_some (client_at w c) then client_faults_told state disks c else 0

-- of all declared tables, and of all clients
abbrev pub all_faults_back : {D : Type 0} → (D → DiskState) → (ℕ → Option D) → moves.World → ℕ
all_faults_back state disks w = sum_to (faults_back state disks w) 64 + sum_to (client_faults_back state disks w) 64

-- ---- calls

-- the disks of some table failed, or none did
pub record IsCounted {D : Type 0} (state : D → DiskState) (failed : Bool) (old new : tree.BTreeMap ℕ (Hosted D))
    : Type 0 where
  pub rose : failed ≡ true → RisenFaults state old new
  pub same : failed ≡ false → SameFaults state old new

-- the disks of some table or client of the world failed, or none did
pub record AreTotals {D : Type 0} (state : D → DiskState) (failed : Bool) (old new : World D) : Type 0 where
  pub rose : failed ≡ true → all_faults state old < all_faults state new
  pub same : failed ≡ false → all_faults state new ≡ all_faults state old

-- whether the first line is the answer that a device failed
abbrev pub tell_fault : List Line → Bool
tell_fault [] = false
tell_fault (AnswerLine answer ∷ more) = is_fault answer
tell_fault (EntryLine table entry ∷ more) = false
tell_fault (PairLine pair ∷ more) = false
tell_fault (FactLine fact ∷ more) = false

-- unless the call ends the run, its answer says so
abbrev pub AreCounted : {D : Type 0} → (D → DiskState) → Result Told WorldFault → (old new : World D) → Type 0
AreCounted state result old new =
    IfOk result (λ told. AreTotals state (tell_fault (map line_of told.lines)) old new)

-- with some lucks what is told is that of the step, and these say whether a disk failed by itself
abbrev pub ComesCounted : {D : Type 0} → (D → DiskState) → moves.World → (Lucks → WorldStep) → (Lucks → Bool)
    → Result Told WorldFault → (old new : World D) → Type 0
ComesCounted state w f failed result old new = IfOk result (λ told. (lucks : Lucks)
    × IsDone state w (f lucks) told new × AreTotals state (failed lucks) old new)

-- The event isn't carried out: the program's world still holds the world, and no disk has failed.
pub record IsUndone {D : Type 0} (state : D → DiskState) (w : moves.World) (is_out : ℕ → Bool) (old new : World D)
    : Type 0 where
  pub held : Holds state w new
  pub out : AreOut is_out w
  pub same : all_faults state new ≡ all_faults state old
