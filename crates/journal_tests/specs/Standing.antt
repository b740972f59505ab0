-- A client's devices that a test goes on with.
use Rattle.std.specs.Prelude.{◌≡◌, ℕ, List, [], ◌∷◌}
use Rattle.disk_trait.specs.Calls.{DiskState}
use Rattle.held_value.specs.declared.local_name.LocalName.{LocalName}
use Rattle.client_journal.specs.declared.devs.Journal.{Journal}
use Rattle.client_journal.specs.Devs.{ClientDevs, Write}
use Rattle.client_journal.specs.NamedSlots.{NamedSlots, IsAtRest}
use Rattle.client_journal.specs.Agenda.{Runs}
use Rattle.client_journal.specs.Standing.{devs, writes_of, AreUp, AreSynced, AreSound, IsReady}
use Rattle.client_journal.specs.Recover.{IsStarting}

-- named slots, whatever the chunks are
pub record AreNamed (d : ClientDevs) : Type 0 where
  pub meaning : LocalName → List ℕ
  pub named : NamedSlots meaning d

-- named slots while these writes are still to come, and nothing at work behind the last
pub record IsNamedMoment (ws : List Write) (d : ClientDevs) : Type 0 where
  pub are : AreNamed d
  pub rests : ws ≡ [] → IsAtRest d

-- at the writes that are to come
pub record IsMoving {D : Type 0} (state : D → DiskState) (client : Journal D) : Type 0 where
  pub up : AreUp client
  pub ready : IsReady state client (writes_of client)
  pub runs : Runs IsNamedMoment (devs state client) (writes_of client)

-- idle, with nothing at work
pub record IsResting {D : Type 0} (state : D → DiskState) (client : Journal D) : Type 0 where
  pub moving : IsMoving state client
  pub idle : writes_of client ≡ []
  pub rests : IsAtRest (devs state client)

-- as a restart leaves them
pub record IsCrashed {D : Type 0} (state : D → DiskState) (client : Journal D) : Type 0 where
  pub up : AreUp client
  pub synced : AreSynced state client
  pub sound : AreSound state client
  pub idle : writes_of client ≡ []
  pub are : AreNamed (devs state client)

-- and as a look does
pub record IsKnown {D : Type 0} (state : D → DiskState) (client : Journal D) : Type 0 where
  pub up : AreUp client
  pub starting : IsStarting state client
  pub are : AreNamed (devs state client)
