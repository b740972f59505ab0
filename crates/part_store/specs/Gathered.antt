-- What is kept of the requests that wait for fragments, client by client.
use Rattle.std.specs.Prelude.{◌≡◌, ℕ, ◌==◌, ◌&&◌, Bool, List, option_map}
use Rattle.std.specs.List.{find}
use Rattle.std.specs.Ordering.{nat_cmp}
use Rattle.std.specs.BTreeMap as tree
use Rattle.table_model.specs.History.{same_row}
use Rattle.table_model.specs.declared.message.SyncRequest.{SyncRequest}
use Rattle.assemblies.specs.Gathering.{taken}
use Rattle.part_tables.specs.Parts.{RequestHead, Fragment}
use Rattle.part_tables.specs.StoreParts.{Gathering, is_of_client}
use Rattle.part_store.specs.declared.gatherings.Gatherings.{Gatherings}
use Rattle.part_store.specs.declared.waiting.Waiting.{Waiting}

abbrev pub head_in : SyncRequest → RequestHead
head_in q = record {
  client = q.client;
  table = q.table;
  row = q.row;
  number = q.number;
  base = q.base;
  content = q.content;
}

abbrev pub gathering_in : Waiting → Gathering
gathering_in x = record { head = head_in x.head; slots = x.came }

-- of each client, that there is no such request or which one
pub record HasGathered (it : Gatherings) (gs : List Gathering) : Type 0 where
  pub each : (client : ℕ) → find (is_of_client client) gs ≡ option_map gathering_in (tree.get nat_cmp it.waiting client)

-- a fragment is of the request's row and number
abbrev pub is_of_request : Fragment → Gathering → Bool
is_of_request f x = same_row x.head.row f.row && (x.head.number == f.key)

-- behind one chunk more
abbrev pub with_chunk : Fragment → Gathering → Gathering
with_chunk f x = record x { slots = taken f.column f.place f.bytes x.slots }
