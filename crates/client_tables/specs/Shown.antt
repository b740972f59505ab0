-- What a client shows of a row.
use Rattle.std.specs.Prelude.{Option, Some, None}
use Rattle.held_value.specs.declared.content.HeldContent.{HeldContent}
use Rattle.held_value.specs.declared.slots.Main.{Main}
use Rattle.held_value.specs.declared.slots.Shadow.{Shadow}
use Rattle.held_value.specs.declared.slots.Slots.{Slots}
use Rattle.client_tables.specs.declared.shown.ShownAs.{ShownAs}
use Rattle.client_tables.specs.declared.shown.ShownAs.TheVariants.{Nothing, Clean, Mine, Conflict}

abbrev pub written_as : Main → Option Shadow → ShownAs
written_as main None = Mine main.number
written_as main (Some row) = Conflict main.number row.version

abbrev pub clean_as : Option Shadow → ShownAs
clean_as None = Nothing
clean_as (Some shadow) = Clean shadow.version

abbrev pub shown_by : Option Main → Option Shadow → Option Shadow → ShownAs
shown_by None shadow conflict = clean_as shadow
shown_by (Some main) shadow conflict = written_as main conflict

-- the client's own write, named with the version that it is in conflict with, else the row as it was read
abbrev pub shown_as : Slots → ShownAs
shown_as slots = shown_by slots.main slots.shadow slots.conflict

abbrev pub content_by : Option Main → Option Shadow → Option HeldContent
content_by (Some main) shadow = Some main.content
content_by None (Some shadow) = Some shadow.content
content_by None None = None

abbrev pub shown_content : Slots → Option HeldContent
shown_content slots = content_by slots.main slots.shadow
