-- What the types of the program say of a message: its numbers have their widths, and its rows' ids have sixteen bytes.
use Rattle.std.specs.Prelude.{List}
use Rattle.std.specs.List.{AllByRecursion}
use Rattle.stab_base.specs.declared.chunk_name.ChunkName.{ChunkName}
use Rattle.row_value.specs.declared.pieces.Piece.{Piece}
use Rattle.value_codec.specs.Spelling.{HasNameSpelling, HasPieceSpelling}
use Rattle.field_codec.specs.Forms.{IsOption}
use Rattle.step_tables.specs.Messages.{Request, Response, Pull, Header, Pulled, TornPull, TornPulled}
use Rattle.step_tables.specs.Messages.{Message, SyncRequest, SyncResponse, PullRequest, PullResponse}
use Rattle.step_tables.specs.Messages.{TornRowRequest, TornRowResponse}
use Rattle.frame_laws.specs.Sizes.{IsWord, IsTable, IsRow, HaveWords, IsSizedOutcome}

-- ---- the chunks of each object

abbrev pub HaveNameWidths : List (List ChunkName) → Type 0
HaveNameWidths names = AllByRecursion (AllByRecursion HasNameSpelling) names

abbrev pub HavePieceWidths : List (List Piece) → Type 0
HavePieceWidths pieces = AllByRecursion (AllByRecursion HasPieceSpelling) pieces

-- ---- messages

pub record HasRowWidths (h : Header) : Type 0 where
  pub row : IsRow h.row
  pub version : IsWord h.version
  pub number : IsWord h.yours.number
  pub accepted : IsWord h.yours.version
  pub words : HaveWords h.content
  pub names : HaveNameWidths h.names

pub record HasRequestWidths (q : Request) : Type 0 where
  pub table : IsTable q.table
  pub row : IsRow q.row
  pub number : IsWord q.number
  pub base : IsWord q.base
  pub words : HaveWords q.content
  pub pieces : HavePieceWidths q.pieces

pub record HasResponseWidths (r : Response) : Type 0 where
  pub table : IsTable r.table
  pub row : IsRow r.row
  pub number : IsWord r.number
  pub outcome : IsSizedOutcome r.outcome

pub record HasPullWidths (q : Pull) : Type 0 where
  pub table : IsTable q.table
  pub position : IsWord q.position

pub record HasPulledWidths (p : Pulled) : Type 0 where
  pub table : IsTable p.table
  pub from : IsWord p.from
  pub to : IsWord p.to
  pub latest : IsWord p.latest
  pub header : IsOption HasRowWidths p.header

pub record HasTornPullWidths (q : TornPull) : Type 0 where
  pub table : IsTable q.table
  pub row : IsRow q.row

pub record HasTornPulledWidths (t : TornPulled) : Type 0 where
  pub table : IsTable t.table
  pub row : IsRow t.row
  pub header : IsOption HasRowWidths t.header

abbrev pub HasWidths : Message → Type 0
HasWidths (SyncRequest q) = HasRequestWidths q
HasWidths (SyncResponse r) = HasResponseWidths r
HasWidths (PullRequest q) = HasPullWidths q
HasWidths (PullResponse p) = HasPulledWidths p
HasWidths (TornRowRequest q) = HasTornPullWidths q
HasWidths (TornRowResponse t) = HasTornPulledWidths t
