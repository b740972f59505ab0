use Rattle.std.proofs.Common.{drop, Ok}
use Rattle.chunk_store.specs.Standing as chunks
use Rattle.row_store.specs.Standing as rows
use Rattle.store_commit.specs.Scan.{ReadsRows, IsScanned}
use Rattle.store_commit.proofs.scan.scan_rows.Given as goal

abbrev pub invariant-loop-row : goal.invariant-loop-row
invariant-loop-row g l =
    ReadsRows {T = Unit {0}} g.D.Disk.state g.D.Disk.images l.initial.row_dev l.row_dev (Ok tt)
    × IsScanned (chunks.chunks g.D.Disk.state l.chunk_dev) l.table (rows.held g.D.Disk.state l.initial.row_dev).rows (drop l.row-index (rows.held g.D.Disk.state l.initial.row_dev).rows) l.found
