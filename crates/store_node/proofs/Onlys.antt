-- Calls that only read, one after the other.
use Rattle.std.proofs.Common.{◌≡◌, ℕ, List, Result, Ok, Err, refl, ◌∙◌}
use Rattle.disk_trait.specs.Image.{IsImage}
use Rattle.disk_trait.specs.Calls.{DiskState}
use Rattle.store_commit.specs.declared.devs.TableDevs.{TableDevs}
use Rattle.store_commit.specs.declared.fault.CommitFault.{CommitFault}
use Rattle.store_commit.specs.declared.fault.CommitFault.TheVariants.{Memory}
use Rattle.store_commit.specs.Devs.{Write}
use Rattle.store_commit.specs.Scan.{AllStay}
use Rattle.store_commit.specs.Standing.{devs, AreUp, AreLookedAt, AreSound, IsReady, NothingHidden}
use Rattle.store_commit.proofs.Works.{same_ready}
use Rattle.store_commit.proofs.Fuses.{chunk_still_ready, row_still_ready, log_still_ready}
use Rattle.store_commit.proofs.Asking.{asks_none, asks_then, asks_named, asks_short, asks_err}
use Rattle.store_node.specs.Reading.{Only}
use Rattle.store_node.proofs.Making.{same_hidden}

module _ {D : Type 0} (state : D → DiskState) (images : D → ℕ → List ℕ → Type 0) where
  -- devices that stay are ready for the same writes
  pub ready_stays : (old new : TableDevs D) (ws : List Write) → AllStay state old new → IsReady state old ws → IsReady state new ws
  ready_stays old new ws s r =
      let one : TableDevs D = record old { chunks = new.chunks } in
      let two : TableDevs D = record one { rows = new.rows } in
      let three : TableDevs D = record two { log = new.log } in
      let a = chunk_still_ready state old ws r new.chunks s.chunks in
      let b = row_still_ready state one ws a new.rows s.rows in
      let c = log_still_ready state two ws b new.log s.log in
      same_ready state images three new refl refl refl ws c

  pub ready_looked : (table : TableDevs D) (ws : List Write) → IsReady state table ws → AreLookedAt state table
  ready_looked table ws r = record { chunks = r.chunk_looked; rows = r.row_looked; log = r.log_looked }

  pub ready_is_sound : (table : TableDevs D) (ws : List Write) → IsReady state table ws → AreSound state table
  ready_is_sound table ws r = record { chunks = r.chunk_sound; rows = r.row_sound; log = r.log_sound }

  -- ---- what was only read

  module _ {T : Type 0} (old new : TableDevs D) (x : T) (o : Only state images old new (Ok x)) where
    pub only_stays : AllStay state old new
    only_stays = o.asks.stay (λ is. cc)

    pub only_same : devs state new ≡ devs state old
    only_same = o.asks.same (λ is. cc)

    pub only_up : AreUp old → AreUp new
    only_up up = record { chunks = only_stays.chunks.down ∙ up.chunks; rows = only_stays.rows.down ∙ up.rows; log = only_stays.log.down ∙ up.log }

    pub only_looked : AreLookedAt state old → AreLookedAt state new
    only_looked l = record { chunks = only_stays.chunks.looked l.chunks; rows = only_stays.rows.looked l.rows; log = only_stays.log.looked l.log }

    pub only_hidden : NothingHidden old → NothingHidden new
    only_hidden = same_hidden state images old new o.scanned

    pub only_ready : (ws : List Write) → IsReady state old ws → IsReady state new ws
    only_ready ws r = ready_stays old new ws only_stays r

  module _ (only_now : (disk : D) (image : List ℕ) → images disk (state disk).moment image → IsImage (state disk).pending image) where
    pub only_none : {T : Type 0} (table : TableDevs D) (x : T) → AreUp table → AreLookedAt state table → Only state images table table (Ok x)
    only_none table x up looked = record { asks = asks_none state images only_now table up looked (Ok x) (λ is. cc) tt; scanned = refl }

    pub only_then : {T S : Type 0} (old mid new : TableDevs D) (x : S) (r : Result T CommitFault) → AreUp old → Only state images old mid (Ok x) → Only state images mid new r → Only state images old new r
    only_then old mid new x r up a b = record { asks = asks_then state images only_now old mid new x r up a.asks b.asks; scanned = b.scanned ∙ a.scanned }

    module _ {T S : Type 0} (old new : TableDevs D) where
      pub only_named : (x : S) (y : T) → Only {T = S} state images old new (Ok x) → Only {T = T} state images old new (Ok y)
      only_named x y o = record { asks = asks_named state images only_now old new x y o.asks; scanned = o.scanned }

      pub only_short : (x : S) → Only {T = S} state images old new (Ok x) → Only {T = T} state images old new (Err Memory)
      only_short x o = record { asks = asks_short state images only_now old new x o.asks; scanned = o.scanned }

      pub only_err : (e : CommitFault) → Only {T = S} state images old new (Err e) → Only {T = T} state images old new (Err e)
      only_err e o = record { asks = asks_err state images only_now old new e o.asks; scanned = o.scanned }
