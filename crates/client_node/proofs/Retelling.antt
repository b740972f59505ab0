-- What is told again of a plan, tell by tell.
use Rattle.std.proofs.Common.{◌≡◌, ℕ, ◌++◌, ◌+◌, ◌<◌, List, [], ◌∷◌, length, get_or, drop, map, add-one, Option, Some, None, Result, Ok, Err, refl, sym, ◌∙◌, ap, subst, append-nil}
use Rattle.std.proofs.Math.Seq.{drop-cons}
use Rattle.disk_trait.specs.Image.{IsImage}
use Rattle.disk_trait.specs.Calls.{DiskState}
use Rattle.held_value.specs.declared.local_name.LocalName.{LocalName}
use Rattle.held_value.specs.declared.slots.Slots.{Slots as HeldSlots}
use Rattle.held_value.specs.declared.tell.Tell.{Tell}
use Rattle.table_model.specs.declared.line.Fact.{Fact as Told}
use Rattle.client_journal.specs.declared.devs.Journal.{Journal}
use Rattle.client_journal.specs.Devs.{ClientDevs}
use Rattle.client_journal.specs.NamedSlots.{NamedSlots}
use Rattle.client_journal.specs.Standing.{devs, writes_of, AreUp, IsReady}
use Rattle.step_tables.specs.Facts.{Fact}
use Rattle.step_tables.specs.ClientMoves.{RowPut}
use Rattle.step_tables.specs.Lines.{fact_of}
use Rattle.journal_laws.specs.Holds.{fact_in}
use Rattle.client_node.specs.declared.fault.CallFault.{CallFault}
use Rattle.client_node.specs.declared.fault.CallFault.TheVariants as call
use Rattle.client_node.specs.Answers.{held_at}
use Rattle.client_node.specs.Looks.{IsNotDisk, Looks}
use Rattle.client_node.specs.Telling.{AreNamesThere, put_of, put_again, again_if, told_again}
use Rattle.client_node.proofs.Again.{again_more, names_there}
use Rattle.client_node.proofs.Serving.{looks_none, looks_then, looks_err}

tell_here : (tells : List Tell) (i : ℕ) (x d : Tell) → i < length tells → x ≡ get_or tells i d → drop i tells ≡ x ∷ drop (i + 1) tells
tell_here tells i x d less is = drop-cons tells i d less ∙ rw (← is, ← add-one i) refl

pub ok_only : {T : Type 0} (x : T) → IsNotDisk {T = T} (Ok x)
ok_only x is = cc

pub memory_only : {T : Type 0} → IsNotDisk {T = T} (Err call.Memory)
memory_only is = cc

-- what was told, where these tells are still to come
abbrev pub TellsOn : ℕ → ℕ → Option RowPut → List Tell → List Tell → List Told → Type 0
TellsOn c table put all rest told = map fact_of told ++ told_again c table put rest ≡ told_again c table put all

module _ (c table : ℕ) (put : Option RowPut) (all : List Tell) where
  pub tells_more : (told more : List Told) (i : ℕ) (x d : Tell) → i < length all → x ≡ get_or all i d → TellsOn c table put all (drop i all) told → map fact_of more ≡ map fact_of told ++ again_if (fact_in c table put x) → TellsOn c table put all (drop (i + 1) all) more
  tells_more told more i x d less here before is =
      again_more c table put (map fact_of told) (map fact_of more) x (drop (i + 1) all) all (subst (λ (l : List Tell). TellsOn c table put all l told) (tell_here all i x d less here) before) is

  pub tells_end : (told : List Told) → TellsOn c table put all [] told → map fact_of told ≡ told_again c table put all
  tells_end told is = sym (append-nil (map fact_of told)) ∙ is

module _ {D : Type 0} (state : D → DiskState) (images : D → ℕ → List ℕ → Type 0) (c table : ℕ) (row : List ℕ) (slots : HeldSlots) (all : List Tell) (old : Journal D) where
  -- the devices were only read, and this was told of a row
  pub record TellsRow (rest : List Tell) (now : Journal D) (told : List Told) : Type 0 where
    pub looks : Looks {T = Unit {0}} state images old now (Ok tt)
    pub on : (meaning : LocalName → List ℕ) → AreNamesThere meaning (devs state old) slots → TellsOn c table (Some (put_of meaning row slots)) all rest told

  module _ (up : AreUp old) (ready : IsReady state old (writes_of old)) where
    pub row_none : ((disk : D) (image : List ℕ) → images disk (state disk).moment image → IsImage (state disk).pending image) → (told : List Told) → told ≡ [] → TellsRow all old told
    row_none only_now told none = record {
      looks = looks_none state images {T = Unit {0}} only_now old up ready (Ok tt) (ok_only {T = Unit {0}} tt);
      on = λ meaning there. ap (λ (l : List Told). map fact_of l ++ told_again c table (Some (put_of meaning row slots)) all) none;
    }

    module _ (now new : Journal D) (told more : List Told) (i : ℕ) (h : TellsRow (drop i all) now told) where
      abbrev Adds : Tell → ClientDevs → Type 0
      Adds x d = (meaning : LocalName → List ℕ) → AreNamesThere meaning d slots → map fact_of more ≡ map fact_of told ++ again_if (fact_in c table (Some (put_of meaning row slots)) x)

      pub row_more : (x d : Tell) → i < length all → x ≡ get_or all i d → Looks {T = Unit {0}} state images now new (Ok tt) → Adds x (devs state now) → TellsRow (drop (i + 1) all) new more
      row_more x d less here l adds = record {
        looks = looks_then state images old new up ready {T = Unit {0}} {S = Unit {0}} now tt (Ok tt) h.looks l;
        on = λ meaning there.
            tells_more c table (Some (put_of meaning row slots)) all told more i x d less here (h.on meaning there)
            (subst (Adds x) (h.looks.serves.same (ok_only {T = Unit {0}} tt)) adds meaning there);
      }

      pub row_stops : {T : Type 0} (e : CallFault) → Looks {T = Unit {0}} state images now new (Err e) → Looks {T = T} state images old new (Err e)
      row_stops {T} e l =
          let mid = h.looks.serves in
          looks_then state images old new up ready {T = T} {S = Unit {0}} now tt (Err e) h.looks
          (looks_err state images now new (mid.up (ok_only {T = Unit {0}} tt)) (mid.ready (ok_only {T = Unit {0}} tt)) {T = T} {S = Unit {0}} e l)

-- what is told again of a row, whose slots were read
pub row_told : (c table : ℕ) (d mid : ClientDevs) (o : Option (List ℕ)) (row : List ℕ) (slots : HeldSlots) (tells again : List Tell) (some : List Fact) → o ≡ Some row → slots ≡ held_at d table row → mid ≡ d → again ≡ tells
    → ((meaning : LocalName → List ℕ) → AreNamesThere meaning mid slots → some ≡ told_again c table (Some (put_of meaning row slots)) again)
    → (meaning : LocalName → List ℕ) → NamedSlots meaning d → some ≡ told_again c table (put_again meaning d table o) tells
row_told c table d mid o row slots tells again some is held same tells_are h meaning named =
    let there : AreNamesThere meaning d slots = subst (λ (x : HeldSlots). AreNamesThere meaning d x) (sym held) (names_there meaning d table row named) in
    let put : Some (put_of meaning row slots) ≡ put_again meaning d table o = ap (λ (x : HeldSlots). Some (put_of meaning row x)) held ∙ ap (λ (r : Option (List ℕ)). put_again meaning d table r) (sym is) in
    h meaning (subst (λ (e : ClientDevs). AreNamesThere meaning e slots) (sym same) there)
    ∙ (ap (λ (l : List Tell). told_again c table (Some (put_of meaning row slots)) l) tells_are ∙ ap (λ (p : Option RowPut). told_again c table p tells) put)
