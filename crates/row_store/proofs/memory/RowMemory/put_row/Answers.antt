use Rattle.std.proofs.Common.{◌≡◌, ℕ, List, Some, None, sym, ◌∙◌, ap, subst}
use Rattle.std.specs.BTreeMap.{insert_entry, is_at}
use Rattle.std.specs.Map.{lookup}
use Rattle.std.proofs.lemmas.Result.{on_ok_weaker}
use Rattle.spare_map.specs.Late.{entries_of, without}
use Rattle.row_store.specs.declared.memory.RowMemory.{RowMemory}
use Rattle.row_store.specs.declared.memory.Place.{Place}
use Rattle.row_store.specs.Data.{id_cmp, version_cmp}
use Rattle.row_store.specs.Memory.{AreByVersion}
use Rattle.row_store.proofs.Versions.{Places, Versions, at, by_new, by_moved}
use Rattle.row_store.proofs.memory.RowMemory.put_row.Goals as goal
use Rattle.row_store.proofs.memory.RowMemory.put_row.Goals.{in-Some+in_ok-remove, in_default}

-- both indexes, as they are after the row was put
both : (places new_places : Places) (versions mid new_versions : Versions) (row : List ℕ) (place : Place) → new_places ≡ insert_entry id_cmp places row place
    → new_versions ≡ insert_entry version_cmp mid (at place.version row) tt
    → (AreByVersion places versions → AreByVersion (insert_entry id_cmp places row place) (insert_entry version_cmp mid (at place.version row) tt)) → AreByVersion places versions
    → AreByVersion new_places new_versions
both places new_places versions mid new_versions row place places_are versions_are to by =
    subst (λ (es : Places). AreByVersion es new_versions) (sym places_are) (subst (AreByVersion (insert_entry id_cmp places row place)) (sym versions_are) (to by))

pub returns-clause-versions : goal.returns-clause-versions
returns-clause-versions c =
    let places : Places = entries_of id_cmp c.args.self.now.places in
    let versions : Versions = entries_of version_cmp c.args.self.now.versions in
    let row = c.args.row in
    let place = c.args.place in
    elim c.match-get.branch [
      | in-Some+in_ok-remove w ↦
          let old = w.in-Some.old in
          let some : lookup (is_at (id_cmp row)) places ≡ Some old = sym w.in-Some.ensures in
          let removed : Versions = entries_of version_cmp w.remove.new.self in
          let mid : Versions = without version_cmp versions (at old.version row) in
          let versions_are : entries_of version_cmp c.insert.new.self ≡ insert_entry version_cmp mid (at place.version row) tt =
          c.in_ok-insert.ensures.ok ∙ (ap (λ (m : RowMemory). insert_entry version_cmp (entries_of version_cmp m.versions) (at place.version row) tt) w.self-is
          ∙ ap (λ (es : Versions). insert_entry version_cmp es (at place.version row) tt) w.in_ok-remove.ensures.ok) in
          on_ok_weaker c.insert-2.result (λ ok by.
          both places (entries_of id_cmp c.insert-2.new.self) versions mid (entries_of version_cmp c.insert.new.self) row place (ok ∙ ap (λ (m : RowMemory). insert_entry id_cmp (entries_of id_cmp m.places) row place) w.self-is) versions_are
          (λ b. by_moved places versions b row place old some) by) c.insert-2.ensures.ok
      | in_default w ↦
          let none : lookup (is_at (id_cmp row)) places ≡ None = sym w.in_default.ensures in
          let versions_are : entries_of version_cmp c.insert.new.self ≡ insert_entry version_cmp versions (at place.version row) tt =
          c.in_ok-insert.ensures.ok ∙ ap (λ (m : RowMemory). insert_entry version_cmp (entries_of version_cmp m.versions) (at place.version row) tt) w.self-is in
          on_ok_weaker c.insert-2.result (λ ok by.
          both places (entries_of id_cmp c.insert-2.new.self) versions versions (entries_of version_cmp c.insert.new.self) row place (ok ∙ ap (λ (m : RowMemory). insert_entry id_cmp (entries_of id_cmp m.places) row place) w.self-is) versions_are
          (λ b. by_new places versions b row place none) by) c.insert-2.ensures.ok
    ]
