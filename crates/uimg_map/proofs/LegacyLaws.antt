-- What is read of a legacy image, and what is found by it.
use Rattle.std.proofs.Common.{◌≡◌, ℕ, ◌+◌, ◌*◌, List, length, true, false, Some, None, Result, Ok, Err, IsTrue, le_of_eq, ◌∙◌, ap, sym, arith}
use Rattle.uimg_base.specs.{Device.Device, Using.{Asks, UsesAtMost}}
use Rattle.uimg_texts.specs.Slices.{slice}
use Rattle.uimg_legacy.specs.declared.{header.Header.Header, fault.LegacyFault.LegacyFault}
use Rattle.uimg_legacy.specs.{declared.fault.LegacyFault.TheVariants.NoTableEnd, Header.header}
use Rattle.uimg_legacy.specs.{Image.payload, Parts.{has_parts, sizes, part_sizes}}
use Rattle.uimg_map.specs.declared.{contents.Contents.Contents, fault.MapFault.MapFault}
use Rattle.uimg_map.specs.Contents.{GrowsBy, AddsFound, Gathers}
use Rattle.uimg_map.specs.{Found.{the_table, Told, thing, found_then}, Tables.count_in}
use Rattle.uimg_map.specs.Work.{legacy_table_work, legacy_data_work, legacy_work}
use Rattle.uimg_map.specs.LegacyContents.{refused_header, header_told, parts_told, endless_told, table_told, data_told, legacy_told, legacy_contents}
use Rattle.uimg_map.proofs.ContentsLaws.{reads_then, adds_then, reads_and_adds, gathers_as, at_most}
use Rattle.uimg_map.proofs.TableLaws.{is_counted, is_endless}

module _ {X : Type 0} {r : Result X MapFault} {d e f : Device} {a b c : Contents} where
  -- the table that was counted, and the parts
  pub table_then : (size count : ℕ) → UsesAtMost (4 * length (sizes (slice d.bytes 64 size)) + 4) false d e
      → (IsTrue d.honest → Some count ≡ count_in (part_sizes (slice d.bytes 64 size)))
      → b.size ≡ a.size → ((file : List ℕ) → GrowsBy file (thing the_table 64 (64 + 4 * (count + 1))) a b)
      → Gathers (λ _. 4 * count) (λ file. parts_told (64 + size) (64 + 4 * (count + 1)) 0 (sizes (slice file 64 size))) r e f b c
      → Gathers (λ file. legacy_table_work true (slice file 64 size)) (λ file. table_told (length file) size (part_sizes (slice file 64 size))) r d f a c
  table_then size count p counted same table parts =
      let work : List ℕ → ℕ = λ file. 4 * length (sizes (slice file 64 size)) + 4 in
      let told : List ℕ → Told = λ file. found_then (thing the_table 64 (64 + 4 * (count + 1))) (parts_told (64 + size) (64 + 4 * (count + 1)) 0 (sizes (slice file 64 size))) in
      let whole : Gathers (λ file. work file + 4 * count) told r d f a c = reads_then (work) p (adds_then same table parts) in
      let is = λ (h : IsTrue d.honest). is_counted (slice d.bytes 64 size) count (sym (counted h)) in
      gathers_as
      (λ h. let same_count = (is h).1 in omega (arith, same_count))
      (λ h.
      let table_of : List ℕ → ℕ → Told = λ t n. found_then (thing the_table 64 (64 + 4 * (n + 1))) (parts_told (64 + size) (64 + 4 * (n + 1)) 0 t) in
      ap (λ (n : ℕ). table_of (sizes (slice d.bytes 64 size)) n) (is h).1
      ∙ ap (λ (t : Result (List ℕ) LegacyFault). table_told (length d.bytes) size t) (sym (is h).0))
      whole

module _ {X : Type 0} {r : Result X MapFault} {d e : Device} {a b : Contents} where
  -- a table that has no end
  pub table_endless : (size : ℕ) → UsesAtMost (4 * length (sizes (slice d.bytes 64 size)) + 4) false d e
      → (IsTrue d.honest → None ≡ count_in (part_sizes (slice d.bytes 64 size)))
      → a.size ≡ length d.bytes → AddsFound (λ _. endless_told a.size size NoTableEnd) r a b
      → Gathers (λ file. legacy_table_work true (slice file 64 size)) (λ file. table_told (length file) size (part_sizes (slice file 64 size))) r d e a b
  table_endless size p endless is q =
      let work : List ℕ → ℕ = λ file. 4 * length (sizes (slice file 64 size)) + 4 in
      gathers_as
      (λ h. omega arith)
      (λ h.
      ap (λ (n : ℕ). endless_told n size NoTableEnd) is
      ∙ ap (λ (t : Result (List ℕ) LegacyFault). table_told (length d.bytes) size t) (sym (is_endless (slice d.bytes 64 size) (sym (endless h)))))
      (reads_and_adds {v = work} p q)

module _ {X : Type 0} {r : Result X MapFault} {d e f : Device} {a b c : Contents} where
  -- the header, and the data
  pub header_then : (h : Header) → Asks 64 false d e → (IsTrue d.honest → header d.bytes ≡ Ok h) → a.size ≡ length d.bytes
      → b.size ≡ a.size → ((file : List ℕ) → GrowsBy file (header_told a.size h.size) a b)
      → Gathers (λ file. legacy_table_work (has_parts h.kind) (payload file h)) (λ file. data_told file h (has_parts h.kind)) r e f b c
      → Gathers legacy_work legacy_contents r d f a c
  unfolding legacy_contents
  header_then h p gives is same head q =
      let read : Result Header LegacyFault → Told = λ found. legacy_told d.bytes found in
      gathers_as
      (λ honest. le_of_eq (ap (λ (found : Result Header LegacyFault). 64 + legacy_data_work d.bytes found) (sym (gives honest))))
      (λ honest.
      ap (λ (n : ℕ). found_then (header_told n h.size) (data_told d.bytes h (has_parts h.kind))) is
      ∙ ap read (sym (gives honest)))
      (reads_then (λ _. 64) (at_most p) (adds_then same head q))

module _ {X : Type 0} {r : Result X MapFault} {d e : Device} {a b : Contents} where
  -- a header that is refused
  pub header_refused : (fault : LegacyFault) → Asks 64 false d e → (IsTrue d.honest → header d.bytes ≡ Err fault)
      → AddsFound (λ _. refused_header fault) r a b → Gathers legacy_work legacy_contents r d e a b
  unfolding legacy_contents
  header_refused fault p gives q =
      gathers_as
      (λ honest. le_of_eq (ap (λ (found : Result Header LegacyFault). 64 + legacy_data_work d.bytes found) (sym (gives honest))))
      (λ honest. ap (λ (found : Result Header LegacyFault). legacy_told d.bytes found) (sym (gives honest)))
      (reads_and_adds {v = λ _. 64} (at_most p) q)
