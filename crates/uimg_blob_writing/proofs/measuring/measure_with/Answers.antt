use Rattle.std.proofs.Common.{◌≡◌, ◌<◌, ◌+◌, ◌^◌, min, length, ◌∙◌, ap, sym, List, ℕ, Bor, arith}
use Rattle.uimg_blob_reading.specs.declared.fault.BlobFault.TheVariants.{OutOfMemory}
use Rattle.uimg_blob_writing.specs.{Alignment.sized, Encoding.{strings, structure_offset, names_of, with_names_in}}
use Rattle.uimg_blob_writing.specs.{Layouts.{Plan, nodes_size, totalsize}, Trees.node_of}
use Rattle.uimg_blob_writing.specs.declared.blob_end.BlobEnd.{BlobEnd}
use Rattle.uimg_blob_writing.specs.declared.reservation.Reservation.{Reservation}
use Rattle.uimg_blob_writing.specs.Names.{name_texts}
use Rattle.uimg_blob_writing.proofs.MeasuredLaws.{are_named, not-memory, same-fault}
use Rattle.uimg_blob_writing.proofs.{AlignmentLaws.large-by, TotalLaws.encode-size}
use Rattle.uimg_blob_writing.proofs.PlanLaws.{on-ok, measured-large}
use Rattle.uimg_blob_writing.proofs.measuring.measure_with.Goals as goal

pub returns-in_err-check_names-clause-memory : goal.returns-in_err-check_names-clause-memory
returns-in_err-check_names-clause-memory g c = λ memory none.
    let f = c.in_err-check_names.field-0.0 in
    not-memory (node_of c.args.tree.now.root) f c.in_err-check_names.ensures (same-fault c.from_residual.result f OutOfMemory c.from_residual.ensures.1 memory)

-- a plan with an end, of these reservations, names and this size
abbrev plan : BlobEnd → List Reservation → List (List ℕ) → ℕ → Plan
plan ending rs names structure = record { names = names; reservations = rs; structure = structure; ending = ending }

pub returns-then-sized-gt-LARGEST-clause-measured : goal.returns-then-sized-gt-LARGEST-clause-measured
returns-then-sized-gt-LARGEST-clause-measured g c =
    let t = node_of c.args.tree.now.root in
    let added = on-ok c.add_all_names.result (sym c.is_err.ensures.value ∙ c.if-is_err.false) c.add_all_names.ensures.added in
    let is_names : name_texts c.add_all_names.new.names.items ≡ names_of t = added ∙ ap (λ (l : List (Bor (List ℕ))). with_names_in (name_texts l) t) c.new-names.ensures.items in
    let size = c.node_size-structure.ensures in
    let length_is : c.strings_size-strings.result ≡ min (length (strings (names_of t))) (2 ^ 36) =
    c.strings_size-strings.ensures ∙ ap (λ (l : List (Bor (List ℕ))). min (length (strings (name_texts l))) (2 ^ 36)) c.as_slice.ensures.value
    ∙ ap (λ (l : List (List ℕ)). min (length (strings l)) (2 ^ 36)) is_names in
    let rs = c.args.reservations.now in
    let counted = 40 + c.block_size.result + (c.node_size-structure.result + 4) + c.strings_size-strings.result in
    let end = structure_offset rs + (nodes_size t + 4) + length (strings (names_of t)) in
    let large : 4294967295 < sized c.args.ending counted = omega (arith, c.sized.ensures.place, c.if-sized-gt-LARGEST.true) in
    measured-large c.args.ending rs t c.in_ok-check_names.ensures (large-by c.args.ending counted end (λ small. omega (arith, small, size, length_is, c.block_size.ensures)) large)

pub returns-clause-named : goal.returns-clause-named
returns-clause-named g c = are_named (node_of c.args.tree.now.root) (sym c.in_ok-check_names.ensures)

pub returns-clause-sized : goal.returns-clause-sized
returns-clause-sized g c = λ files kept.
    let t = node_of c.args.tree.now.root in
    let names = name_texts c.add_all_names.new.names.items in
    let added = on-ok c.add_all_names.result (sym c.is_err.ensures.value ∙ c.if-is_err.false) c.add_all_names.ensures.added in
    let is_names : names ≡ names_of t = added ∙ ap (λ (l : List (Bor (List ℕ))). with_names_in (name_texts l) t) c.new-names.ensures.items in
    let structure : nodes_size t + 4 ≡ c.node_size-structure.result + 4 = omega (arith, c.node_size-structure.ensures, c.sized.ensures.least, c.if-sized-gt-LARGEST.false) in
    encode-size files c.args.ending c.args.reservations.now t kept
    ∙ ap totalsize (ap (λ (l : List (List ℕ)). plan c.args.ending c.args.reservations.now l (nodes_size t + 4)) (sym is_names) ∙ ap (λ (n : ℕ). plan c.args.ending c.args.reservations.now names n) structure)
