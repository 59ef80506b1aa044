-- What is refused of a blob.
use Rattle.std.proofs.Common.{◌≡◌, ◌≢◌, ◌+◌, ◌==◌, ℕ, List, length, Option, Some, None, Bool, true, false, refl, ap, sym, arith}
use Rattle.std.proofs.lemmas.Bool.{false≢true}
use Rattle.std.proofs.Math.Nat.{suc-ne-zero}
use Rattle.uimg_base.specs.declared.spans.Span.{Span}
use Rattle.uimg_blob_reading.specs.declared.nodes.Blob.{Blob}
use Rattle.uimg_blob_reading.specs.Grammar.{Siblings, none, node}
use Rattle.uimg_blob_reading.specs.Indexed.{IsIndexed, IsRow, name_span}
use Rattle.uimg_blob_reading.specs.Roles.{top}
use Rattle.uimg_blob_reading.specs.Rows.{Row, size}
use Rattle.uimg_blob_reading.specs.Spots.{spots}
use Rattle.uimg_blob_reading.proofs.StandLaws.{row_of, row_stands, tree_stands}
use Rattle.uimg_fit_reading.proofs.ImageLaws.{entries_size}
use Rattle.uimg_strict.specs.Looseness.{LooseSaid, in_root, loose_blob, is_nameless}
use Rattle.uimg_strict.specs.declared.loose.Looseness.TheVariants.{UnsoundBlob}

pub unsound : (sound nameless : Bool) (later : Option LooseSaid) → sound ≡ false → Some (in_root UnsoundBlob) ≡ loose_blob sound nameless later
unsound true nameless later is = absurd (false≢true (sym is))
unsound false nameless later is = refl

pub named : (sound nameless : Bool) (later : Option LooseSaid) → sound ≡ true → nameless ≡ false → Some (in_root UnsoundBlob) ≡ loose_blob sound nameless later
named false nameless later is not_so = absurd (false≢true is)
named true true later is not_so = absurd (false≢true (sym not_so))
named true false later is not_so = refl

pub in_order : (sound nameless : Bool) (later : Option LooseSaid) → sound ≡ true → nameless ≡ true → later ≡ loose_blob sound nameless later
in_order false nameless later is so = absurd (false≢true is)
in_order true false later is so = absurd (false≢true so)
in_order true true later is so = refl

-- a tree without entries has no root, and so no name
pub rootless : (t : Siblings) (blob : Blob) (es : List (List ℕ)) → IsIndexed t blob es → length es ≡ 0 → true ≡ is_nameless (spots t)
unfolding spots
rootless none blob es indexed empty = refl
rootless (node at name own below after) blob es indexed empty =
    absurd (suc-ne-zero (size below + size after) (omega (arith, entries_size (node at name own below after) blob es indexed, empty)))

-- the name of the root is at the span of the first entry
pub root_named : (t : Siblings) (blob : Blob) (es : List (List ℕ)) (span : Span) → IsIndexed t blob es → length es ≢ 0
    → ((row : Row) → IsRow blob es 0 row → span ≡ name_span row) → (span.length == 0) ≡ is_nameless (spots t)
unfolding spots
root_named none blob es span indexed some spans = absurd (some (entries_size none blob es indexed))
root_named (node at name own below after) blob es span indexed some spans =
    let t = node at name own below after in
    let there = spans (row_of top None 0 at name own below after) (record { nodes = t; indexed = indexed; is = row_stands t top None 0 at name own below after (tree_stands t) }) in
    ap (λ (s : Span). s.length == 0) there
