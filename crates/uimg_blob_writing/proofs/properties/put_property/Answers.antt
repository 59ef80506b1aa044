use Rattle.std.proofs.Common.{◌≡◌, ◌++◌, ℕ, List, [], ◌∷◌, length, ap, subst, ◌∙◌, refl, true, false}
use Rattle.uimg_base.specs.Writing.{Writes}
use Rattle.uimg_blob_reading.specs.Plain.{NamedOf}
use Rattle.uimg_blob_writing.specs.{declared.fault.TreeFault.TheVariants.Put, Encoding.name_offset}
use Rattle.uimg_blob_writing.specs.{Content.{Content, bytes, file, size_of}, Names.name_texts}
use Rattle.uimg_blob_writing.specs.Properties.{content, property}
use Rattle.uimg_blob_writing.specs.Pieces.{head_bytes, padding, property_pieces, WritesPieces}
use Rattle.uimg_blob_writing.proofs.WritesLaws.{went_well, failed, refused, together}
use Rattle.uimg_blob_writing.proofs.properties.put_property.Goals as goal

-- the pieces of a property with this value, whose name stands at this offset
pieces : (names : List (List ℕ)) (p : NamedOf Content) (v : Content) (offset : ℕ) → p.value ≡ v → offset ≡ name_offset names p.name
    → bytes (head_bytes (size_of v) offset) ∷ v ∷ bytes (padding (size_of v)) ∷ [] ≡ property_pieces names p
unfolding property_pieces
pieces names p v offset e o = rw (e, o) refl

-- a property whose value is bytes
whole_bytes : List ℕ → ℕ → List ℕ
whole_bytes value offset = head_bytes (length value) offset ++ value ++ padding (length value)

pub returns-in_err-put_whole-in-Bytes : goal.returns-in_err-put_whole-in-Bytes
unfolding whole_bytes
returns-in_err-put_whole-in-Bytes g c =
    let m = g.F.Files.map c.args.files.now in
    let s = c.args.out.now in
    let t = c.put_whole.new.out in
    let names = name_texts c.args.names.now in
    let p = property c.args.prop.now in
    let value : List ℕ = c.in-Bytes.value in
    let offset = c.name_offset-offset.result in
    let is : content c.args.prop.now.value ≡ bytes value = ap content c.in-Bytes.is in
    let here : offset ≡ name_offset names p.name = c.name_offset-offset.ensures ∙ ap (λ (n : List ℕ). name_offset names n) c.items.ensures in
    let put = subst (λ (w : List ℕ). Writes true s t (whole_bytes w offset)) c.items-in-Bytes.ensures c.in_err-put_whole-in-Bytes.ensures in
    refused g.F.Opened.Source.steady c.from_residual.result Put m m s t _ c.from_residual.ensures.1
    (subst (λ (ps : List Content). WritesPieces g.F.Opened.Source.steady (failed Put) m m s t ps) (pieces names p (bytes value) offset is here)
    (together g.F.Opened.Source.steady true (failed Put) m s t (head_bytes (length value) offset) value (padding (length value)) refl refl refl refl put))

pub returns-in_ok-put_whole-in-Bytes : goal.returns-in_ok-put_whole-in-Bytes
unfolding whole_bytes
returns-in_ok-put_whole-in-Bytes g c =
    let m = g.F.Files.map c.args.files.now in
    let s = c.args.out.now in
    let t = c.put_whole.new.out in
    let names = name_texts c.args.names.now in
    let p = property c.args.prop.now in
    let value : List ℕ = c.in-Bytes.value in
    let offset = c.name_offset-offset.result in
    let is : content c.args.prop.now.value ≡ bytes value = ap content c.in-Bytes.is in
    let here : offset ≡ name_offset names p.name = c.name_offset-offset.ensures ∙ ap (λ (n : List ℕ). name_offset names n) c.items.ensures in
    let put = subst (λ (w : List ℕ). Writes false s t (whole_bytes w offset)) c.items-in-Bytes.ensures c.in_ok-put_whole-in-Bytes.ensures in
    subst (λ (ps : List Content). WritesPieces g.F.Opened.Source.steady went_well m m s t ps) (pieces names p (bytes value) offset is here)
    (together g.F.Opened.Source.steady false went_well m s t (head_bytes (length value) offset) value (padding (length value)) refl refl refl refl put)

pub returns-in-File : goal.returns-in-File
returns-in-File g c =
    let m = g.F.Files.map c.args.files.now in
    let n = g.F.Files.map c.put_from_file.new.files in
    let names = name_texts c.args.names.now in
    let p = property c.args.prop.now in
    let name : List ℕ = c.in-File.name in
    let size = c.in-File.size in
    let offset = c.name_offset-offset.result in
    let is : content c.args.prop.now.value ≡ file name size = ap content c.in-File.is in
    let here : offset ≡ name_offset names p.name = c.name_offset-offset.ensures ∙ ap (λ (n : List ℕ). name_offset names n) c.items.ensures in
    let put = subst (λ (w : List ℕ). WritesPieces g.F.Opened.Source.steady c.put_from_file.result m n c.args.out.now c.put_from_file.new.out (bytes (head_bytes size offset) ∷ file w size ∷ bytes (padding size) ∷ [])) c.items-in-File.ensures c.put_from_file.ensures in
    subst (λ (ps : List Content). WritesPieces g.F.Opened.Source.steady c.put_from_file.result m n c.args.out.now c.put_from_file.new.out ps) (pieces names p (file name size) offset is here) put
