-- The pieces of a tree are its blob.
use Rattle.std.proofs.Common.{◌≡◌, ◌+◌, ◌++◌, ℕ, List, [], ◌∷◌, length, map, Option, refl, ap, sym, ◌∙◌, append_assoc, append-nil, length-append, arith}
use Rattle.std.specs.List.{flat_map, AllByRecursion}
use Rattle.uimg_blob_reading.specs.Plain.{NamedOf, no_node, a_node, with_value, with_values, AllValues}
use Rattle.uimg_blob_writing.specs.Content.{Content, Unread, bytes, size_of, content_bytes, file_of, files_in, in_full, IsKept, AreKept}
use Rattle.uimg_blob_writing.specs.{Alignment.filling, Layouts.{nodes_size, plan_with, plan_end}}
use Rattle.uimg_blob_writing.specs.declared.blob_end.BlobEnd.{BlobEnd}
use Rattle.uimg_blob_writing.specs.declared.reservation.Reservation.{Reservation}
use Rattle.uimg_blob_writing.specs.Encoding.{word, padded, reserved, structure_offset, header, strings, blob_size, blob, encode_with, with_nul, names_of, name_offset, property_bytes, nodes_bytes}
use Rattle.uimg_blob_writing.specs.Pieces.{padding, begin_bytes, head_bytes, property_pieces, nodes_pieces, blob_pieces}
use Rattle.uimg_blob_writing.proofs.ReadsBackLaw.{length-reserved}
use Rattle.uimg_blob_writing.proofs.SizeLaws.{kept-size, length-nodes, names_of-values}
use Rattle.uimg_blob_writing.proofs.WritesLaws.{all-first, all-second, all-both, flat_map-both}

-- a fact that is true of bytes is one of all values where it is one of all pieces
module _ (P : Content → Type 0) (of-bytes : (b : List ℕ) → P (bytes b)) (names : List (List ℕ)) where
  own-pieces : (own : List (NamedOf Content)) → AllByRecursion (λ p. P p.value) own → AllByRecursion P (flat_map (property_pieces names) own)
  unfolding property_pieces
  own-pieces [] h = tt
  own-pieces (p ∷ own) h = (of-bytes _, (h.0, (of-bytes _, own-pieces own h.1)))

  own-values : (own : List (NamedOf Content)) → AllByRecursion P (flat_map (property_pieces names) own) → AllByRecursion (λ p. P p.value) own
  unfolding property_pieces
  own-values [] h = tt
  own-values (p ∷ own) h = (h.1.0, own-values own h.1.1.1)

  all-pieces : (t : Unread) → AllValues P t → AllByRecursion P (nodes_pieces names t)
  unfolding nodes_pieces
  all-pieces no_node h = tt
  all-pieces (a_node name own below after) h = (
    of-bytes _,
    all-both P (flat_map (property_pieces names) own) _ (own-pieces own h.0)
        (all-both P (nodes_pieces names below) _ (all-pieces below h.1) (of-bytes _, all-pieces after h.2)),
  )

  all-values : (t : Unread) → AllByRecursion P (nodes_pieces names t) → AllValues P t
  unfolding nodes_pieces
  all-values no_node h = tt
  all-values (a_node name own below after) h =
      let own_pieces = flat_map (property_pieces names) own in
      let below_pieces = nodes_pieces names below in
      let end : List Content = bytes (word 2) ∷ nodes_pieces names after in
      let rest = all-second P own_pieces (below_pieces ++ end) h.1 in
      (own-values own (all-first P own_pieces (below_pieces ++ end) h.1), all-values below (all-first P below_pieces end rest), all-values after (all-second P below_pieces end rest).1)

module _ (P : Content → Type 0) (of-bytes : (b : List ℕ) → P (bytes b)) (ending : BlobEnd) (rs : List Reservation) (t : Unread) where
  pub blob-holds : AllValues P t → AllByRecursion P (blob_pieces (plan_with ending rs t) t)
  unfolding blob_pieces
  blob-holds h = (of-bytes _, (of-bytes _, all-both P (nodes_pieces (names_of t) t) _ (all-pieces P of-bytes (names_of t) t h) (of-bytes _, (of-bytes _, (of-bytes _, tt)))))

  pub blob-held : AllByRecursion P (blob_pieces (plan_with ending rs t) t) → AllValues P t
  unfolding blob_pieces
  blob-held h = all-values P of-bytes (names_of t) t (all-first P (nodes_pieces (names_of t) t) _ h.1.1)

-- the files among the pieces are those of the tree
own-files : (names : List (List ℕ)) (own : List (NamedOf Content)) → flat_map file_of (flat_map (property_pieces names) own) ≡ flat_map (λ p. file_of p.value) own
unfolding property_pieces
own-files names [] = refl
own-files names (p ∷ own) = ap (λ (l : List (List ℕ)). file_of p.value ++ l) (own-files names own)

nodes-files : (names : List (List ℕ)) (t : Unread) → flat_map file_of (nodes_pieces names t) ≡ files_in t
unfolding nodes_pieces
nodes-files names no_node = refl
nodes-files names (a_node name own below after) =
    let end : List Content = bytes (word 2) ∷ nodes_pieces names after in
    flat_map-both file_of (flat_map (property_pieces names) own) (nodes_pieces names below ++ end)
    ∙ ap (λ (l : List (List ℕ)). l ++ flat_map file_of (nodes_pieces names below ++ end)) (own-files names own)
    ∙ ap (λ (l : List (List ℕ)). flat_map (λ p. file_of p.value) own ++ l)
    (flat_map-both file_of (nodes_pieces names below) end
    ∙ ap (λ (l : List (List ℕ)). l ++ flat_map file_of end) (nodes-files names below)
    ∙ ap (λ (l : List (List ℕ)). files_in below ++ l) (nodes-files names after))

pub blob-files : (ending : BlobEnd) (rs : List Reservation) (t : Unread) → flat_map file_of (blob_pieces (plan_with ending rs t) t) ≡ files_in t
unfolding blob_pieces
blob-files ending rs t =
    flat_map-both file_of (nodes_pieces (names_of t) t) _ ∙ append-nil (flat_map file_of (nodes_pieces (names_of t) t)) ∙ nodes-files (names_of t) t

module _ (files : List ℕ → Option (List ℕ)) where
  abbrev joined : List Content → List ℕ
  joined pieces = flat_map (content_bytes files) pieces

  own-bytes : (names : List (List ℕ)) (own : List (NamedOf Content)) → AllByRecursion (λ p. IsKept files p.value) own
      → joined (flat_map (property_pieces names) own) ≡ flat_map (property_bytes names) (map (with_value (content_bytes files)) own)
  unfolding property_pieces property_bytes
  own-bytes names [] kept = refl
  own-bytes names (p ∷ own) kept =
      let value = content_bytes files p.value in
      let offset = name_offset names p.name in
      let sized : ℕ → List ℕ = λ n. head_bytes n offset ++ (value ++ (padding n ++ flat_map (property_bytes names) (map (with_value (content_bytes files)) own))) in
      let rest = own-bytes names own kept.1 in
      ap (λ (w : List ℕ). head_bytes (size_of p.value) offset ++ (value ++ (padding (size_of p.value) ++ w))) rest
      ∙ ap sized (sym (kept-size files p.value kept.0))
      ∙ ap (λ (w : List ℕ). head_bytes (length value) offset ++ w) (sym (append_assoc value (padding (length value)) (flat_map (property_bytes names) (map (with_value (content_bytes files)) own))))

  right : (a c d e f g : List ℕ) → a ++ c ++ d ++ e ++ f ++ g ≡ a ++ (c ++ (d ++ (e ++ (f ++ g))))
  right a c d e f g = simp append_assoc

  pub nodes-joined : (names : List (List ℕ)) (t : Unread) → AreKept files t → joined (nodes_pieces names t) ≡ nodes_bytes names (in_full files t)
  unfolding nodes_pieces nodes_bytes with_values
  nodes-joined names no_node kept = refl
  nodes-joined names (a_node name own below after) kept =
      let own_pieces = flat_map (property_pieces names) own in
      let below_pieces = nodes_pieces names below in
      let end : List Content = bytes (word 2) ∷ nodes_pieces names after in
      let own_bytes = flat_map (property_bytes names) (map (with_value (content_bytes files)) own) in
      let below_bytes = nodes_bytes names (in_full files below) in
      let after_bytes = nodes_bytes names (in_full files after) in
      let rest : joined (own_pieces ++ (below_pieces ++ end)) ≡ own_bytes ++ (below_bytes ++ (word 2 ++ after_bytes)) =
      flat_map-both (content_bytes files) own_pieces (below_pieces ++ end)
      ∙ ap (λ (w : List ℕ). w ++ joined (below_pieces ++ end)) (own-bytes names own kept.0)
      ∙ ap (λ (w : List ℕ). own_bytes ++ w) (flat_map-both (content_bytes files) below_pieces end
      ∙ ap (λ (w : List ℕ). w ++ (word 2 ++ joined (nodes_pieces names after))) (nodes-joined names below kept.1)
      ∙ ap (λ (w : List ℕ). below_bytes ++ (word 2 ++ w)) (nodes-joined names after kept.2)) in
      ap (λ (w : List ℕ). begin_bytes name ++ w) rest
      ∙ sym (right (word 1) (padded (with_nul name)) own_bytes below_bytes (word 2) after_bytes)

  -- the pieces of a blob
  blob-whole : (ending : BlobEnd) (rs : List Reservation) (nodes strings : List ℕ) (size strings_size : ℕ) → length nodes + 4 ≡ size → length strings ≡ strings_size →
      header (blob_size ending (structure_offset rs) size strings_size) (structure_offset rs) size strings_size ++ reserved rs ++ nodes ++ word 9 ++ strings ++ filling ending (structure_offset rs + size + strings_size) ≡ blob ending rs (nodes ++ word 9) strings
  unfolding blob
  blob-whole ending rs nodes strings size strings_size e f =
      let o = structure_offset rs in
      let header_by : ℕ → ℕ → List ℕ = λ a b. header (blob_size ending o a b) o a b in
      let s = nodes ++ word 9 in
      let len : size ≡ length s = omega (arith, length-append nodes (word 9)) in
      let front = header_by (length s) (length strings) ++ reserved rs in
      let n : o + size + strings_size ≡ length (front ++ s ++ strings) = omega (arith, len, f, length-append (reserved rs ++ s) strings, length-append (reserved rs) s, length-reserved rs) in
      ap (λ (k : ℕ). header_by size strings_size ++ reserved rs ++ nodes ++ word 9 ++ strings ++ filling ending k) n
      ∙ ap (λ (k : ℕ). header_by k strings_size ++ reserved rs ++ nodes ++ word 9 ++ strings ++ filling ending (length (front ++ s ++ strings))) len
      ∙ ap (λ (k : ℕ). header_by (length s) k ++ reserved rs ++ nodes ++ word 9 ++ strings ++ filling ending (length (front ++ s ++ strings))) (sym f)
      ∙ ap (λ (w : List ℕ). w ++ strings ++ filling ending (length (front ++ s ++ strings))) (append_assoc front nodes (word 9))

  nest : (a b c d e f : List ℕ) → a ++ (b ++ (c ++ (d ++ (e ++ (f ++ []))))) ≡ a ++ b ++ c ++ d ++ e ++ f
  nest a b c d e f = simp (append_assoc, append-nil)

  pub blob-joined : (ending : BlobEnd) (rs : List Reservation) (t : Unread) → AreKept files t → joined (blob_pieces (plan_with ending rs t) t) ≡ encode_with ending rs (in_full files t)
  unfolding blob_pieces
  blob-joined ending rs t kept =
      let names = names_of t in
      let u = in_full files t in
      let nodes = nodes_bytes names u in
      let size = nodes_size t + 4 in
      let o = structure_offset rs in
      let begin = header (blob_size ending o size (length (strings names))) o size (length (strings names)) in
      let pad = filling ending (plan_end (plan_with ending rs t)) in
      let end : List Content = bytes (word 9) ∷ bytes (strings names) ∷ bytes pad ∷ [] in
      let sized : length nodes + 4 ≡ size = ap (λ (n : ℕ). n + 4) (length-nodes files names t kept) in
      ap (λ (w : List ℕ). begin ++ (reserved rs ++ w)) (flat_map-both (content_bytes files) (nodes_pieces names t) end ∙ ap (λ (w : List ℕ). w ++ joined end) (nodes-joined names t kept))
      ∙ nest begin (reserved rs) nodes (word 9) (strings names) pad
      ∙ blob-whole ending rs nodes (strings names) size (length (strings names)) sized refl
      ∙ ap (λ (ns : List (List ℕ)). blob ending rs (nodes_bytes ns u ++ word 9) (strings ns)) (sym (names_of-values (content_bytes files) t))
