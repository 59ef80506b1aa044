-- The size that a plan has is the blob's, and the blob reads back.
use Rattle.std.proofs.Common.{◌≡◌, ◌<◌, ◌^◌, ◌+◌, ℕ, List, length, map, Option, ap, ◌∙◌, length-append, arith}
use Rattle.uimg_blob_reading.specs.Plain.{NamedOf, no_node, a_node, with_value, with_values, AreNamed}
use Rattle.uimg_blob_writing.specs.Content.{Content, Unread, content_bytes, in_full, AreKept}
use Rattle.uimg_blob_writing.specs.{Layouts.{nodes_size, totalsize, plan_with}, ReadsBack.ReadsBack}
use Rattle.uimg_blob_writing.specs.declared.blob_end.BlobEnd.{BlobEnd}
use Rattle.uimg_blob_writing.specs.declared.reservation.Reservation.{Reservation}
use Rattle.uimg_blob_writing.specs.Encoding.{word, strings, structure, structure_offset, blob_size, encode_with, names_of, nodes_bytes}
use Rattle.uimg_blob_writing.proofs.SizeLaws.{length-nodes, names_of-values, named-values}
use Rattle.uimg_blob_writing.proofs.ReadsBackLaw.{length-encode, reads_back}

pub encode-size : (files : List ℕ → Option (List ℕ)) (ending : BlobEnd) (rs : List Reservation) (t : Unread) → AreKept files t → length (encode_with ending rs (in_full files t)) ≡ totalsize (plan_with ending rs t)
encode-size files ending rs t kept =
    let u = in_full files t in
    let nodes = nodes_bytes (names_of u) u in
    let sized : length (structure u) ≡ nodes_size t + 4 = length-append nodes (word 9) ∙ ap (λ (n : ℕ). n + 4) (length-nodes files (names_of u) t kept) in
    length-encode ending rs u
    ∙ ap (λ (n : ℕ). blob_size ending (structure_offset rs) n (length (strings (names_of u)))) sized
    ∙ ap (λ (l : List (List ℕ)). blob_size ending (structure_offset rs) (nodes_size t + 4) (length (strings l))) (names_of-values (content_bytes files) t)

pub root-reads_back : (files : List ℕ → Option (List ℕ)) (ending : BlobEnd) (rs : List Reservation) (name : List ℕ) (own : List (NamedOf Content)) (below : Unread) → (let t : Unread = a_node name own below no_node in AreKept files t) → (let t : Unread = a_node name own below no_node in AreNamed t)
    → (let t : Unread = a_node name own below no_node in totalsize (plan_with ending rs t)) < 2 ^ 32
    → (let t : Unread = a_node name own below no_node in ReadsBack ending rs (in_full files t))
unfolding with_values
root-reads_back files ending rs name own below kept named fits more =
    let t : Unread = a_node name own below no_node in
    reads_back ending rs name (map (with_value (content_bytes files)) own) (with_values (content_bytes files) below) (named-values (content_bytes files) t named) (omega (arith, encode-size files ending rs t kept, fits)) more
