use Rattle.std.proofs.Common.{◌≡◌, ◌+◌, ◌++◌, List, ℕ, [], length, is_err, append_assoc, append-nil, ◌∙◌, ap, subst}
use Rattle.uimg_base.specs.Writing.{Writes}
use Rattle.uimg_blob_reading.specs.Blob.{magic}
use Rattle.uimg_blob_writing.specs.{Encoding.{word, strings, structure_offset}, Layouts.{Plan, totalsize}}
use Rattle.uimg_blob_writing.proofs.writing.put_header.Goals as goal

joined : (a b c d e f h i j k a' b' c' d' e' f' h' i' j' k' : List ℕ) → a ≡ a' → b ≡ b' → c ≡ c' → d ≡ d' → e ≡ e' → f ≡ f' → h ≡ h' → i ≡ i' → j ≡ j' → k ≡ k'
    → a ++ (b ++ (c ++ (d ++ (e ++ (f ++ (h ++ (i ++ (j ++ (k ++ []))))))))) ≡ a' ++ b' ++ c' ++ d' ++ e' ++ f' ++ h' ++ i' ++ j' ++ k'
joined a b c d e f h i j k a' b' c' d' e' f' h' i' j' k' pa pb pc pd pe pf ph pi pj pk =
    let same : a ++ (b ++ (c ++ (d ++ (e ++ (f ++ (h ++ (i ++ (j ++ (k ++ []))))))))) ≡ a' ++ (b' ++ (c' ++ (d' ++ (e' ++ (f' ++ (h' ++ (i' ++ (j' ++ (k' ++ []))))))))) = cc in
    same ∙ simp (append_assoc, append-nil)

pub returns : goal.returns
returns g c =
    let plan = c.args.layout.now in
    let inside = c.layout.inside in
    let offset = structure_offset plan.reservations in
    let structure : inside.structure_size ≡ plan.structure = ap (λ (p : Plan). p.structure) c.layout.view_is in
    let strings_size : inside.strings_size ≡ length (strings plan.names) = c.layout.invariant.0 ∙ ap (λ (p : Plan). length (strings p.names)) c.layout.view_is in
    let total : c.to_be_bytes-2.result ≡ word (totalsize plan) = c.to_be_bytes-2.ensures ∙ ap word c.totalsize.ensures in
    let first : c.to_be_bytes-3.result ≡ word offset = c.to_be_bytes-3.ensures ∙ ap word c.structure_offset-offset.ensures in
    let second : c.to_be_bytes-4.result ≡ word (offset + plan.structure) =
    c.to_be_bytes-4.ensures ∙ ap (λ (n : ℕ). word (n + inside.structure_size)) c.structure_offset-offset.ensures ∙ ap (λ (n : ℕ). word (offset + n)) structure in
    let pieces = joined c.to_be_bytes.result c.to_be_bytes-2.result c.to_be_bytes-3.result c.to_be_bytes-4.result c.to_be_bytes-5.result c.to_be_bytes-6.result c.to_be_bytes-7.result c.to_be_bytes-8.result c.to_be_bytes-9.result c.to_be_bytes-10.result
    (word magic) (word (totalsize plan)) (word offset) (word (offset + plan.structure)) (word 40) (word 17) (word 16) (word 0) (word (length (strings plan.names))) (word plan.structure)
    c.to_be_bytes.ensures total first second c.to_be_bytes-5.ensures c.to_be_bytes-6.ensures c.to_be_bytes-7.ensures c.to_be_bytes-8.ensures
    (c.to_be_bytes-9.ensures ∙ ap word strings_size) (c.to_be_bytes-10.ensures ∙ ap word structure) in
    subst (λ (w : List ℕ). Writes (is_err c.put_pieces.result) c.args.out.now c.put_pieces.new.self w) pieces c.put_pieces.ensures.writes
