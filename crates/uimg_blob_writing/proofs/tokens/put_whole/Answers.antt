use Rattle.std.proofs.Common.{◌≡◌, ◌++◌, is_err, ℕ, length, take, replicate, List, [], ◌∷◌, ap, subst, sym, ◌∙◌, append-nil, append_assoc}
use Rattle.uimg_base.specs.Writing.{Writes}
use Rattle.uimg_blob_writing.specs.Pieces.{head_bytes, padding}
use Rattle.uimg_blob_writing.proofs.PaddingLaws.{zeros-first}
use Rattle.uimg_blob_writing.proofs.tokens.put_whole.Goals as goal

pub returns : goal.returns
returns g c =
    let value = c.args.value.now in
    let zeros : take {A = ℕ} c.padding_size.result (0 ∷ 0 ∷ 0 ∷ 0 ∷ []) ++ [] ≡ padding (length value) =
    append-nil (take {A = ℕ} c.padding_size.result (0 ∷ 0 ∷ 0 ∷ 0 ∷ [])) ∙ zeros-first c.padding_size.result c.padding_size.ensures.few
    ∙ ap (λ (n : ℕ). let w : List ℕ = replicate n 0 in w) c.padding_size.ensures.size in
    let pieces : c.to_be_bytes.result ++ (c.to_be_bytes-2.result ++ (c.to_be_bytes-3.result ++ (value ++ (take {A = ℕ} c.padding_size.result (0 ∷ 0 ∷ 0 ∷ 0 ∷ []) ++ [])))) ≡ head_bytes (length value) c.args.offset ++ value ++ padding (length value) =
    rw (c.to_be_bytes.ensures, c.to_be_bytes-2.ensures, c.to_be_bytes-3.ensures, zeros) (sym (append_assoc (head_bytes (length value) c.args.offset) value (padding (length value)))) in
    subst (λ (w : List ℕ). Writes (is_err c.put_pieces.result) c.args.out.now c.put_pieces.new.self w) pieces c.put_pieces.ensures.writes
