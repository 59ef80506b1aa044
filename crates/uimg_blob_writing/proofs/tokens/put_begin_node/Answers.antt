use Rattle.std.proofs.Common.{◌≡◌, ◌++◌, ◌-◌, ◌%◌, is_err, ℕ, length, take, List, [], ◌∷◌, ap, subst, ◌∙◌}
use Rattle.uimg_base.specs.Writing.{Writes}
use Rattle.uimg_blob_writing.specs.{Encoding.word, Pieces.begin_bytes}
use Rattle.uimg_blob_writing.proofs.PaddingLaws.{name-padded}
use Rattle.uimg_blob_writing.proofs.tokens.put_begin_node.Goals as goal

pub returns : goal.returns
returns g c =
    let name = c.args.name.now in
    let rest = name ++ (take {A = ℕ} (4 - length name % 4) (0 ∷ 0 ∷ 0 ∷ 0 ∷ []) ++ []) in
    let pieces : c.to_be_bytes.result ++ rest ≡ begin_bytes name =
    ap (λ (w : List ℕ). w ++ rest) c.to_be_bytes.ensures ∙ ap (λ (w : List ℕ). word 1 ++ w) (name-padded name) in
    subst (λ (w : List ℕ). Writes (is_err c.put_pieces.result) c.args.out.now c.put_pieces.new.self w) pieces c.put_pieces.ensures.writes
