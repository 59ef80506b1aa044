use Rattle.std.proofs.Common.{◌≡◌, ◌+◌, ℕ, List, length, min, ap, ◌∙◌}
use Rattle.uimg_texts.specs.Nul.{text}
use Rattle.uimg_fit_reading.proofs.ListLaws.{first_is_piece}
use Rattle.uimg_fit_reading.proofs.listing.lists.first_piece.Goals as goal

pub returns-clause-piece : goal.returns-clause-piece
returns-clause-piece c =
    let count : c.min-count.result ≡ min (length c.args.bytes.now) (length (text c.args.bytes.now) + 1) =
    c.min-count.ensures ∙ ap (λ (w : List ℕ). min (length c.args.bytes.now) (length w + 1)) c.before_nul.ensures in
    first_is_piece c.args.bytes.now c.min-count.result c.requires count
