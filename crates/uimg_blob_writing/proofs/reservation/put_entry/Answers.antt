use Rattle.std.proofs.Common.{◌≡◌, ◌++◌, is_err, ℕ, List, [], refl, subst}
use Rattle.uimg_base.specs.Writing.{Writes}
use Rattle.uimg_blob_writing.specs.Encoding.{entry_bytes}
use Rattle.uimg_blob_writing.proofs.reservation.put_entry.Goals as goal

pub returns : goal.returns
returns g c =
    let pieces : c.to_be_bytes.result ++ (c.to_be_bytes-2.result ++ []) ≡ entry_bytes c.args.reservation =
    rw (c.to_be_bytes.ensures, c.to_be_bytes-2.ensures) refl in
    subst (λ (w : List ℕ). Writes (is_err c.put_pieces.result) c.args.out.now c.put_pieces.new.self w) pieces c.put_pieces.ensures.writes
