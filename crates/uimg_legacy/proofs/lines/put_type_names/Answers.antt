use Rattle.std.{proofs.Common.{ℕ, List, subst}, specs.Prelude.is_err}
use Rattle.uimg_base.specs.Writing.{Writes}
use Rattle.uimg_legacy.proofs.LinesLaws.{type_line_of}
use Rattle.uimg_legacy.proofs.lines.put_type_names.Goals as goal

pub returns : goal.returns
returns g c =
    let pieces = type_line_of _ _ _ _ _ _ _ _ c.as_bytes.ensures.value c.as_bytes-2.ensures.value c.as_bytes-3.ensures.value c.as_bytes-4.ensures.value in
    subst (λ (w : List ℕ). Writes (is_err c.put_pieces.result) c.args.out.now c.put_pieces.new.self w) pieces c.put_pieces.ensures.writes
