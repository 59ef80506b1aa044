use Rattle.std.proofs.Common.{◌∙◌, ℕ, List, ap, add-zero, rules, arith}
use Rattle.uimg_texts.specs.Numbers.{be32}
use Rattle.uimg_blob_reading.proofs.NumberLaws.{be32-slice}
use Rattle.uimg_blob_reading.proofs.reads.read_pair.Goals as goal

pub returns : goal.returns
returns g c =
    let bytes = (g.S.Source.device c.args.source.now).bytes in
    record {
      uses = search rules;
      told = λ honest. (
        c.be32_at.ensures ∙ ap (λ (w : List ℕ). be32 w 0) (c.in_ok-fill_at.ensures.bytes honest)
            ∙ be32-slice bytes c.args.at 8 0 (omega arith) ∙ ap (λ (n : ℕ). be32 bytes n) (add-zero c.args.at),
        c.be32_at-2.ensures ∙ ap (λ (w : List ℕ). be32 w 4) (c.in_ok-fill_at.ensures.bytes honest)
            ∙ be32-slice bytes c.args.at 8 4 (omega arith),
      );
    }
