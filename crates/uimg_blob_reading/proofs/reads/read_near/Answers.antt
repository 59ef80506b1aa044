use Rattle.std.proofs.Common.{◌≡◌, ◌∙◌, ℕ, ◌-◌, length, take, min, length-take, ap, sym, rules, arith}
use Rattle.std.proofs.lemmas.List.{take-append-le, take_all}
use Rattle.uimg_texts.specs.Slices.{slice}
use Rattle.uimg_blob_reading.proofs.NumberLaws.{reach-slice}
use Rattle.uimg_blob_reading.proofs.reads.read_near.Goals as goal

pub returns-clause-near : goal.returns-clause-near
returns-clause-near g c =
    let bytes = (g.S.Source.device c.args.source.now).bytes in
    let size : length (take c.min-length.result c.args.window.now) ≡ min 256 (c.args.end - c.args.at) = simp length-take (omega arith) in
    record {
      uses = search rules;
      told = λ honest.
          take-append-le _ c.fill_at.new.to _ (omega arith)
          ∙ take_all _ c.fill_at.new.to (omega arith)
          ∙ c.in_ok-fill_at.ensures.bytes honest
          ∙ ap (λ (n : ℕ). slice bytes c.args.at n) size
          ∙ sym (reach-slice bytes c.args.at c.args.end);
    }
