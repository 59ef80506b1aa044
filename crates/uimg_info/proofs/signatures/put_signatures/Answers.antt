use Rattle.std.proofs.Common.{◌∷◌, ◌∙◌, List, ap, append-nil, codes, map, sym}
use Rattle.json.specs.{Token.Token, Tree.json_tokens}
use Rattle.uimg_printing.{specs.Members.array_of, proofs.StepLaws.{one, after, appended_as}}
use Rattle.uimg_info.specs.{Fit.signature_json, Signatures.read_signature}
use Rattle.uimg_info.proofs.signatures.put_signatures.Goals as goal

pub returns : goal.returns
returns g c =
    let file = (g.S.Source.device c.args.source.now).bytes in
    let list = c.in_ok-put_list.ensures in
    record {
      uses = list.uses;
      own = tt;
      before = list.before ∙ c.key.ensures.room.0;
      told = λ honest.
          appended_as _ _ _ _ (ap (λ (l : List Token). Token.key (codes "signatures") ∷ l) (sym (append-nil (json_tokens (array_of (map signature_json (map (read_signature file) c.args.signatures.now)))))))
          (after (one c.in_ok-key.ensures.ok c.key.ensures.room.0) (list.told honest));
    }
