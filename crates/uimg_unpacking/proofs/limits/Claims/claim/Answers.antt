use Rattle.std.proofs.Common.{rules, ◌∙◌, ap, sym}
use Rattle.uimg_fit_checking.specs.{Claiming.claim, Unpacking.as_bytes}
use Rattle.uimg_unpacking.specs.Limiting.{bytes_in, claims_by, files_in, sum64}
use Rattle.uimg_unpacking.proofs.LimitLaws.{bytes_more, claim_noted, files_more}
use Rattle.uimg_unpacking.proofs.limits.Claims.claim.Goals as goal

pub invariant_of-self : goal.invariant_of-self
invariant_of-self c =
    let it = c.args.self.now in
    let noted = claim_noted it.noted.names c.note-2.new.self.names (as_bytes c.args.name.now) c.as_slice.result.now c.args.length (search rules) (search rules) (search rules) in
    record {
      file_count = c.saturating_add-self.ensures ∙ ap (λ n. sum64 n 1) it.file_count ∙ sym (ap files_in noted ∙ files_more (claims_by it.noted.names) (claim (as_bytes c.args.name.now) c.args.length));
      byte_count = c.saturating_add-self-2.ensures ∙ ap (λ n. sum64 n c.args.length) it.byte_count ∙ sym (ap bytes_in noted ∙ bytes_more (claims_by it.noted.names) (claim (as_bytes c.args.name.now) c.args.length));
    }

pub returns-clause-noted : goal.returns-clause-noted
returns-clause-noted c =
    claim_noted c.args.self.now.noted.names c.note-2.new.self.names (as_bytes c.args.name.now) c.as_slice.result.now c.args.length (search rules) (search rules) (search rules)
