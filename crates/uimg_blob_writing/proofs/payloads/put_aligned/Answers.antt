use Rattle.std.proofs.Common.{true, false, ℕ, subst}
use Rattle.uimg_base.specs.Writing.{Writes}
use Rattle.uimg_blob_writing.specs.{declared.fault.TreeFault.TheVariants.Put, Alignment.padding_by}
use Rattle.uimg_blob_writing.proofs.WritesLaws.{refused, ◌▶◌, all-put, prefix-put}
use Rattle.uimg_blob_writing.proofs.payloads.put_aligned.Goals as goal

pub returns-in_err-put_gap : goal.returns-in_err-put_gap
returns-in_err-put_gap g c =
    let end = subst (λ (n : ℕ). Writes true c.put_value.new.out c.put_gap.new.out (padding_by c.args.align n)) c.value_size.ensures c.in_err-put_gap.ensures in
    refused g.F.Opened.Source.steady _ Put _ _ _ _ _ c.from_residual-in_err-put_gap.ensures.1 (c.in_ok-put_value.ensures ▶ prefix-put end)

pub returns : goal.returns
returns g c =
    let end = subst (λ (n : ℕ). Writes false c.put_value.new.out c.put_gap.new.out (padding_by c.args.align n)) c.value_size.ensures c.in_ok-put_gap.ensures in
    c.in_ok-put_value.ensures ▶ all-put end
