use Rattle.std.proofs.Common.{rules, ◌≡◌, ℕ, List, [], length, refl, ap, arith}
use Rattle.std.specs.Prelude.{Ok, Err}
use Rattle.uimg_legacy.specs.declared.fault.Fault.{TheVariants.{Read, Put}}
use Rattle.uimg_legacy.proofs.ToldLaws.{ends_before, ends_by, ends_untold, ends_told}
use Rattle.uimg_legacy.proofs.{SourceLaws.{honest_still, same_still}, ExtractedLaws.extracts}
use Rattle.uimg_legacy.proofs.UnpackLaws.{is_spelled, unpack_truncated, are_right, keeps_right, unpacks, stops, keeps_none, keeps_failed, unpacks_failed, ends_of, ends_kept, work_known}
use Rattle.uimg_legacy.proofs.unpacking.unpack.Goals as goal

pub returns-then-branch-header-clause-told : goal.returns-then-branch-header-clause-told
returns-then-branch-header-clause-told g c = λ honest known.
    let long = ap (λ (xs : List ℕ). length xs) c.read_header.ensures.reads.uses.same.bytes in
    (unpack_truncated c.args.only _ c.in_ok-header.header (c.in_ok-header.ensures.gives honest) (omega (arith, c.in_ok-size.ensures.length, long, c.if-branch-header.true)), refl)

pub returns-in_err-right-clause-takes : goal.returns-in_err-right-clause-takes
returns-in_err-right-clause-takes g c =
    let same = same_still c.read_header.ensures.reads.uses.same c.size.ensures.same in
    let long = ap (λ (xs : List ℕ). length xs) c.read_header.ensures.reads.uses.same.bytes in
    record {
      uses = record {
        same = search rules;
        asked = λ honest.
            let work = work_known _ _ c.in_ok-header.header same (c.in_ok-header.ensures.gives honest) (omega (arith, c.in_ok-size.ensures.length, long, c.if-branch-header.false)) in
            omega (arith, work, c.read_header.ensures.reads.uses.asked, c.size.ensures.asked, c.take_data.ensures.takes.uses.asked (honest_still same honest));
        failures = search rules;
      };
      room = search rules;
      no_making = search rules;
    }

pub returns-in_err-right-clause-told : goal.returns-in_err-right-clause-told
returns-in_err-right-clause-told g c = λ honest known.
    let same = same_still c.read_header.ensures.reads.uses.same c.size.ensures.same in
    let long = ap (λ (xs : List ℕ). length xs) c.read_header.ensures.reads.uses.same.bytes in
    let fault = c.in_err-right.field-0.0 in
    let is : c.from_residual-in_err-right.result ≡ Err fault = search rules in
    stops c.args.only g.T.PartTaker.honest c.in_ok-header.header _ _ c.from_residual-in_err-right.result fault _ _ _ _ is same honest (c.in_ok-header.ensures.gives honest) (omega (arith, c.in_ok-size.ensures.length, long, c.if-branch-header.false)) c.in_err-right.ensures.taken (c.take_data.ensures.takes.kept known)

pub settle-requires : goal.settle-requires
settle-requires g c = λ right known.
    are_right c.args.only g.T.PartTaker.honest c.in_ok-header.header _ c.in_ok-right.right _ _ (is_spelled c.in_ok-header.header (omega arith) (omega arith) (omega arith) (omega arith) (omega arith) (omega arith)) known (c.requires known) c.in_ok-right.ensures.taken right

pub returns-in_err-settle-clause-takes : goal.returns-in_err-settle-clause-takes
returns-in_err-settle-clause-takes g c =
    let same = same_still c.read_header.ensures.reads.uses.same c.size.ensures.same in
    let long = ap (λ (xs : List ℕ). length xs) c.read_header.ensures.reads.uses.same.bytes in
    record {
      uses = record {
        same = search rules;
        asked = λ honest.
            let work = work_known _ _ c.in_ok-header.header same (c.in_ok-header.ensures.gives honest) (omega (arith, c.in_ok-size.ensures.length, long, c.if-branch-header.false)) in
            omega (arith, work, c.read_header.ensures.reads.uses.asked, c.size.ensures.asked, c.take_data.ensures.takes.uses.asked (honest_still same honest));
        failures = search rules;
      };
      room = search rules;
      no_making = search rules;
    }

pub returns-clause-takes : goal.returns-clause-takes
returns-clause-takes g c =
    let same = same_still c.read_header.ensures.reads.uses.same c.size.ensures.same in
    let long = ap (λ (xs : List ℕ). length xs) c.read_header.ensures.reads.uses.same.bytes in
    record {
      uses = record {
        same = search rules;
        asked = λ honest.
            let work = work_known _ _ c.in_ok-header.header same (c.in_ok-header.ensures.gives honest) (omega (arith, c.in_ok-size.ensures.length, long, c.if-branch-header.false)) in
            omega (arith, work, c.read_header.ensures.reads.uses.asked, c.size.ensures.asked, c.take_data.ensures.takes.uses.asked (honest_still same honest));
        failures = search rules;
      };
      room = search rules;
      no_making = search rules;
    }

pub returns-in_err-header-clause-right : goal.returns-in_err-header-clause-right
returns-in_err-header-clause-right g c = λ known.
    let fault = c.in_err-header.field-0.0 in
    let is : c.from_residual.result ≡ Err fault = search rules in
    keeps_none c.args.only c.from_residual.result fault _ _ is refl

pub returns-in_err-right-clause-right : goal.returns-in_err-right-clause-right
returns-in_err-right-clause-right g c = λ known.
    let fault = c.in_err-right.field-0.0 in
    let is : c.from_residual-in_err-right.result ≡ Err fault = search rules in
    keeps_none c.args.only c.from_residual-in_err-right.result fault _ _ is (c.take_data.ensures.takes.kept known)

pub returns-in_err-settle-clause-right : goal.returns-in_err-settle-clause-right
returns-in_err-settle-clause-right g c = λ known.
    let is : c.from_residual-in_err-settle.result ≡ Err Put = search rules in
    keeps_failed c.in_err-settle.field-0.0 c.args.only g.T.PartTaker.honest c.in_ok-header.header _ c.in_ok-right.right c.from_residual-in_err-settle.result _ _ _ _ _ is (is_spelled c.in_ok-header.header (omega arith) (omega arith) (omega arith) (omega arith) (omega arith) (omega arith)) known (c.requires known) c.in_ok-right.ensures.taken (c.take_data.ensures.takes.kept known) (c.in_err-settle.ensures.kept known)

pub returns-in_err-settle-clause-told : goal.returns-in_err-settle-clause-told
returns-in_err-settle-clause-told g c = λ honest known.
    let same = same_still c.read_header.ensures.reads.uses.same c.size.ensures.same in
    let long = ap (λ (xs : List ℕ). length xs) c.read_header.ensures.reads.uses.same.bytes in
    let is : c.from_residual-in_err-settle.result ≡ Err Put = search rules in
    unpacks_failed c.in_err-settle.field-0.0 c.args.only g.T.PartTaker.honest c.in_ok-header.header _ _ c.in_ok-right.right c.from_residual-in_err-settle.result _ _ _ _ _ is same honest (c.in_ok-header.ensures.gives honest) (omega (arith, c.in_ok-size.ensures.length, long, c.if-branch-header.false)) known (c.requires known) c.in_ok-right.ensures.taken (c.take_data.ensures.takes.kept known) (c.in_err-settle.ensures.kept known)

pub returns-clause-right : goal.returns-clause-right
returns-clause-right g c = λ known.
    keeps_right c.settle.result c.args.only g.T.PartTaker.honest c.in_ok-header.header _ c.in_ok-right.right c.in_ok-settle.field-0 _ _ _ _ _ (is_spelled c.in_ok-header.header (omega arith) (omega arith) (omega arith) (omega arith) (omega arith) (omega arith)) known (c.requires known) c.in_ok-right.ensures.taken (c.take_data.ensures.takes.kept known) (c.in_ok-settle.ensures.kept known)

pub returns-clause-told : goal.returns-clause-told
returns-clause-told g c = λ honest known.
    let same = same_still c.read_header.ensures.reads.uses.same c.size.ensures.same in
    let long = ap (λ (xs : List ℕ). length xs) c.read_header.ensures.reads.uses.same.bytes in
    unpacks c.settle.result c.args.only g.T.PartTaker.honest c.in_ok-header.header _ _ c.in_ok-right.right c.in_ok-settle.field-0 _ _ _ _ _ same honest (c.in_ok-header.ensures.gives honest) (omega (arith, c.in_ok-size.ensures.length, long, c.if-branch-header.false)) known (c.requires known) c.in_ok-right.ensures.taken (c.take_data.ensures.takes.kept known) (c.in_ok-settle.ensures.kept known)

pub returns-then-branch-header-clause-ends : goal.returns-then-branch-header-clause-ends
returns-then-branch-header-clause-ends g c = λ honest.
    let long = ap (λ (xs : List ℕ). length xs) c.read_header.ensures.reads.uses.same.bytes in
    unpack_truncated c.args.only _ c.in_ok-header.header (c.in_ok-header.ensures.gives honest) (omega (arith, c.in_ok-size.ensures.length, long, c.if-branch-header.true))

pub returns-in_err-right-clause-ends : goal.returns-in_err-right-clause-ends
returns-in_err-right-clause-ends g c = λ honest.
    let same = same_still c.read_header.ensures.reads.uses.same c.size.ensures.same in
    let long = ap (λ (xs : List ℕ). length xs) c.read_header.ensures.reads.uses.same.bytes in
    let fault = c.in_err-right.field-0.0 in
    let is : c.from_residual-in_err-right.result ≡ Err fault = search rules in
    ends_of c.from_residual-in_err-right.result _ [] []
    (stops c.args.only g.T.PartTaker.honest c.in_ok-header.header _ _ c.from_residual-in_err-right.result fault _ _ [] [] is same honest (c.in_ok-header.ensures.gives honest) (omega (arith, c.in_ok-size.ensures.length, long, c.if-branch-header.false)) c.in_err-right.ensures.taken refl)

pub returns-clause-ends : goal.returns-clause-ends
returns-clause-ends g c = λ honest.
    let same = same_still c.read_header.ensures.reads.uses.same c.size.ensures.same in
    let long = ap (λ (xs : List ℕ). length xs) c.read_header.ensures.reads.uses.same.bytes in
    ends_kept c.args.only g.T.PartTaker.honest c.in_ok-header.header _ _ c.in_ok-right.right c.in_ok-settle.field-0 _ _ same honest (c.in_ok-header.ensures.gives honest) (omega (arith, c.in_ok-size.ensures.length, long, c.if-branch-header.false)) c.in_ok-right.ensures.taken c.in_ok-settle.ensures.is

pub returns-clause-extracts : goal.returns-clause-extracts
returns-clause-extracts g c = λ honest known. extracts c.args.only _ (Ok c.in_ok-settle.field-0) _ _ (returns-clause-told g c honest known)

pub returns-in_err-header-clause-tells : goal.returns-in_err-header-clause-tells
returns-in_err-header-clause-tells g c = λ known.
    let fault = c.in_err-header.field-0.0 in
    let is : c.from_residual.result ≡ Err fault = search rules in
    ends_before c.args.only c.from_residual.result fault _ _ is refl

pub returns-in_err-size-clause-tells : goal.returns-in_err-size-clause-tells
returns-in_err-size-clause-tells g c = λ known.
    let is : c.from_residual-in_err-size.result ≡ Err Read = search rules in
    ends_before c.args.only c.from_residual-in_err-size.result Read _ _ is refl

pub returns-in_err-right-clause-tells : goal.returns-in_err-right-clause-tells
returns-in_err-right-clause-tells g c = λ known.
    let fault = c.in_err-right.field-0.0 in
    let is : c.from_residual-in_err-right.result ≡ Err fault = search rules in
    ends_by c.args.only c.from_residual-in_err-right.result fault _ _ is (c.in_err-right.ensures.told known)

pub returns-in_err-settle-clause-tells : goal.returns-in_err-settle-clause-tells
returns-in_err-settle-clause-tells g c = λ known.
    let is : c.from_residual-in_err-settle.result ≡ Err Put = search rules in
    ends_untold c.args.only c.in_ok-header.header.dcrc c.in_ok-right.right c.in_ok-right.right c.from_residual-in_err-settle.result _ _ _ is (c.in_ok-right.ensures.told known) (c.in_err-settle.ensures.told known)

pub returns-clause-tells : goal.returns-clause-tells
returns-clause-tells g c = λ known.
    ends_told c.args.only c.in_ok-header.header.dcrc c.in_ok-right.right c.in_ok-right.right c.in_ok-settle.field-0 _ _ _ c.in_ok-settle.ensures.is (c.in_ok-right.ensures.told known) (c.in_ok-settle.ensures.told known)
