use Rattle.std.proofs.Common.{rules, ◌∙◌, ℕ, Option, not, ap, subst}
use Rattle.uimg_blob_reading.specs.Roles.{in_images}
use Rattle.uimg_fit_checking.proofs.CheckCountLaws.{LeftHashed, all_hashed, next_hashed, is_unhashed, none_unhashed}
use Rattle.uimg_fit_checking.proofs.checking.all_right.first_unhashed.Goals as goal

pub loop-next-init : goal.loop-next-init
loop-next-init g c = record {
  within = search rules;
  left = λ t h found from. all_hashed t found _ from;
}

pub returns-then-is_none-clause-told : goal.returns-then-is_none-clause-told
returns-then-is_none-clause-told g c = λ file t read found from.
    is_unhashed t found c.in-Some.image c.first_hash.result _
    (subst (λ (x : Option ℕ). LeftHashed t found x) c.in-Some.is (c.loop-next.invariant.left t read.indexed found from))
    (c.is_none.ensures ∙ ap not c.if-is_none.true)
    (λ image n. c.first_hash.ensures.hashes t read.indexed image n)
    (λ image n. c.name_of.ensures.name file t read in_images image n)

pub loop-next-preserved : goal.loop-next-preserved
loop-next-preserved g c = record {
  within = search rules;
  left = λ t h found from.
      next_hashed t found c.in-Some.image c.first_hash.result _
      (subst (λ (x : Option ℕ). LeftHashed t found x) c.in-Some.is (c.loop-next.invariant.left t h found from))
      (c.is_none.ensures ∙ ap not c.if-is_none.false)
      (λ image n. c.first_hash.ensures.hashes t h image n)
      (c.next_of-next.ensures.next t h in_images);
}

pub returns-clause-told : goal.returns-clause-told
returns-clause-told g c = λ file t read found from.
    none_unhashed t found c.loop-next.next (search rules) (c.loop-next.invariant.left t read.indexed found from)
