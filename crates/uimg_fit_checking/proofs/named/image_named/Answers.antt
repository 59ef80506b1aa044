use Rattle.std.proofs.Common.{rules, ◌≡◌, ℕ, Option, None, true, false, sym, ◌∙◌, subst}
use Rattle.uimg_blob_reading.specs.Roles.{in_images}
use Rattle.uimg_fit_checking.proofs.NamedLaws.{LeftNamed, all_named, is_the_named, passes_named, none_named}
use Rattle.uimg_fit_checking.proofs.named.image_named.Goals as goal

pub loop-next-init : goal.loop-next-init
loop-next-init g c = record {
  within = search rules;
  left = λ t h. all_named t _ _ (c.in_ok-next.ensures.told t h.indexed);
}

pub returns-then-is_named-clause-told : goal.returns-then-is_named-clause-told
returns-then-is_named-clause-told g c = λ t h.
    let is : c.is_named.result ≡ true = search rules in
    is_the_named t _ c.in-Some.image
    (subst (λ (o : Option ℕ). LeftNamed t c.args.name.now o) c.in-Some.is (c.loop-next.invariant.left t h))
    (λ image n. sym is ∙ c.is_named.ensures t h image n)

pub loop-next-preserved : goal.loop-next-preserved
loop-next-preserved g c = record {
  within = search rules;
  left = λ t h.
      let is : c.is_named.result ≡ false = search rules in
      passes_named t _ c.in-Some.image _
      (subst (λ (o : Option ℕ). LeftNamed t c.args.name.now o) c.in-Some.is (c.loop-next.invariant.left t h))
      (λ image n. sym is ∙ c.is_named.ensures t h image n)
      (c.next_of-next.ensures.next t h.indexed in_images);
}

pub returns-clause-told : goal.returns-clause-told
returns-clause-told g c = λ t h.
    let is : c.loop-next.next ≡ None = search rules in
    none_named t _ (subst (λ (o : Option ℕ). LeftNamed t c.args.name.now o) is (c.loop-next.invariant.left t h))
