use Rattle.std.proofs.Common.{rules, ℕ, Option, subst, sym, ◌∙◌}
use Rattle.uimg_fit_reading.specs.Nodes.{HashesFrom}
use Rattle.uimg_fit_reading.proofs.HashLaws.{first_is, passed, none_is}
use Rattle.uimg_fit_reading.proofs.nodes.hash_from.Goals as goal

pub returns-then-is_hash-clause-hashes : goal.returns-then-is_hash-clause-hashes
returns-then-is_hash-clause-hashes g c = λ t indexed hs from.
    first_is t _ _ c.in-Some.child hs indexed (subst (λ (o : Option ℕ). HashesFrom t o hs) c.in-Some.is (c.loop-next.invariant.left t indexed hs from))
    (λ row is. sym c.if-is_hash.true ∙ c.is_hash.ensures row is)

pub loop-next-preserved : goal.loop-next-preserved
loop-next-preserved g c = record {
  within = search rules;
  later = search rules;
  left = λ t indexed hs from.
      passed t _ _ c.in-Some.child c.next_sibling-next.result hs indexed
      (subst (λ (o : Option ℕ). HashesFrom t o hs) c.in-Some.is (c.loop-next.invariant.left t indexed hs from))
      (λ row is. sym c.if-is_hash.false ∙ c.is_hash.ensures row is) c.next_sibling-next.ensures.sibling;
}

pub returns-clause-hashes : goal.returns-clause-hashes
returns-clause-hashes g c = λ t indexed hs from.
    none_is t hs (subst (λ (o : Option ℕ). HashesFrom t o hs) c.in_default.is (c.loop-next.invariant.left t indexed hs from))
