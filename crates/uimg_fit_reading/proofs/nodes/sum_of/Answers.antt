use Rattle.std.proofs.Common.{sym, ◌∙◌}
use Rattle.uimg_fit_reading.proofs.HashLaws.{sum_is_hash, sum_is_signature, sum_is_none}
use Rattle.uimg_fit_reading.proofs.nodes.sum_of.Goals as goal

pub returns-then-is_hash : goal.returns-then-is_hash
returns-then-is_hash g c = λ t indexed found n. sum_is_hash t _ _ _ found indexed n (λ row is. sym c.if-is_hash.true ∙ c.is_hash.ensures row is)

pub returns-then-is_signature : goal.returns-then-is_signature
returns-then-is_signature g c = λ t indexed found n.
    sum_is_signature t _ _ _ found indexed n (λ row is. sym c.if-is_hash.false ∙ c.is_hash.ensures row is) (λ row is. sym c.if-is_signature.true ∙ c.is_signature.ensures row is)

pub returns-else-is_signature : goal.returns-else-is_signature
returns-else-is_signature g c = λ t indexed found n.
    sum_is_none t _ _ _ found indexed n (λ row is. sym c.if-is_hash.false ∙ c.is_hash.ensures row is) (λ row is. sym c.if-is_signature.false ∙ c.is_signature.ensures row is)
