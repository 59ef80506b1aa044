-- An outcome with a text before its own.
use Rattle.std.proofs.Common.{List, ℕ, Option, Some, None}
use Rattle.uimg_base.specs.Sink.{Sink, AppendsAll, AppendsPrefix}
use Rattle.uimg_base.specs.Outcome.{End, Outcome, after, Tells}
use Rattle.uimg_base.proofs.SinkLaws.{all_then, prefix_all, prefix_then}

-- a text that was appended, and then the outcome of the rest
pub Tells-after : {F : Type 0} (e : Option (End F)) (o : Outcome F) (s m t : Sink) (text : List ℕ) → AppendsAll s m text → Tells e o m t → Tells e (after text o) s t
Tells-after (Some e) o s m t text p q = (q.0, all_then s m t text o.text p q.1)
Tells-after None o s m t text p q = prefix_then s m t text o.text p q

-- what an answer tells, a prefix of its text was appended
pub Tells-prefix : {F : Type 0} (e : Option (End F)) (o : Outcome F) (s t : Sink) → Tells e o s t → AppendsPrefix s t o.text
Tells-prefix (Some e) o s t p = prefix_all s t o.text p.1
Tells-prefix None o s t p = p
