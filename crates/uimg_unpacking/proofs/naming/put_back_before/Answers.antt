use Rattle.std.proofs.lemmas.Bool.{le-ltb}
use Rattle.uimg_unpacking.proofs.naming.put_back_before.Goals as goal

pub returns-clause-told : goal.returns-clause-told
returns-clause-told g c = λ terms inside. rw (le-ltb _ _ c.if-before-number.false) (c.put_back.ensures.told terms inside)
