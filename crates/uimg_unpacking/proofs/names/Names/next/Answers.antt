use Rattle.uimg_unpacking.proofs.NameLaws.{gives_own, gives_number, some_by, none_by, ok_by}
use Rattle.uimg_unpacking.proofs.names.Names.next.Goals as goal

pub returns-in-Some : goal.returns-in-Some
returns-in-Some c =
    let own = some_by _ _ c.in_ok-text.field-0 c.in-Some.text c.in-Some.is c.in_ok-text.ensures in
    gives_own _ _ _ _ own.0 own.1

pub returns-in-None : goal.returns-in-None
returns-in-None c =
    let another = none_by _ _ c.in_ok-text.field-0 c.in-None.is c.in_ok-text.ensures in
    ok_by _ _ c.numbered.result (λ text. gives_number _ _ _ _ _ another.0 another.1) c.numbered.ensures
