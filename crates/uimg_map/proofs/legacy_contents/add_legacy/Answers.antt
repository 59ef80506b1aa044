use Rattle.uimg_map.proofs.LegacyLaws.{header_then, header_refused}
use Rattle.uimg_map.proofs.legacy_contents.add_legacy.Goals as goal

pub returns-in_ok-add_data-in-Ok : goal.returns-in_ok-add_data-in-Ok
returns-in_ok-add_data-in-Ok g c =
    header_then c.in-Ok.header c.in-Ok.ensures.reads.uses c.in-Ok.ensures.gives c.requires c.in_ok-add_header-in-Ok.ensures.size c.in_ok-add_header-in-Ok.ensures.grows c.in_ok-add_data-in-Ok.ensures

pub returns-in_ok-add_refused-in-Err-Legacy : goal.returns-in_ok-add_refused-in-Err-Legacy
returns-in_ok-add_refused-in-Err-Legacy g c =
    let arm = c.in-Err-Legacy in
    header_refused arm.fault (rw arm.field-0-is at arm.ensures.reads.uses) (rw arm.field-0-is at arm.ensures.gives) c.in_ok-add_refused-in-Err-Legacy.ensures
