use Rattle.std.proofs.Common.{rules, ◌≡◌, ◌++◌, length, map, Ok, ◌∙◌, ap, sym, refl, arith}
use Rattle.uimg_legacy.specs.{Header.{header, spelled}, Parts.has_parts, BuildingSteps.SpellsHeader}
use Rattle.uimg_legacy.specs.Building.{data_for, header_for, legacy_image}
use Rattle.uimg_legacy.specs.Devices.{bytes_of, AreHonest}
use Rattle.uimg_legacy.proofs.DevicesLaws.{honest_then, count_bytes, uses_then, unasked}
use Rattle.uimg_legacy.proofs.{ResultLaws.OnOk-always, ReadsBackLaw.reads_back}
use Rattle.uimg_legacy.proofs.BuildingLaws.{parts_small, tells_image}
use Rattle.uimg_legacy.proofs.building.build.Goals as goal

pub head_of-requires : goal.head_of-requires
head_of-requires g c =
    let kind = c.args.options.now.kind in
    let size = c.in_ok-size.ensures.measures.1 in
    let same = c.measure.ensures.uses.same.bytes in
    rw same (record { small = parts_small (has_parts kind) _ (omega (arith, size)); size = size })

pub put_image-requires : goal.put_image-requires
put_image-requires g c =
    let size = c.in_ok-size.ensures.measures.1 in
    let same = c.head_of.ensures.uses.same.bytes ∙ c.measure.ensures.uses.same.bytes in
    rw same (record { small = parts_small (has_parts c.args.options.now.kind) _ (omega (arith, size)) })

pub returns-clause-builds : goal.returns-clause-builds
returns-clause-builds g c = record {
  uses = uses_then (unasked c.in_ok-size.ensures.uses) (uses_then c.in_ok-head.ensures.uses c.put_image.ensures.uses);
  faults = search rules;
  untouched = search rules;
}

-- the header's bytes, of the parts as they were at first
head : (g : _) (c : goal.After-parts-3-1 g) → AreHonest (map g.S.Source.device c.args.parts.now) → SpellsHeader c.in_ok-head.head (header_for c.args.options.now (data_for c.args.options.now.kind (bytes_of (map g.S.Source.device c.args.parts.now))))
head g c honest =
    let measured = c.measure.ensures.uses.same in
    rw measured.bytes at c.in_ok-head.ensures.answer (honest_then _ _ measured honest)

pub returns-clause-told : goal.returns-clause-told
returns-clause-told g c = λ honest.
    let options = c.args.options.now in
    let old = map g.S.Source.device c.args.parts.now in
    let payload = data_for options.kind (bytes_of old) in
    let same = (uses_then (unasked c.in_ok-size.ensures.uses) c.in_ok-head.ensures.uses).same in
    let image : c.in_ok-head.head ++ data_for options.kind (bytes_of old) ≡ legacy_image options payload = rw (head g c honest).spelled refl in
    let written = rw (c.has_parts.ensures, same.bytes, image) at c.put_image.ensures.written (honest_then _ _ same honest) in
    tells_image c.put_image.result options (bytes_of old) payload c.args.out.now c.put_image.new.out c.in_ok-size.ensures.measures.0 c.put_image.ensures.accepted written

pub returns-clause-reads_back : goal.returns-clause-reads_back
returns-clause-reads_back g c = λ honest.
    let device = g.S.Source.device in
    let options = c.args.options.now in
    let parts = bytes_of (map device c.args.parts.now) in
    let payload = data_for options.kind parts in
    let is = head g c honest in
    let read : header (spelled (header_for options payload)) ≡ Ok (header_for options payload) = rw is.spelled at is.read in
    let long : length (spelled (header_for options payload)) ≡ 64 = sym (ap length is.spelled) ∙ omega arith in
    let back = reads_back options parts payload c.in_ok-size.ensures.measures.0 read long (λ one. count_bytes device c.args.parts.now ∙ c.requires.single one) in
    OnOk-always c.put_image.result _ back
