use Rattle.std.proofs.Common.{rules, ◌≡◌, ◌∙◌, ap, refl, map, Ok}
use Rattle.uimg_sums.specs.Crc.{crc}
use Rattle.uimg_legacy.specs.{declared.header.Header.Header, Header.spelled, Parts.has_parts}
use Rattle.uimg_legacy.specs.{Building.{data_of, header_for}, Devices.bytes_of}
use Rattle.uimg_legacy.proofs.building.head_of.Goals as goal

pub returns : goal.returns
returns g c = record {
  uses = search rules;
  answer = λ honest.
      let payload = data_of (has_parts c.args.options.now.kind) (bytes_of (map g.S.Source.device c.args.parts.now)) in
      let sum : c.in_ok-dcrc.dcrc ≡ crc payload = c.in_ok-dcrc.ensures.answer honest ∙ rw c.has_parts.ensures refl in
      let same : c.header_for.result ≡ header_for c.args.options.now payload = c.header_for.ensures payload c.requires.size sum in
      record {
        spelled = c.header_bytes.ensures.bytes ∙ ap spelled same;
        read = c.header_bytes.ensures.reads_back ∙ ap (λ (h : Header). Ok h) same;
      };
}
