use Rattle.uimg_legacy.proofs.DevicesLaws.{bytes_at, same_after, asked_after, rises_after}
use Rattle.uimg_legacy.proofs.one_part.part_size.Goals as goal

pub returns : goal.returns
returns g c =
    let device = g.S.Source.device in
    let parts = c.args.parts.now in
    record {
      uses = record {
        same = same_after device parts c.args.i c.index-parts-i.result c.size.new.self c.requires c.size.ensures.same;
        failures = rises_after device _ parts c.args.i c.index-parts-i.result c.size.new.self c.requires c.size.ensures.failures;
        asked = asked_after device parts c.args.i c.index-parts-i.result c.size.new.self c.requires c.size.ensures.asked;
      };
      answer = rw (bytes_at device parts c.args.i c.index-parts-i.result c.requires) c.size.ensures.length;
    }
