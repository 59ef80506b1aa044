use Rattle.std.proofs.Common.{rules, ◌≡◌, ℕ, length, take, subst, is_some}
use Rattle.uimg_base.specs.{Device.Device, Ranges.TakesRange, Streams.stream_bytes_of}
use Rattle.uimg_base.proofs.{RangeLaws.taken_of_same, AheadLaws.first_from}
use Rattle.uimg_base.proofs.seek_source.SeekSourceSource.take_some.Goals as goal

pub returns-then-not-has-clause-taken : goal.returns-then-not-has-clause-taken
returns-then-not-has-clause-taken g c =
    let size : length (take c.min-next.result c.args.window.now) ≡ c.min-next.result = search rules in
    let stream = g.F.SeekRead.stream c.has.new.file in
    let device : Device = record { bytes = stream_bytes_of c.has.new.self.length stream; honest = is_some stream; asked = c.has.new.self.asked; failures = c.has.new.self.failures } in
    let Taken : ℕ → Type 0 = λ n. TakesRange g.M.Sums.fed device c.args.at n c.args.sums.now c.take_at.new.sums c.args.out.now c.take_at.new.out in
    taken_of_same {e = device} (record { bytes = search rules; honest = search rules }) (subst Taken size c.in_ok-take_at.ensures.taken)

pub returns-clause-taken : goal.returns-clause-taken
returns-clause-taken g c =
    let held = first_from (g.F.SeekRead.stream c.has.new.file) c.args.at c.in_ok-taken.taken c.up_to.result.now c.in_ok-taken.ensures.count.1 (c.up_to.ensures.part _ c.has.ensures.piece) in
    record {
      sums = record { piece = take c.in_ok-taken.taken c.up_to.result.now; size = search rules; summed = c.in_ok-taken.ensures.fed; right = search (rules, held) };
      wrote = c.in_ok-taken.ensures.put;
    }
