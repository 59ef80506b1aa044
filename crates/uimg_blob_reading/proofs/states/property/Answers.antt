use Rattle.std.proofs.Common.{◌∙◌, ◌+◌, sym, ap, ℕ, arith}
use Rattle.uimg_blob_reading.proofs.{PassLaws.prop_goes, ActLaws.{property_does, same_adds}}
use Rattle.uimg_blob_reading.proofs.states.property.Goals as goal

pub returns : goal.returns
returns g c =
    let s = c.args.state in
    property_does s _ c.args.size c.args.key c.args.room.now c.keep.new.room (ap (λ (n : ℕ). s.at + 12 + n) c.up4.ensures) (same_adds c.args.room.now c.keep.new.room c.keep.ensures.size)
    (λ p x h place long key.
    prop_goes p s c.args.room.now.entries c.keep.new.room.entries c.in-Some.number x (s.at + 12 + c.up4.result) h (sym c.in-Some.is ∙ c.bare.ensures.bare p h) (omega (arith, place))
    (c.keep.ensures.kept x key place long) c.keep.ensures.size.count (omega arith))
