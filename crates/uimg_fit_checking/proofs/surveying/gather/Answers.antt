use Rattle.std.proofs.Common.{◌≤◌, ℕ, sym, subst, le_refl}
use Rattle.uimg_fit_reading.specs.Nodes.{InFile}
use Rattle.uimg_fit_checking.proofs.surveying.gather.Goals as goal

pub returns-clause-inside : goal.returns-clause-inside
returns-clause-inside g c = λ size ends.
    let here : InFile c.totalsize.result c.args.blob.now c.args.room.now.entries = record { indexed = ends.indexed; within = subst (λ (n : ℕ). n ≤ c.totalsize.result) c.totalsize.ensures (le_refl c.totalsize.result) } in
    record {
      blob = subst (λ (n : ℕ). n ≤ size) (sym c.totalsize.ensures) ends.within;
      description = c.root_value.ensures.inside c.totalsize.result here;
      timestamp = c.root_value-2.ensures.inside c.totalsize.result here;
      images = c.in_ok-images.ensures.inside c.totalsize.result here;
      preferred = (c.in_ok-preferred.ensures.inside c.totalsize.result here).0;
      configurations = (c.in_ok-preferred.ensures.inside c.totalsize.result here).1;
    }
