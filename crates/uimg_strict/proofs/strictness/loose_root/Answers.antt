use Rattle.std.proofs.Common.{ℕ, List, Option, Some, codes, sym, ap, ◌∙◌}
use Rattle.uimg_blob_reading.specs.Spots.{spots}
use Rattle.uimg_fit_base.specs.Files.{root_own, value_bytes, bytes_in}
use Rattle.uimg_strict.specs.Looseness.{LooseSaid, loose_root}
use Rattle.uimg_strict.proofs.ImageLaws.{no_description, no_timestamp, no_looseness}
use Rattle.uimg_strict.proofs.strictness.loose_root.Goals as goal

pub returns-then-is_none : goal.returns-then-is_none
returns-then-is_none g c = λ file t read.
    let time = value_bytes (root_own (spots t)) (codes "timestamp") in
    ap (λ (l : LooseSaid). Some l) c.in_root.ensures
    ∙ no_description file c.root_value.result time c.if-is_none.ensures
    ∙ ap (λ (d : Option (List ℕ)). loose_root d time) (sym (c.root_value.ensures.bytes file t read))

pub returns-then-is_none-2 : goal.returns-then-is_none-2
returns-then-is_none-2 g c = λ file t read.
    ap (λ (l : LooseSaid). Some l) c.in_root-then-is_none-2.ensures
    ∙ no_timestamp file c.root_value.result c.root_value-2.result c.if-is_none.ensures c.if-is_none-2.ensures
    ∙ ap (λ (d : Option (List ℕ)). loose_root d (bytes_in file c.root_value-2.result)) (sym (c.root_value.ensures.bytes file t read))
    ∙ ap (λ (d : Option (List ℕ)). loose_root (value_bytes (root_own (spots t)) (codes "description")) d) (sym (c.root_value-2.ensures.bytes file t read))

pub returns : goal.returns
returns g c = λ file t read.
    no_looseness file c.root_value.result c.root_value-2.result c.if-is_none.ensures c.if-is_none-2.ensures
    ∙ ap (λ (d : Option (List ℕ)). loose_root d (bytes_in file c.root_value-2.result)) (sym (c.root_value.ensures.bytes file t read))
    ∙ ap (λ (d : Option (List ℕ)). loose_root (value_bytes (root_own (spots t)) (codes "description")) d) (sym (c.root_value-2.ensures.bytes file t read))
