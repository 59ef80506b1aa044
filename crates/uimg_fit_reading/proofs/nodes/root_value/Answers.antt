use Rattle.std.proofs.Common.{rules, List, ap, ◌∙◌}
use Rattle.uimg_blob_reading.specs.{Keys.name_of, Roles.top, Plain.NamedOf, Spots.Spot}
use Rattle.uimg_fit_base.specs.Files.{value_bytes}
use Rattle.uimg_fit_reading.proofs.NodeLaws.{no_root, root_node}
use Rattle.uimg_fit_reading.proofs.nodes.root_value.Goals as goal

pub returns-then-count-eq0-clause-bytes : goal.returns-then-count-eq0-clause-bytes
returns-then-count-eq0-clause-bytes g c = λ file t read.
    ap (λ (own : List (NamedOf Spot)). value_bytes own (name_of c.args.key)) (no_root t _ _ read.indexed (search rules))

pub returns-clause-bytes : goal.returns-clause-bytes
returns-clause-bytes g c = λ file t read.
    let r = root_node t _ _ read.indexed (search rules) in
    ap (λ (own : List (NamedOf Spot)). value_bytes own (name_of c.args.key)) r.own
    ∙ c.value_of.ensures.bytes file t read top r.found r.node c.requires
