use Rattle.std.proofs.Common.{rules, ◌≡◌, ◌∙◌, ap, refl, true, string_bytes}
use Rattle.std.specs.declared.alloc.Global.{Global}
use Rattle.uimg_world.specs.Deeds.{answer_of}
use Rattle.uimg_unpacking.specs.Places.{is_temporary_file, is_temporary_folder, terms_of}
use Rattle.uimg_unpacking.proofs.Placing.{each_of, no_more, removed_within, unmade_within, ◌◁◌}
use Rattle.uimg_unpacking.proofs.staging.removing.clear.Goals as goal

pub loop-path-init : goal.loop-path-init
loop-path-init g c = λ is_naming. no_more (terms_of c.args.folder.now) is_naming _ _ refl

pub loop-path-preserved : goal.loop-path-preserved
loop-path-preserved g c = λ is_naming.
    let folder = c.args.folder.now.path.now in
    let path = c.path-item.result in
    let inside : is_temporary_file folder (string_bytes path) ≡ true = search (rules, each_of (λ path. is_temporary_file folder (string_bytes {Z = Global} path))) in
    let new : is_temporary_file folder c.as_str.result.now ≡ true = ap (is_temporary_file folder) c.as_str.ensures.value ∙ inside in
    removed_within (terms_of c.args.folder.now) is_naming c.as_str.result.now (answer_of c.remove_file.result) (g.W.World.trace c.loop-path.world) (g.W.World.trace c.remove_file.new.self) new c.remove_file.ensures ◁ c.loop-path.invariant is_naming

pub returns : goal.returns
returns g c = λ is_naming.
    let folder = c.args.folder.now.path.now in
    let inside : is_temporary_folder folder c.as_str-2.result.now ≡ true = search rules in
    unmade_within (terms_of c.args.folder.now) is_naming c.as_str-2.result.now (answer_of c.remove_dir.result) (g.W.World.trace c.loop-path.world) (g.W.World.trace c.remove_dir.new.self) inside c.remove_dir.ensures ◁ c.loop-path.invariant is_naming
