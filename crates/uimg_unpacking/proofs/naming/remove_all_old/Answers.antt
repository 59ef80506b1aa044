use Rattle.std.proofs.Common.{rules, ◌≡◌, ◌∙◌, ◌++◌, bytes_eq, codes, not, string_bytes, true}
use Rattle.std.specs.List.{list_all}
use Rattle.uimg_unpacking.specs.Places.{is_begun_in}
use Rattle.uimg_unpacking.specs.declared.staged_file.StagedFile.{StagedFile}
use Rattle.uimg_unpacking.proofs.RecoverLaws.{other_name}
use Rattle.uimg_unpacking.proofs.Placing.{each_of, not_eq, ◌◁◌}
use Rattle.uimg_unpacking.proofs.StagedLaws.{none_of_names}
use Rattle.uimg_unpacking.proofs.naming.remove_all_old.Goals as goal

pub returns-in_err-remove_old-clause-within : goal.returns-in_err-remove_old-clause-within
returns-in_err-remove_old-clause-within g c =
    c.remove_old.ensures.within ◁ c.loop-its.invariant.within

pub returns-in_err-remove_old-clause-leaves : goal.returns-in_err-remove_old-clause-leaves
returns-in_err-remove_old-clause-leaves g c = λ start name is other.
    let folder = c.args.folder.now in
    let its = c.its-item.result in
    let inside : is_begun_in folder.path.now its ≡ true = search (rules, each_of (is_begun_in folder.path.now)) in
    let all : list_all (λ it. not (bytes_eq name (string_bytes it.name))) c.args.files.now ≡ true = none_of_names name c.args.files.now other in
    let apart : not (bytes_eq name (string_bytes its.name)) ≡ true = search (rules, all, each_of {X = StagedFile} (λ it. not (bytes_eq name (string_bytes it.name)))) in
    c.remove_old.ensures.leaves start (folder.path.now ++ codes "/" ++ name) (other_name folder.path.now its name inside (not_eq _ apart))
    ∙ c.loop-its.invariant.leaves start name is other

pub loop-its-preserved : goal.loop-its-preserved
loop-its-preserved g c =
    let folder = c.args.folder.now in
    let its = c.its-item.result in
    let inside : is_begun_in folder.path.now its ≡ true = search (rules, each_of (is_begun_in folder.path.now)) in
    record {
      within = c.remove_old.ensures.within ◁ c.loop-its.invariant.within;
      leaves = λ start name is other.
          let all : list_all (λ it. not (bytes_eq name (string_bytes it.name))) c.args.files.now ≡ true = none_of_names name c.args.files.now other in
          let apart : not (bytes_eq name (string_bytes its.name)) ≡ true = search (rules, all, each_of {X = StagedFile} (λ it. not (bytes_eq name (string_bytes it.name)))) in
          c.remove_old.ensures.leaves start (folder.path.now ++ codes "/" ++ name) (other_name folder.path.now its name inside (not_eq _ apart))
          ∙ c.loop-its.invariant.leaves start name is other;
    }

pub returns-clause-leaves : goal.returns-clause-leaves
returns-clause-leaves g c = c.loop-its.invariant.leaves
