-- The request of a build.
use Rattle.std.specs.{Prelude.{◌≡◌, ◌++◌, ◌==◌, ℕ, List, [], ◌∷◌, map, if◌then◌else◌}, List.list_any}
use Rattle.uimg_fit_base.specs.declared.placement.Placement.{Placement}
use Rattle.uimg_legacy.specs.declared.options.Options.{Options}
use Rattle.uimg_requests.specs.declared.make_command.MakeCommand.{MakeCommand}
use Rattle.uimg_requests.specs.declared.make_command.MakeCommand.TheVariants.{Parts, Tree}

-- a legacy image with these fields, of the files with these names
abbrev pub AsksParts : MakeCommand → Options → List (List ℕ) → Type 0
AsksParts (Parts options files) fields names =
    (options ≡ fields) × (map (λ name. name.items) files.items ≡ names)
AsksParts (Tree source placement) fields names = ⊥

-- a FIT image with this placement, of the source whose name in this folder is this path
abbrev pub AsksSource : MakeCommand → List ℕ → List ℕ → Placement → Type 0
AsksSource (Parts options files) folder path place = ⊥
AsksSource (Tree source placement) folder path place =
    (folder ++ source.items ≡ path) × (placement ≡ place)

-- the bytes of a path up to its last slash, and that slash; none if it has no slash
unfoldable pub folder_of : List ℕ → List ℕ
folder_of [] = []
folder_of (byte ∷ more) =
    if list_any (λ b. b == 47) (byte ∷ more) then byte ∷ folder_of more else []
