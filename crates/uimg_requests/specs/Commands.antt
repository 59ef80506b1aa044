-- What a build needs of its command.
use Rattle.std.{specs.Prelude.{◌≡◌, ◌≢◌, ℕ, List, length, map, false, ⊤}, proofs.Props.props}
use Rattle.uimg_legacy.specs.{Parts.has_parts, declared.options.Options.Options}
use Rattle.uimg_requests.specs.declared.make_command.MakeCommand.{MakeCommand}
use Rattle.uimg_requests.specs.declared.make_command.MakeCommand.TheVariants.{Parts, Tree}

-- There is a name, and only one unless the type is multi or script.
pub record FitNames (options : Options) (names : List (List ℕ)) : Type 0 where
  pub some : length names ≢ 0
  pub single : has_parts options.kind ≡ false → length names ≡ 1

-- The names of a command's files are as its options need them.
abbrev pub HasFitNames : MakeCommand → Type 0
HasFitNames (Parts options files) = FitNames options (map (λ name. name.items) files.items)
HasFitNames (Tree source placement) = ⊤

pub has_fit_names_prop : (command : MakeCommand) → IsProp (HasFitNames command)
has_fit_names_prop (Parts options files) = Prim.hlevel props
has_fit_names_prop (Tree source placement) = Prim.hlevel props
