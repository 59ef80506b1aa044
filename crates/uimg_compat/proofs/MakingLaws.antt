-- What the request for a legacy image asks for.
use Rattle.std.proofs.Common.{◌≡◌, ℕ, List, ap₂}
use Rattle.uimg_legacy.specs.declared.options.Options.{Options}
use Rattle.uimg_requests.specs.Requests.{AsksParts}
use Rattle.uimg_requests.specs.declared.make_command.{MakeCommand.MakeCommand}
use Rattle.uimg_requests.specs.declared.make_command.MakeCommand.TheVariants.{Parts, Tree}
use Rattle.uimg_compat.specs.Asked.{material_of, parts}

pub parts_made : (command : MakeCommand) (folder : List ℕ) (options : Options) (names : List (List ℕ)) → AsksParts command options names
    → material_of folder command ≡ parts options names
parts_made (Parts own files) folder options names asks = ap₂ parts asks.0 asks.1
parts_made (Tree name place) folder options names asks = absurd asks
