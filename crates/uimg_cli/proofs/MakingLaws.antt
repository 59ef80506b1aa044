-- What the requests for a making ask for.
use Rattle.std.proofs.Common.{◌≡◌, ℕ, List, [], refl, ap₂, sym}
use Rattle.uimg_fit_base.specs.declared.placement.Placement.{Placement}
use Rattle.uimg_legacy.specs.declared.options.Options.{Options}
use Rattle.uimg_requests.specs.Plain.{IsAt, IsPlain}
use Rattle.uimg_requests.specs.Requests.{AsksParts, AsksSource, folder_of}
use Rattle.uimg_requests.specs.declared.make_command.MakeCommand.{MakeCommand}
use Rattle.uimg_requests.specs.declared.make_command.MakeCommand.TheVariants.{Parts, Tree}
use Rattle.uimg_requests.specs.declared.requests.MakeRequest.{MakeRequest}
use Rattle.uimg_cli.specs.Makings.{Material, making_of, material_of, path_of, parts, plain_making, source}

made : (request : MakeRequest) (material : Material) (moment : ℕ) (path : List ℕ) → material_of request.folder.now request.command ≡ material
    → IsAt request (path_of material) (folder_of (path_of material)) → IsPlain request moment path → making_of request ≡ plain_making material moment path
made request material moment path is place plain =
    rw (is, place.source, place.folder, plain.time, plain.naming, plain.align, plain.outfile, plain.whole) refl

-- data have no source
no_folder : (request : MakeRequest) → IsAt request [] [] → IsAt request [] (folder_of [])
unfolding folder_of
no_folder request place = place

source_made : (command : MakeCommand) (folder path : List ℕ) (placement : Placement) → AsksSource command folder path placement
    → material_of folder command ≡ source path placement
source_made (Parts options files) folder path placement asks = absurd asks
source_made (Tree name place) folder path placement asks = ap₂ source asks.0 asks.1

parts_made : (command : MakeCommand) (folder : List ℕ) (options : Options) (names : List (List ℕ)) → AsksParts command options names
    → material_of folder command ≡ parts options names
parts_made (Parts own files) folder options names asks = ap₂ parts asks.0 asks.1
parts_made (Tree name place) folder options names asks = absurd asks

pub making_of_source : (request : MakeRequest) (path : List ℕ) (placement : Placement) (moment : ℕ) (image : List ℕ)
    → AsksSource request.command request.folder.now path placement → IsAt request path (folder_of path) → IsPlain request moment image
    → plain_making (source path placement) moment image ≡ making_of request
making_of_source request path placement moment image asks place plain =
    sym (made request _ moment image (source_made request.command request.folder.now path placement asks) place plain)

pub making_of_parts : (request : MakeRequest) (options : Options) (names : List (List ℕ)) (moment : ℕ) (image : List ℕ)
    → AsksParts request.command options names → IsAt request [] [] → IsPlain request moment image
    → plain_making (parts options names) moment image ≡ making_of request
making_of_parts request options names moment image asks place plain =
    sym (made request _ moment image (parts_made request.command request.folder.now options names asks) (no_folder request place) plain)
