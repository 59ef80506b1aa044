-- The build of an image, as plain values.
use Rattle.std.specs.Prelude.{ℕ, List, [], Bool, false, map, ◌++◌}
use Rattle.clap.specs.Walk.{Text}
use Rattle.uimg_fit_base.specs.declared.placement.Placement.{Placement}
use Rattle.uimg_legacy.specs.declared.options.Options.{Options}
use Rattle.uimg_texts.specs.declared.naming.Naming.{Naming}
use Rattle.uimg_texts.specs.declared.naming.Naming.TheVariants.{Profile}
use Rattle.uimg_requests.specs.Requests.{folder_of}
use Rattle.uimg_requests.specs.declared.make_command.MakeCommand.{MakeCommand}
use Rattle.uimg_requests.specs.declared.make_command.MakeCommand.TheVariants.{Parts, Tree}
use Rattle.uimg_requests.specs.declared.requests.MakeRequest.{MakeRequest}

-- What an image is made from: a header's fields with the files of its data, or a source with where
-- its payloads go.
pub data Material : Type 0 where
  parts : Options → List Text → Material
  source : Text → Placement → Material

pub record Making : Type 0 where
  pub material : Material
  pub source : Text
  pub folder : Text
  pub time : ℕ
  pub naming : Naming
  pub align : ℕ
  pub outfile : Text
  pub is_xip : Bool

-- a source's path is its folder and its name
abbrev pub material_of : Text → MakeCommand → Material
material_of folder (Parts options files) =
    parts options (map (λ name. name.items) files.items)
material_of folder (Tree name placement) = source (folder ++ name.items) placement

abbrev pub making_of : MakeRequest → Making
making_of request = record {
  material = material_of request.folder.now request.command;
  source = request.source.now;
  folder = request.folder.now;
  time = request.manner.time;
  naming = request.manner.naming;
  align = request.manner.align;
  outfile = request.outfile.now;
  is_xip = request.is_xip;
}

-- the path of a source; none of data
abbrev pub path_of : Material → Text
path_of (parts options files) = []
path_of (source path placement) = path

-- An image is made with the names of the profile, its payloads padded to multiples of 4 bytes. The
-- files of a source are in its folder, those of data in the current one.
abbrev pub plain_making : Material → ℕ → Text → Making
plain_making material time path = record {
  material = material;
  source = path_of material;
  folder = folder_of (path_of material);
  time = time;
  naming = Profile;
  align = 4;
  outfile = path;
  is_xip = false;
}
