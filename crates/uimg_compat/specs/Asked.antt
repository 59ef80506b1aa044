-- The requests of mkimage's and dumpimage's command lines, as plain values.
use Rattle.std.specs.Prelude.{Bool, List, map, ◌++◌, Option, option_map}
use Rattle.uimg_fit_base.specs.declared.placement.Placement.{Placement}
use Rattle.uimg_legacy.specs.declared.options.Options.{Options}
use Rattle.uimg_texts.specs.declared.{field.Field.Field, naming.Naming.Naming}
use Rattle.uimg_texts.specs.declared.naming.Naming.TheVariants.{All}
use Rattle.uimg_requests.specs.declared.command.{Action.Action, Form.Form}
use Rattle.uimg_requests.specs.declared.make_command.{Manner.Manner, MakeCommand.MakeCommand}
use Rattle.uimg_requests.specs.declared.make_command.MakeCommand.TheVariants.{Parts, Tree}
use Rattle.uimg_requests.specs.declared.requests.{RunRequest.RunRequest, MakeRequest.MakeRequest}
use Rattle.uimg_compat.specs.{Dtc.{Dtc, dtc_of}, Getopt.{Text}}
use Rattle.uimg_compat.specs.declared.auto_source.AutoSource.{AutoSource}
use Rattle.uimg_compat.specs.declared.request.{OldRequest.OldRequest, Show.Show, FitRequest.FitRequest, AutoRequest.AutoRequest, UpdateRequest.UpdateRequest}
use Rattle.uimg_compat.specs.declared.request.OldRequest.TheVariants as old
use Rattle.uimg_compat.specs.declared.request.Show.TheVariants as show

-- a command on an image
pub record Run : Type 0 where
  pub action : Action
  pub form : Form
  pub naming : Naming
  pub image : Text
  pub outfile : Option Text

abbrev pub run_of : RunRequest → Run
run_of request = record {
  action = request.command.action;
  form = request.command.form;
  naming = request.naming;
  image = request.image.now;
  outfile = option_map (λ path. path.now) request.outfile;
}

-- A command on an image by all names, with the file that it writes.
abbrev pub plain_run : Action → Form → Text → Option Text → Run
plain_run action form image outfile = record {
  action = action;
  form = form;
  naming = All;
  image = image;
  outfile = outfile;
}

-- What an image is made from: a header's fields with the files of its data, or a source with where
-- its payloads go.
pub data Material : Type 0 where
  parts : Options → List Text → Material
  source : Text → Placement → Material

pub record Making : Type 0 where
  pub material : Material
  pub manner : Manner
  pub outfile : Text
  pub is_xip : Bool

abbrev pub material_of : Text → MakeCommand → Material
material_of folder (Parts options files) =
    parts options (map (λ name. name.items) files.items)
material_of folder (Tree name placement) = source (folder ++ name.items) placement

abbrev pub making_of : MakeRequest → Making
making_of request = record {
  material = material_of request.folder.now request.command;
  manner = request.manner;
  outfile = request.outfile.now;
  is_xip = request.is_xip;
}

-- the making of a FIT image from a source
pub record FitMaking : Type 0 where
  pub source : Text
  pub placement : Placement
  pub manner : Manner
  pub outfile : Text
  pub dtc : Dtc
  pub key : Option Text
  pub is_quiet : Bool

abbrev pub fit_of : FitRequest → FitMaking
fit_of request = record {
  source = request.source.now;
  placement = request.placement;
  manner = request.manner;
  outfile = request.outfile.now;
  dtc = dtc_of request.dtc;
  key = option_map (λ path. path.now) request.key;
  is_quiet = request.is_quiet;
}

-- the source that mkimage makes itself
pub record Auto : Type 0 where
  pub options : Options
  pub name : Text
  pub file : Text
  pub ramdisk : Option Text
  pub signature : Option (Text × Text)
  pub words : List Text

abbrev pub auto_of : AutoSource → Auto
auto_of auto = record {
  options = auto.options;
  name = auto.name.now;
  file = auto.data.now;
  ramdisk = option_map (λ path. path.now) auto.ramdisk;
  signature = option_map (λ both. (both.0.now, both.1.now)) auto.signature;
  words = map (λ word. word.now) auto.words.now;
}

pub record AutoMaking : Type 0 where
  pub source : Auto
  pub placement : Placement
  pub manner : Manner
  pub outfile : Text
  pub key : Option Text
  pub is_quiet : Bool

abbrev pub auto_making_of : AutoRequest → AutoMaking
auto_making_of request = record {
  source = auto_of request.source;
  placement = request.placement;
  manner = request.manner;
  outfile = request.outfile.now;
  key = option_map (λ path. path.now) request.key;
  is_quiet = request.is_quiet;
}

-- the update of a FIT image
pub record Updating : Type 0 where
  pub image : Text
  pub placement : Placement
  pub manner : Manner
  pub sets_time : Bool
  pub is_quiet : Bool

abbrev pub updating_of : UpdateRequest → Updating
updating_of request = record {
  image = request.image.now;
  placement = request.placement;
  manner = request.manner;
  sets_time = request.sets_time;
  is_quiet = request.is_quiet;
}

-- a text: the tool's help, the version, or the names of a field
pub data Shown : Type 0 where
  help : Shown
  version : Shown
  names : Field → Shown

abbrev pub shown_of : Show → Shown
shown_of (show.Help text) = help
shown_of show.Version = version
shown_of (show.Names field) = names field

pub data Asked : Type 0 where
  runs : Run → Bool → Asked
  makes : Making → Bool → Asked
  makes_fit : FitMaking → Asked
  makes_auto : AutoMaking → Asked
  updates : Updating → Asked
  shows : Shown → Asked

abbrev pub asked_of : OldRequest → Asked
asked_of (old.Run request is_quiet) = runs (run_of request) is_quiet
asked_of (old.Make request is_quiet) = makes (making_of request) is_quiet
asked_of (old.MakeFit request) = makes_fit (fit_of request)
asked_of (old.MakeAuto request) = makes_auto (auto_making_of request)
asked_of (old.Update request) = updates (updating_of request)
asked_of (old.Show show) = shows (shown_of show)
