-- Commands on an image, as plain values.
use Rattle.std.specs.Prelude.{Option, option_map}
use Rattle.clap.specs.Walk.{Text}
use Rattle.uimg_texts.specs.declared.naming.Naming.{Naming}
use Rattle.uimg_texts.specs.declared.naming.Naming.TheVariants.{Profile}
use Rattle.uimg_requests.specs.declared.command.Action.{Action}
use Rattle.uimg_requests.specs.declared.command.Form.{Form}
use Rattle.uimg_requests.specs.declared.requests.RunRequest.{RunRequest}

pub record Run : Type 0 where
  pub action : Action
  pub form : Form
  pub naming : Naming
  pub image : Text
  pub outfile : Option Text

abbrev pub run_of : RunRequest → Run
run_of request = record {
  action = request.command.action;
  form = request.command.form;
  naming = request.naming;
  image = request.image.now;
  outfile = option_map (λ path. path.now) request.outfile;
}

-- A command on an image by the names of the profile, with the file that it writes.
abbrev pub plain_run : Action → Form → Text → Option Text → Run
plain_run action form image outfile = record {
  action = action;
  form = form;
  naming = Profile;
  image = image;
  outfile = outfile;
}
