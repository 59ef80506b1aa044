-- The name and the path of a file of keys.
use Rattle.std.proofs.Common.{◌≡◌, ◌∙◌, Bool, if◌then◌else◌, false, true, Some, None, Option, ap, sym}
use Rattle.clap.specs.Lexer.{name_and_value}
use Rattle.clap.specs.Walk.{Text}
use Rattle.uimg_cli.specs.KeyRequests.{is_key_name, named_path, path_behind}

module _ (text name path : Text) (is : name_and_value text ≡ (name, Some path)) where
  by_name : (b : Bool) → is_key_name name ≡ b → named_path text ≡ (if b then (Some name, path) else (None, text))
  unfolding named_path
  by_name b so = ap (path_behind text) is ∙ ap (λ (b : Bool). (let p : Option Text × Text = if b then (Some name, path) else (None, text) in p)) so

  pub is_named : is_key_name name ≡ true → (Some name, path) ≡ named_path text
  is_named so = sym (by_name true so)

  pub is_unnamed : is_key_name name ≡ false → (None, text) ≡ named_path text
  is_unnamed so = sym (by_name false so)

pub is_path : (text : Text) → name_and_value text ≡ (text, None) → (None, text) ≡ named_path text
unfolding named_path
is_path text is = sym (ap (path_behind text) is)
