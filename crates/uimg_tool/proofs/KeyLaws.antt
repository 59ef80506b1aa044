-- The keys of the file at the path of a request.
use Rattle.std.proofs.Common.{◌≡◌, ℕ, List, Option, Some, IsTrue, sym, subst}
use Rattle.std.specs.Prelude.{IfSome}
use Rattle.uimg_base.specs.{Device.Device, Named.{FileMap, Opens}}
use Rattle.uimg_cli.specs.declared.command_line.keys.KeyRequest.{KeyRequest}
use Rattle.uimg_keys.specs.{Keys.HasKeys, declared.keys.Keys.Keys}
use Rattle.uimg_tool.specs.Checking.{IsRequired, KeysAt}
use Rattle.uimg_verifying.specs.declared.required.Required.{Required}

pub keys_at : (files : FileMap) (request : Option KeyRequest) (asked : KeyRequest) (required : Required) (read : Keys) (d : Device) → request ≡ Some asked → Opens files asked.path.now d
    → IsRequired asked read required → (IsTrue d.honest → HasKeys d.bytes read) → KeysAt files request (Some required)
keys_at files request asked required read d is opens asks has =
    subst (λ (it : Option KeyRequest). KeysAt files it (Some required)) (sym is) (
      read,
      asks,
      λ honest. subst (λ (found : Option (List ℕ)). IfSome found (λ file. HasKeys file read)) (sym (opens.bytes honest)) (has (opens.honest honest)),
    )
