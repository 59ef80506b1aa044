-- What a node's name says about its role.
use Rattle.std.specs.Prelude.{ℕ, List, if◌then◌else◌}
use Rattle.uimg_blob_reading.specs.declared.labels.Label.{Label, TheVariants.{Signature, Other}}
use Rattle.uimg_blob_reading.specs.declared.labels.Label.TheVariants.{Images, Configurations, Hash}
use Rattle.uimg_blob_reading.specs.Roles.{is_images, is_configurations, is_hash, is_signature}

-- the label of a name
abbrev pub label_of : List ℕ → Label
label_of name =
    if is_images name then Images else if is_configurations name then Configurations else if is_hash
    name then Hash else if is_signature name then Signature else Other
