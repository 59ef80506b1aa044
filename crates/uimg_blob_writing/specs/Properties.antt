-- What contracts see of properties.
use Rattle.uimg_blob_writing.specs.declared.props.Value.{Value, TheVariants.{Bytes, File}}
use Rattle.uimg_blob_writing.specs.{declared.props.Prop.Prop, Content.{Content, bytes, file}}
use Rattle.uimg_blob_reading.specs.Plain.{NamedOf}

-- the value of a property
abbrev pub content : {A : Type 0} → Value A → Content
content (Bytes b) = bytes b
content (File name size) = file name size

-- a property: its name and its value
abbrev pub property : {A : Type 0} → Prop A → NamedOf Content
property p = record { name = p.name; value = content p.value }
