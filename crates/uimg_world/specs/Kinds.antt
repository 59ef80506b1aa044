-- What is at a path.
use Rattle.std.specs.Prelude.{Bool, true, false}
use Rattle.uimg_world.specs.declared.kind.Kind.{Kind}
use Rattle.uimg_world.specs.declared.kind.Kind.TheVariants.{Nothing, File, Folder, Link}
use Rattle.uimg_world.specs.declared.kind.Target.{Target}
use Rattle.uimg_world.specs.declared.kind.Target.TheVariants as target

abbrev pub is_something : Kind → Bool
is_something Nothing = false
is_something File = true
is_something Folder = true
is_something Link = true

-- what exists is no symbolic link
abbrev pub is_no_link : Kind → Bool
is_no_link Nothing = false
is_no_link File = true
is_no_link Folder = true
is_no_link Link = false

-- what a path leads to, where no path is a symbolic link
abbrev pub target_of_kind : Kind → Target
target_of_kind Nothing = target.Nothing
target_of_kind File = target.File
target_of_kind Folder = target.Other
target_of_kind Link = target.Other
