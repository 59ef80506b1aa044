-- Which file is at a path.
use Rattle.std.specs.Prelude.{◌==◌, Bool, false, ◌&&◌, Option, Some, None}
use Rattle.uimg_world.specs.declared.file_id.FileId.{FileId}

-- two files are the same: by device and inode
abbrev pub is_same : FileId → FileId → Bool
is_same a b = a.device == b.device && a.inode == b.inode

abbrev pub is_image : Option FileId → Option FileId → Bool
is_image (Some found) (Some image) = is_same found image
is_image (Some found) None = false
is_image None image = false
