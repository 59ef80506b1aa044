-- Worked cases of what files hold.
use Rattle.std.proofs.Common.{◌≡◌, ◌∷◌, [], List, bytes_eq, codes, true, Some, None, is_some, if◌then◌else◌, refl, ap, true≢false}
use Rattle.uimg_unpacking.specs.Contents.{Files, IsTrueTo, files_after, held}
use Rattle.uimg_world.specs.Deeds.{Deed, Creates, Closes, Links, Looks, Renames, Removes, MakesFolder, Overwrites}
use Rattle.uimg_world.specs.declared.call.Answer.TheVariants.{Done, Exists, Failed}
use Rattle.uimg_world.specs.declared.kind.Kind.TheVariants.{Nothing, File}

-- a file that was written and closed
abbrev written : List Deed
written = Closes (codes "d/new") true (Some (codes "abc")) Done ∷ Creates (codes "d/new") Done ∷ []

-- what it holds is known once it is closed, unless the close failed
created : held (Creates (codes "d/new") Done ∷ []) (codes "d/new") ≡ None
created = refl

closed : held written (codes "d/new") ≡ Some (codes "abc")
closed = refl

not_closed : held (Closes (codes "d/new") true (Some (codes "abc")) Failed ∷ Creates (codes "d/new") Done ∷ []) (codes "d/new") ≡ None
not_closed = refl

-- a link is another path of it, which stays when the first one is removed
linked : held (Removes (codes "d/new") Done ∷ Links (codes "d/new") (codes "d/a") Done ∷ written) (codes "d/a") ≡ Some (codes "abc")
linked = refl

unlinked : held (Removes (codes "d/new") Done ∷ Links (codes "d/new") (codes "d/a") Done ∷ written) (codes "d/new") ≡ None
unlinked = refl

not_linked : held (Links (codes "d/new") (codes "d/a") Exists ∷ written) (codes "d/a") ≡ None
not_linked = refl

-- a rename moves the path
renamed : held (Renames (codes "d/new") (codes "d/a") Done ∷ written) (codes "d/a") ≡ Some (codes "abc")
renamed = refl

moved : held (Renames (codes "d/new") (codes "d/a") Done ∷ written) (codes "d/new") ≡ None
moved = refl

-- another file that is written over may be this one
overwritten : held (Overwrites (codes "d/b") Done ∷ written) (codes "d/new") ≡ None
overwritten = refl

-- a file `d/a` and nothing else
abbrev one_file : Files
one_file path = if bytes_eq path (codes "d/a") then Some (Some (codes "old")) else None

-- what is kept of it is put back
abbrev replaced : List Deed
replaced = Renames (codes "d/n/new-0") (codes "d/a") Done ∷ Links (codes "d/a") (codes "d/n/old-0") Done ∷ Looks (codes "d/a") File ∷ []

gone : files_after one_file replaced (codes "d/a") ≡ None
gone = refl

kept : files_after one_file replaced (codes "d/n/old-0") ≡ Some (Some (codes "old"))
kept = refl

put_back : files_after one_file (Renames (codes "d/n/old-0") (codes "d/a") Done ∷ Looks (codes "d/n/old-0") File ∷ replaced) (codes "d/a") ≡ Some (Some (codes "old"))
put_back = refl

-- what these looks saw is true; that there is nothing is not
looked : IsTrueTo one_file (Looks (codes "d/n/old-0") File ∷ replaced)
looked = (refl, (refl, tt))

overlooked : IsTrueTo one_file (Looks (codes "d/a") Nothing ∷ []) → ⊥
overlooked told = true≢false told.0

-- a folder is made where nothing is in it
not_made : IsTrueTo one_file (MakesFolder (codes "d") Done ∷ []) → ⊥
not_made told = true≢false (ap is_some (told.0 (codes "a")))
