-- What the drawing of a map asks of a world.
use Rattle.std.proofs.Common.{◌≡◌, ℕ, List, ◌∷◌, Bool, true, false, Option, Some, Result, Ok, Err, subst, sym, string_bytes}
use Rattle.std.specs.Borrow.{Bor}
use Rattle.std.specs.declared.io.Error.{Error}
use Rattle.uimg_cli.specs.declared.command_line.map.MapRequest.{MapRequest}
use Rattle.uimg_tool.specs.Drawing.{AsksToMap, Draws, DrawsTo, DrawsUnlessTaken, Fills, LooksTaken, NamesPicture, Overwrites, apart, beside_it, in_place, no_memory, to_pipe, uncreated}
use Rattle.uimg_tool.specs.{Images.Compares, Writings.WritesFor}
use Rattle.uimg_tool.specs.declared.safe_path.SafePath.{SafePath}
use Rattle.uimg_tool.specs.declared.safe_path.Writing.{Writing}
use Rattle.uimg_tool.specs.declared.safe_path.Writing.TheVariants as writing
use Rattle.uimg_world.specs.Deeds.{Deed, Opens}
use Rattle.uimg_world.specs.declared.call.Answer.{Answer}
use Rattle.uimg_unpacking.specs.Naming.{GivesName}

pub gives_as : (one two new whole : List ℕ) (is_forced : Bool) (answer last : Answer) (before after : List Deed) → one ≡ new → two ≡ whole → answer ≡ last → GivesName one two is_forced answer before after → GivesName new whole is_forced last before after
gives_as one two new whole is_forced answer last before after is to ends gives =
    subst (λ (a : Answer). GivesName new whole is_forced a before after) ends
    (subst (λ (w : List ℕ). GivesName new w is_forced answer before after) to (subst (λ (n : List ℕ). GivesName n two is_forced answer before after) is gives))

pub writes_as : {F Z : Type 0} (path : List ℕ) (result last : Result (Writing F) Z) (before after : List Deed) → result ≡ last → WritesFor path result before after → WritesFor path last before after
writes_as {F = F} {Z = Z} path result last before after is writes = subst (λ (r : Result (Writing F) Z). WritesFor path r before after) is writes

pub drawn_beside : {F Z : Type 0} (path : List ℕ) (is_forced : Bool) (result : Result (Writing F) Z) (file : F) (safe : SafePath) (new : List ℕ) (before begun filled after : List Deed) → result ≡ Ok (writing.Beside file safe) → new ≡ string_bytes safe.new
    → WritesFor path result before begun → Fills new begun filled → NamesPicture (string_bytes safe.new) (string_bytes safe.whole) is_forced filled after → DrawsTo path is_forced before after
drawn_beside path is_forced result file safe new before begun filled after is at writes fills names =
    let w = writes_as path result (Ok (writing.Beside file safe)) before begun is writes in
    beside_it (string_bytes safe.whole) (string_bytes safe.new) w.0 begun filled w.1 w.2 (subst (λ (n : List ℕ). Fills n begun filled) at fills) names

pub drawn_in_place : {F Z : Type 0} (path : List ℕ) (is_forced : Bool) (result : Result (Writing F) Z) (before seen after : List Deed) → result ≡ Ok writing.InPlace
    → WritesFor path result before seen → Overwrites path seen after → DrawsTo path is_forced before after
drawn_in_place path is_forced result before seen after is writes over = in_place seen (writes_as path result (Ok writing.InPlace) before seen is writes) over

pub drawn_to_pipe : {F Z : Type 0} (path : List ℕ) (is_forced : Bool) (result : Result (Writing F) Z) (before seen after : List Deed) → result ≡ Ok writing.Pipe
    → WritesFor path result before seen → Overwrites path seen after → DrawsTo path is_forced before after
drawn_to_pipe path is_forced result before seen after is writes over =
    to_pipe (subst (λ (t : List Deed). Overwrites path t after) (writes_as path result (Ok writing.Pipe) before seen is writes) over)

pub not_created : {F Z : Type 0} (path : List ℕ) (is_forced : Bool) (result : Result (Writing F) Z) (reason : Error) (before after : List Deed) → result ≡ Ok (writing.Nowhere reason)
    → WritesFor path result before after → DrawsTo path is_forced before after
not_created path is_forced result reason before after is writes =
    let w = writes_as path result (Ok (writing.Nowhere reason)) before after is writes in uncreated w.0 w.1 w.2 w.3

pub not_begun : {F Z : Type 0} (path : List ℕ) (is_forced : Bool) (result : Result (Writing F) Z) (refused : Z) (before after : List Deed) → result ≡ Err refused
    → WritesFor path result before after → DrawsTo path is_forced before after
not_begun path is_forced result refused before after is writes =
    let w = writes_as path result (Err refused) before after is writes in no_memory w.0 w.1 w.2 w.3

pub looks_as : (path : List ℕ) (is_taken last : Bool) (before after : List Deed) → is_taken ≡ last → LooksTaken path is_taken before after → LooksTaken path last before after
looks_as path is_taken last before after is looks = subst (λ (b : Bool). LooksTaken path b before after) is looks

pub drawn_apart : (image path : List ℕ) (is_forced is_same : Bool) (before opened seen after : List Deed) → opened ≡ Opens image true ∷ before → Compares path image is_same opened seen → is_same ≡ false
    → DrawsUnlessTaken path is_forced seen after → Draws image path is_forced before after
drawn_apart image path is_forced is_same before opened seen after is compares differ draws =
    apart seen (subst (λ (b : Bool). Compares path image b (Opens image true ∷ before) seen) differ (subst (λ (t : List Deed). Compares path image is_same t seen) is compares)) draws

pub drawn_for : (asked : MapRequest) (picture : Option (Bor (List ℕ))) (path : Bor (List ℕ)) (before after : List Deed) → picture ≡ Some path → Draws asked.image.now path.now asked.is_forced before after → AsksToMap asked picture before after
drawn_for asked picture path before after is draws = subst (λ (p : Option (Bor (List ℕ))). AsksToMap asked p before after) (sym is) draws
