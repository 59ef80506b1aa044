-- What a path leads to, and what is created beside it.
use Rattle.std.proofs.Common.{◌≡◌, ℕ, ◌+◌, List, ◌∷◌, Result, Ok, Err, ap, subst, sym, ◌∙◌}
use Rattle.std.specs.declared.io.Error.{Error}
use Rattle.uimg_world.specs.Deeds.{Creates, Deed}
use Rattle.uimg_world.specs.declared.call.Answer.{Answer}
use Rattle.uimg_world.specs.declared.call.Answer.TheVariants.{Exists}
use Rattle.uimg_tool.proofs.BesideLaws.{next_tried}
use Rattle.uimg_tool.specs.Writings.{CreatesBeside, IsAt, IsFile, LeadsTo, beside, tried}
use Rattle.uimg_tool.specs.declared.safe_path.NewBeside.{NewBeside}
use Rattle.uimg_tool.specs.declared.writing.Lead.{Lead}
use Rattle.uimg_tool.specs.declared.writing.Lead.TheVariants as lead

-- to a file at a path, if there is memory for it
pub to_file : {Z : Type 0} (path whole : List ℕ) (result : Result Lead Z) (before after : List Deed) → IsFile whole result → IsAt path whole before after → LeadsTo path result before after
to_file path whole (Ok (lead.File text)) before after is at = subst (λ (w : List ℕ). IsAt path w before after) (sym is) at
to_file path whole (Ok lead.Pipe) before after is at = absurd is
to_file path whole (Ok lead.InPlace) before after is at = absurd is
to_file path whole (Err refused) before after is at = (whole, at)

pub leads_as : {Z : Type 0} (path : List ℕ) (result last : Result Lead Z) (before after : List Deed) → result ≡ last → LeadsTo path result before after → LeadsTo path last before after
leads_as {Z = Z} path result last before after is leads = subst (λ (r : Result Lead Z). LeadsTo path r before after) is leads

pub creates_as : {F Z : Type 0} (one path : List ℕ) (result last : Result (Result (NewBeside F) Error) Z) (before after : List Deed) → one ≡ path → result ≡ last → CreatesBeside one result before after → CreatesBeside path last before after
creates_as {F = F} {Z = Z} one path result last before after same is creates =
    subst (λ (r : Result (Result (NewBeside F) Error) Z). CreatesBeside path r before after) is (subst (λ (p : List ℕ). CreatesBeside p result before after) same creates)

-- one name more was tried, and exists
pub tried_more : (path new : List ℕ) (number : ℕ) (answer : Answer) (start before after : List Deed) → new ≡ beside path (number + 1) → answer ≡ Exists → before ≡ tried path number start → after ≡ Creates new answer ∷ before → after ≡ tried path (number + 1) start
tried_more path new number answer start before after is exists was made =
    made ∙ ap (λ (n : List ℕ). Creates n answer ∷ before) is ∙ ap (λ (a : Answer). Creates (beside path (number + 1)) a ∷ before) exists
    ∙ ap (λ (t : List Deed). Creates (beside path (number + 1)) Exists ∷ t) was ∙ sym (next_tried path number start)
