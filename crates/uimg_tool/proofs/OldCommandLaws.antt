-- What a request by the names of mkimage and dumpimage comes to, once it was carried out.
use Rattle.std.proofs.Common.{◌≡◌, ◌⊎◌, inr, ℕ, List, [], Bool, Option, Some, None, Result, Ok, refl, ap, sym, subst, ◌∙◌}
use Rattle.std.specs.{Borrow.Bor, Io.Buffered.{writer_buffer, writer_contents, writer_inner}, Prelude.IfSome}
use Rattle.std.specs.Global.{Global}
use Rattle.std.specs.declared.io.buffered.BufWriter.{BufWriter}
use Rattle.uimg_base.specs.Named.{FileMap}
use Rattle.uimg_compat.specs.declared.{fault.OldFault.OldFault, request.OldRequest.OldRequest}
use Rattle.uimg_requests.specs.declared.requests.RunRequest.{RunRequest}
use Rattle.uimg_tool.proofs.BufferLaws.{unbuffered}
use Rattle.uimg_tool.specs.OldCommands.{AnswersTool, IsFlushed, Kept, OldChanges, OldMeans, RunChanges, RunsOld}
use Rattle.uimg_tool.specs.{OldImages.{AnswersOldExtraction, PrintsOutcome}, Programs.{ReadsOld, epoch_of, words_of}}
use Rattle.uimg_tool.specs.declared.{command_line.CommandLine.CommandLine, old_tools.Tool.Tool}
use Rattle.uimg_world.specs.Deeds.{Deed, changes}

pub run_changes : (outfile : Option (Bor (List ℕ))) (before after : List Deed) → (outfile ≡ None → changes after ≡ changes before) → RunChanges outfile before after
run_changes None before after kept = kept refl
run_changes (Some path) before after kept = tt

pub runs : (is_quiet : Bool) (it : RunRequest) (outfile : Option (Bor (List ℕ))) (files : FileMap) (before : List Deed) (status : ℕ) (was now : Option (List ℕ)) → (outfile ≡ None → (status ≡ 3) ⊎ PrintsOutcome is_quiet it files status was now)
    → IfSome outfile (λ path. AnswersOldExtraction it path.now files status was now before) → RunsOld is_quiet it outfile files before status was now
runs is_quiet it None files before status was now prints extracts = prints refl
runs is_quiet it (Some path) files before status was now prints extracts = extracts

-- a request was carried out, over an output that was buffered
pub record Does {K N W : Type 0} (kept : Kept K N) (tool : Tool) (files : FileMap) (contents : W → Option (List ℕ)) (before : List Deed) (out : BufWriter W Global) (asked : OldRequest) (ended : ℕ × BufWriter W Global) (after : List Deed) : Type 0 where
  pub does : OldChanges asked ended.0 before after
  pub means : OldMeans kept tool asked files before ended.0 (writer_contents contents out) (writer_contents contents ended.1)
  pub flushed : IsFlushed asked ended.0 → writer_buffer out ≡ [] → writer_buffer ended.1 ≡ []

module _ {K N W : Type 0} (kept : Kept K N) (tool : Tool) (files : FileMap) (contents : W → Option (List ℕ)) (before : List Deed) (out : BufWriter W Global) where
  pub does_as : {D : Type 0} (trace : D → List Deed) (asked last : OldRequest) (one two : ℕ × BufWriter W Global) (later after : D) → asked ≡ last → one ≡ two → later ≡ after → Does kept tool files contents before out last two (trace after) → Does kept tool files contents before out asked one (trace later)
  does_as {D = D} trace asked last one two later after is ends then_it it =
      subst (λ (a : OldRequest). Does kept tool files contents before out a one (trace later)) (sym is)
      (subst (λ (e : ℕ × BufWriter W Global). Does kept tool files contents before out last e (trace later)) (sym ends) (subst (λ (d : D). Does kept tool files contents before out last two (trace d)) (sym then_it) it))

  pub answers : (line : CommandLine) (read : Result OldRequest OldFault) (asked : OldRequest) (first : W) (ended : ℕ × BufWriter W Global) (inner : W) (after : List Deed) → read ≡ Ok asked → ReadsOld tool (epoch_of line) line.time (words_of line) read
      → writer_inner out ≡ first → writer_buffer out ≡ [] → inner ≡ writer_inner ended.1 → Does kept tool files contents before out asked ended after → AnswersTool kept tool line files ended.0 (contents first) (contents inner) before after
  answers line read asked first ended inner after is reads begins empty inside it = record {
    asked = Ok asked;
    reads = subst (λ (r : Result OldRequest OldFault). ReadsOld tool (epoch_of line) line.time (words_of line) r) is reads;
    answers = record {
      changes = inr it.does;
      means = inr (
        writer_contents contents ended.1,
        subst (λ (o : Option (List ℕ)). OldMeans kept tool asked files before ended.0 o (writer_contents contents ended.1)) (unbuffered _ _ empty ∙ ap contents begins) it.means,
        (λ flushes. ap contents inside ∙ sym (unbuffered _ _ (it.flushed flushes empty))),
      );
    };
  }
