-- What came of a request, once it was told.
use Rattle.std.proofs.Common.{◌≡◌, ◌⊎◌, inl, inr, ℕ, List, Option, Some, None, Result, Ok, Err, ap, subst, sym, ◌∙◌}
use Rattle.std.specs.{Borrow.Bor, Io.KnownBytes.{Keeps}}
use Rattle.std.proofs.KnownBytes.{Appends-kept, Keeps-trans}
use Rattle.uimg_base.specs.{Device.Device, Named.FileMap}
use Rattle.uimg_checks.specs.FaultStatuses.{fault_status}
use Rattle.uimg_cli.specs.declared.command_line.Asked.{Asked}
use Rattle.uimg_cli.specs.declared.command_line.Asked.TheVariants.{One, Check, Unpack, Map, Info, Diff}
use Rattle.uimg_cli.specs.declared.command_line.{Request.Request, diff.DiffRequest.DiffRequest}
use Rattle.uimg_cli.specs.declared.command_line.Request.TheVariants as asked
use Rattle.uimg_engine.specs.{FaultTexts.text_of, declared.fault.Fault.Fault}
use Rattle.uimg_info.specs.{Comparing.{Differs, compared}, Statement.Stated, declared.comparing.CompareFault.CompareFault}
use Rattle.uimg_info.specs.declared.comparing.CompareFault.TheVariants.{TwiceInOld, TwiceInNew, OutOfMemory}
use Rattle.uimg_requests.specs.declared.requests.RunRequest.{RunRequest}
use Rattle.uimg_tool.proofs.LeaveLaws.{left_failed}
use Rattle.uimg_tool.specs.{Answering.Comes, Commands.{Guards, Means, MeansOne}, Complaints.ComplainsBetween, Diffs.{IsCompared, IsRefusedFor, MeansFirst, MeansSecond, stated_of, twice_text}, Images.MeansRun, FaultTexts.told_of_complaint, Leavings.LeavesAsked, Maps.MeansMap, Statuses.closing_status}
use Rattle.uimg_tool.specs.declared.{complaint.Complaint.Complaint, complaints.Complaints.Complaints}
use Rattle.uimg_world.specs.Deeds.{Deed, changes}
use Rattle.uimg_world.specs.declared.file_id.FileId.{FileId}

-- a request after which the output was flushed
module _ {K : Type 0} (device : K → Device) (identities : List ℕ → Option FileId) (files : FileMap) (before after : List Deed) (status : ℕ) (told : Option (Option (List ℕ))) (old mid new : Option (List ℕ)) (kept : Keeps mid new) where
  run : (it : RunRequest) (outfile : Option (Bor (List ℕ))) → MeansRun it outfile files before after status told old mid → MeansRun it outfile files before after status told old new
  run it None (file, has, (is, tells, put)) = (file, has, (is, tells, Appends-kept old mid new _ put kept))
  run it (Some path) (file, has, inl (same, is, tells, silent)) = (file, has, inl (same, is, tells, Keeps-trans old mid new silent kept))
  run it (Some path) (file, has, inr held) =
      (file, has, inr (record { is = held.is; tells = held.tells; before = held.before; holds = held.holds; silent = Keeps-trans old mid new held.silent kept }))

  map : (image : List ℕ) (picture : Option (Bor (List ℕ))) → MeansMap image picture files status told old mid → MeansMap image picture files status told old new
  map image None (file, has, its) = (
    file,
    has,
    record {
      is = its.is;
      tells = its.tells;
      map = its.map;
      size = its.size;
      found = its.found;
      put = record { text = its.put.text; lines = its.put.lines; appended = Appends-kept old mid new its.put.text its.put.appended kept };
    },
  )
  map image (Some path) (inl (is, tells, silent)) = inl (is, tells, Keeps-trans old mid new silent kept)
  map image (Some path) (inr (file, has, (is, tells, silent))) = inr (file, has, (is, tells, Keeps-trans old mid new silent kept))

  one : (it : Request) → MeansOne device identities it files before after status told old mid → MeansOne device identities it files before after status told old new
  one (asked.Run it) means = run it it.outfile means
  one (asked.Make it) means = record {
    made = means.made;
    before = means.before;
    after = means.after;
    makes = means.makes;
    last = means.last;
    opens = means.opens;
    is = means.is;
    tells = means.tells;
    begins = means.begins;
    ends = Keeps-trans means.after.contents mid new means.ends kept;
  }
  one (asked.Show text) means = means

  refused : (wanted : ℕ) (path text : List ℕ) → IsRefusedFor wanted path text status told old mid → IsRefusedFor wanted path text status told old new
  refused wanted path text (is, tells, silent) = (is, tells, Keeps-trans old mid new silent kept)

  compares : (it : DiffRequest) (r : Result (List Differs) CompareFault) → IsCompared it r status told old mid → IsCompared it r status told old new
  compares it (Ok found) (is, silent, put) = (is, silent, Appends-kept old mid new _ put kept)
  compares it (Err TwiceInOld) means = refused 1 it.old.now twice_text means
  compares it (Err TwiceInNew) means = refused 1 it.new.now twice_text means
  compares it (Err OutOfMemory) means = tt

  second_read : (it : DiffRequest) (one : List Stated) (r : Result (List Stated) Fault) → MeansSecond it one r status told old mid → MeansSecond it one r status told old new
  second_read it one (Err fault) means = refused (fault_status fault) it.new.now (text_of fault) means
  second_read it one (Ok other) means = compares it (compared one other) means

  first_read : (it : DiffRequest) (r : Result (List Stated) Fault) → MeansFirst it files r status told old mid → MeansFirst it files r status told old new
  first_read it (Err fault) means = refused (fault_status fault) it.old.now (text_of fault) means
  first_read it (Ok one) (file, has, means) = (file, has, second_read it one (stated_of file) means)

  flushed : (it : Asked) → Means device identities it files before after status told old mid → Means device identities it files before after status told old new
  flushed (One it) means = one it means
  flushed (Check it) (keyed, seen, is, finds, terms, keys, (last, all, ends, text)) = (keyed, seen, is, finds, terms, keys, (last, all, ends, Keeps-trans last.text mid new text kept))
  flushed (Unpack it) means = means
  flushed (Map it) means = map it.image.now it.picture means
  flushed (Info it) (file, has, (silent, (text, facts, put))) = (file, has, (silent, (text, facts, Appends-kept old mid new _ put kept)))
  flushed (Diff it) (file, has, means) = (file, has, first_read it (stated_of file) means)

pub closed : {K V : Type 0} (device : K → Device) (identities : List ℕ → Option FileId) (contents : V → Option (List ℕ)) (it : Asked) (files : FileMap) (before after : List Deed) (end : Result ℕ Complaint) (status : ℕ)
    (old mid new : Option (List ℕ)) (told_before told_after : Complaints V) → Comes (Means device identities it files before after) (closing_status end) (told_of_complaint end) old mid
    → (status ≡ 3) ⊎ ((status ≡ closing_status end) × ComplainsBetween contents (told_of_complaint end) told_before told_after × Keeps mid new)
    → (status ≡ 3) ⊎ ((told : Option (Option (List ℕ))) × Means device identities it files before after status told old new × ComplainsBetween contents told told_before told_after)
closed device identities contents it files before after end status old mid new told_before told_after means (inl failed) = inl failed
closed device identities contents it files before after end status old mid new told_before told_after (inl failed) (inr (is, tells, kept)) = inl (is ∙ failed)
closed device identities contents it files before after end status old mid new told_before told_after (inr means) (inr (is, tells, kept)) =
    inr (
      told_of_complaint end,
      subst (λ (n : ℕ). Means device identities it files before after n (told_of_complaint end) old new) (sym is)
          (flushed device identities files before after (closing_status end) (told_of_complaint end) old mid new kept it means),
      tells,
    )

-- what a request keeps to, by the status that was returned
pub guarded : {P Q : Type 0} (it : Asked) (files : FileMap) (end status : ℕ) (before after : List Deed) → Guards it files end before after → (status ≡ 3) ⊎ ((status ≡ end) × P × Q) → Guards it files status before after
guarded (Unpack it) files end status before after guards (inl failed) = λ cleans. record { keyed = (guards cleans).keyed; left = left_failed it status before after failed }
guarded (Unpack it) files end status before after guards (inr (is, told, kept)) = λ cleans.
    record { keyed = (guards cleans).keyed; left = subst (λ (n : ℕ). LeavesAsked it n before after) (sym is) (guards cleans).left }
guarded it files end status before after guards ends = tt

-- nothing was done
pub undone : (it : Asked) (files : FileMap) (status : ℕ) (before after : List Deed) → status ≡ 3 → after ≡ before → Guards it files status before after
undone (Unpack it) files status before after failed same = λ cleans.
    record { keyed = λ honest. inl (ap (λ (t : List Deed). changes t) same); left = left_failed it status before after failed }
undone it files status before after failed same = tt
