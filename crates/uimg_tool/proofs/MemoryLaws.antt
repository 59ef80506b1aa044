-- What a command line answers over a world, answered over the files that it has.
use Rattle.std.proofs.Common.{◌≡◌, ◌⊎◌, inl, inr, ℕ, List, [], Option, Some, None, ap, refl, subst, sym}
use Rattle.std.specs.Option.{unwrap_or}
use Rattle.uimg_base.specs.{Device.Device, Named.FileMap}
use Rattle.uimg_tool.specs.{InMemory.AnswersInMemory, WordAnswers.{AnswersLine, printed}}
use Rattle.uimg_tool.specs.declared.{command_line.CommandLine.CommandLine, complaints.Complaints.Complaints}
use Rattle.uimg_world.specs.Deeds.{Deed}

module _ {K V W : Type 0} (device : K → Device) (contents : V → Option (List ℕ)) (line : CommandLine) (world files : FileMap) (status : ℕ) (text : W → List ℕ) (first : List ℕ) (begun trace : List Deed) (before after : Complaints V)
    (same : world ≡ files) (none : begun ≡ []) (empty : first ≡ []) where
  answered : (last : List ℕ) → AnswersLine device (λ _. None) contents line world status (record { text = Some first; err = before; trace = begun }) (record { text = Some last; err = after; trace = trace })
      → AnswersInMemory device contents line files status last
  answered last answers = record {
    before = before;
    after = after;
    trace = trace;
    answers = subst (λ (m : FileMap). AnswersLine device (λ _. None) contents line m status (record { text = Some []; err = before; trace = [] }) (record { text = Some last; err = after; trace = trace })) same
        (subst (λ (t : List Deed). AnswersLine device (λ _. None) contents line world status (record { text = Some []; err = before; trace = t }) (record { text = Some last; err = after; trace = trace })) none
        (subst (λ (t : List ℕ). AnswersLine device (λ _. None) contents line world status (record { text = Some t; err = before; trace = begun }) (record { text = Some last; err = after; trace = trace })) empty answers));
  }

  -- what is printed is returned, unless memory for its buffer was refused
  pub told_or_lost : (out : Option W) (unused shown : W) → (out ≡ None → status ≡ 3) → shown ≡ unwrap_or out unused
      → AnswersLine device (λ _. None) contents line world status (record { text = Some first; err = before; trace = begun }) (record { text = printed (λ it. Some (text it)) out; err = after; trace = trace })
      → (status ≡ 3) ⊎ AnswersInMemory device contents line files status (text shown)
  told_or_lost None unused shown lost is answers = inl (lost refl)
  told_or_lost (Some out) unused shown lost is answers = inr (subst (λ (t : List ℕ). AnswersInMemory device contents line files status t) (sym (ap text is)) (answered (text out) answers))
