-- What is written is what is summed, over any device.
use Rattle.std.specs.Prelude.{◌≡◌, ℕ, List, IsTrue}
use Rattle.uimg_texts.specs.Slices.{slice}
use Rattle.uimg_base.specs.Device.{Device}
use Rattle.uimg_base.specs.Lent.{Lent}
use Rattle.uimg_base.specs.Sink.{Sink, AppendsAll}
use Rattle.uimg_base.specs.declared.spans.Span.{Span}
use Rattle.uimg_fit_base.specs.declared.algo_sets.AlgoSet.{AlgoSet}
use Rattle.uimg_fit_base.specs.declared.algo_sets.Digests.{Digests}
use Rattle.uimg_fit_base.specs.AlgoSets.{set_of, AreDigests}

-- The digests, by the algorithms of a set, of the bytes appended to an output: the payload at a
-- span of the device, if it is honest.
pub record TakesPayloadBetween (d : Device) (payload : Span) (algos : AlgoSet) (found : Digests)
    (s t : Sink) : Type 0 where
  -- what was read, whatever the source returned
  pub message : List ℕ
  pub set : set_of found ≡ algos
  -- its digests
  pub digests : AreDigests found message
  -- exactly this was written
  pub wrote : AppendsAll s t message
  -- the payload in the file, if the source is honest
  pub right : IsTrue d.honest → message ≡ slice d.bytes payload.place payload.length

abbrev pub TakesPayload : {S : Type 0} → (S → Device) → Lent S → Span → AlgoSet → Digests
    → Lent Sink → Type 0
TakesPayload device source payload algos found out =
    TakesPayloadBetween (device source.entry.now) payload algos found out.entry.now out.exit.now
