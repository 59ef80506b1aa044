-- What an extraction finds.
use Rattle.std.proofs.Common.{◌≡◌, ◌≤◌, ◌+◌, ℕ, List, length, Bool, true, false, Option, Some, Ok, Err, Result, IfOk, IsTrue, refl, ap, sym, ◌∙◌, subst, arith}
use Rattle.std.specs.List.{slice_get}
use Rattle.uimg_texts.specs.Slices.{slice}
use Rattle.uimg_base.specs.{Device.{Device, RisesIf}, Held.Held, Ranges.{Copies, ReadsAhead}}
use Rattle.uimg_base.specs.{Outcome.{Outcome, Tells, unless_refused, told, done}, Results.◌>>=◌}
use Rattle.uimg_base.specs.{Sink.{Sink, AppendsPrefix, AppendsFirst}, Using.Asks}
use Rattle.uimg_base.specs.declared.{ranges.MoveFault.MoveFault, status.Status.Status}
use Rattle.uimg_base.proofs.{SinkLaws.{Appends-none, prefix_none}, Slices.length-slice}
use Rattle.uimg_base.specs.declared.spans.Span.{Span}
use Rattle.uimg_base.specs.Ranges as moves
use Rattle.uimg_base.specs.declared.ranges.MoveFault.TheVariants as move
use Rattle.uimg_blob_reading.{specs.{Faults.refuses_memory, Blob.tree}, proofs.PhaseLaws.by_bool}
use Rattle.uimg_blob_reading.specs.{Grammar.Siblings, Roles.in_images, LookUps.NodeOf, Spots.Spot}
use Rattle.uimg_blob_reading.specs.Indexed.{TakesNodes}
use Rattle.uimg_fit_base.specs.{declared.fault.Fault.Fault, Places.{payload, place, TellsPlace}}
use Rattle.uimg_fit_base.specs.declared.fault.Fault.TheVariants.{Blob as OfBlob, Fit, Read, Put}
use Rattle.uimg_fit_base.specs.Faults.{Gives, of_move, end_of, is_refused}
use Rattle.uimg_fit_base.specs.Extraction.{of_images, payload_of, payload_at, extract_of}
use Rattle.uimg_fit_base.proofs.FileLaws.{images_are}
use Rattle.uimg_fit_reading.specs.{Nodes.{IsNode, HasImage}, Work.{list_work, extract_work}}
use Rattle.uimg_fit_reading.specs.PayloadPlaces.{place_of, place_at}
use Rattle.uimg_fit_reading.specs.Rooms.{InspectsBetween, DeliversBetween}
use Rattle.uimg_texts.specs.declared.naming.Naming.{TheVariants.{Profile}}

-- the payload at the position of an image
payload_is : (file : List ℕ) (t : Siblings) (position number : ℕ) → tree file ≡ Ok t → (h : HasImage t position number) → payload_at file position ≡ of_images (payload file h.image)
payload_is file t position number is h =
    ap (λ (r : Result (List (NodeOf Spot)) Fault). r >>= (λ found. of_images (payload_of file (slice_get found position)))) (images_are file t (Some h.found) is h.is)
    ∙ ap (λ (o : Option (NodeOf Spot)). of_images (payload_of file o)) h.has

pub by_answer : (file : List ℕ) (image : NodeOf Spot) (result : Result Span Fault) → TellsPlace file image result → Gives (λ (p : Span). slice file p.place p.length) result (of_images (payload file image))
by_answer file image (Ok p) tells = ap of_images tells
by_answer file image (Err (Fit fault)) tells = ap of_images tells
by_answer file image (Err (OfBlob fault at)) tells = absurd tells
by_answer file image (Err Read) tells = tt
by_answer file image (Err Put) tells = tt

-- what is told of an image's place is what the extraction finds
pub gives_payload : (file : List ℕ) (t : Siblings) (position number : ℕ) (result : Result Span Fault) → tree file ≡ Ok t → HasImage t position number
    → ((found : NodeOf Spot) → IsNode t in_images number found → TellsPlace file found result) → Gives (λ (p : Span). slice file p.place p.length) result (payload_at file position)
gives_payload file t position number result is h tells =
    subst (λ (r : Result (List ℕ) Fault). Gives (λ (p : Span). slice file p.place p.length) result r) (sym (payload_is file t position number is h)) (by_answer file h.image result (tells h.image h.node))

-- the span of the payload at the position of an image
place_is : (file : List ℕ) (t : Siblings) (position number : ℕ) → tree file ≡ Ok t → (h : HasImage t position number) → place_at file position ≡ of_images (place file h.image)
place_is file t position number is h =
    ap (λ (r : Result (List (NodeOf Spot)) Fault). r >>= (λ found. of_images (place_of file (slice_get found position)))) (images_are file t (Some h.found) is h.is)
    ∙ ap (λ (o : Option (NodeOf Spot)). of_images (place_of file o)) h.has

pub found_place : (file : List ℕ) (t : Siblings) (position number : ℕ) (result : Result Span Fault) → tree file ≡ Ok t → HasImage t position number
    → ((found : NodeOf Spot) → IsNode t in_images number found → IfOk result (λ p. place file found ≡ Ok p)) → IfOk result (λ p. place_at file position ≡ Ok p)
found_place file t position number (Ok p) is h tells = place_is file t position number is h ∙ ap of_images (tells h.image h.node)
found_place file t position number (Err fault) is h tells = tt

pub at_least : (n more : ℕ) → n ≤ n + more
at_least n more = omega arith

-- the image is refused before anything is written
pub refusal_delivers : {X : Type 0} (least most : ℕ) (e : Fault) (d m : Device) (h i : Held) (s : Sink) → least ≤ most → InspectsBetween {X = X} least (Err e) d m h i → DeliversBetween {X = Status} most (Err e) d m h i s s
refusal_delivers least most (OfBlob fault at) d m h i s few p = record { uses = record { same = p.uses.same; asked = λ honest. omega (arith, p.uses.asked honest); failures = p.uses.failures }; room = p.room; faults = refl; no_making = p.no_making }
refusal_delivers least most (Fit fault) d m h i s few p = record { uses = record { same = p.uses.same; asked = λ honest. omega (arith, p.uses.asked honest); failures = p.uses.failures }; room = p.room; faults = refl; no_making = p.no_making }
refusal_delivers least most Read d m h i s few p = record { uses = record { same = p.uses.same; asked = λ honest. omega (arith, p.uses.asked honest); failures = p.uses.failures }; room = p.room; faults = refl; no_making = p.no_making }
refusal_delivers least most Put d m h i s few p = let no : true ≡ false = p.no_put in cc

pub refusal_told : (file : List ℕ) (position : ℕ) (e : Fault) (s : Sink) → Gives {X = Span} (λ (p : Span). slice file p.place p.length) (Err e) (payload_at file position) → Tells (end_of (Err e)) (extract_of file position) s s
refusal_told file position (OfBlob fault at) s gives = by_bool (refuses_memory fault)
    (λ yes. rw yes (prefix_none s (extract_of file position).text))
    (λ not. rw not (let is = ap (λ (r : Result (List ℕ) Fault). unless_refused r (λ bytes. told bytes done)) (gives not) in rw is (refl, record { appended = Appends-none s.contents })))
refusal_told file position (Fit fault) s gives =
    let is = ap (λ (r : Result (List ℕ) Fault). unless_refused r (λ bytes. told bytes done)) gives in rw is (refl, record { appended = Appends-none s.contents })
refusal_told file position Read s gives = prefix_none s (extract_of file position).text
refusal_told file position Put s gives = prefix_none s (extract_of file position).text

pub refusal_ahead : (d m : Device) (h i : Held) (s : Sink) (e : Fault) (text : List ℕ) → InspectsBetween {X = Span} (list_work Profile d.bytes) (Err e) d m h i → IsTrue d.honest → ReadsAhead (list_work Profile d.bytes) d m s s text
refusal_ahead d m h i s e text p honest = record { count = 0; first = record { within = omega arith; appended = Appends-none s.contents }; ahead = omega (arith, p.uses.asked honest) }

-- the text of an extraction is the payload that was found
text_is : (file : List ℕ) (position : ℕ) (bytes : List ℕ) → payload_at file position ≡ Ok bytes → (extract_of file position).text ≡ bytes
text_is file position bytes is = ap (λ (r : Result (List ℕ) Fault). (unless_refused r (λ bytes. told bytes done)).text) is

-- the copy of a payload stopped
pub stop_delivers : (position : ℕ) (p : Span) (f : MoveFault) (d m e : Device) (h i j : Held) (s t : Sink)
    → InspectsBetween {X = Span} (list_work Profile d.bytes) (Ok p) d m h i → p.place + p.length ≤ length d.bytes
    → (IsTrue d.honest → payload_at d.bytes position ≡ Ok (slice d.bytes p.place p.length))
    → Asks p.length (moves.is_read {X = Unit} (Err f)) m e → j ≡ i → RisesIf (moves.is_put {X = Unit} (Err f)) s.faults t.faults
    → DeliversBetween {X = Status} (extract_work d.bytes position) (Err (of_move f)) d e h j s t
stop_delivers position p move.Read d m e h i j s t q inside is asks same faults = record {
  uses = record {
    same = record { bytes = asks.same.bytes ∙ q.uses.same.bytes; honest = asks.same.honest ∙ q.uses.same.honest };
    asked = λ honest. omega (arith, q.uses.asked honest, asks.asked, ap length (text_is d.bytes position _ (is honest)), length-slice d.bytes p.place p.length inside);
    failures = subst (λ (k : ℕ). RisesIf true k e.failures) q.uses.failures asks.failures;
  };
  room = subst (λ (x : Held). TakesNodes d false h x) (sym same) q.room;
  faults = faults;
  no_making = refl;
}
stop_delivers position p move.Put d m e h i j s t q inside is asks same faults = record {
  uses = record {
    same = record { bytes = asks.same.bytes ∙ q.uses.same.bytes; honest = asks.same.honest ∙ q.uses.same.honest };
    asked = λ honest. omega (arith, q.uses.asked honest, asks.asked, ap length (text_is d.bytes position _ (is honest)), length-slice d.bytes p.place p.length inside);
    failures = asks.failures ∙ q.uses.failures;
  };
  room = subst (λ (x : Held). TakesNodes d false h x) (sym same) q.room;
  faults = faults;
  no_making = refl;
}

pub stop_ahead : (position : ℕ) (p : Span) (d m e : Device) (h i : Held) (s t : Sink) → InspectsBetween {X = Span} (list_work Profile d.bytes) (Ok p) d m h i
    → (IsTrue d.honest → payload_at d.bytes position ≡ Ok (slice d.bytes p.place p.length))
    → (IsTrue m.honest → Copies true m e s t (slice m.bytes p.place p.length)) → IsTrue d.honest → ReadsAhead (list_work Profile d.bytes) d e s t (extract_of d.bytes position).text
stop_ahead position p d m e h i s t q is copied honest =
    let c = copied (subst (λ (b : Bool). IsTrue b) (sym q.uses.same.honest) honest) in
    let same : slice m.bytes p.place p.length ≡ (extract_of d.bytes position).text = ap (λ (w : List ℕ). slice w p.place p.length) q.uses.same.bytes ∙ sym (text_is d.bytes position _ (is honest)) in
    record {
      count = c.prefix.count;
      first = subst (λ (w : List ℕ). AppendsFirst c.prefix.count s t w) same c.prefix.first;
      ahead = omega (arith, q.uses.asked honest, c.prefix.ahead);
    }

pub stop_told : (f : MoveFault) (o : Outcome Fault) (s t : Sink) → AppendsPrefix s t o.text → Tells (end_of (Err (of_move f))) o s t
stop_told move.Read o s t p = p
stop_told move.Put o s t p = p

pub stop_unrefused : (f : MoveFault) → IsTrue (is_refused {X = Status} (Err (of_move f))) → ⊥
stop_unrefused move.Read is = let no : false ≡ true = is in cc
stop_unrefused move.Put is = let no : false ≡ true = is in cc
