-- The properties of configurations, listed one configuration after another.
use Rattle.std.proofs.Common.{◌≡◌, ◌≤◌, ◌+◌, ◌*◌, ℕ, List, [], ◌∷◌, ◌++◌, length, map, Option, Result, Ok, Err, Vec, IsTrue, Bool, false, refl, ap, sym, ◌∙◌, subst, arith}
use Rattle.std.specs.List.{sum_by}
use Rattle.std.proofs.Math.ListN.{length-map}
use Rattle.std.proofs.lemmas.List.{map-append}
use Rattle.std.proofs.lemmas.List.Sums.{sum_by-append, sum_by-cons}
use Rattle.uimg_base.specs.Device.{Device, SameDevice, RisesIf}
use Rattle.uimg_base.specs.Held.{Held}
use Rattle.uimg_base.specs.Using.{Uses, UsesAtMost}
use Rattle.uimg_base.specs.declared.spans.Span.{Span}
use Rattle.uimg_blob_reading.specs.declared.nodes.Blob.{Blob}
use Rattle.uimg_blob_reading.specs.declared.places.PropertyPlace.{PropertyPlace}
use Rattle.uimg_blob_reading.specs.declared.properties.PropertiesFault.{PropertiesFault}
use Rattle.uimg_blob_reading.specs.declared.properties.PropertiesFault.TheVariants.{Read, OutOfMemory, Changed}
use Rattle.uimg_blob_reading.specs.Counts.{nops_met}
use Rattle.uimg_blob_reading.specs.Grammar.{Siblings}
use Rattle.uimg_blob_reading.specs.Indexed.{value_span}
use Rattle.uimg_blob_reading.specs.LookUps.{NodeOf, configurations}
use Rattle.uimg_blob_reading.specs.Plain.{NamedOf, with_value}
use Rattle.uimg_blob_reading.specs.Properties.{places_of, OfRowRead, TellsPlaces}
use Rattle.uimg_blob_reading.specs.Roles.{in_configurations}
use Rattle.uimg_blob_reading.specs.Rows.{Row}
use Rattle.uimg_blob_reading.specs.Spots.{Spot, spot_of, spots}
use Rattle.uimg_blob_reading.specs.Reading.{Fault as BlobFaultAt}
use Rattle.uimg_fit_base.specs.Files.{spots_in}
use Rattle.uimg_fit_base.specs.declared.fault.Fault.TheVariants as of
use Rattle.uimg_fit_checking.specs.FullSurvey.{properties_said, properties_in, properties_read, properties_of, read_properties, list_cost, properties_cost, ReadsAs, TellsFacts, TellsProperties, TellsLists}
use Rattle.uimg_fit_reading.specs.Nodes.{IsRead, IsNode, AreFrom, HasTree, Opened, OfNode}
use Rattle.uimg_fit_checking.specs.declared.surveying.fault.SurveyFault.{SurveyFault}
use Rattle.uimg_fit_checking.specs.declared.surveying.fault.SurveyFault.TheVariants as survey
use Rattle.uimg_fit_reading.proofs.NodeLaws.{node_row}
use Rattle.uimg_fit_checking.proofs.SurveyLaws.{Gathered, one_gathered, all_gathered}

-- an answer on properties as one of a survey
abbrev pub surveyed : {Z : Type 0} → Result (Vec PropertyPlace Z) PropertiesFault → Result (Vec PropertyPlace Z) SurveyFault
surveyed (Ok places) = Ok places
surveyed (Err Read) = Err (survey.Stopped of.Read)
surveyed (Err OutOfMemory) = Err survey.OutOfMemory
surveyed (Err Changed) = Err survey.Changed

places_read : {Z : Type 0} (file : List ℕ) (row : Row) (said : List (NamedOf Span)) (result : Result (Vec PropertyPlace Z) PropertiesFault) → places_of row ≡ said → TellsPlaces file (places_of row) result
    → ReadsAs (read_properties file) said (surveyed result)
places_read file row said (Ok places) is told = told ∙ is
places_read file row said (Err Read) is told = refl
places_read file row said (Err OutOfMemory) is told = refl
places_read file row said (Err Changed) is told = absurd told

-- the properties of a node are those of its row
pub list_told : {Z : Type 0} (d e : Device) (blob : Blob) (room : Held) (number : ℕ) (result : Result (Vec PropertyPlace Z) PropertiesFault)
    → OfRowRead d blob room.entries number (λ row. e.asked ≤ d.asked + (44 + 268 * length row.own + 4 * nops_met d.bytes))
    → OfRowRead d blob room.entries number (λ row. TellsPlaces d.bytes (places_of row) result)
    → OfNode d blob room in_configurations number (λ found. TellsProperties d e found (surveyed result))
list_told d e blob room number result asked told t opened found n =
    let r = node_row t in_configurations number found n in
    let are : places_of r.row ≡ properties_said found = ap (λ (own : List (NamedOf Spot)). map (with_value value_span) own) r.own in
    let count : length (properties_said found) ≡ length r.row.own =
    ap (λ (l : List (NamedOf Span)). length l) (sym are) ∙ length-map (map spot_of r.row.own) (with_value value_span) ∙ length-map r.row.own spot_of in
    let read = opened.read in
    record {
      told = places_read d.bytes r.row (properties_said found) result are (told opened.honest t read.is read.indexed read.totalsize r.row r.is);
      asked = omega (arith, count, asked opened.honest t read.is read.indexed read.totalsize r.row r.is);
    }

-- the same over a source that is what it was
pub over_same : {Z : Type 0} (d e f : Device) (blob : Blob) (h k : Held) (t : Siblings) (number : ℕ) (found : NodeOf Spot) (result : Result (Vec PropertyPlace Z) SurveyFault) → SameDevice d e → k ≡ h
    → OfNode e blob k in_configurations number (λ node. TellsProperties e f node result) → Opened d blob h t → IsNode t in_configurations number found
    → TellsFacts (read_properties d.bytes) (properties_said found) (list_cost (nops_met d.bytes) (properties_said found)) result e f
over_same d e f blob h k t number found result same room told opened n =
    let there : Opened e blob k t = record {
      honest = subst (λ (b : Bool). IsTrue b) (sym same.honest) opened.honest;
      read = subst (λ (bytes : List ℕ). IsRead bytes blob k.entries t) (sym same.bytes) (subst (λ (r : Held). IsRead d.bytes blob r.entries t) (sym room) opened.read);
    } in
    subst (λ (bytes : List ℕ). TellsFacts (read_properties bytes) (properties_said found) (list_cost (nops_met bytes) (properties_said found)) result e f) same.bytes (told t there found n)

-- The properties of some configurations are listed and paid for, and the others stand from a number on.
pub record Listed {Z : Type 0} (d : Device) (t : Siblings) (lists : List (Vec PropertyPlace Z)) (next : Option ℕ) (all : List (NodeOf Spot)) (asked : ℕ) : Type 0 where
  pub gathered : Gathered (Vec PropertyPlace Z) (List (NamedOf Span)) (AreFrom t in_configurations) (read_properties d.bytes) properties_said lists next all
  pub paid : asked ≤ d.asked + sum_by (list_cost (nops_met d.bytes)) (map (read_properties d.bytes) lists)

module _ {Z : Type 0} (d : Device) (t : Siblings) (all : List (NodeOf Spot)) where
  -- one more
  pub one_listed : (e f : Device) (lists grown : List (Vec PropertyPlace Z)) (places : Vec PropertyPlace Z) (next later : Option ℕ) (k : Listed d t lists next all e.asked) (x : NodeOf Spot) (more : List (NodeOf Spot))
      → k.gathered.left ≡ x ∷ more → TellsFacts (read_properties d.bytes) (properties_said x) (list_cost (nops_met d.bytes) (properties_said x)) (Ok places) e f
      → grown ≡ lists ++ places ∷ [] → AreFrom t in_configurations later more → Listed d t grown later all f.asked
  one_listed e f lists grown places next later k x more are tells grows at =
      let read = read_properties d.bytes in
      let price = list_cost (nops_met d.bytes) in
      let grown_read : map read grown ≡ map read lists ++ read places ∷ [] = ap (λ (l : List (Vec PropertyPlace Z)). map read l) grows ∙ map-append read lists (places ∷ []) in
      let sum = ap (sum_by price) grown_read ∙ sum_by-append price (map read lists) (read places ∷ []) in
      let one = sum_by-cons price (read places) [] in
      let same : price (read places) ≡ price (properties_said x) = ap price tells.told in
      record {
        gathered = one_gathered (AreFrom t in_configurations) read properties_said all lists grown places next later k.gathered x more are tells.told grows at;
        paid = omega (arith, sum, one, same, tells.asked, k.paid);
      }

  -- a stop in one
  pub cut_listed : {X Y : Type 0} (view : X → Y) (said : Y) (result : Result X SurveyFault) (e f : Device) (lists : List (Vec PropertyPlace Z)) (next : Option ℕ) (k : Listed d t lists next all e.asked) (x : NodeOf Spot) (more : List (NodeOf Spot))
      → k.gathered.left ≡ x ∷ more → TellsFacts view said (list_cost (nops_met d.bytes) (properties_said x)) result e f
      → f.asked ≤ d.asked + sum_by (list_cost (nops_met d.bytes)) (map properties_said all)
  cut_listed view said result e f lists next k x more are tells =
      let read = read_properties d.bytes in
      let price = list_cost (nops_met d.bytes) in
      let whole : map properties_said all ≡ map read lists ++ properties_said x ∷ map properties_said more =
      sym k.gathered.is ∙ ap (λ (l : List (NodeOf Spot)). map read lists ++ map properties_said l) are in
      let sum = ap (sum_by price) whole ∙ sum_by-append price (map read lists) (properties_said x ∷ map properties_said more) in
      let one = sum_by-cons price (properties_said x) (map properties_said more) in
      omega (arith, sum, one, tells.asked, k.paid)

  -- none is left
  pub all_listed : {W : Type 0} (e : Device) (lists : Vec (Vec PropertyPlace Z) W) (next : Option ℕ) (k : Listed d t lists.items next all e.asked) → k.gathered.left ≡ []
      → TellsLists d e (map properties_said all) (Ok lists)
  all_listed e lists next k none =
      let read = read_properties d.bytes in
      let told : map read lists.items ≡ map properties_said all = all_gathered (AreFrom t in_configurations) read properties_said all lists.items next k.gathered none in
      record { told = told; asked = omega (arith, k.paid, ap (sum_by (list_cost (nops_met d.bytes))) told) }

-- the properties of all configurations of a file are paid for
pub all_asked : {Z W : Type 0} (d e f : Device) (blob : Blob) (room : Held) (result : Result (Vec (Vec PropertyPlace Z) W) SurveyFault) → SameDevice d e → HasTree d.bytes blob room.entries
    → ((t : Siblings) → Opened e blob room t → TellsLists e f (properties_in (configurations (spots t))) result) → IsTrue d.honest → f.asked ≤ e.asked + properties_cost d.bytes
all_asked d e f blob room result same has told honest =
    let t = has.nodes in
    let opened : Opened e blob room t = record {
      honest = subst (λ (b : Bool). IsTrue b) (sym same.honest) honest;
      read = subst (λ (bytes : List ℕ). IsRead bytes blob room.entries t) (sym same.bytes) has.read;
    } in
    let lists : properties_of d.bytes ≡ properties_in (configurations (spots t)) = ap (λ (r : Result Siblings BlobFaultAt). properties_read (spots_in r)) has.read.is in
    let cost : properties_cost d.bytes ≡ sum_by (list_cost (nops_met e.bytes)) (properties_in (configurations (spots t))) =
    ap (λ (l : List (List (NamedOf Span))). sum_by (list_cost (nops_met d.bytes)) l) lists
    ∙ ap (λ (bytes : List ℕ). sum_by (list_cost (nops_met bytes)) (properties_in (configurations (spots t)))) (sym same.bytes) in
    omega (arith, cost, (told t opened).asked)

-- one call after another
pub uses_more : {m : ℕ} {d e f : Device} (n : ℕ) (failed : Bool) → UsesAtMost m false d e → Uses failed e f → (IsTrue d.honest → f.asked ≤ e.asked + n) → UsesAtMost (m + n) failed d f
uses_more {f = f} n failed p q more = record {
  same = record { bytes = q.same.bytes ∙ p.same.bytes; honest = q.same.honest ∙ p.same.honest };
  asked = λ honest. omega (arith, p.asked honest, more honest);
  failures = subst (λ (k : ℕ). RisesIf failed k f.failures) p.failures q.failures;
}
