-- The files of names, and what a making leaves.
use Rattle.std.proofs.Common.{◌≡◌, ◌∷◌, [], ℕ, List, Option, IsSome, None, Some, Ok, Err, Bool, true, false, IsTrue, zero, suc, map, length, drop, get_or, All, ◌∙◌, ap, sym, subst, refl}
use Rattle.std.proofs.{Math.Nat.suc-ne-zero, lemmas.List.Elements.{All-nil, All-cons}}
use Rattle.uimg_base.specs.{Device.{Device, SameDevice}, Sink.{Sink, AppendsAll, AppendsPrefix}}
use Rattle.uimg_base.specs.{Outcome.{Outcome, done, refused, Tells}, declared.status.Status.Status}
use Rattle.uimg_base.specs.declared.status.Status.TheVariants.{Done, NotRight}
use Rattle.uimg_base.proofs.{SinkLaws.{prefix_none, appended_to_nothing}, DeviceLaws.never_rises}
use Rattle.uimg_blob_reading.specs.Faults.{refuses_memory}
use Rattle.uimg_legacy.specs.declared.{fault.LegacyFault.LegacyFault, options.Options.Options}
use Rattle.uimg_legacy.specs.{Building.legacy_built, Devices.{failures_of, OneRisesIf}}
use Rattle.uimg_legacy.specs.{Listing.list_of, declared.fault.Fault.Fault as LegacyEngineFault}
use Rattle.uimg_legacy.specs.Faults.{is_read as legacy_is_read}
use Rattle.uimg_texts.specs.declared.naming.Naming.{Naming}
use Rattle.uimg_engine.specs.{declared.fault.Fault.Fault, Headline.{end_as, outcome_as}}
use Rattle.uimg_engine.specs.declared.fault.Fault.TheVariants.{Legacy, Blob, Fit, Its, Read, Put, NoFile, Keep, OutOfMemory}
use Rattle.uimg_legacy.specs.declared.fault.Fault.TheVariants as legacy
use Rattle.uimg_engine.specs.Faults.{end_of, unless_memory, is_unread, is_keep, is_no_memory, is_of_making, of_legacy}
use Rattle.uimg_engine.specs.Making.{HaveParts, KeepsBuilt, MakesParts, Breaks, BuildsNames, StopsMaking}

-- names that have parts have files
pub have_files : (files : List ℕ → Option (List ℕ)) (names parts : List (List ℕ)) → HaveParts files names parts → All (λ name. IsSome (files name)) names
have_files files [] parts have = All-nil (λ name. IsSome (files name))
have_files files (name ∷ names) [] have = absurd (suc-ne-zero _ (ap (λ (xs : List (Option (List ℕ))). length xs) have))
have_files files (name ∷ names) (part ∷ parts) have = All-cons (λ name. IsSome (files name)) name names (subst (λ (p : Option (List ℕ)). IsSome p) (sym (ap (λ (xs : List (Option (List ℕ))). get_or xs 0 None) have)) refl) (have_files files names parts (ap (λ (xs : List (Option (List ℕ))). drop 1 xs) have))

-- why an image is not built, where nothing is listed
pub building_stops : (X : Type 0) (naming : Naming) (options : Options) (files : List ℕ → Option (List ℕ)) (names : List (List ℕ)) (f : Fault) (image built : Sink) (s : Sink) → is_keep {X = X} (Err f) ≡ false → BuildsNames {X = X} options files names (Err f) image built → StopsMaking naming options files names f s s
building_stops X naming options files names (Legacy f) image built s never stop = (record { parts = stop.parts; have = stop.have; refused = stop.builds }, refl)
building_stops X naming options files names (Blob f at) image built s never stop = absurd stop.builds
building_stops X naming options files names (Fit f) image built s never stop = absurd stop.builds
building_stops X naming options files names (Its f) image built s never stop = absurd stop.builds
building_stops X naming options files names Read image built s never stop = record { parts = stop.parts; have = stop.have; prefix = prefix_none s _ }
building_stops X naming options files names Put image built s never stop = (
  record { parts = stop.parts; have = stop.have; accepted = stop.builds.0 },
  record { parts = stop.parts; have = stop.have; prefix = prefix_none s _ },
)
building_stops X naming options files names (NoFile i) image built s never stop = (stop, refl)
building_stops X naming options files names Keep image built s never stop = absurd stop.builds
building_stops X naming options files names OutOfMemory image built s never stop = refl

-- an image that was built on an empty shelf, and kept
pub keeping : (X : Type 0) (options : Options) (files : List ℕ → Option (List ℕ)) (names : List (List ℕ)) (x : X) (image built : Sink) (kept : Device) → BuildsNames options files names (Ok x) image built → image.contents ≡ Some [] → built.contents ≡ Some kept.bytes → IsTrue kept.honest → KeepsBuilt options files names kept
keeping X options files names x image built kept builds empty whole honest =
    record {
      parts = builds.parts;
      have = builds.have;
      image = record {
        accepted = builds.builds.accepted;
        bytes = appended_to_nothing image built kept.bytes _ empty whole builds.builds.written;
        honest = honest;
        reads_back = builds.builds.reads_back;
      };
    }

-- all of a text that some end tells
pub all_told : (status : Status) (o : Outcome Fault) (s t : Sink) → Tells (end_of (Ok status)) o s t → AppendsAll s t o.text
all_told Done o s t told = told.1
all_told NotRight o s t told = told.1

-- what is kept, and then listed
pub listing_makes : (naming : Naming) (options : Options) (files : List ℕ → Option (List ℕ)) (names : List (List ℕ)) (kept now : Device) (status : Status) (s t : Sink) → KeepsBuilt options files names kept → SameDevice kept now → Tells (end_of (Ok status)) (outcome_as Legacy (list_of naming kept.bytes)) s t → MakesParts naming options files names now s t
listing_makes naming options files names kept now status s t keeps same told =
    let listed = all_told status (outcome_as Legacy (list_of naming kept.bytes)) s t told in
    record {
      keeps = record {
        parts = keeps.parts;
        have = keeps.have;
        image = record {
          accepted = keeps.image.accepted;
          bytes = same.bytes ∙ keeps.image.bytes;
          honest = subst (λ (b : Bool). IsTrue b) (sym same.honest) keeps.image.honest;
          reads_back = keeps.image.reads_back;
        };
      };
      listed = subst (λ (image : List ℕ). AppendsAll s t (list_of naming image).text) keeps.image.bytes listed;
      done = keeps.image.reads_back.listing naming;
    }

-- a listing that ends well is not refused
not_done : (o : Outcome LegacyFault) (f : Fault) (s t : Sink) → o.end ≡ done → Tells (Some (refused f)) (outcome_as Legacy o) s t → ⊥
not_done o f s t ends told = let e : refused f ≡ done = sym told.0 ∙ ap (end_as Legacy) ends in absurd (cc)

no_blob : (b : Bool) (o : Outcome LegacyFault) (f : Fault) (s t : Sink) → o.end ≡ done → b ≡ false → Tells (unless_memory b (refused f)) (outcome_as Legacy o) s t → ⊥
no_blob true o f s t ends is told = absurd (cc)
no_blob false o f s t ends is told = not_done o f s t ends told

broken : (naming : Naming) (options : Options) (files : List ℕ → Option (List ℕ)) (names : List (List ℕ)) (kept : Device) (s t : Sink) (keeps : KeepsBuilt options files names kept) → AppendsPrefix s t (list_of naming (legacy_built options keeps.parts)).text → Breaks naming options files names s t
broken naming options files names kept s t keeps prefix = record { parts = keeps.parts; have = keeps.have; prefix = prefix }

listing_stops_by : (naming : Naming) (options : Options) (files : List ℕ → Option (List ℕ)) (names : List (List ℕ)) (kept : Device) (f : Fault) (s t : Sink) (keeps : KeepsBuilt options files names kept) → is_of_making {X = Status} (Err f) ≡ false → is_no_memory {X = Status} (Err f) ≡ false → Tells (end_of (Err f)) (outcome_as Legacy (list_of naming (legacy_built options keeps.parts))) s t → StopsMaking naming options files names f s t
listing_stops_by naming options files names kept (Legacy f) s t keeps not no_memory told = absurd (not_done _ _ s t (keeps.image.reads_back.listing naming) told)
listing_stops_by naming options files names kept (Blob f at) s t keeps not no_memory told = absurd (no_blob (refuses_memory f) _ _ s t (keeps.image.reads_back.listing naming) no_memory told)
listing_stops_by naming options files names kept (Fit f) s t keeps not no_memory told = absurd (not_done _ _ s t (keeps.image.reads_back.listing naming) told)
listing_stops_by naming options files names kept (Its f) s t keeps not no_memory told = absurd (not_done _ _ s t (keeps.image.reads_back.listing naming) told)
listing_stops_by naming options files names kept Read s t keeps not no_memory told = broken naming options files names kept s t keeps told
listing_stops_by naming options files names kept Put s t keeps not no_memory told =
    (record { parts = keeps.parts; have = keeps.have; accepted = keeps.image.accepted }, broken naming options files names kept s t keeps told)
listing_stops_by naming options files names kept (NoFile i) s t keeps not no_memory told = absurd (not_done _ _ s t (keeps.image.reads_back.listing naming) told)
listing_stops_by naming options files names kept Keep s t keeps not no_memory told = absurd (not_done _ _ s t (keeps.image.reads_back.listing naming) told)
listing_stops_by naming options files names kept OutOfMemory s t keeps not no_memory told = absurd (not_done _ _ s t (keeps.image.reads_back.listing naming) told)

-- why the listing of what was kept stops
pub listing_stops : (naming : Naming) (options : Options) (files : List ℕ → Option (List ℕ)) (names : List (List ℕ)) (kept : Device) (f : Fault) (s t : Sink) → KeepsBuilt options files names kept → is_of_making {X = Status} (Err f) ≡ false → is_no_memory {X = Status} (Err f) ≡ false → Tells (end_of (Err f)) (outcome_as Legacy (list_of naming kept.bytes)) s t → StopsMaking naming options files names f s t
listing_stops naming options files names kept f s t keeps not no_memory told =
    listing_stops_by naming options files names kept f s t keeps not no_memory (subst (λ (image : List ℕ). Tells (end_of (Err f)) (outcome_as Legacy (list_of naming image)) s t) keeps.image.bytes told)

-- devices that never fail have no failure at any number
pub no_failures : {S : Type 0} (device : S → Device) → ((s : S) → (device s).failures ≡ 0) → (sources : List S) (i : ℕ) → failures_of (map device sources) i ≡ 0
no_failures device never [] i = refl
no_failures device never (s ∷ sources) zero = never s
no_failures device never (s ∷ sources) (suc i) = no_failures device never sources i

-- so no read of them fails
pub none_fails : {S : Type 0} (device : S → Device) → ((s : S) → (device s).failures ≡ 0) → (failed : Bool) (old new : List S) → OneRisesIf failed (map device old) (map device new) → failed ≡ false
none_fails device never false old new rises = refl
none_fails device never true old new rises =
    never_rises true _ _ rises.rose (no_failures device never old rises.number) (no_failures device never new rises.number)

-- the fault of a building that is no failed read
pub no_read_kept : (X Y : Type 0) (fault : LegacyEngineFault) → legacy_is_read {X = X} (Err fault) ≡ false → is_unread {X = Y} (Err (of_legacy fault)) ≡ false
no_read_kept X Y (legacy.Legacy f) e = refl
no_read_kept X Y legacy.Read e = e
no_read_kept X Y legacy.Put e = refl
