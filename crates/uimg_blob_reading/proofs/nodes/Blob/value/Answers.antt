use Rattle.std.proofs.Common.{◌∙◌, ap, sym, List, ℕ, get_or}
use Rattle.uimg_blob_reading.specs.{Keys.name_of, Roles.keys_of, declared.roles.Role.Role}
use Rattle.uimg_blob_reading.specs.Kept.{slot, property_named}
use Rattle.uimg_blob_reading.proofs.LookLaws.{row_entry, entry_is, node_of, value_at, named_lies, few_bytes, span_lies, unkept, is_kept}
use Rattle.uimg_blob_reading.proofs.nodes.Blob.value.Goals as goal

pub returns-in_err-i-clause-value : goal.returns-in_err-i-clause-value
returns-in_err-i-clause-value g c row h =
    let r = row_entry c.args.self.now c.args.room.now.entries c.args.node row c.entry-entry.result h c.entry-entry.ensures in
    let role = c.role_in.ensures row.role (ap (λ (x : List ℕ). get_or x 3 0) r.1) in
    c.from_residual.ensures ∙ unkept row c.args.key c.role_in.result role (sym c.in_err-i.was ∙ c.slot_of.ensures.slot)

pub returns-clause-value : goal.returns-clause-value
returns-clause-value g c row h =
    let r = row_entry c.args.self.now c.args.room.now.entries c.args.node row c.entry-entry.result h c.entry-entry.ensures in
    let role = c.role_in.ensures row.role (ap (λ (x : List ℕ). get_or x 3 0) r.1) in
    let place = sym c.in_ok-i.was ∙ c.slot_of.ensures.slot in
    let found = property_named row.own (name_of c.args.key) in
    let lies = few_bytes found c.args.self.now.totalsize h.indexed.small (named_lies c.args.self.now.totalsize row.own (name_of c.args.key) r.2.valued) in
    let word = value_at (node_of row r.0) c.args.key c.in_ok-i.i c.entry-entry.result r.1 (sym (place ∙ ap (λ (x : Role). slot (name_of c.args.key) (keys_of x)) role)) in
    c.value_in.ensures found lies word ∙ is_kept row c.args.key c.role_in.result c.in_ok-i.i role place

pub returns-clause-inside : goal.returns-clause-inside
returns-clause-inside g c t h =
    let x = entry_is t c.args.self.now c.args.room.now.entries c.args.node c.entry-entry.result h c.entry-entry.ensures in
    let role = c.role_in.ensures x.kept.role (ap (λ (w : List ℕ). get_or w 3 0) x.is) in
    let place = sym c.in_ok-i.was ∙ c.slot_of.ensures.slot in
    let found = property_named x.kept.own (name_of c.args.key) in
    let lies = named_lies c.args.self.now.totalsize x.kept.own (name_of c.args.key) x.lies.valued in
    let word = value_at x.kept c.args.key c.in_ok-i.i c.entry-entry.result x.is (sym (place ∙ ap (λ (r : Role). slot (name_of c.args.key) (keys_of r)) role)) in
    span_lies found c.value_in.result c.args.self.now.totalsize (c.value_in.ensures found (few_bytes found c.args.self.now.totalsize h.small lies) word) lies
