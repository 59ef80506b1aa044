use Rattle.std.proofs.Common.{List, ℕ, map, codes, ap, sym, ◌∙◌, ◌++◌, ◌∷◌, []}
use Rattle.json.specs.Token.{Token}
use Rattle.uimg_texts.specs.Nul.{text}
use Rattle.uimg_info.specs.Legacy.{header_members, part_json, legacy_head, legacy_members}
use Rattle.uimg_printing.specs.Members.{array_of, text_members, tokens_of}
use Rattle.uimg_printing.proofs.StepLaws.{one, after, appended_as, object_appended, tokens_append, tokens_one}
use Rattle.uimg_info.proofs.legacy.put_legacy.Goals as goal

pub returns : goal.returns
returns c =
    let h = c.args.header.now in
    let parts = array_of (map part_json c.args.parts.now) in
    let head = legacy_head c.args.path.now c.args.size in
    let name = text_members (codes "name") (text h.name) in
    let rest = header_members h in
    let all = tokens_append head (name ++ (rest ++ (codes "parts", parts) ∷ [])) ∙ ap (λ (l : List Token). tokens_of head ++ l) (tokens_one name rest (codes "parts") parts) in
    let named = appended_as _ _ _ _ (ap (λ (t : List ℕ). tokens_of (text_members (codes "name") t)) c.before_nul.ensures) c.in_ok-put_text.ensures in
    object_appended _ _ _ _ (legacy_members c.args.path.now c.args.size h c.args.parts.now)
    (one c.in_ok-begin_object.ensures.ok c.begin_object.ensures.room.0)
    (appended_as _ _ _ _ (sym all)
    (after c.in_ok-put_head.ensures (after named (after c.in_ok-put_header.ensures (after (one c.in_ok-key.ensures.ok c.key.ensures.room.0) c.in_ok-put_parts.ensures)))))
    (one c.in_ok-end_object.ensures.ok c.end_object.ensures.room.0)
