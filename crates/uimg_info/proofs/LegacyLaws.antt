-- The object of a legacy image is sound.
use Rattle.std.proofs.Common.{ℕ, List, [], ◌∷◌, ◌++◌, map, codes}
use Rattle.uimg_base.specs.declared.spans.Span.{Span}
use Rattle.uimg_texts.specs.Nul.{text}
use Rattle.uimg_legacy.specs.declared.header.Header.{Header}
use Rattle.uimg_printing.proofs.LineLaws as line
use Rattle.uimg_printing.specs.Members.{Member, array_of, text_members}
use Rattle.uimg_info.specs.Legacy.{header_members, part_json, legacy_head, legacy_json}
use Rattle.uimg_printing.proofs.SoundLaws.{Sound, AreSound, append_sound, text_sound, items_sound}

part_sound : (part : Span) → Sound 1 (part_json part)
part_sound part = (line.number part.place, (line.number part.length, tt))

header_sound : (h : Header) → AreSound 2 (header_members h)
header_sound h = (
  line.number h.time,
  (
    line.number h.load,
    (
      line.number h.ep,
      (
        line.number _,
        (
          line.number h.dcrc,
          (tt, (line.number h.os, (tt, (line.number h.arch, (tt, (line.number h.kind, (tt, (line.number h.comp, (line.number h.size, tt))))))))),
        ),
      ),
    ),
  ),
)

head_sound : (path : List ℕ) (size : ℕ) → AreSound 2 (legacy_head path size)
head_sound path size = (tt, (line.number 0, (tt, (line.number size, tt))))

pub legacy_sound : (path : List ℕ) (size : ℕ) (h : Header) (parts : List Span) → Sound 3 (legacy_json path size h parts)
legacy_sound path size h parts =
    let array : List Member = (codes "parts", array_of (map part_json parts)) ∷ [] in
    append_sound 2 (legacy_head path size) (text_members (codes "name") (text h.name) ++ (header_members h ++ array)) (head_sound path size)
    (append_sound 2 (text_members (codes "name") (text h.name)) (header_members h ++ array) (text_sound 2 (codes "name") (text h.name))
    (append_sound 2 (header_members h) array (header_sound h) (items_sound 1 part_json part_sound parts, tt)))
