use Rattle.std.proofs.Common.{◌≡◌, arith, true, false, refl, sym, ◌∙◌}
use Rattle.std.specs.Prelude.{not, bytes_eq}
use Rattle.bz_key.specs.Packing.{packed_len}
use Rattle.bz_node.specs.Reading.{part}
use Rattle.bz_slotted.proofs.Plain.{not-true, not-false, plain-key-is}
use Rattle.bz_slotted.proofs.records.is_plain_key.Goals as goal

pub returns-then-ne : goal.returns-then-ne
returns-then-ne c =
    let e = c.args.extent in
    let d : not (bytes_eq (part c.args.raw.now e.offset (packed_len e.key)) (part c.args.words.now e.offset (packed_len e.key))) ≡ true = rw (c.words_for.ensures.words) at (sym c.ne.ensures ∙ c.if-ne.true) in
    let f = not-true (bytes_eq (part c.args.raw.now e.offset (packed_len e.key)) (part c.args.words.now e.offset (packed_len e.key))) d in
    rw (plain-key-is c.args.raw.now c.args.words.now e (omega (arith, c.requires.inside, c.requires.raw)) (omega (arith, c.requires.inside, c.requires.whole)), f) refl

pub returns : goal.returns
returns c =
    let e = c.args.extent in
    let d : not (bytes_eq (part c.args.raw.now e.offset (packed_len e.key)) (part c.args.words.now e.offset (packed_len e.key))) ≡ false = rw (c.words_for.ensures.words) at (sym c.ne.ensures ∙ c.if-ne.false) in
    let f = not-false (bytes_eq (part c.args.raw.now e.offset (packed_len e.key)) (part c.args.words.now e.offset (packed_len e.key))) d in
    let o = rw (c.words_for.ensures.words) at c.from_words.ensures in
    c.is_some.ensures ∙ sym (rw (plain-key-is c.args.raw.now c.args.words.now e (omega (arith, c.requires.inside, c.requires.raw)) (omega (arith, c.requires.inside, c.requires.whole)), f, ← o) refl)
