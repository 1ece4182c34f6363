use Rattle.std.proofs.Common.{◌≡◌, refl, sym, ◌∙◌, Some}
use Rattle.bz_key.specs.Packing.{unpacked}
use Rattle.bz_node.specs.Reading.{key_part, payload_part, payload_len}
use Rattle.bz_node.proofs.Unpacked.{unpacked_key-some, unpacked_payload-some}
use Rattle.bz_join.proofs.words.pair_of.Goals as goal

pub returns : goal.returns
returns c =
    let e = c.args.extent in
    let words = c.args.words.now in
    let key_is = rw c.words_for.ensures.words at c.from_words-key.ensures in
    let payload_is = rw (c.words_for.ensures.words, c.words_for-2.ensures.words) at c.from_words-payload.ensures in
    let key_some : Some c.in-Some-Some.key ≡ Some (unpacked e.key (key_part words e)) = sym c.in-Some-Some.is-0 ∙ key_is ∙ unpacked_key-some e.key (key_part words e) c.requires.pair.key in
    let payload_some : Some c.in-Some-Some.payload ≡ Some (unpacked (payload_len e) (payload_part words e)) = sym c.in-Some-Some.is-1 ∙ payload_is ∙ unpacked_payload-some (payload_len e) (payload_part words e) c.requires.pair.payload in
    let key : c.in-Some-Some.key ≡ unpacked e.key (key_part words e) = cc in
    let payload : c.in-Some-Some.payload ≡ unpacked (payload_len e) (payload_part words e) = cc in
    rw (key, payload) refl
