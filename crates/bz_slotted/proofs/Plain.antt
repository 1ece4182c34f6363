-- What the program finds of a record's place and words, in terms of the tests.
use Rattle.std.proofs.Common.{◌≡◌, ℕ, ◌+◌, ◌≤◌, ◌&&◌, Bool, true, false, List, [], length, arith, refl, sym, ap, ◌∙◌, Option}
use Rattle.std.proofs.lemmas.List.{nil_from_length}
use Rattle.bz_key.proofs.PackingLaws.{length-unpacked}
use Rattle.bz_node.specs.Layout.{bound_of}
use Rattle.bz_slotted.specs.Records.{key_words, key_in}
use Rattle.bz_slotted.proofs.Readings.{unpacked_key-some}
use Rattle.std.specs.Prelude.{not, bytes_eq, is_some, IsSome}
use Rattle.std.proofs.lemmas.Bool.{true≢false}
use Rattle.bz_key.specs.Packing.{packed_len, unpacked_key, unpacked_payload}
use Rattle.bz_layout.specs.declared.sizes.TheConstants.{NODE_WORDS}
use Rattle.bz_node.specs.Reading.{part, payload_at, payload_len, extent_words}
use Rattle.bz_word.specs.declared.meta.Extent.{Extent}
use Rattle.bz_word.specs.declared.meta.Meta.{Meta}
use Rattle.bz_slotted.specs.Page.{visible, extent_of, Page}
use Rattle.bz_slotted.specs.ReadingLaws.{node_of}
use Rattle.bz_slotted.specs.Rules.{inside_test, plain_key_test, plain_payload_test}
use Rattle.bz_slotted.proofs.Faults.{held-visible}
use Rattle.bz_slotted.proofs.Lists.{part-at}
use Rattle.bz_slotted.proofs.RecordTests.{Decides-inside}

pub not-true : (b : Bool) → not b ≡ true → b ≡ false
not-true true h = absurd (true≢false (sym h))
not-true false h = refl

pub not-false : (b : Bool) → not b ≡ false → b ≡ true
not-false true h = refl
not-false false h = absurd (true≢false h)

-- a visible record that passed lies within the node
pub inside-visible : (p : Page) (m : Meta) (e : Extent) → visible m ≡ true → inside_test p m ≡ true → e ≡ extent_of m → e.offset + extent_words e ≤ NODE_WORDS
inside-visible p m e v t is = rw is (((Decides-inside p m).0 t) (held-visible m v)).ends

pub plain-key-is : (raw words : List ℕ) (e : Extent) → e.offset + extent_words e ≤ length raw → e.offset + extent_words e ≤ length words →
    plain_key_test (node_of raw) (node_of words) e ≡ (bytes_eq (part raw e.offset (packed_len e.key)) (part words e.offset (packed_len e.key)) && is_some (unpacked_key e.key (part words e.offset (packed_len e.key))))
plain-key-is raw words e r w = rw (part-at raw e.offset (packed_len e.key) (omega arith), part-at words e.offset (packed_len e.key) (omega arith)) refl

pub plain-payload-is : (raw words : List ℕ) (e : Extent) → e.offset + extent_words e ≤ length raw → e.offset + extent_words e ≤ length words →
    plain_payload_test (node_of raw) (node_of words) e ≡ (bytes_eq (part raw (payload_at e) (packed_len (payload_len e))) (part words (payload_at e) (packed_len (payload_len e))) && is_some (unpacked_payload (payload_len e) (part words (payload_at e) (packed_len (payload_len e)))))
plain-payload-is raw words e r w = rw (part-at raw (payload_at e) (packed_len (payload_len e)) (omega arith), part-at words (payload_at e) (packed_len (payload_len e)) (omega arith)) refl

-- a key that is not there, and one that can be read
pub key-empty : (n : ℕ → ℕ) (e : Extent) → e.key ≡ 0 → [] ≡ key_in n e
key-empty n e h = sym (nil_from_length (key_in n e) (length-unpacked e.key (key_words n e) ∙ h))

pub key-read : (words : List ℕ) (e : Extent) (o : Option (List ℕ)) → e.offset + extent_words e ≤ length words → IsSome (unpacked_key e.key (key_words (node_of words) e)) → o ≡ unpacked_key e.key (part words e.offset (packed_len e.key)) → bound_of o ≡ key_in (node_of words) e
key-read words e o within some is =
    let words_are = part-at words e.offset (packed_len e.key) (omega arith) in
    let at_node : o ≡ unpacked_key e.key (key_words (node_of words) e) = is ∙ ap (unpacked_key e.key) (sym words_are) in
    ap bound_of (at_node ∙ unpacked_key-some e.key (key_words (node_of words) e) some)
