-- What the tests of single records, and of two that hold words, decide.
use Rattle.std.proofs.Common.{◌≡◌, ℕ, ◌+◌, ◌<◌, ◌==◌, ◌&&◌, true, arith}
use Rattle.std.specs.Prelude.{not, nat_le, is_some, bytes_eq}
use Rattle.std.specs.Bool.{Decides}
use Rattle.std.proofs.lemmas.Bool.Decides.{nat_tests, Decides-and, Decides-or, Decides-like}
use Rattle.std.proofs.lemmas.Slice.Eq.{bytes_eq-Decides}
use Rattle.bz_key.specs.Packing.{unpacked_key, unpacked_payload}
use Rattle.bz_layout.specs.declared.sizes.TheConstants.{NODE_WORDS}
use Rattle.bz_node.specs.Reading.{payload_len}
use Rattle.bz_word.specs.declared.meta.Extent.{Extent}
use Rattle.bz_word.specs.declared.meta.Meta.{Meta}
use Rattle.bz_slotted.specs.Page.{visible, held, used, extent_of, Page}
use Rattle.bz_slotted.specs.Records.{key_words, payload_words, weight}
use Rattle.bz_slotted.specs.Rules.{leaf_lengths_test, inner_lengths_test, inside_test, apart_test, plain_key_test, plain_payload_test, leaf_record_test, inner_record_test}
use Rattle.bz_slotted.specs.Whole.{IsLeafRecord, IsInnerRecord, IsInBlock, Disjoint, IsPlainKey, IsPlainPayload}
use Rattle.bz_slotted.proofs.Deciding.{Decides-self, Decides-le, Decides-some, Decides-implies}

Decides-leaf_lengths : (m : Meta) → Decides (leaf_lengths_test m) (IsLeafRecord m)
Decides-leaf_lengths m = (
  λ h. record { some = grind (arith, nat_tests); short = grind (arith, nat_tests); more = grind (arith, nat_tests); payload = grind (arith, nat_tests) },
  λ r. grind (arith, nat_tests, r.some, r.short, r.more, r.payload),
)

Decides-inner_lengths : (j : ℕ) (m : Meta) → Decides (inner_lengths_test j m) (IsInnerRecord j m)
Decides-inner_lengths j m = (
  λ h. record { pointer = grind (arith, nat_tests); first = λ e. grind (arith, nat_tests); some = λ l. grind (arith, nat_tests); short = grind (arith, nat_tests) },
  λ r. grind (arith, nat_tests, r.pointer, r.first, r.some, r.short),
)

Decides-in_block : (p : Page) (m : Meta) → Decides (nat_le NODE_WORDS ((extent_of m).offset + p.block) && nat_le ((extent_of m).offset + weight m) NODE_WORDS) (IsInBlock p m)
Decides-in_block p m = Decides-like _ (λ t. record { starts = t.0; ends = t.1 }) (λ r. (r.starts, r.ends))
    (Decides-and (nat_le NODE_WORDS ((extent_of m).offset + p.block)) (nat_le ((extent_of m).offset + weight m) NODE_WORDS) (Decides-le NODE_WORDS ((extent_of m).offset + p.block)) (Decides-le ((extent_of m).offset + weight m) NODE_WORDS))

pub Decides-inside : (p : Page) (m : Meta) → Decides (inside_test p m) (held m ≡ true → IsInBlock p m)
Decides-inside p m = Decides-implies (held m) _ (Decides-self (held m)) (Decides-in_block p m)

pub Decides-apart : (p : Page) (i j : ℕ) → Decides (apart_test p i j) (held (p.meta i) ≡ true → held (p.meta j) ≡ true → Disjoint (p.meta i) (p.meta j))
Decides-apart p i j = Decides-implies (held (p.meta i)) _ (Decides-self (held (p.meta i))) (Decides-implies (held (p.meta j)) _ (Decides-self (held (p.meta j)))
    (Decides-or (nat_le ((extent_of (p.meta i)).offset + weight (p.meta i)) (extent_of (p.meta j)).offset) (nat_le ((extent_of (p.meta j)).offset + weight (p.meta j)) (extent_of (p.meta i)).offset)
    (Decides-le ((extent_of (p.meta i)).offset + weight (p.meta i)) (extent_of (p.meta j)).offset) (Decides-le ((extent_of (p.meta j)).offset + weight (p.meta j)) (extent_of (p.meta i)).offset)))

pub Decides-plain_key : (raw n : ℕ → ℕ) (e : Extent) → Decides (plain_key_test raw n e) (IsPlainKey raw n e)
Decides-plain_key raw n e = Decides-like (plain_key_test raw n e) (λ t. record { stands = t.0; packs = t.1 }) (λ r. (r.stands, r.packs))
    (Decides-and (bytes_eq (key_words raw e) (key_words n e)) (is_some (unpacked_key e.key (key_words n e))) (bytes_eq-Decides (key_words raw e) (key_words n e)) (Decides-some (unpacked_key e.key (key_words n e))))

pub Decides-plain_payload : (raw n : ℕ → ℕ) (e : Extent) → Decides (plain_payload_test raw n e) (IsPlainPayload raw n e)
Decides-plain_payload raw n e = Decides-like (plain_payload_test raw n e) (λ t. record { stands = t.0; packs = t.1 }) (λ r. (r.stands, r.packs))
    (Decides-and (bytes_eq (payload_words raw e) (payload_words n e)) (is_some (unpacked_payload (payload_len e) (payload_words n e))) (bytes_eq-Decides (payload_words raw e) (payload_words n e)) (Decides-some (unpacked_payload (payload_len e) (payload_words n e))))

-- one record of a leaf, and one of an inner node
pub record LeafRecord (raw : ℕ → ℕ) (p : Page) (j : ℕ) : Type 0 where
  pub taken : used (p.meta j) ≡ true
  pub lengths : IsLeafRecord (p.meta j)
  pub inside : held (p.meta j) ≡ true → IsInBlock p (p.meta j)
  pub key : visible (p.meta j) ≡ true → IsPlainKey raw p.word (extent_of (p.meta j))
  pub payload : visible (p.meta j) ≡ true → IsPlainPayload raw p.word (extent_of (p.meta j))

pub Decides-leaf_record : (raw : ℕ → ℕ) (p : Page) (j : ℕ) → Decides (leaf_record_test raw p j) (LeafRecord raw p j)
Decides-leaf_record raw p j = Decides-like (leaf_record_test raw p j)
    (λ t. record { taken = t.0; lengths = t.1.0; inside = t.1.1.0; key = λ v. (t.1.1.1 v).0; payload = λ v. (t.1.1.1 v).1 })
    (λ r. (r.taken, (r.lengths, (r.inside, λ v. (r.key v, r.payload v)))))
    (Decides-and (used (p.meta j)) _ (Decides-self (used (p.meta j)))
    (Decides-and (leaf_lengths_test (p.meta j)) _ (Decides-leaf_lengths (p.meta j))
    (Decides-and (inside_test p (p.meta j)) _ (Decides-inside p (p.meta j))
    (Decides-implies (visible (p.meta j)) _ (Decides-self (visible (p.meta j)))
    (Decides-and (plain_key_test raw p.word (extent_of (p.meta j))) (plain_payload_test raw p.word (extent_of (p.meta j))) (Decides-plain_key raw p.word (extent_of (p.meta j))) (Decides-plain_payload raw p.word (extent_of (p.meta j))))))))

pub record InnerRecord (raw : ℕ → ℕ) (p : Page) (j : ℕ) : Type 0 where
  pub shows : visible (p.meta j) ≡ true
  pub lengths : IsInnerRecord j (p.meta j)
  pub inside : held (p.meta j) ≡ true → IsInBlock p (p.meta j)
  pub key : 0 < j → IsPlainKey raw p.word (extent_of (p.meta j))

pub Decides-later : (j : ℕ) → Decides (not (j == 0)) (0 < j)
Decides-later j = (λ h. grind (arith, nat_tests), λ h. grind (arith, nat_tests))

pub Decides-inner_record : (raw : ℕ → ℕ) (p : Page) (j : ℕ) → Decides (inner_record_test raw p j) (InnerRecord raw p j)
Decides-inner_record raw p j = Decides-like (inner_record_test raw p j)
    (λ t. record { shows = t.0; lengths = t.1.0; inside = t.1.1.0; key = t.1.1.1 })
    (λ r. (r.shows, (r.lengths, (r.inside, r.key))))
    (Decides-and (visible (p.meta j)) _ (Decides-self (visible (p.meta j)))
    (Decides-and (inner_lengths_test j (p.meta j)) _ (Decides-inner_lengths j (p.meta j))
    (Decides-and (inside_test p (p.meta j)) _ (Decides-inside p (p.meta j))
    (Decides-implies (not (j == 0)) _ (Decides-later j) (Decides-plain_key raw p.word (extent_of (p.meta j)))))))
