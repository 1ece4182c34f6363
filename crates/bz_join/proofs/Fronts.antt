-- What is read as the level and the low fence of a node that breaks no rule.
use Rattle.std.proofs.Common.{◌≡◌, ℕ, zero, suc, ◌+◌, ◌≤◌, List, length, arith, refl, sym, ap, ◌∙◌, Option}
use Rattle.std.specs.Prelude.{Some, None, slice_index}
use Rattle.bz_key.specs.Packing.{packed_len, unpacked_key}
use Rattle.bz_key.proofs.UnpackingLaws.{unpacked_key-sound}
use Rattle.bz_layout.specs.declared.sizes.TheConstants.{NODE_WORDS, HEADER_AT, LOW_FENCE_AT, FENCE_WORDS}
use Rattle.bz_node.specs.Reading.{part}
use Rattle.bz_slotted.specs.Page.{words_at, page}
use Rattle.bz_slotted.specs.ReadingLaws.{node_of}
use Rattle.bz_slotted.specs.Rules.{node_fault}
use Rattle.bz_slotted.specs.Whole.{IsAtLevel, IsFence}
use Rattle.bz_slotted.proofs.Lists.{part-at}
use Rattle.bz_slotted.proofs.Proved.{inner_rules_are_facts, leaf_rules_are_facts}
use Rattle.bz_word.specs.Headers.{header, header_word, IsHeader}
use Rattle.bz_word.specs.declared.header.Header.{Header}
use Rattle.bz_word.proofs.Lemmas.{headers}

no-bytes : (words : List ℕ) → unpacked_key 0 words ≡ None
unfolding unpacked_key
no-bytes words = refl

-- what stands at a fence's place
fence-read : (words : List ℕ) (at len : ℕ) (bound : Option (List ℕ)) → at + FENCE_WORDS ≤ length words → IsFence (node_of words) at len bound → unpacked_key len (part words at (packed_len len)) ≡ bound
fence-read words at len None within f = (λ t. unpacked_key (f.0 t) (part words at (packed_len (f.0 t)))) ∙ no-bytes (part words at (packed_len 0))
fence-read words at len (Some key) within f =
    let u = unpacked_key-sound len (words_at (node_of words) at (packed_len len)) key f in ap (unpacked_key len) (sym (part-at words at (packed_len len) (omega (arith, within, u.0.fits, u.1)))) ∙ f

low-fence : (nodes : ℕ) (raw n : ℕ → ℕ) (level : ℕ) (low high : Option (List ℕ)) → node_fault nodes raw n level low high ≡ None → IsFence n LOW_FENCE_AT (page n).low low
low-fence nodes raw n zero low high none = ((leaf_rules_are_facts nodes raw n low high).0 none).fences.low
low-fence nodes raw n (suc level) low high none = ((inner_rules_are_facts nodes raw n (suc level) low high (omega arith)).0 none).fences.low

pub header-there : (nodes : ℕ) (raw n : ℕ → ℕ) (level : ℕ) (low high : Option (List ℕ)) → node_fault nodes raw n level low high ≡ None → IsAtLevel (page n) level
header-there nodes raw n zero low high none = ((leaf_rules_are_facts nodes raw n low high).0 none).level
header-there nodes raw n (suc level) low high none = ((inner_rules_are_facts nodes raw n (suc level) low high (omega arith)).0 none).level

module _ (words : List ℕ) (h : Header) (fits : IsHeader h) (word : header_word h ≡ slice_index words HEADER_AT) where
  pub low-read : (read : Option (List ℕ)) → length words ≡ NODE_WORDS → read ≡ unpacked_key h.low (part words LOW_FENCE_AT (packed_len h.low)) → (nodes : ℕ) (raw : ℕ → ℕ) (level : ℕ) (low high : Option (List ℕ)) → node_fault nodes raw (node_of words) level low high ≡ None → read ≡ low
  low-read read size is nodes raw level low high none =
      let len : h.low ≡ (page (node_of words)).low = ap (λ z. z.low) (sym (headers.value h fits)) ∙ ap (λ z. (header z).low) word in
      is ∙ (ap (λ z. unpacked_key z (part words LOW_FENCE_AT (packed_len z))) len ∙ fence-read words LOW_FENCE_AT (page (node_of words)).low low (omega (arith, size)) (low-fence nodes raw (node_of words) level low high none))

  pub level-read : (nodes : ℕ) (raw : ℕ → ℕ) (level : ℕ) (low high : Option (List ℕ)) → node_fault nodes raw (node_of words) level low high ≡ None → h.level ≡ level
  level-read nodes raw level low high none = ap (λ z. z.level) (sym (headers.value h fits)) ∙ (ap (λ z. (header z).level) word ∙ (header-there nodes raw (node_of words) level low high none).level)
