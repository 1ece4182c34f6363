-- A word that is read byte by byte.
use Rattle.std.specs.Prelude.{◌≡◌, ◌≢◌, ◌≤◌, ◌<◌, ℕ, ◌+◌, ◌*◌, ◌%◌, List, [], ◌∷◌, ◌++◌, length, get_or, take, drop, set}
use Rattle.std.proofs.Common.{arith, sym, ◌∙◌, refl}
use Rattle.std.proofs.lemmas.List.{nil_from_length, append_assoc, take_more_set, drop-drop, length-drop, length-set, append-nil}
use Rattle.bz_key.specs.Spelling.{hex_value, decoded}
use Rattle.bz_key.proofs.SpellingLaws.{decoded-plain, decoded-escape}
use Rattle.bz_key.specs.Steps.{Takes}

pub decoded-end : (word : List ℕ) → length word ≡ 0 → decoded word ≡ []
unfolding decoded
decoded-end word none = rw (nil_from_length word none) refl

pub takes_plain : (word : List ℕ) → 0 < length word → get_or word 0 0 ≢ 37 → Takes word (get_or word 0 0) 1
takes_plain [] some other = absurd (omega arith)
takes_plain (c ∷ word) some other = record { some = omega arith; within = omega arith; reads = decoded-plain c word other }

pub decoded-short : (word : List ℕ) → 0 < length word → length word < 3 → get_or word 0 0 ≡ 37 → decoded word ≡ []
unfolding decoded
decoded-short [] some short is = refl
decoded-short (c ∷ []) some short is = rw is refl
decoded-short (c ∷ x ∷ []) some short is = rw is refl
decoded-short (c ∷ x ∷ y ∷ word) some short is = absurd (omega arith)

pub takes_escape : (word : List ℕ) → 3 ≤ length word → get_or word 0 0 ≡ 37 → Takes word ((hex_value (get_or word 1 0) * 16 + hex_value (get_or word 2 0)) % 256) 3
takes_escape [] some is = absurd (omega arith)
takes_escape (c ∷ []) some is = absurd (omega arith)
takes_escape (c ∷ x ∷ []) some is = absurd (omega arith)
takes_escape (c ∷ x ∷ y ∷ word) some is = record { some = omega arith; within = omega arith; reads = rw is (decoded-escape x y word) }

-- so many bytes were read from the front of the word
pub record IsRead (word out : List ℕ) (at count : ℕ) : Type 0 where
  pub within : at ≤ length word
  pub below : count ≤ at
  pub room : length word ≤ length out
  pub reads : decoded word ≡ take count out ++ decoded (drop at word)

pub read-more : (word out : List ℕ) (at count byte taken : ℕ) → IsRead word out at count → Takes (drop at word) byte taken → IsRead word (set out count byte) (at + taken) (count + 1)
read-more word out at count byte taken h t =
    let left = length-drop at word in
    let long = length-set out count byte in
    record {
      within = omega (arith, h.within, t.within, left);
      below = omega (arith, h.below, t.some);
      room = omega (arith, h.room, long);
      reads = h.reads ∙ rw (t.reads, drop-drop taken at word, take_more_set out count byte (omega (arith, h.below, h.room, t.within, t.some, left))) (sym (append_assoc (take count out) (byte ∷ []) (decoded (drop (at + taken) word))));
    }

pub read-all : (word out : List ℕ) (at count : ℕ) → IsRead word out at count → decoded (drop at word) ≡ [] → take count out ≡ decoded word
read-all word out at count h none = sym (h.reads ∙ rw none (append-nil (take count out)))
