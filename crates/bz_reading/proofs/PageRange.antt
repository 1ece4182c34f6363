-- The pairs of a page that was read are in their ranges, and not too many.
use Rattle.std.proofs.Common.{◌≡◌, ◌<◌, nat_lt, ℕ, Bool, cond, List, [], ◌∷◌, ◌++◌, length, Option, Some, None, option_map, option_and_then, refl, sym, ap, ◌∙◌, subst, inl, inr, arith, length-append}
use Rattle.std.specs.List.{AllByRecursion}
use Rattle.std.proofs.lemmas.Bool.{cases_Bool}
use Rattle.std.proofs.lemmas.Bool.Decides.{nat_tests}
use Rattle.std.proofs.lemmas.Option.{option_and_then_some}
use Rattle.serde_json.specs.Data.{Data, Items}
use Rattle.bz_key.specs.Bytes.{IsKey, IsPayload}
use Rattle.bz_key.specs.Spelling.{key_of_word, payload_of_word}
use Rattle.bz_key.specs.declared.limits.TheConstants.{PAGE_PAIRS}
use Rattle.bz_key.proofs.Proved.{keys_are_read, payloads_are_read}
use Rattle.bz_lines.specs.Ranges.{IsPair, ArePairs}
use Rattle.bz_reading.specs.Reading.{both, text_at, key_at, payload_at, pair_in, added, pairs_in, listed, page_items, page_in}

key_right : (o : Option (List ℕ)) (key : List ℕ) → option_and_then key_of_word o ≡ Some key → IsKey key
key_right None key is = absurd (cc)
key_right (Some s) key is = ((keys_are_read s key).0 is).0

payload_right : (o : Option (List ℕ)) (payload : List ℕ) → option_and_then payload_of_word o ≡ Some payload → IsPayload payload
payload_right None payload is = absurd (cc)
payload_right (Some s) payload is = ((payloads_are_read s payload).0 is).0

both_right : (x y : Option (List ℕ)) (pair : List ℕ × List ℕ) → ((key : List ℕ) → x ≡ Some key → IsKey key) → ((payload : List ℕ) → y ≡ Some payload → IsPayload payload)
    → both {C = List ℕ × List ℕ} (λ (key payload : List ℕ). (key, payload)) x y ≡ Some pair → IsPair pair
both_right None y pair h k is = absurd (cc)
both_right (Some key) None pair h k is = absurd (cc)
both_right (Some key) (Some payload) pair h k is =
    let told : List ℕ × List ℕ = (key, payload) in
    let same : told ≡ pair = cc in
    subst IsPair same (h key refl, k payload refl)

pair_right : (d : Data) (pair : List ℕ × List ℕ) → pair_in d ≡ Some pair → IsPair pair
pair_right d pair is = both_right (key_at 0 d) (payload_at 1 d) pair (key_right (text_at 0 d)) (payload_right (text_at 1 d)) is

all_more : (xs : List (List ℕ × List ℕ)) (x : List ℕ × List ℕ) → AllByRecursion IsPair xs → IsPair x → AllByRecursion IsPair (xs ++ x ∷ [])
all_more [] x h k = (k, tt)
all_more (y ∷ xs) x h k = (h.0, all_more xs x h.1 k)

one_more : (read : List (List ℕ × List ℕ)) (o : Option (List ℕ × List ℕ)) (rs : List (List ℕ × List ℕ)) → ((pair : List ℕ × List ℕ) → o ≡ Some pair → IsPair pair) → length read < PAGE_PAIRS
    → option_map (λ (pair : List ℕ × List ℕ). read ++ pair ∷ []) o ≡ Some rs → ArePairs read → ArePairs rs
one_more read None rs h room is before = absurd (cc)
one_more read (Some pair) rs h room is before =
    let same : read ++ pair ∷ [] ≡ rs = cc in
    subst ArePairs same (record { few = omega (arith, length-append read (pair ∷ [])); each = all_more read pair before.each (h pair refl) })

added_right : (d : Data) (read rs : List (List ℕ × List ℕ)) → added d read ≡ Some rs → ArePairs read → ArePairs rs
added_right d read rs is before = elim (cases_Bool (nat_lt (length read) PAGE_PAIRS)) [
  | inl room ↦
      let small : length read < PAGE_PAIRS = grind (arith, nat_tests) in
      one_more read (pair_in d) rs (pair_right d) small (sym (ap (λ (b : Bool). cond b (option_map (λ (pair : List ℕ × List ℕ). read ++ pair ∷ []) (pair_in d)) None) room) ∙ is) before
  | inr full ↦
      let gone : None ≡ Some rs = sym (ap (λ (b : Bool). cond b (option_map (λ (pair : List ℕ × List ℕ). read ++ pair ∷ []) (pair_in d)) None) full) ∙ is in absurd (cc)
]

pairs_right : (ds : List Data) (read rs : List (List ℕ × List ℕ)) → pairs_in ds read ≡ Some rs → ArePairs read → ArePairs rs
pairs_right [] read rs is before = let same : read ≡ rs = cc in subst ArePairs same before
pairs_right (d ∷ ds) read rs is before =
    option_and_then_some (pairs_in ds) (added d read) rs is (λ (x : List (List ℕ × List ℕ)) (one : added d read ≡ Some x) (rest : pairs_in ds x ≡ Some rs). pairs_right ds x rs rest (added_right d read x one before))

items_right : (o : Option Items) (rs : List (List ℕ × List ℕ)) → option_and_then (λ ds. pairs_in (listed ds) []) o ≡ Some rs → ArePairs rs
items_right None rs is = absurd (cc)
items_right (Some ds) rs is = pairs_right (listed ds) [] rs is (record { few = omega arith; each = tt })

pub page_right : (d : Data) (pairs : List (List ℕ × List ℕ)) → page_in d ≡ Some pairs → ArePairs pairs
page_right d pairs is = items_right (page_items d) pairs is
