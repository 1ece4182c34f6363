-- A new key among keys that rise.
use Rattle.std.specs.Prelude.{◌≡◌, ◌≢◌, ℕ, ◌+◌, ◌-◌, ◌<◌, ◌≤◌, List, ◌∷◌, [], length, take, drop, get_or}
use Rattle.std.specs.List.{insert}
use Rattle.std.specs.Cmp.Lexicographic.{slice_cmp}
use Rattle.std.specs.Ordering.{nat_cmp}
use Rattle.std.specs.FinMap.{slice_cmp-IsAntisymmetric, nat_cmp-IsAntisymmetric}
use Rattle.std.proofs.Common.{arith, refl, sym, inl, inr}
use Rattle.std.proofs.lemmas.Bool.{cases_lt}
use Rattle.std.proofs.lemmas.Cmp.{nat_list_cmp_total, tied_itself}
use Rattle.std.proofs.lemmas.List.{map-append, take-map, drop-map, length-map, get_or-map}
use Rattle.std.proofs.lemmas.List.Edits.{get_or-insert_below, get_or-insert_at, get_or-insert_above, length-insert}
use Rattle.std.specs.declared.cmp.Ordering.{Ordering}
use Rattle.std.specs.declared.cmp.Ordering.TheVariants.{Less, Equal, Greater}
use Rattle.bz_node.specs.Records.{IsBefore, AreRising, keys_of}

get_or-above : (keys : List (List ℕ)) (i b : ℕ) (key : List ℕ) → i < b → i ≤ length keys → get_or (insert keys i key) b [] ≡ get_or keys (b - 1) []
get_or-above keys i b key above within =
    let e : b - 1 + 1 ≡ b = omega arith in
    rw e at (get_or-insert_above keys i key [] (b - 1) (omega arith) within)

-- a key put where the ones before are less and the others greater
pub AreRising-insert : (keys : List (List ℕ)) (i : ℕ) (key : List ℕ) → AreRising keys → i ≤ length keys
    → ((k : ℕ) → k < i → IsBefore (get_or keys k []) key) → ((k : ℕ) → i ≤ k → k < length keys → IsBefore key (get_or keys k [])) → AreRising (insert keys i key)
AreRising-insert keys i key rising within before after a b less inside =
    let long = length-insert keys i key within in
    elim (cases_lt b i) [
      | inl b_low ↦ rw (get_or-insert_below keys i key [] a (omega arith) within, get_or-insert_below keys i key [] b b_low within) (rising a b less (omega arith))
      | inr b_high ↦ elim (cases_lt i b) [
        | inl b_above ↦ elim (cases_lt a i) [
          | inl a_low ↦ rw (get_or-insert_below keys i key [] a a_low within, get_or-above keys i b key b_above within) (rising a (b - 1) (omega arith) (omega (arith, long)))
          | inr a_high ↦ elim (cases_lt i a) [
            | inl a_above ↦ rw (get_or-above keys i a key a_above within, get_or-above keys i b key b_above within) (rising (a - 1) (b - 1) (omega arith) (omega (arith, long)))
            | inr a_at ↦ (let e : a ≡ i = omega arith in rw (e, get_or-insert_at keys i key [] within, get_or-above keys i b key b_above within) (after (b - 1) (omega arith) (omega (arith, long))))
          ]
        ]
        | inr b_at ↦ (let e : b ≡ i = omega arith in rw (e, get_or-insert_at keys i key [] within, get_or-insert_below keys i key [] a (omega arith) within) (before a (omega arith)))
      ]
    ]

pub keys_of-insert : (pairs : List (List ℕ × List ℕ)) (i : ℕ) (r : List ℕ × List ℕ) → keys_of (insert pairs i r) ≡ insert (keys_of pairs) i r.0
keys_of-insert pairs i r = rw (map-append (λ (x : List ℕ × List ℕ). x.0) (take i pairs) (r ∷ drop i pairs), take-map (λ (x : List ℕ × List ℕ). x.0) i pairs, drop-map (λ (x : List ℕ × List ℕ). x.0) i pairs) refl

-- of two keys that are not the same, where the one is not before the other, the other is before the one
by_answer : (a b : List ℕ) (o : Ordering) → slice_cmp nat_cmp a b ≡ o → b ≢ a → (IsBefore a b → ⊥) → IsBefore b a
by_answer a b Less e other not_before = absurd (not_before e)
by_answer a b Equal e other not_before = absurd (other (sym (slice_cmp-IsAntisymmetric nat_cmp-IsAntisymmetric a b e)))
by_answer a b Greater e other not_before = rw (nat_list_cmp_total.antisymm b a, e) refl

pub is_before_other : (a b : List ℕ) → b ≢ a → (IsBefore a b → ⊥) → IsBefore b a
is_before_other a b other not_before = by_answer a b (slice_cmp nat_cmp a b) refl other not_before

pub IsBefore-trans : (a b c : List ℕ) → IsBefore a b → IsBefore b c → IsBefore a c
IsBefore-trans a b c = nat_list_cmp_total.trans a b c

-- the key of the pair at a place
pub get_or-keys_of : (pairs : List (List ℕ × List ℕ)) (i : ℕ) (d : List ℕ × List ℕ) → i < length pairs → get_or (keys_of pairs) i [] ≡ (get_or pairs i d).0
get_or-keys_of pairs i d within = get_or-map (λ (x : List ℕ × List ℕ). x.0) pairs i d [] within

pub length-keys_of : (pairs : List (List ℕ × List ℕ)) → length (keys_of pairs) ≡ length pairs
length-keys_of pairs = length-map pairs (λ (x : List ℕ × List ℕ). x.0)

-- a key before another is not that key
pub IsBefore-other : (a b : List ℕ) → IsBefore a b → a ≡ b → ⊥
IsBefore-other a b before same =
    let tied = tied_itself nat_list_cmp_total b in
    let less : IsBefore b b = rw same at before in
    cc
