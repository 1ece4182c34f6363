-- The acts on words outside the descriptors: what they leave is a store, and means the machine's change.
use Rattle.std.specs.Prelude.{◌≡◌, if◌then◌else◌, ◌==◌, ℕ, ◌<◌, Bool, true, false, List, length, slice_index, slice_set}
use Rattle.std.proofs.Common.{arith, sym, ap, ◌∙◌}
use Rattle.std.proofs.lemmas.Grind.{common_steps}
use Rattle.bz_word.specs.Kinds.{word, IsKind}
use Rattle.bz_word.proofs.Lemmas.KindWords.{kind-word, IsWord-word}
use Rattle.bz_word.specs.declared.kind.WordKind.{WordKind}
use Rattle.bz_layout.specs.Addresses.{swap_address}
use Rattle.bz_pm.specs.State.{State}
use Rattle.bz_pm.specs.Acts.{stored}
use Rattle.bz_pm.specs.Changes.{StoresOnly}
use Rattle.bz_pm.specs.After.{after_cas}
use Rattle.bz_pm.proofs.Lemmas.{store}
use Rattle.bz_swap_machine.specs.Changes.{with_word}
use Rattle.bz_swap_cells.specs.Store.{Store, Beside, IsStore, IsOutside, IsStatusWord, typed, kind_at, store_words, store_state, with_state}
use Rattle.bz_swap_cells.proofs.Places.{outside-told, status-not_outside}
use Rattle.bz_swap_cells.proofs.Stores.{words-set, store-cached}
use Rattle.bz_swap_cells.proofs.Typed.{typed-stored}

stores : (st : Store) (a : ℕ) (k : WordKind) → IsStore st → a < length st.cached → IsKind k → StoresOnly (store_words st) (stored (store_words st) a (word k)) a (word k)
stores st a k i within is_kind = store (store_words st) a (word k) i.has_room.memory within (IsWord-word k is_kind).size

pub store-stored : (st : Store) (a : ℕ) (k : WordKind) → IsStore st → IsOutside st.swaps a → a < length st.cached → IsKind k
    → IsStore (record st { cached = slice_set st.cached a (word k); durable = st.durable })
store-stored st a k i out within is_kind =
    let change = stores st a k i within is_kind in
    store-cached st (slice_set st.cached a (word k)) i change.stays
    (words-set st.swaps a (word k) st.cached (slice_set st.cached a (word k)) change.cached
    (λ o. IsWord-word k is_kind) (λ s lt e. no_status s lt e) i.cached)
  where
    no_status : (s : ℕ) → s < st.swaps → swap_address s ≡ a → IsStatusWord (word k)
    no_status s lt e = elim (status-not_outside st.swaps a s out lt e) [ ]

pub typed-store : (st : Store) (b : Beside) (a : ℕ) (k : WordKind) → IsStore st → IsOutside st.swaps a → a < length st.cached → IsKind k
    → typed (record st { cached = slice_set st.cached a (word k); durable = st.durable }) b ≡ with_word (typed st b) a k
typed-store st b a k i out within is_kind =
    typed-stored st b a k (slice_set st.cached a (word k)) out is_kind (stores st a k i within is_kind).cached

pub size-store : (st : Store) (a : ℕ) (k : WordKind) → IsStore st → a < length st.cached → IsKind k → length (slice_set st.cached a (word k)) ≡ length st.cached
size-store st a k i within is_kind = (stores st a k i within is_kind).stays.cached

-- the same where a test holds
store-if : (st : Store) (a : ℕ) (k : WordKind) → IsStore st → IsOutside st.swaps a → a < length st.cached → IsKind k → (t : Bool)
    → IsStore (record st { cached = if t then slice_set st.cached a (word k) else st.cached; durable = st.durable })
store-if st a k i out within is_kind true = store-stored st a k i out within is_kind
store-if st a k i out within is_kind false = i

pub store-compared : (st : Store) (a : ℕ) (old new : WordKind) → IsStore st → IsOutside st.swaps a → a < length st.cached → IsKind new
    → (m : State) → m ≡ after_cas (store_state st) a (word old) (word new) → IsStore (with_state st m)
store-compared st a old new i out within is_kind m e = rw e (store-if st a new i out within is_kind (slice_index st.cached a == word old))

compared-hit : (ws : List ℕ) (a x y : ℕ) → slice_index ws a ≡ x → (if slice_index ws a == x then slice_set ws a y else ws) ≡ slice_set ws a y
compared-hit ws a x y e = grind (arith, common_steps)

pub typed-compared : (st : Store) (b : Beside) (a : ℕ) (old new : WordKind) (m : State) → m ≡ after_cas (store_state st) a (word old) (word new)
    → IsStore st → IsOutside st.swaps a → a < length st.cached → IsKind new → slice_index st.cached a ≡ word old
    → typed (with_state st m) b ≡ with_word (typed st b) a new
typed-compared st b a old new m e i out within is_kind hit =
    rw e (ap (λ ws. typed (record st { cached = ws; durable = st.durable }) b) (compared-hit st.cached a (word old) (word new) hit) ∙ typed-store st b a new i out within is_kind)

-- what stands at an address outside the descriptors
pub kind_at-word : (swaps : ℕ) (ws : List ℕ) (a : ℕ) (k : WordKind) → IsOutside swaps a → IsKind k → word k ≡ slice_index ws a → k ≡ kind_at swaps ws a
kind_at-word swaps ws a k out is_kind e = rw (outside-told swaps a out, ← e) (sym (kind-word k is_kind))
