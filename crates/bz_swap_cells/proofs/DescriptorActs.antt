-- The acts on descriptors, evictions and the cut: what they leave is a store, and means the machine's change.
use Rattle.std.specs.Prelude.{◌≡◌, ◌≢◌, if◌then◌else◌, ◌==◌, ℕ, ◌+◌, ◌*◌, ◌/◌, ◌^◌, ◌<◌, Bool, true, false, List, length, slice_index, slice_set}
use Rattle.std.proofs.Common.{arith, refl, sym, ap, ◌∙◌}
use Rattle.std.proofs.lemmas.Grind.{common_steps}
use Rattle.bz_word.specs.Kinds.{IsWord}
use Rattle.bz_layout.specs.Addresses.{swap_address}
use Rattle.bz_pm.specs.State.{State}
use Rattle.bz_pm.specs.Acts.{stored}
use Rattle.bz_pm.specs.After.{after_cas, after_eviction}
use Rattle.bz_pm.specs.Changes.{StoresOnly}
use Rattle.bz_pm.proofs.Dates.{state_evicted}
use Rattle.bz_pm.proofs.Lemmas.{store, evict}
use Rattle.bz_swap_machine.specs.declared.status.SwapStatus.{SwapStatus}
use Rattle.bz_swap_machine.specs.declared.status.SwapStatus.TheVariants.{Free, Undecided, Deciding, Decided}
use Rattle.bz_swap_machine.specs.declared.status.Verdict.TheVariants.{Succeeded, Failed}
use Rattle.bz_swap_machine.specs.Changes.{with_copies, with_status, with_field, with_durable_status, with_durable_fields}
use Rattle.bz_swap_cells.specs.Store.{Store, Beside, IsStore, IsOutside, IsStatusWord, typed, store_words, store_state, with_state, status_at, descriptor_word_at, status_word, status_of, field_address, field_count}
use Rattle.bz_swap_cells.proofs.Places.{differ, status-not_outside, field-not_outside, inside-other}
use Rattle.bz_swap_cells.proofs.Pasts.{dated-evict}
use Rattle.bz_swap_cells.proofs.Stores.{words-chosen, words-set, store-cached, store-durable}
use Rattle.bz_swap_cells.proofs.Typed.{typed-copied}
use Rattle.bz_swap_cells.proofs.Descriptors.{status-word, typed-status, typed-field, typed-status_alone, typed-field_alone}

-- a descriptor's words lie in the memory
pub status-within : (st : Store) (s : ℕ) → IsStore st → s < st.swaps → swap_address s < length st.cached
status-within st s i lt = omega (arith, i.has_room.memory.same, i.has_room.room, lt)

pub field-within : (st : Store) (s k : ℕ) → IsStore st → s < st.swaps → k < field_count → field_address s k < length st.cached
field-within st s k i lt less = omega (arith, i.has_room.memory.same, i.has_room.room, lt, less)

pub head-within : (st : Store) (s : ℕ) → IsStore st → s < st.swaps → swap_address s / 8 * 8 < length st.cached
head-within st s i lt = omega (arith, i.has_room.memory.same, i.has_room.room, lt)

pub tail-within : (st : Store) (s : ℕ) → IsStore st → s < st.swaps → (swap_address s / 8 + 1) * 8 < length st.cached
tail-within st s i lt = omega (arith, i.has_room.memory.same, i.has_room.room, lt)

status-small : (x : SwapStatus) → status_word x < 2 ^ 64
status-small Free = omega arith
status-small Undecided = omega arith
status-small (Deciding Succeeded) = omega arith
status-small (Deciding Failed) = omega arith
status-small (Decided Succeeded) = omega arith
status-small (Decided Failed) = omega arith

-- a status is stored
status-stores : (st : Store) (s : ℕ) (v : SwapStatus) → IsStore st → s < st.swaps → StoresOnly (store_words st) (stored (store_words st) (swap_address s) (status_word v)) (swap_address s) (status_word v)
status-stores st s v i lt = store (store_words st) (swap_address s) (status_word v) i.has_room.memory (status-within st s i lt) (status-small v)

pub store-status : (st : Store) (s : ℕ) (v : SwapStatus) → IsStore st → s < st.swaps
    → IsStore (record st { cached = slice_set st.cached (swap_address s) (status_word v); durable = st.durable })
store-status st s v i lt =
    let change = status-stores st s v i lt in
    store-cached st (slice_set st.cached (swap_address s) (status_word v)) i change.stays
    (words-set st.swaps (swap_address s) (status_word v) st.cached (slice_set st.cached (swap_address s) (status_word v)) change.cached
    outside (λ t below e. ap status_word (status-word v)) i.cached)
  where
    outside : IsOutside st.swaps (swap_address s) → IsWord (status_word v)
    outside out = elim (status-not_outside st.swaps (swap_address s) s out lt refl) [ ]

pub typed-store_status : (st : Store) (b : Beside) (s : ℕ) (v : SwapStatus) → IsStore st → s < st.swaps
    → typed (record st { cached = slice_set st.cached (swap_address s) (status_word v); durable = st.durable }) b ≡ with_status (typed st b) s v
typed-store_status st b s v i lt = typed-status st b s v (slice_set st.cached (swap_address s) (status_word v)) lt (status-stores st s v i lt).cached

-- the same where a test holds
status-if : (st : Store) (s : ℕ) (v : SwapStatus) → IsStore st → s < st.swaps → (t : Bool)
    → IsStore (record st { cached = if t then slice_set st.cached (swap_address s) (status_word v) else st.cached; durable = st.durable })
status-if st s v i lt true = store-status st s v i lt
status-if st s v i lt false = i

pub store-status_compared : (st : Store) (s : ℕ) (old new : SwapStatus) → IsStore st → s < st.swaps
    → (m : State) → m ≡ after_cas (store_state st) (swap_address s) (status_word old) (status_word new) → IsStore (with_state st m)
store-status_compared st s old new i lt m e = rw e (status-if st s new i lt (slice_index st.cached (swap_address s) == status_word old))

compared-hit : (ws : List ℕ) (a x y : ℕ) → slice_index ws a ≡ x → (if slice_index ws a == x then slice_set ws a y else ws) ≡ slice_set ws a y
compared-hit ws a x y e = grind (arith, common_steps)

compared-missed : (ws : List ℕ) (a x y : ℕ) → slice_index ws a ≢ x → (if slice_index ws a == x then slice_set ws a y else ws) ≡ ws
compared-missed ws a x y ne = rw (differ (slice_index ws a) x ne) refl

pub typed-status_compared : (st : Store) (b : Beside) (s : ℕ) (old new : SwapStatus) (m : State) → m ≡ after_cas (store_state st) (swap_address s) (status_word old) (status_word new)
    → IsStore st → s < st.swaps → status_of (slice_index st.cached (swap_address s)) ≡ old
    → typed (with_state st m) b ≡ with_status (typed st b) s new
typed-status_compared st b s old new m e i lt found =
    let hit : slice_index st.cached (swap_address s) ≡ status_word old = sym (i.cached.statuses s lt) ∙ ap status_word found in
    rw e (ap (λ ws. typed (record st { cached = ws; durable = st.durable }) b) (compared-hit st.cached (swap_address s) (status_word old) (status_word new) hit) ∙ typed-store_status st b s new i lt)

pub status-unchanged : (st : Store) (s : ℕ) (old new : SwapStatus) (m : State) → m ≡ after_cas (store_state st) (swap_address s) (status_word old) (status_word new)
    → (status_of (slice_index st.cached (swap_address s)) ≢ old) → m ≡ store_state st
status-unchanged st s old new m e ne =
    e ∙ ap (λ ws. record (store_state st) { words = record { cached = ws; durable = st.durable } }) (compared-missed st.cached (swap_address s) (status_word old) (status_word new) (λ hit. ne (ap status_of hit ∙ status-word old)))

-- a word after the status is stored
field-stores : (st : Store) (s k x : ℕ) → IsStore st → s < st.swaps → k < field_count → x < 2 ^ 64 → StoresOnly (store_words st) (stored (store_words st) (field_address s k) x) (field_address s k) x
field-stores st s k x i lt less small = store (store_words st) (field_address s k) x i.has_room.memory (field-within st s k i lt less) small

pub store-field : (st : Store) (s k x : ℕ) → IsStore st → s < st.swaps → k < field_count → x < 2 ^ 64
    → IsStore (record st { cached = slice_set st.cached (field_address s k) x; durable = st.durable })
store-field st s k x i lt less small =
    let change = field-stores st s k x i lt less small in
    store-cached st (slice_set st.cached (field_address s k) x) i change.stays
    (words-set st.swaps (field_address s k) x st.cached (slice_set st.cached (field_address s k) x) change.cached outside status i.cached)
  where
    outside : IsOutside st.swaps (field_address s k) → IsWord x
    outside out = elim (field-not_outside st.swaps (field_address s k) s k out lt less refl) [ ]

    apart : (t : ℕ) → swap_address t ≢ field_address s k
    apart t = omega arith

    status : (t : ℕ) → t < st.swaps → swap_address t ≡ field_address s k → IsStatusWord x
    status t below e = elim (apart t e) [ ]

pub typed-store_field : (st : Store) (b : Beside) (s k x : ℕ) → IsStore st → s < st.swaps → k < field_count → x < 2 ^ 64
    → typed (record st { cached = slice_set st.cached (field_address s k) x; durable = st.durable }) b ≡ with_field (typed st b) s k x
typed-store_field st b s k x i lt less small = typed-field st b s k x (slice_set st.cached (field_address s k) x) lt less (field-stores st s k x i lt less small).cached

-- evictions
pub store-evict : (st : Store) (a : ℕ) → IsStore st → a < length st.cached → IsStore (with_state st (after_eviction (store_state st) a))
store-evict st a i within =
    let change = evict (store_words st) a i.has_room.memory within in
    store-durable st (slice_set st.durable a (slice_index st.cached a)) _ i change.stays (state_evicted (store_state st) a i.has_room.state within)
    (words-chosen st.swaps (λ c. c == a) st.cached st.durable (slice_set st.durable a (slice_index st.cached a)) change.durable i.cached i.durable)

pub typed-evict : (st : Store) (b : Beside) (a : ℕ) → IsStore st → IsOutside st.swaps a → a < length st.cached → typed (with_state st (after_eviction (store_state st) a)) b ≡ with_copies (typed st b) (λ c. c == a)
typed-evict st b a i out within =
    typed-copied st b (λ c. c == a) (slice_set st.durable a (slice_index st.cached a)) _ (evict (store_words st) a i.has_room.memory within).durable (dated-evict (store_state st) a i.has_room.state within)
    (λ s lt. differ _ _ (status-not_outside st.swaps a s out lt))
    (λ s k lt less. differ _ _ (field-not_outside st.swaps a s k out lt less))
    (λ c told. differ _ _ (inside-other st.swaps a c out told))

pub typed-evict_status : (st : Store) (b : Beside) (s : ℕ) → IsStore st → s < st.swaps → typed (with_state st (after_eviction (store_state st) (swap_address s))) b ≡ with_durable_status (typed st b) s
typed-evict_status st b s i lt =
    let within = status-within st s i lt in
    typed-status_alone st b s _ _ lt (evict (store_words st) (swap_address s) i.has_room.memory within).durable (dated-evict (store_state st) (swap_address s) i.has_room.state within)

pub typed-evict_field : (st : Store) (b : Beside) (s k : ℕ) → IsStore st → s < st.swaps → k < field_count
    → typed (with_state st (after_eviction (store_state st) (field_address s k))) b ≡ with_durable_fields (typed st b) s (λ j. j == k)
typed-evict_field st b s k i lt less =
    let within = field-within st s k i lt less in
    typed-field_alone st b s k _ _ lt less (evict (store_words st) (field_address s k) i.has_room.memory within).durable (dated-evict (store_state st) (field_address s k) i.has_room.state within)

-- what is read of a descriptor
pub status_at-read : (swaps : ℕ) (ws : List ℕ) (s : ℕ) → s < swaps → status_of (slice_index ws (swap_address s)) ≡ status_at swaps ws s
status_at-read swaps ws s lt = grind (arith, common_steps, lt)

pub descriptor_word_at-read : (swaps : ℕ) (ws : List ℕ) (s k : ℕ) → s < swaps → k < field_count → slice_index ws (field_address s k) ≡ descriptor_word_at swaps ws s k
descriptor_word_at-read swaps ws s k lt less = grind (arith, common_steps, lt, less)
