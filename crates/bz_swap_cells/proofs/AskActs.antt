-- Asks and fences: what they leave is a store, and means the machine's change.
use Rattle.std.specs.Prelude.{◌≡◌, ◌≢◌, if◌then◌else◌, ◌==◌, ℕ, ◌+◌, ◌*◌, ◌/◌, ◌<◌, ◌≤◌, Bool, true, false, [], length, slice_index}
use Rattle.std.proofs.Common.{arith, refl, ◌∙◌, inl, inr}
use Rattle.std.proofs.lemmas.Grind.{common_steps}
use Rattle.std.proofs.lemmas.List.{length-set}
use Rattle.std.proofs.lemmas.Bool.{cases_lt, cases_eq}
use Rattle.bz_layout.specs.Addresses.{swap_address}
use Rattle.bz_pm.specs.After.{after_ask, after_fence}
use Rattle.bz_pm.specs.Changes.{AsksOnly, FencesOnly}
use Rattle.bz_pm.proofs.Proved as memory
use Rattle.bz_swap_machine.specs.Pending.{Pending}
use Rattle.bz_swap_machine.specs.Changes.{in_line, in_head, in_tail, line_of, head_of, tail_of, with_ask, fenced}
use Rattle.bz_swap_cells.specs.Store.{Store, Beside, IsStore, HasRoom, MayAsk, IsOutside, typed, store_state, with_state, word_pending, field_address, field_count}
use Rattle.bz_swap_cells.proofs.Descriptors.{same, agree, turned}
use Rattle.bz_swap_cells.proofs.Pasts.{past_of, one-more, saved-ask, fenced-fence, settled-fence, asked-ask, asked-fence, words-fence}
use Rattle.bz_swap_cells.proofs.Pendings.{AreSaved, kind-asked, status-asked, field-asked, kind-fenced, status-fenced, field-fenced, kind-settled, status-settled, field-settled}
use Rattle.bz_swap_cells.proofs.Places.{differ, told-outside, status-not_in_line, field-not_in_line, inside-not_in_line}
use Rattle.bz_swap_cells.proofs.Stores.{room_of}
use Rattle.bz_swap_cells.proofs.Typed.{same_memory}

-- a worker that may ask is one of the simulated memory
asker : (st : Store) (w : ℕ) → HasRoom st → w < length st.next_tags → w < length st.past.asks
asker st w h lt = omega (arith, h.workers, lt)

asks : (st : Store) (w line : ℕ) → IsStore st → MayAsk st w → line * 8 < length st.cached → AsksOnly (store_state st) (after_ask (store_state st) w line) w line
asks st w line i may within = memory.ask (store_state st) w line i.has_room.state i.has_room.fit (omega (arith, may.counted)) (asker st w i.has_room may.worker) within

pub store-ask : (st : Store) (w line : ℕ) → IsStore st → MayAsk st w → line * 8 < length st.cached → IsStore (with_state st (after_ask (store_state st) w line))
store-ask st w line i may within =
    let q : AsksOnly (store_state st) (after_ask (store_state st) w line) w line = asks st w line i may within in
    record {
      has_room = room_of st (after_ask (store_state st) w line) (record { cached = refl; durable = refl; memory = i.has_room.memory; fit = λ h. h }) q.state (length-set st.past.asks w _) i.has_room;
      cached = i.cached;
      durable = i.durable;
      asked = asked-ask st.swaps (store_state st) w line q i.cached i.asked;
    }

saved : (st : Store) (w line : ℕ) → IsStore st → MayAsk st w → line * 8 < length st.cached
    → AreSaved (λ b. b / 8 == line) w (st.past.count + 1) (slice_index st.cached) (word_pending st.past) (word_pending (past_of (after_ask (store_state st) w line)))
saved st w line i may within = saved-ask (store_state st) w line (asks st w line i may within) may.counted

-- the line of a word outside the descriptors
pub typed-ask_line : (st : Store) (b : Beside) (w a : ℕ) → IsStore st → MayAsk st w → IsOutside st.swaps a → a < length st.cached → typed (with_state st (after_ask (store_state st) w (a / 8))) b ≡ with_ask (typed st b) w (line_of a)
typed-ask_line st b w a i may out within =
    let h = saved st w (a / 8) i may (omega arith) in
    same_memory _ _ (λ c. refl) (λ c. refl) (λ t. refl) (λ t. refl) (λ t k. refl) (λ t k. refl) (one-more st.past.count may.counted)
    (λ c. kind-asked st.swaps (λ d. d / 8 == a / 8) w (st.past.count + 1) (slice_index st.cached) was (now) h c (in_line a c) (λ told. refl) (λ told. differ _ _ (inside-not_in_line st.swaps a c out told)))
    (λ t. status-asked st.swaps (λ d. d / 8 == a / 8) w (st.past.count + 1) (slice_index st.cached) was (now) h t false (λ lt. differ _ _ (status-not_in_line st.swaps a t out lt)) (λ past. refl))
    (λ t k. field-asked st.swaps (λ d. d / 8 == a / 8) w (st.past.count + 1) (slice_index st.cached) was (now) h t k false (λ lt less. differ _ _ (field-not_in_line st.swaps a t k out lt less)) (λ past. refl) (λ past. refl))
    refl refl refl refl refl refl refl
  where
    was : ℕ → Pending ℕ
    was = word_pending st.past

    now : ℕ → Pending ℕ
    now = word_pending (past_of (after_ask (store_state st) w (a / 8)))

-- which words of which descriptor lie in a line
status-line : (t s : ℕ) → (swap_address t / 8 == swap_address s / 8) ≡ (t == s)
status-line t s = elim (cases_eq t s) [
  | inl e ↦ rw (e, same (swap_address s / 8), same s) refl
  | inr ne ↦ rw (differ t s ne) (differ _ _ (omega (arith, ne)))
]

head-line : (t j s : ℕ) → j < field_count → (field_address t j / 8 == swap_address s / 8) ≡ (if t == s then in_head j else false)
head-line t j s less = elim (cases_eq t s) [
  | inl e ↦ rw (e, same s) (elim (cases_lt j 7) [
    | inl low ↦ agree _ _ (omega arith) ∙ grind (arith, common_steps)
    | inr high ↦ differ _ _ (omega arith) ∙ grind (arith, common_steps)
  ])
  | inr ne ↦ rw (differ t s ne) (differ _ _ (omega arith))
]

tail-line : (t j s : ℕ) → j < field_count → (field_address t j / 8 == swap_address s / 8 + 1) ≡ (if t == s then in_tail j else false)
tail-line t j s less = elim (cases_eq t s) [
  | inl e ↦ rw (e, same s) (elim (cases_lt j 7) [
    | inl low ↦ differ _ _ (omega arith) ∙ grind (arith, common_steps)
    | inr high ↦ agree _ _ (omega arith) ∙ grind (arith, common_steps)
  ])
  | inr ne ↦ rw (differ t s ne) (differ _ _ (omega arith))
]

past-head : (j : ℕ) → field_count ≤ j → in_head j ≡ false
past-head j past = grind (arith, common_steps)

past-tail : (j : ℕ) → field_count ≤ j → in_tail j ≡ false
past-tail j past = grind (arith, common_steps)

if-false : (a b : Bool) → b ≡ false → (if a then b else false) ≡ false
if-false true b e = e
if-false false b e = refl

if-not : (a b : Bool) → a ≡ false → (if a then b else false) ≡ false
if-not true b e = absurd (cc)
if-not false b e = refl

-- the two lines of a descriptor
pub typed-ask_head : (st : Store) (b : Beside) (w s : ℕ) → IsStore st → MayAsk st w → s < st.swaps → swap_address s / 8 * 8 < length st.cached
    → typed (with_state st (after_ask (store_state st) w (swap_address s / 8))) b ≡ with_ask (typed st b) w (head_of s)
typed-ask_head st b w s i may lt within =
    let h = saved st w (swap_address s / 8) i may within in
    same_memory _ _ (λ c. refl) (λ c. refl) (λ t. refl) (λ t. refl) (λ t k. refl) (λ t k. refl) (one-more st.past.count may.counted)
    (λ c. kind-asked st.swaps p w (st.past.count + 1) (slice_index st.cached) was now h c false (λ told. differ _ _ (turned (status-not_in_line st.swaps c s (told-outside st.swaps c told) lt))) (λ told. refl))
    (λ t. status-asked st.swaps p w (st.past.count + 1) (slice_index st.cached) was now h t (t == s) (λ below. status-line t s) (λ past. differ _ _ (omega (arith, past, lt))))
    (λ t j. field-asked st.swaps p w (st.past.count + 1) (slice_index st.cached) was now h t j (if t == s then in_head j else false) (λ below less. head-line t j s less)
    (λ past. if-not (t == s) (in_head j) (differ _ _ (omega (arith, past, lt)))) (λ past. if-false (t == s) (in_head j) (past-head j past)))
    refl refl refl refl refl refl refl
  where
    p : ℕ → Bool
    p c = c / 8 == swap_address s / 8

    was : ℕ → Pending ℕ
    was = word_pending st.past

    now : ℕ → Pending ℕ
    now = word_pending (past_of (after_ask (store_state st) w (swap_address s / 8)))

outside-tail : (swaps a s : ℕ) → IsOutside swaps a → s < swaps → a / 8 ≢ swap_address s / 8 + 1
outside-tail swaps a s (inl below) lt = omega arith
outside-tail swaps a s (inr above) lt = omega arith

pub typed-ask_tail : (st : Store) (b : Beside) (w s : ℕ) → IsStore st → MayAsk st w → s < st.swaps → (swap_address s / 8 + 1) * 8 < length st.cached
    → typed (with_state st (after_ask (store_state st) w (swap_address s / 8 + 1))) b ≡ with_ask (typed st b) w (tail_of s)
typed-ask_tail st b w s i may lt within =
    let h = saved st w (swap_address s / 8 + 1) i may within in
    same_memory _ _ (λ c. refl) (λ c. refl) (λ t. refl) (λ t. refl) (λ t k. refl) (λ t k. refl) (one-more st.past.count may.counted)
    (λ c. kind-asked st.swaps p w (st.past.count + 1) (slice_index st.cached) was now h c false (λ told. differ _ _ (outside-tail st.swaps c s (told-outside st.swaps c told) lt)) (λ told. refl))
    (λ t. status-asked st.swaps p w (st.past.count + 1) (slice_index st.cached) was now h t false (λ below. differ _ _ (omega arith)) (λ past. refl))
    (λ t j. field-asked st.swaps p w (st.past.count + 1) (slice_index st.cached) was now h t j (if t == s then in_tail j else false) (λ below less. tail-line t j s less)
    (λ past. if-not (t == s) (in_tail j) (differ _ _ (omega (arith, past, lt)))) (λ past. if-false (t == s) (in_tail j) (past-tail j past)))
    refl refl refl refl refl refl refl
  where
    p : ℕ → Bool
    p c = c / 8 == swap_address s / 8 + 1

    was : ℕ → Pending ℕ
    was = word_pending st.past

    now : ℕ → Pending ℕ
    now = word_pending (past_of (after_ask (store_state st) w (swap_address s / 8 + 1)))

-- a fence
fences : (st : Store) (w : ℕ) → IsStore st → w < length st.next_tags → FencesOnly (store_state st) (after_fence (store_state st) w) w
fences st w i worker = memory.fence (store_state st) w i.has_room.state (asker st w i.has_room worker)

pub store-fence : (st : Store) (w : ℕ) → IsStore st → w < length st.next_tags → IsStore (with_state st (after_fence (store_state st) w))
store-fence st w i worker =
    let f : FencesOnly (store_state st) (after_fence (store_state st) w) w = fences st w i worker in
    record {
      has_room = room_of st (after_fence (store_state st) w) f.stays f.state (length-set st.past.asks w []) i.has_room;
      cached = i.cached;
      durable = words-fence st.swaps (store_state st) (after_fence (store_state st) w) w f i.durable i.asked;
      asked = asked-fence st.swaps (store_state st) (after_fence (store_state st) w) w f i.asked;
    }

pub typed-fence : (st : Store) (b : Beside) (w : ℕ) → IsStore st → w < length st.next_tags → typed (with_state st (after_fence (store_state st) w)) b ≡ fenced (typed st b) w
typed-fence st b w i worker =
    let f : FencesOnly (store_state st) (after_fence (store_state st) w) w = fences st w i worker in
    let h = fenced-fence (store_state st) (after_fence (store_state st) w) w f in
    let settled = settled-fence (store_state st) (after_fence (store_state st) w) w f in
    same_memory _ _ (λ c. refl) (λ c. kind-settled st.swaps w was (slice_index st.durable) into settled c)
    (λ t. refl) (λ t. status-settled st.swaps w was (slice_index st.durable) into settled t)
    (λ t k. refl) (λ t k. field-settled st.swaps w was (slice_index st.durable) into settled t k)
    refl (λ c. kind-fenced st.swaps w was now h c) (λ t. status-fenced st.swaps w was now h t) (λ t k. field-fenced st.swaps w was now h t k)
    refl refl refl refl refl refl refl
  where
    was : ℕ → Pending ℕ
    was = word_pending st.past

    now : ℕ → Pending ℕ
    now = word_pending (past_of (after_fence (store_state st) w))

    into : ℕ → ℕ
    into = slice_index (after_fence (store_state st) w).words.durable
