-- What the words mean after a change of some of them.
use Rattle.std.specs.Prelude.{◌≡◌, ◌==◌, ℕ, ◌<◌, Bool, false, List, slice_index}
use Rattle.std.proofs.Common.{arith, refl, inl, inr}
use Rattle.std.proofs.lemmas.Grind.{common_steps}
use Rattle.std.proofs.lemmas.Bool.{cases_eq}
use Rattle.bz_word.specs.Kinds.{word, IsKind}
use Rattle.bz_word.proofs.Lemmas.KindWords.{kind-word}
use Rattle.bz_word.specs.declared.kind.WordKind.{WordKind}
use Rattle.bz_layout.specs.Addresses.{swap_address}
use Rattle.bz_swap_machine.specs.Machine.{Memory}
use Rattle.bz_swap_machine.specs.Changes.{put, with_word, with_copies}
use Rattle.bz_swap_cells.specs.Store.{Store, Beside, typed, kind_at, IsOutside, is_outside, field_address, field_count, word_pending}
use Rattle.bz_swap_cells.proofs.Readers.{AreChosen, kind-chosen, kind-stays, status-stays, field-stays}
use Rattle.bz_swap_cells.proofs.Places.{differ, outside-told, status-not_outside, field-not_outside}
use Rattle.bz_swap_cells.proofs.Pendings.{AreDated, kind-dated, status-undated, field-undated}

-- two memories that agree everywhere, with the same beside the words, are one
pub same_memory : (m n : Memory) → ((a : ℕ) → m.cached a ≡ n.cached a) → ((a : ℕ) → m.durable a ≡ n.durable a) → ((s : ℕ) → m.status s ≡ n.status s) → ((s : ℕ) → m.durable_status s ≡ n.durable_status s) → ((s k : ℕ) → m.words s k ≡ n.words s k) → ((s k : ℕ) → m.durable_words s k ≡ n.durable_words s k)
    → m.now ≡ n.now → ((a : ℕ) → m.pending a ≡ n.pending a) → ((s : ℕ) → m.status_pending s ≡ n.status_pending s) → ((s k : ℕ) → m.words_pending s k ≡ n.words_pending s k) → m.next_tag ≡ n.next_tag → m.missed ≡ n.missed → m.taken ≡ n.taken → m.owner ≡ n.owner → m.named ≡ n.named → m.published ≡ n.published → m.answer ≡ n.answer → m ≡ n
same_memory m n c d s r w v now asks status_asks word_asks tag missed taken owner named published answer = λ i. record {
  cached = λ a. c a i;
  durable = λ a. d a i;
  status = λ t. s t i;
  durable_status = λ t. r t i;
  words = λ t k. w t k i;
  durable_words = λ t k. v t k i;
  now = now i;
  pending = λ a. asks a i;
  status_pending = λ t. status_asks t i;
  words_pending = λ t k. word_asks t k i;
  next_tag = tag i;
  missed = missed i;
  taken = taken i;
  owner = owner i;
  named = named i;
  published = published i;
  answer = answer i;
}

-- a word outside the descriptors is another
pub typed-stored : (st : Store) (b : Beside) (a : ℕ) (k : WordKind) (into : List ℕ) → IsOutside st.swaps a → IsKind k
    → AreChosen (λ c. c == a) (λ c. word k) (slice_index st.cached) (slice_index into)
    → typed (record st { cached = into; durable = st.durable }) b ≡ with_word (typed st b) a k
typed-stored st b a k into out is_kind h =
    same_memory _ _ cached (λ c. refl)
    (λ s. status-stays st.swaps (λ c. c == a) (λ c. word k) (slice_index st.cached) (slice_index into) h s (λ lt. differ _ _ (status-not_outside st.swaps a s out lt)))
    (λ s. refl)
    (λ s j. field-stays st.swaps (λ c. c == a) (λ c. word k) (slice_index st.cached) (slice_index into) h s j (λ lt less. differ _ _ (field-not_outside st.swaps a s j out lt less)))
    (λ s j. refl) refl (λ c. refl) (λ s. refl) (λ s j. refl) refl refl refl refl refl refl refl
  where
    here : kind_at st.swaps into a ≡ k
    here = rw (outside-told st.swaps a out, h a) (grind (arith, common_steps, kind-word k is_kind))

    cached : (c : ℕ) → kind_at st.swaps into c ≡ put (kind_at st.swaps st.cached) a k c
    cached c = elim (cases_eq c a) [
      | inl e ↦ grind (arith, common_steps, here, e)
      | inr ne ↦ rw (differ c a ne) (kind-stays st.swaps (λ d. d == a) (λ d. word k) (slice_index st.cached) (slice_index into) h c (λ told. differ c a ne))
    ]

-- some words outside the descriptors become durable, and no word of a descriptor
pub typed-copied : (st : Store) (b : Beside) (p : ℕ → Bool) (into dates : List ℕ)
    → AreChosen p (slice_index st.cached) (slice_index st.durable) (slice_index into)
    → AreDated p st.past.count (word_pending st.past) (word_pending (record st.past { since = dates }))
    → ((s : ℕ) → s < st.swaps → p (swap_address s) ≡ false) → ((s k : ℕ) → s < st.swaps → k < field_count → p (field_address s k) ≡ false) → ((c : ℕ) → is_outside st.swaps c ≡ false → p c ≡ false)
    → typed (record st { cached = st.cached; durable = into; past = record st.past { since = dates } }) b ≡ with_copies (typed st b) p
typed-copied st b p into dates h dated no_status no_field inside =
    same_memory _ _ (λ c. refl)
    (λ c. kind-chosen st.swaps p (slice_index st.cached) (slice_index st.durable) (slice_index into) h c)
    (λ s. refl)
    (λ s. status-stays st.swaps p (slice_index st.cached) (slice_index st.durable) (slice_index into) h s (no_status s))
    (λ s j. refl)
    (λ s j. field-stays st.swaps p (slice_index st.cached) (slice_index st.durable) (slice_index into) h s j (no_field s j))
    refl
    (λ c. kind-dated st.swaps p st.past.count (word_pending st.past) (word_pending (record st.past { since = dates })) dated c (inside c))
    (λ s. status-undated st.swaps p st.past.count (word_pending st.past) (word_pending (record st.past { since = dates })) dated s (no_status s))
    (λ s j. field-undated st.swaps p st.past.count (word_pending st.past) (word_pending (record st.past { since = dates })) dated s j (no_field s j))
    refl refl refl refl refl refl refl
