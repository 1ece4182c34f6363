-- The words stay words with a meaning.
use Rattle.std.specs.Prelude.{◌≡◌, ◌≢◌, if◌then◌else◌, ◌==◌, ℕ, ◌<◌, Bool, true, false, List, length, slice_index}
use Rattle.std.proofs.Common.{arith, refl, ◌∙◌, inl, inr}
use Rattle.std.proofs.lemmas.Grind.{common_steps}
use Rattle.std.proofs.lemmas.Bool.{cases_eq}
use Rattle.bz_word.specs.Kinds.{IsWord}
use Rattle.bz_layout.specs.Addresses.{swap_address}
use Rattle.bz_pm.specs.Changes.{StaysMemory}
use Rattle.bz_pm.specs.State.{State, IsState}
use Rattle.bz_pm.proofs.Dates.{state_cached}
use Rattle.bz_swap_cells.specs.Store.{Store, AreWords, HasRoom, IsStore, store_words, store_state, with_state, IsOutside, IsStatusWord}
use Rattle.bz_swap_cells.proofs.Readers.{AreChosen}

either : (P : ℕ → Type 0) (t : Bool) (x y : ℕ) → P x → P y → P (if t then x else y)
either P true x y p q = p
either P false x y p q = q

-- words that are taken from two lists of words
pub words-chosen : (swaps : ℕ) (p : ℕ → Bool) (from to into : List ℕ) → AreChosen p (slice_index from) (slice_index to) (slice_index into) → AreWords swaps from → AreWords swaps to → AreWords swaps into
words-chosen swaps p from to into h f g = record {
  kinds = λ a out. rw (h a) (either IsWord (p a) _ _ (f.kinds a out) (g.kinds a out));
  statuses = λ s lt. rw (h (swap_address s)) (either IsStatusWord (p (swap_address s)) _ _ (f.statuses s lt) (g.statuses s lt));
}

-- one word is another
pub words-set : (swaps a x : ℕ) (to into : List ℕ) → AreChosen (λ c. c == a) (λ c. x) (slice_index to) (slice_index into)
    → (IsOutside swaps a → IsWord x) → ((s : ℕ) → s < swaps → swap_address s ≡ a → IsStatusWord x) → AreWords swaps to → AreWords swaps into
words-set swaps a x to into h is_word is_status g = record {
  kinds = λ c out. elim (cases_eq c a) [
    | inl e ↦ rw (h c, same c e) (is_word (rw e at out))
    | inr ne ↦ rw (h c, other c ne) (g.kinds c out)
  ];
  statuses = λ s lt. elim (cases_eq (swap_address s) a) [
    | inl e ↦ rw (h (swap_address s), same (swap_address s) e) (is_status s lt e)
    | inr ne ↦ rw (h (swap_address s), other (swap_address s) ne) (g.statuses s lt)
  ];
}
  where
    same : (c : ℕ) → c ≡ a → (c == a) ≡ true
    same c e = grind (arith, common_steps)

    other : (c : ℕ) → c ≢ a → (c == a) ≡ false
    other c ne = grind (arith, common_steps)

pub room_of : (st : Store) (n : State) → StaysMemory (store_words st) n.words → IsState n → length n.asks ≡ length st.past.asks → HasRoom st → HasRoom (with_state st n)
room_of st n stays state asks i = record {
  memory = stays.memory;
  state = state;
  fit = stays.fit i.fit;
  workers = asks ∙ i.workers;
  room = rw stays.durable i.room;
  numbered = i.numbered;
  noted = i.noted;
  taken = i.taken;
}

-- a store after a change of its cached words, and of its durable ones
pub store-cached : (st : Store) (into : List ℕ) → IsStore st
    → StaysMemory (record { cached = st.cached; durable = st.durable }) (record { cached = into; durable = st.durable }) → AreWords st.swaps into
    → IsStore (record st { cached = into; durable = st.durable })
store-cached st into i stays words = record {
  has_room = room_of st (record (store_state st) { words = record { cached = into; durable = st.durable } }) stays (state_cached (store_state st) into i.has_room.state stays.cached) refl i.has_room;
  cached = words;
  durable = i.durable;
  asked = i.asked;
}

pub store-durable : (st : Store) (into dates : List ℕ) → IsStore st
    → StaysMemory (record { cached = st.cached; durable = st.durable }) (record { cached = st.cached; durable = into })
    → IsState (record (store_state st) { words = record { cached = st.cached; durable = into }; since = dates }) → AreWords st.swaps into
    → IsStore (record st { cached = st.cached; durable = into; past = record st.past { since = dates } })
store-durable st into dates i stays state words = record {
  has_room = room_of st (record (store_state st) { words = record { cached = st.cached; durable = into }; since = dates }) stays state refl i.has_room;
  cached = i.cached;
  durable = words;
  asked = i.asked;
}
