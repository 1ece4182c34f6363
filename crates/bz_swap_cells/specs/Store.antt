-- The words of a memory with descriptors, and what they mean.
use Rattle.std.specs.Prelude.{◌≡◌, if◌then◌else◌, ◌==◌, ◌&&◌, ◌⊎◌, ℕ, ◌+◌, ◌-◌, ◌/◌, ◌%◌, ◌^◌, ◌<◌, ◌≤◌, Bool, true, false, nat_lt, List, [], ◌∷◌, length, replicate, slice_index, get_or, Some, None}
use Rattle.std.specs.declared.option.Option.{Option}
use Rattle.bz_word.specs.Kinds.{kind, IsWord}
use Rattle.bz_word.specs.declared.kind.WordKind.{WordKind}
use Rattle.bz_word.specs.declared.kind.WordKind.TheVariants.{Value}
use Rattle.bz_layout.specs.Addresses.{swap_address}
use Rattle.bz_layout.specs.declared.sizes.TheConstants.{SUPERBLOCK_WORDS, SWAP_COUNT_AT}
use Rattle.bz_pm.specs.Words.{Words, IsMemory, HoldsWords}
use Rattle.bz_pm.specs.State.{State, IsState, ask_for}
use Rattle.bz_pm.specs.declared.asks.Ask.{Ask}
use Rattle.bz_swap_machine.specs.declared.status.SwapStatus.{SwapStatus}
use Rattle.bz_swap_machine.specs.declared.status.SwapStatus.TheVariants.{Free, Undecided, Deciding, Decided}
use Rattle.bz_swap_machine.specs.declared.status.Verdict.{Verdict}
use Rattle.bz_swap_machine.specs.declared.status.Verdict.TheVariants.{Succeeded, Failed}
use Rattle.bz_swap_machine.specs.Machine.{Memory}
use Rattle.bz_swap_machine.specs.Pending.{Saved, Pending, no_asks}
use Rattle.bz_swap_machine.specs.Ranges.{IsTagger}

-- what the memory keeps of the past: how many asks were made since the last cut, from which of them on each durable word
-- dates, and what each worker asked for
pub record Past : Type 0 where
  pub count : ℕ
  pub since : List ℕ
  pub asks : List (List Ask)

-- the words in the caches and in the memory itself, what is kept of the past, and the number of descriptors among the
-- words; beside them, for each worker the number of its next tag, for each descriptor whether its swap is noted as missed,
-- and how many descriptors are taken
pub record Store : Type 0 where
  pub cached : List ℕ
  pub durable : List ℕ
  pub past : Past
  pub swaps : ℕ
  pub next_tags : List ℕ
  pub missed : List Bool
  pub taken : ℕ

-- the words alone
abbrev pub store_words : Store → Words
store_words st = record { cached = st.cached; durable = st.durable }

-- other words, and the rest as it is
abbrev pub with_words : Store → Words → Store
with_words st m = record st { cached = m.cached; durable = m.durable }

-- the whole of the simulated memory, and another one
abbrev pub store_state : Store → State
store_state st = record { words = store_words st; count = st.past.count; since = st.past.since; asks = st.past.asks }

abbrev pub with_state : Store → State → Store
with_state st m = record st { cached = m.words.cached; durable = m.words.durable; past = record { count = m.count; since = m.since; asks = m.asks } }

-- all descriptors are given back: the words stay, and what was asked for
abbrev pub renewed_store : Store → Store
renewed_store st = record st { next_tags = replicate (length st.next_tags) 0; missed = replicate (length st.missed) false; taken = 0 }

-- the word of a status: a verdict that may not be durable yet has bit 63
abbrev pub status_word : SwapStatus → ℕ
status_word Free = 0
status_word Undecided = 1
status_word (Deciding Succeeded) = 2 ^ 63 + 2
status_word (Deciding Failed) = 2 ^ 63 + 3
status_word (Decided Succeeded) = 2
status_word (Decided Failed) = 3

-- the status of a word; of a number that is no status's word, free
unfoldable pub status_of : ℕ → SwapStatus
status_of x =
    if x == 1 then Undecided
    else if x == 2 ^ 63 + 2 then Deciding Succeeded
    else if x == 2 ^ 63 + 3 then Deciding Failed
    else if x == 2 then Decided Succeeded
    else if x == 3 then Decided Failed
    else Free

-- the word is a status's
abbrev pub IsStatusWord : ℕ → Type 0
IsStatusWord x = status_word (status_of x) ≡ x

-- the address is no word of a descriptor, where there are so many
abbrev pub IsOutside : ℕ → ℕ → Type 0
IsOutside swaps a = (a < SUPERBLOCK_WORDS) ⊎ (swap_address swaps ≤ a)

-- the same as a test
abbrev pub is_outside : ℕ → ℕ → Bool
is_outside swaps a = if nat_lt a SUPERBLOCK_WORDS then true else if nat_lt a (swap_address swaps) then false else true

-- the address of a word of a descriptor after its status, counted from the number of entries
abbrev pub field_address : ℕ → ℕ → ℕ
field_address s k = swap_address s + SWAP_COUNT_AT + k

-- how many words a descriptor has after its status
abbrev pub field_count : ℕ
field_count = 15

-- what stands at an address outside the descriptors
abbrev pub kind_at : ℕ → List ℕ → ℕ → WordKind
kind_at swaps words a = if is_outside swaps a then kind (slice_index words a) else Value 0

-- a descriptor's status
abbrev pub status_at : ℕ → List ℕ → ℕ → SwapStatus
status_at swaps words s = if nat_lt s swaps then status_of (slice_index words (swap_address s)) else Free

-- a word of a descriptor after its status
abbrev pub descriptor_word_at : ℕ → List ℕ → ℕ → ℕ → ℕ
descriptor_word_at swaps words s k = if nat_lt s swaps then if nat_lt k field_count then slice_index words (field_address s k) else 0 else 0

-- what is kept of the asks for a word: its value in each, as it is, and as what it means
abbrev pub saved_word : Option Ask → ℕ → Option (Saved ℕ)
saved_word None place = None
saved_word (Some q) place = Some (record { moment = q.moment; value = slice_index q.words place })

abbrev pub word_pending : Past → ℕ → Pending ℕ
word_pending p a = record { since = slice_index p.since a; asked = λ w. saved_word (ask_for (get_or p.asks w []) (a / 8)) (a % 8) }

abbrev pub saved_as : {A : Type 0} → (ℕ → A) → Option (Saved ℕ) → Option (Saved A)
saved_as f None = None
saved_as f (Some q) = Some (record { moment = q.moment; value = f q.value })

abbrev pub pending_as : {A : Type 0} → (ℕ → A) → Pending ℕ → Pending A
pending_as f p = record { since = p.since; asked = λ w. saved_as f (p.asked w) }

abbrev pub kind_pending : ℕ → (ℕ → Pending ℕ) → ℕ → Pending WordKind
kind_pending swaps pending a = if is_outside swaps a then pending_as kind (pending a) else no_asks

abbrev pub status_pending : ℕ → (ℕ → Pending ℕ) → ℕ → Pending SwapStatus
status_pending swaps pending s = if nat_lt s swaps then pending_as status_of (pending (swap_address s)) else no_asks

abbrev pub field_pending : ℕ → (ℕ → Pending ℕ) → ℕ → ℕ → Pending ℕ
field_pending swaps pending s k = if nat_lt s swaps then if nat_lt k field_count then pending (field_address s k) else no_asks else no_asks

-- an ask that is later than the durable word of its line saved this word; and all asks of an address did
abbrev pub saves_word : ℕ → ℕ → ℕ → Option Ask → Bool
saves_word word since place None = true
saves_word word since place (Some q) = if nat_lt since q.moment then slice_index q.words place == word else true

abbrev pub all_save : ℕ → ℕ → ℕ → List (List Ask) → Bool
all_save word since a [] = true
all_save word since a (qs ∷ asks) = saves_word word since (a % 8) (ask_for qs (a / 8)) && all_save word since a asks

-- the word in the caches is the one in the memory itself, and what was asked for after that and is not fenced is the same
abbrev pub is_settled : List ℕ → List ℕ → Past → ℕ → Bool
is_settled cached durable past a = (slice_index cached a == slice_index durable a) && all_save (slice_index cached a) (slice_index past.since a) a past.asks

-- what the machine tells of the past, and no act asks
pub record Beside : Type 0 where
  pub owner : ℕ → ℕ
  pub named : ℕ → Bool
  pub published : ℕ → Bool
  pub answer : ℕ → Option Verdict

-- the machine's memory that the words mean, and what was asked for of them
abbrev pub typed : Store → Beside → Memory
typed st b = record {
  cached = kind_at st.swaps st.cached;
  durable = kind_at st.swaps st.durable;
  status = status_at st.swaps st.cached;
  durable_status = status_at st.swaps st.durable;
  words = descriptor_word_at st.swaps st.cached;
  durable_words = descriptor_word_at st.swaps st.durable;
  now = st.past.count;
  pending = kind_pending st.swaps (word_pending st.past);
  status_pending = status_pending st.swaps (word_pending st.past);
  words_pending = field_pending st.swaps (word_pending st.past);
  next_tag = slice_index st.next_tags;
  missed = λ s. get_or st.missed s false;
  taken = st.taken;
  owner = b.owner;
  named = b.named;
  published = b.published;
  answer = b.answer;
}

-- each word outside the descriptors is the word of a kind, and each status word the word of a status
pub record AreWords (swaps : ℕ) (words : List ℕ) : Type 0 where
  pub kinds : (a : ℕ) → IsOutside swaps a → IsWord (slice_index words a)
  pub statuses : (s : ℕ) → s < swaps → IsStatusWord (slice_index words (swap_address s))

-- what was asked for of such words was so too
pub record AreAsked (swaps : ℕ) (asks : List (List Ask)) : Type 0 where
  pub kinds : (a w : ℕ) (q : Ask) → IsOutside swaps a → ask_for (get_or asks w []) (a / 8) ≡ Some q → IsWord (slice_index q.words (a % 8))
  pub statuses : (s w : ℕ) (q : Ask) → s < swaps → ask_for (get_or asks w []) (swap_address s / 8) ≡ Some q → IsStatusWord (slice_index q.words (swap_address s % 8))

-- a memory with room for its descriptors, of which there are at most 2^16, a note for each, and a number for each worker
pub record HasRoom (st : Store) : Type 0 where
  pub memory : IsMemory (store_words st)
  pub state : IsState (store_state st)
  pub fit : HoldsWords (store_words st)
  pub workers : length st.past.asks ≡ length st.next_tags
  pub room : swap_address st.swaps ≤ length st.durable
  pub numbered : st.swaps ≤ 2 ^ 16
  pub noted : length st.missed ≡ st.swaps
  pub taken : st.taken ≤ st.swaps

-- words that the machine's memory can be read from
pub record IsStore (st : Store) : Type 0 where
  pub has_room : HasRoom st
  pub cached : AreWords st.swaps st.cached
  pub durable : AreWords st.swaps st.durable
  pub asked : AreAsked st.swaps st.past.asks

-- what no act changes
pub record SameShape (old new : Store) : Type 0 where
  pub swaps : new.swaps ≡ old.swaps
  pub size : length new.cached ≡ length old.cached
  pub workers : length new.next_tags ≡ length old.next_tags

-- what no act but a tag's and a miss's changes
pub record SameTables (old new : Store) : Type 0 where
  pub next_tags : new.next_tags ≡ old.next_tags
  pub missed : new.missed ≡ old.missed
  pub taken : new.taken ≡ old.taken

-- a worker that may put a tag
pub record MayTag (st : Store) (w : ℕ) : Type 0 where
  pub worker : w < length st.next_tags
  pub range : IsTagger w (slice_index st.next_tags w)

-- a worker that may ask for one line more
pub record MayAsk (st : Store) (w : ℕ) : Type 0 where
  pub worker : w < length st.next_tags
  pub room : length (get_or st.past.asks w []) < 64
  pub counted : st.past.count < 2 ^ 64 - 1
