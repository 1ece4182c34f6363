-- The memory that swaps work on, as functions from addresses and numbers, and what each word resolves to.
use Rattle.std.specs.Prelude.{if◌then◌else◌, ℕ, ◌+◌, ◌-◌, ◌*◌, ◌/◌, ◌%◌, ◌==◌, Bool, true, false}
use Rattle.std.specs.declared.option.Option.{Option}
use Rattle.bz_word.specs.declared.kind.WordKind.{WordKind}
use Rattle.bz_word.specs.declared.kind.WordKind.TheVariants.{Value, Dirty, Swap, Tag}
use Rattle.bz_swap_machine.specs.declared.status.SwapStatus.{SwapStatus}
use Rattle.bz_swap_machine.specs.declared.status.SwapStatus.TheVariants.{Free, Undecided, Deciding, Decided}
use Rattle.bz_swap_machine.specs.declared.status.Verdict.{Verdict}
use Rattle.bz_swap_machine.specs.declared.status.Verdict.TheVariants.{Succeeded, Failed}
use Rattle.bz_swap_machine.specs.Pending.{Pending, Lasts}

-- what a swap is to do: its entries, and which of them an address has
pub record Entries : Type 0 where
  pub count : ℕ
  pub target : ℕ → ℕ
  pub expected : ℕ → ℕ
  pub value : ℕ → ℕ
  pub index : ℕ → ℕ

-- the words of a descriptor after its status: the number of entries, then three words for each
abbrev pub spelled : Entries → ℕ → ℕ
spelled x k =
    if k == 0 then x.count
    else if k % 3 == 1 then x.target ((k - 1) / 3)
    else if k % 3 == 2 then x.expected ((k - 1) / 3)
    else x.value ((k - 1) / 3)

-- the entries that such words spell
abbrev pub entries_in : (ℕ → ℕ) → Entries
entries_in words = record {
  count = words 0;
  target = λ i. words (1 + 3 * i);
  expected = λ i. words (2 + 3 * i);
  value = λ i. words (3 + 3 * i);
  index = λ a. 0;
}

-- all words, and what is kept beside them. The words, what is kept of asks, the numbers of tags, the misses and the number
-- of swaps begun are real; the others tell of the past, and no act asks them
pub record Memory : Type 0 where
  -- the words outside the descriptors
  pub cached : ℕ → WordKind
  pub durable : ℕ → WordKind
  -- each descriptor's status, and its words after that
  pub status : ℕ → SwapStatus
  pub durable_status : ℕ → SwapStatus
  pub words : ℕ → ℕ → ℕ
  pub durable_words : ℕ → ℕ → ℕ
  -- how many asks were made since power on, and what is kept of them for each of these words
  pub now : ℕ
  pub pending : ℕ → Pending WordKind
  pub status_pending : ℕ → Pending SwapStatus
  pub words_pending : ℕ → ℕ → Pending ℕ
  -- the number of each worker's next tag
  pub next_tag : ℕ → ℕ
  -- which swaps are noted as missed
  pub missed : ℕ → Bool
  -- how many swaps were begun since power on, the worker that began each, and which addresses they name
  pub taken : ℕ
  pub owner : ℕ → ℕ
  pub named : ℕ → Bool
  -- whose descriptor was flushed whole, and what was answered
  pub published : ℕ → Bool
  pub answer : ℕ → Option Verdict

-- what a status says has been decided
abbrev pub is_verdict : SwapStatus → Verdict → Bool
is_verdict Free d = false
is_verdict Undecided d = false
is_verdict (Deciding Succeeded) Succeeded = true
is_verdict (Deciding Succeeded) Failed = false
is_verdict (Deciding Failed) Succeeded = false
is_verdict (Deciding Failed) Failed = true
is_verdict (Decided Succeeded) Succeeded = true
is_verdict (Decided Succeeded) Failed = false
is_verdict (Decided Failed) Succeeded = false
is_verdict (Decided Failed) Failed = true

abbrev pub is_succeeded : SwapStatus → Bool
is_succeeded status = is_verdict status Succeeded

-- the value that a word stands for: a tag and a pointer stand for the expected value of their entry, a pointer
-- whose swap has durably succeeded for the new one
abbrev pub resolve : (ℕ → Entries) → (ℕ → SwapStatus) → ℕ → WordKind → ℕ
resolve e durable_status a (Value v) = v
resolve e durable_status a (Dirty v) = v
resolve e durable_status a (Swap s) = if is_succeeded (durable_status s) then (e s).value ((e s).index a) else (e s).expected ((e s).index a)
resolve e durable_status a (Tag s i w q) = (e s).expected i

-- a word that can be the durable one at an address with no further act but fences: the durable word, or one that was asked
-- for after it and is not fenced
abbrev pub MayLast : Memory → ℕ → WordKind → Type 0
MayLast m a x = Lasts (m.durable a) (m.pending a) x

-- the same of a descriptor's status, and of its words after that
abbrev pub StatusMayLast : Memory → ℕ → SwapStatus → Type 0
StatusMayLast m s k = Lasts (m.durable_status s) (m.status_pending s) k

abbrev pub FieldMayLast : Memory → ℕ → ℕ → ℕ → Type 0
FieldMayLast m s k v = Lasts (m.durable_words s k) (m.words_pending s k) v
