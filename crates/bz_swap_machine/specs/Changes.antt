-- What one act changes of the memory.
use Rattle.std.specs.Prelude.{if◌then◌else◌, ℕ, ◌+◌, ◌/◌, ◌==◌, nat_lt, Bool, true, false, Some, None}
use Rattle.bz_word.specs.declared.kind.WordKind.{WordKind}
use Rattle.bz_word.specs.declared.kind.WordKind.TheVariants.{Tag}
use Rattle.bz_swap_machine.specs.declared.status.SwapStatus.{SwapStatus}
use Rattle.bz_swap_machine.specs.declared.status.Verdict.{Verdict}
use Rattle.bz_swap_machine.specs.Machine.{Entries, Memory, is_succeeded}
use Rattle.bz_swap_machine.specs.Pending.{no_asks, with_saved, fenced_value, with_fence}
use Rattle.bz_swap_machine.specs.Sizes.{line_fields}

-- the function with one value changed
abbrev pub put : {A : Type 0} → (ℕ → A) → ℕ → A → ℕ → A
put f a v b = if b == a then v else f b

-- a cached word outside the descriptors is another
abbrev pub with_word : Memory → ℕ → WordKind → Memory
with_word m a x = record m { cached = put m.cached a x }

-- worker w's next tag stands at an address, for entry i of swap s
abbrev pub with_tag : Memory → ℕ → ℕ → ℕ → ℕ → Memory
with_tag m a s i w = record m { cached = put m.cached a (Tag s i w (m.next_tag w)); next_tag = put m.next_tag w (m.next_tag w + 1) }

-- some words outside the descriptors become durable: those of a line, or one
abbrev pub with_copies : Memory → (ℕ → Bool) → Memory
with_copies m p = record m {
  durable = λ b. if p b then m.cached b else m.durable b;
  pending = λ b. record { since = if p b then m.now else (m.pending b).since; asked = (m.pending b).asked };
}

-- an address in the line of another
abbrev pub in_line : ℕ → ℕ → Bool
in_line a b = b / 8 == a / 8

-- a descriptor's cached status is another
abbrev pub with_status : Memory → ℕ → SwapStatus → Memory
with_status m s x = record m { status = put m.status s x }

-- a descriptor's status becomes durable
abbrev pub with_durable_status : Memory → ℕ → Memory
with_durable_status m s = record m {
  durable_status = put m.durable_status s (m.status s);
  status_pending = λ t. record { since = if t == s then m.now else (m.status_pending t).since; asked = (m.status_pending t).asked };
}

-- a word of a descriptor after its status is another
abbrev pub with_field : Memory → ℕ → ℕ → ℕ → Memory
with_field m s k v = record m { words = put m.words s (put (m.words s) k v) }

-- some of these words become durable
abbrev pub with_durable_fields : Memory → ℕ → (ℕ → Bool) → Memory
with_durable_fields m s p = record m {
  durable_words = put m.durable_words s (λ k. if p k then m.words s k else m.durable_words s k);
  words_pending = λ t k. record { since = if t == s then if p k then m.now else (m.words_pending t k).since else (m.words_pending t k).since; asked = (m.words_pending t k).asked };
}

-- a descriptor's first line holds the status and seven words, its second line eight
abbrev pub in_head : ℕ → Bool
in_head k = nat_lt k 7

abbrev pub in_tail : ℕ → Bool
in_tail k = if nat_lt k 7 then false else nat_lt k line_fields

-- a swap that has not taken effect is noted as missed
abbrev pub with_miss : Memory → ℕ → Memory
with_miss m s = record m { missed = put m.missed s (if is_succeeded (m.durable_status s) then m.missed s else true) }

-- the owner of a swap has answered
abbrev pub with_answer : Memory → ℕ → Verdict → Memory
with_answer m s d = record m { answer = put m.answer s (Some d) }

-- a swap is begun by worker w: its entries' targets are named from now on
abbrev pub with_taken : Memory → ℕ → (ℕ → Bool) → Memory
with_taken m w targets = record m { taken = m.taken + 1; owner = put m.owner m.taken w; named = λ a. if targets a then true else m.named a }

-- what an ask is of: tests on addresses, on swaps for their statuses, and on the words of descriptors after that
pub record Lines : Type 0 where
  pub words : ℕ → Bool
  pub statuses : ℕ → Bool
  pub fields : ℕ → ℕ → Bool

-- worker w asks for these words as they are in the cache now
abbrev pub with_ask : Memory → ℕ → Lines → Memory
with_ask m w p = record m {
  now = m.now + 1;
  pending = λ a. if p.words a then with_saved (m.pending a) w (m.now + 1) (m.cached a) else m.pending a;
  status_pending = λ s. if p.statuses s then with_saved (m.status_pending s) w (m.now + 1) (m.status s) else m.status_pending s;
  words_pending = λ s k. if p.fields s k then with_saved (m.words_pending s k) w (m.now + 1) (m.words s k) else m.words_pending s k;
}

-- the lines: of an address outside the descriptors, and the two of a descriptor
abbrev pub line_of : ℕ → Lines
line_of a = record { words = in_line a; statuses = λ s. false; fields = λ s k. false }

abbrev pub head_of : ℕ → Lines
head_of s = record { words = λ a. false; statuses = λ t. t == s; fields = λ t k. if t == s then in_head k else false }

abbrev pub tail_of : ℕ → Lines
tail_of s = record { words = λ a. false; statuses = λ t. false; fields = λ t k. if t == s then in_tail k else false }

-- after a fence of worker w each word that it asked for is durable, or a later one is, and it has asked for nothing
abbrev pub fenced : Memory → ℕ → Memory
fenced m w = record m {
  durable = λ a. fenced_value (m.durable a) (m.pending a).since ((m.pending a).asked w);
  durable_status = λ s. fenced_value (m.durable_status s) (m.status_pending s).since ((m.status_pending s).asked w);
  durable_words = λ s k. fenced_value (m.durable_words s k) (m.words_pending s k).since ((m.words_pending s k).asked w);
  pending = λ a. with_fence (m.pending a) w;
  status_pending = λ s. with_fence (m.status_pending s) w;
  words_pending = λ s k. with_fence (m.words_pending s k) w;
}

-- the fence of worker w after which the descriptor of its swap is durable
abbrev pub with_published : Memory → ℕ → ℕ → Memory
with_published m w s = record (fenced m w) { published = put m.published s true }

-- a power cut: the durable words are all that is left, and what was asked for is forgotten
abbrev pub after_cut : Memory → Memory
after_cut m = record m {
  cached = m.durable;
  status = m.durable_status;
  words = m.durable_words;
  now = 0;
  pending = λ a. no_asks;
  status_pending = λ s. no_asks;
  words_pending = λ s k. no_asks;
}

-- the entries when no swap was begun
abbrev pub no_entries : ℕ → Entries
no_entries s = record { count = 0; target = λ i. 0; expected = λ i. 0; value = λ i. 0; index = λ a. 0 }

-- power on, after recovery: no swap was begun, and nothing is noted
abbrev pub renewed : Memory → Memory
renewed m = record m {
  next_tag = λ w. 0;
  missed = λ s. false;
  taken = 0;
  owner = λ s. 0;
  named = λ a. false;
  published = λ s. false;
  answer = λ s. None;
}
