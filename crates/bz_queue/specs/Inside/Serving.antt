-- What a queue knows of each open call, by its place.
use Rattle.std.specs.Prelude.{◌≡◌, ◌<◌, ◌≤◌, ◌^◌, ℕ, true, false, List, [], length, slice_index, Option, Some, None}
use Rattle.bz_swap.specs.SwapMemory.{SwapMemory, Idle, Reading, Swapping, value_at, has_effect, entries_of, doing_of}
use Rattle.bz_ring.specs.declared.calls.QCall.{QCall}
use Rattle.bz_ring.specs.declared.calls.QReply.{QReply}
use Rattle.bz_ring.specs.declared.marks.QMark.{QMark}
use Rattle.bz_ring.specs.declared.ring.Ring.{Ring}
use Rattle.bz_ring.specs.Calls.{open_call, begun_calls, list_at}
use Rattle.bz_ring.specs.Content.{cell_of}
use Rattle.bz_ring.specs.Journal.{at_moment}
use Rattle.bz_ring.specs.Lists.{apply}
use Rattle.bz_ring.specs.Replies.{IsAfterLoad}
use Rattle.bz_change.specs.Changes as change
use Rattle.bz_queue.specs.declared.serving.OpenCall.{OpenCall}
use Rattle.bz_queue.specs.declared.serving.Place.{Place}
use Rattle.bz_queue.specs.declared.serving.Place.TheVariants.{Counter, Cell, Again, Swap}

-- the value of a call's counter
abbrev pub counter_now : SwapMemory → QCall → ℕ
counter_now m called = value_at m (change.counter_of called)

-- the list at a moment answers the call so; it begins empty
abbrev pub RepliesAt : Ring → List QMark → QCall → ℕ → QReply → Type 0
RepliesAt r past called at reply = (apply r.capacity (list_at r.capacity [] at past) called).reply ≡ reply

-- directly after an own load, at this moment, the cell did not suit; and the counter was so much then
pub record DidNotSuit (r : Ring) (m : SwapMemory) (past : List QMark) (w : ℕ) (called : QCall) (begun counter at : ℕ) : Type 0 where
  pub after_begin : begun < at
  pub before_now : at ≤ length past
  pub loaded : IsAfterLoad w (at_moment at past)
  pub then : ℕ
  pub rose : counter ≤ then
  pub since : then ≤ counter_now m called
  pub replies : then ≡ counter → RepliesAt r past called at (change.none_reply called)

-- its swap has had no effect, or had it just after this moment
abbrev pub IsChanged : Ring → SwapMemory → List QMark → QCall → ℕ → ℕ → ℕ → Option ℕ → Type 0
IsChanged r m past called begun word s None = has_effect m s ≡ false
IsChanged r m past called begun word s (Some at) = (has_effect m s ≡ true) × ((begun < at) × (at < length past)) × RepliesAt r past called at (change.change_reply called word)

pub record IsSwapping (r : Ring) (m : SwapMemory) (past : List QMark) (owners : List ℕ) (w : ℕ) (called : QCall) (begun counter word : ℕ) (effect : Option ℕ) : Type 0 where
  pub s : ℕ
  pub doing : doing_of m w ≡ Swapping s
  pub entries : entries_of m s ≡ change.entries_of r called counter word
  pub owner : slice_index owners s ≡ w
  pub suits : change.Suits called word
  pub rose : counter ≤ counter_now m called
  pub changed : IsChanged r m past called begun word s effect

-- it reads this
pub record IsReading (m : SwapMemory) (w a : ℕ) (effect : Option ℕ) : Type 0 where
  pub doing : doing_of m w ≡ Reading a
  pub none : effect ≡ None

abbrev pub IsAt : Ring → SwapMemory → List QMark → List ℕ → ℕ → QCall → ℕ → Option ℕ → Place → Type 0
IsAt r m past owners w called begun effect Counter = IsReading m w (change.counter_of called) effect
IsAt r m past owners w called begun effect (Cell counter) = IsReading m w (cell_of r counter) effect × (counter ≤ counter_now m called)
IsAt r m past owners w called begun effect (Again counter at) = IsReading m w (change.counter_of called) effect × DidNotSuit r m past w called begun counter at
IsAt r m past owners w called begun effect (Swap counter word) = IsSwapping r m past owners w called begun counter word effect

-- an open call, as the journal shows it
pub record IsOpened (past : List QMark) (crew w : ℕ) (x : OpenCall) : Type 0 where
  pub worker : 0 < w
  pub within : w ≤ crew
  pub fits : change.word_after x.call ≤ 2 ^ 60
  pub begun : ℕ
  pub is_open : open_call w past ≡ Some (record { number = begun_calls w past; call = x.call; begun = begun; effect = x.effect })
  pub before : begun < length past

pub record IsServed (r : Ring) (m : SwapMemory) (past : List QMark) (owners : List ℕ) (crew w : ℕ) (x : OpenCall) : Type 0 where
  pub opened : IsOpened past crew w x
  pub place : IsAt r m past owners w x.call opened.begun x.effect x.place

-- a worker without a call does nothing
pub record IsFree (m : SwapMemory) (past : List QMark) (w : ℕ) : Type 0 where
  pub none : open_call w past ≡ None
  pub idle : doing_of m w ≡ Idle

abbrev pub IsSlot : Ring → SwapMemory → List QMark → List ℕ → ℕ → ℕ → Option OpenCall → Type 0
IsSlot r m past owners crew w None = IsFree m past w
IsSlot r m past owners crew w (Some x) = IsServed r m past owners crew w x

-- the call has had its effect just after this moment
abbrev pub with_moment : ℕ → OpenCall → OpenCall
with_moment moment x = record x { effect = Some moment }
