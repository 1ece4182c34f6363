-- What stands between an act and the next: a call whose read or swap has been answered, which does nothing.
use Rattle.std.specs.Prelude.{◌≡◌, ◌≢◌, ◌<◌, ◌≤◌, ◌+◌, ◌^◌, ℕ, Bool, true, false, List, length, get_or, Option, Some, None}
use Rattle.bz_swap_machine.specs.Allowed.{for_word}
use Rattle.bz_swap_machine.specs.declared.done.Done.{Done}
use Rattle.bz_swap_machine.specs.declared.done.Done.TheVariants as done
use Rattle.bz_swap.specs.SwapMemory.{SwapMemory, Idle, worker_of, value_at, doing_of}
use Rattle.bz_mark.specs.declared.power.Power.TheVariants as power
use Rattle.bz_ring.specs.declared.calls.QCall.{QCall}
use Rattle.bz_ring.specs.declared.calls.QReply.{QReply}
use Rattle.bz_ring.specs.declared.marks.QMark.{QMark}
use Rattle.bz_ring.specs.declared.ring.Ring.{Ring}
use Rattle.bz_ring.specs.Calls.{begun_calls}
use Rattle.bz_ring.specs.Content.{cell_of}
use Rattle.bz_ring.specs.Replies.{IsAfterLoad, IsRightReply}
use Rattle.bz_ring.specs.Solitary.{IsSparing, one_with}
use Rattle.bz_ring.specs.Sound.{IsSound, first_items}
use Rattle.bz_change.specs.Changes as change
use Rattle.bz_queue.specs.Inside.Kept.{IsTabled, IsMemory, IsAwake}
use Rattle.bz_queue.specs.Inside.Left.{starts_left, PaysFor}
use Rattle.bz_queue.specs.Inside.Serving.{IsSlot, IsOpened, DidNotSuit, counter_now, RepliesAt}
use Rattle.bz_queue.specs.Inside.Sparing.{IsSparingSlot, swaps_at}
use Rattle.bz_queue.specs.QueueView.{GoesOn}
use Rattle.bz_queue.specs.declared.answers.QApplied.{QApplied}
use Rattle.bz_queue.specs.declared.parts.Parts.{Parts}
use Rattle.bz_queue.specs.declared.serving.OpenCall.{OpenCall}
use Rattle.bz_queue.specs.declared.serving.Place.{Place}
use Rattle.bz_queue.specs.declared.serving.Place.TheVariants.{Counter, Cell, Again, Swap}

-- all is well but for worker w, whose call is open and which does nothing
pub record IsBetween (p : Parts) (w : ℕ) (x : OpenCall) : Type 0 where
  pub on : p.power ≡ power.On
  pub tabled : IsTabled p
  pub memory : IsMemory p.access p.journal
  pub sound : IsSound p.numbers.ring p.journal.start p.journal.past
  pub opened : IsOpened p.journal.past p.numbers.workers w x
  pub idle : doing_of p.access w ≡ Idle
  pub is : get_or p.workers.items w None ≡ Some x
  pub others : (v : ℕ) → v ≢ w → IsSlot p.numbers.ring p.access p.journal.past p.owners.items p.numbers.workers v (get_or p.workers.items v None)
  pub sparing : IsSparing p.numbers.ring p.journal.past
  pub alone : IsSparingSlot p.numbers.ring p.access p.journal.past w (Some x)

-- a value that the call has read just now
pub record HasRead (m : SwapMemory) (past : List QMark) (w a v : ℕ) (effect : Option ℕ) : Type 0 where
  pub none : effect ≡ None
  pub value : value_at m a ≡ v
  pub plain : v < 2 ^ 61
  pub loaded : IsAfterLoad w past

abbrev pub HasReadAt : Ring → SwapMemory → List QMark → ℕ → QCall → ℕ → ℕ → Option ℕ → Place → Type 0
HasReadAt r m past w called begun v effect Counter = HasRead m past w (change.counter_of called) v effect
HasReadAt r m past w called begun v effect (Cell counter) = HasRead m past w (cell_of r counter) v effect × (counter ≤ counter_now m called)
HasReadAt r m past w called begun v effect (Again counter at) = HasRead m past w (change.counter_of called) v effect × DidNotSuit r m past w called begun counter at
HasReadAt r m past w called begun v effect (Swap counter word) = ⊥

-- its swap was answered: it had its effect just after a moment, or had none
abbrev pub HasSwapped : Ring → List QMark → QCall → ℕ → ℕ → Bool → Option ℕ → Type 0
HasSwapped r past called begun word true None = ⊥
HasSwapped r past called begun word true (Some at) = ((begun < at) × (at < length past)) × RepliesAt r past called at (change.change_reply called word)
HasSwapped r past called begun word false None = Unit {0}
HasSwapped r past called begun word false (Some at) = ⊥

abbrev pub HasSwappedAt : Ring → List QMark → QCall → ℕ → Bool → Option ℕ → Place → Type 0
HasSwappedAt r past called begun won effect (Swap counter word) = HasSwapped r past called begun word won effect
HasSwappedAt r past called begun won effect other = ⊥

-- what the act has ended
abbrev pub IsAnswered : Ring → SwapMemory → List QMark → ℕ → OpenCall → ℕ → Done → Type 0
IsAnswered r m past w x begun (done.Read v) = HasReadAt r m past w x.call begun v x.effect x.place
IsAnswered r m past w x begun (done.Swapped won) = HasSwappedAt r past x.call begun won x.effect x.place
IsAnswered r m past w x begun other = ⊥

pub record MustGoOn (p : Parts) (w : ℕ) (x : OpenCall) (ended : Done) : Type 0 where
  pub between : IsBetween p w x
  pub answered : IsAnswered p.numbers.ring p.access p.journal.past w x between.opened.begun ended

-- it is to read this address, at this place
abbrev pub ReadsAt : Ring → SwapMemory → List QMark → ℕ → QCall → ℕ → Place → ℕ → Type 0
ReadsAt r m past w called begun Counter a = a ≡ change.counter_of called
ReadsAt r m past w called begun (Cell counter) a = (a ≡ cell_of r counter) × (counter ≤ counter_now m called)
ReadsAt r m past w called begun (Again counter at) a = (a ≡ change.counter_of called) × DidNotSuit r m past w called begun counter at
ReadsAt r m past w called begun (Swap counter word) a = ⊥

-- from there on it is allowed less, by what it starts
abbrev pub Starts : Parts → ℕ → OpenCall → Place → ℕ → Type 0
Starts p w x place cost = starts_left p.access w x.call None place + cost ≤ starts_left p.access w x.call None x.place

pub record MustRead (p : Parts) (w : ℕ) (x : OpenCall) (place : Place) (a : ℕ) : Type 0 where
  pub between : IsBetween p w x
  pub none : x.effect ≡ None
  pub pays : Starts p w x place for_word
  pub reads : ReadsAt p.numbers.ring p.access p.journal.past w x.call between.opened.begun place a

-- it has read its counter, which is at least so much still
pub record MustLook (p : Parts) (w : ℕ) (x : OpenCall) (counter : ℕ) : Type 0 where
  pub between : IsBetween p w x
  pub none : x.effect ≡ None
  pub rose : counter ≤ counter_now p.access x.call

-- it has read the cell of that value just now
pub record MustJudge (p : Parts) (w : ℕ) (x : OpenCall) (counter word : ℕ) : Type 0 where
  pub look : MustLook p w x counter
  pub place : x.place ≡ Cell counter
  pub value : value_at p.access (cell_of p.numbers.ring counter) ≡ word
  pub plain : word < 2 ^ 61
  pub loaded : IsAfterLoad w p.journal.past

-- it is to end so: it has begun a swap just where it had its effect
pub record MustEnd (p : Parts) (w : ℕ) (x : OpenCall) (answer : QReply) (at : ℕ) : Type 0 where
  pub between : IsBetween p w x
  pub exact : swaps_at x.place ≡ one_with x.effect
  pub right : IsRightReply p.numbers.ring (first_items p.numbers.ring p.journal.start) p.journal.past
      (record { worker = w; opened = record { number = begun_calls w p.journal.past; call = x.call; begun = between.opened.begun; effect = x.effect }; reply = answer; at = at })

-- the call has gone on, or has ended
pub record WentOn (old : Parts) (w : ℕ) (answer : QApplied) (new : Parts) : Type 0 where
  pub kept : IsAwake new
  pub numbers : new.numbers ≡ old.numbers
  pub start : new.journal.start ≡ old.journal.start
  pub most : new.journal.most ≡ old.journal.most
  pub ends : GoesOn old.journal.past w answer new.journal.past
  pub others : (v : ℕ) → v ≢ w → worker_of new.access v ≡ worker_of old.access v
  pub count : length new.access.workers ≡ length old.access.workers
  pub pays : PaysFor old new w
