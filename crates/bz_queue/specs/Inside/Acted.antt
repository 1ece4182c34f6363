-- What stands between an act and its effect.
use Rattle.std.specs.Prelude.{◌≡◌, ◌≢◌, ◌≤◌, ◌+◌, ℕ, ◌∷◌, length, Option, Some, None, get_or, slice_set}
use Rattle.bz_swap_acts.specs.Rule.{is_fence_act}
use Rattle.bz_swap_acts.specs.declared.acted.Act.{Act}
use Rattle.bz_swap_machine.specs.declared.done.Done.{Done}
use Rattle.bz_mark.specs.declared.marks.Mark.{Mark}
use Rattle.bz_mark.specs.declared.marks.Mark.TheVariants.{Evict}
use Rattle.bz_mark.specs.WordsAfter.{state_after_marks, words_after_marks}
use Rattle.bz_swap_marks.specs.Past.{SamePast}
use Rattle.bz_rivals.specs.Notes.{AreNoted}
use Rattle.bz_swap.specs.Effects.{TakesEffect}
use Rattle.bz_swap.specs.Evictions.{IsEviction}
use Rattle.bz_swap.specs.Held.{Holds}
use Rattle.bz_swap.specs.Steps.{IsStep}
use Rattle.bz_swap.specs.Settled.{AreOwned}
use Rattle.bz_swap.specs.SwapMemory.{SwapMemory, Swapping, memory_words, doing_of, worker_of}
use Rattle.bz_ring.specs.declared.marks.QMark.TheVariants.{Memory}
use Rattle.bz_ring.specs.declared.calls.QCall.{QCall}
use Rattle.bz_ring.specs.declared.ring.Ring.{Ring}
use Rattle.bz_ring.specs.Follows.{MakesDurable}
use Rattle.bz_ring.specs.Growth.{Happens}
use Rattle.bz_ring.specs.Journal.{QLog, with_mark, memory_of}
use Rattle.bz_change.specs.Laws.{IsCalm}
use Rattle.bz_change.specs.Values.{IsSwapOf, IsChanged}
use Rattle.bz_swap_marks.specs.Marks.{mark_of}
use Rattle.bz_queue.specs.Acts.{IsPlain}
use Rattle.bz_queue.specs.Inside.Going.{MustGoOn}
use Rattle.bz_queue.specs.Inside.Kept.{AreShown, IsAwake}
use Rattle.bz_queue.specs.Inside.Left.{PaysFor}
use Rattle.bz_queue.specs.Inside.Serving.{with_moment}
use Rattle.bz_queue.specs.Inside.Sweepable.{IsSweepable}
use Rattle.bz_queue.specs.QueueView.{IsStruck}
use Rattle.bz_queue.specs.declared.parts.Parts.{Parts}
use Rattle.bz_queue.specs.declared.serving.OpenCall.{OpenCall}

-- a worker made an act, and its mark was added
pub record IsActed (old : Parts) (w : ℕ) (made : Act) (done : Done) (told : Option ℕ) (new : Parts) : Type 0 where
  pub step : IsStep old.access w made done told new.access
  pub held : Holds new.access
  pub rest : new ≡ record old { access = new.access; journal = with_mark old.journal (Memory (mark_of w made)) }

-- a cached word became durable by itself, and its mark was added
pub record IsEvicted (old : Parts) (a : ℕ) (told : Option ℕ) (new : Parts) : Type 0 where
  pub eviction : IsEviction old.access a told new.access
  pub held : Holds new.access
  pub rest : new ≡ record old { access = new.access; journal = with_mark old.journal (Memory (Evict a)) }

-- an act or an eviction with this mark gave swap s its effect
pub record Strikes (r : Ring) (old new : SwapMemory) (log : QLog) (memory : Mark) (s : ℕ) : Type 0 where
  pub words : memory_words new ≡ words_after_marks log.start (memory ∷ memory_of log.past)
  pub past : SamePast new (state_after_marks log.start (memory ∷ memory_of log.past))
  pub calm : IsCalm new
  pub owned : AreOwned new
  pub noted : AreNoted new
  pub shown : AreShown new (Memory memory ∷ log.past)
  pub sweepable : IsSweepable new
  pub takes : TakesEffect old new s
  pub swaps : new.swaps ≡ old.swaps
  pub taken : new.taken ≡ old.taken
  pub begun : new.begun ≡ old.begun
  pub doing : (v : ℕ) → doing_of new v ≡ doing_of old v
  pub changed : (called : QCall) (counter word : ℕ) → IsSwapOf r old s called counter word → IsChanged r old new called counter word
  pub plain : IsPlain memory
  pub durable : MakesDurable memory
  pub happens : Happens log.start log.past memory

-- what neither changes
pub record Moves (old new : SwapMemory) : Type 0 where
  pub size : length new.cached ≡ length old.cached
  pub count : length new.workers ≡ length old.workers
  pub steps : new.steps ≤ old.steps + 1

-- that effect, which is not marked yet
pub record IsStriking (p : Parts) (s : ℕ) : Type 0 where
  pub before : Parts
  pub kept : IsAwake before
  pub memory : Mark
  pub strikes : Strikes before.numbers.ring before.access p.access before.journal memory s
  pub moves : Moves before.access p.access
  pub rest : p ≡ record before { access = p.access; journal = with_mark before.journal (Memory memory) }

-- it is marked now: the call whose swap it is has its moment
pub record HasMarked (old : Parts) (s : ℕ) (new : Parts) : Type 0 where
  pub v : ℕ
  pub x : OpenCall
  pub doing : doing_of old.access v ≡ Swapping s
  pub was : get_or old.workers.items v None ≡ Some x
  pub table : new.workers.items ≡ slice_set old.workers.items v (Some (with_moment (length old.journal.past) x))

-- the act that was made, with its effect if it had one
pub record HasActed (old : Parts) (w : ℕ) (new : Parts) : Type 0 where
  pub made : Act
  pub flush : is_fence_act made ≡ (worker_of old.access w).flush_next
  pub struck : IsStruck (Memory (mark_of w made) ∷ old.journal.past) new.journal.past
  pub rest : new ≡ record old { access = new.access; journal = record old.journal { past = new.journal.past }; workers = new.workers }
  pub others : (v : ℕ) → v ≢ w → worker_of new.access v ≡ worker_of old.access v
  pub count : length new.access.workers ≡ length old.access.workers
  pub pays : PaysFor old new w

-- the call goes on with nothing to hear, or has this to hear
pub record HasEnded (p : Parts) (w : ℕ) (done : Done) : Type 0 where
  pub x : OpenCall
  pub is : get_or p.workers.items w None ≡ Some x
  pub must : MustGoOn p w x done
