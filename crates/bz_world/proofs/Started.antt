-- What a worker's task asks for may be started, and once it is, the world is kept.
use Rattle.std.proofs.Common.{◌≡◌, ◌≢◌, ℕ, false, zero, suc, ◌*◌, ◌<◌, List, length, arith, refl, sym, ap, subst, ◌∙◌}
use Rattle.std.proofs.lemmas.List.{get_or-set_same, get_or-set_other, length-set}
use Rattle.std.specs.Vec.{with_item}
use Rattle.bz_refinement.specs.Story.{scene}
use Rattle.bz_swap.specs.EntryLists.{IsEntryList}
use Rattle.bz_swap.specs.Held.{Holds}
use Rattle.bz_swap.specs.Starts.{MayRead, MayStore, MayFlush, MaySwap, started, swapping}
use Rattle.bz_swap.specs.SwapMemory.{SwapMemory, Doing, Reading, Swapping, Storing, Flushing, idle, worker_of}
use Rattle.bz_task.specs.Scene.{Scene}
use Rattle.bz_task.specs.declared.todo.Todo.{Todo}
use Rattle.bz_task.specs.declared.todo.Todo.TheVariants as todo
use Rattle.bz_word.specs.declared.entry.Entry.{Entry}
use Rattle.bz_world.specs.Inside.Kept.{IsAwake}
use Rattle.bz_world.specs.Inside.Laws.{StartLaws}
use Rattle.bz_world.specs.Inside.Telling.{MustStart}
use Rattle.bz_world.specs.declared.parts.Parts.{Parts}
use Rattle.bz_world.proofs.Starting.{may-work, may-ask, IsAskedFor, started-kept, starts-it}
use Rattle.bz_world.proofs.SwapStarts.{stores-hidden, swapping-kept}

-- what is stored into, or flushed, lies in the memory
store-within : (m : SwapMemory) (w a v : ℕ) → 0 < w → MayStore m w a v → a < length m.cached
store-within m zero a v some may = absurd (omega (arith, some))
store-within m (suc w) a v some may = may.address.within

flush-within : (m : SwapMemory) (w line : ℕ) → 0 < w → MayFlush m w line → line * 8 < length m.cached
flush-within m zero line some may = absurd (omega (arith, some))
flush-within m (suc w) line some may = may.address.within

-- a start takes no descriptor, and leaves the other workers as they were
pub record StartsOne (old new : SwapMemory) (w : ℕ) : Type 0 where
  pub taken : new.taken ≡ old.taken
  pub others : (v : ℕ) → v ≢ w → worker_of new v ≡ worker_of old v

pub starts-one : (old new : SwapMemory) (w : ℕ) (doing : Doing) → new ≡ started old w doing → StartsOne old new w
starts-one old new w doing is = record {
  taken = ap (λ (m : SwapMemory). m.taken) is;
  others = λ v ne. ap (λ (m : SwapMemory). worker_of m v) is ∙ get_or-set_other old.workers w v (record { doing = doing; flush_next = false }) idle ne;
}

-- and so does a swap's start, which takes one
pub swaps-one : (old new : SwapMemory) (w : ℕ) (entries : List Entry) → new ≡ swapping old w entries → (v : ℕ) → v ≢ w → worker_of new v ≡ worker_of old v
swaps-one old new w entries is v ne = ap (λ (m : SwapMemory). worker_of m v) is ∙ get_or-set_other old.workers w v (record { doing = Swapping old.taken; flush_next = false }) idle ne

module _ (b : StartLaws) (p : Parts) (w : ℕ) where
  -- the scene of the worker's task
  abbrev its-scene : (asked : Todo) → MustStart p w asked → Scene
  its-scene asked m = scene p.config p.journal.past m.asking.between.story w m.asking.between.call_open.look.since m.asking.between.opened

  asked-for : (asked : Todo) (m : MustStart p w asked) → IsAskedFor p (its-scene asked m) m.asking.between.story asked
  asked-for asked m = may-ask b p w asked m

  pub may-read : (a : ℕ) → MustStart p w (todo.Read a) → MayRead p.access w a
  may-read a m = let ask = asked-for (todo.Read a) m in
      b.may.read p.config (m.asking.between.story.at (length p.journal.past)) p.access (its-scene (todo.Read a) m) w a m.asking.between.living.seen ask.sees (may-work p w (todo.Read a) m) ask.askable

  pub may-store : (a v : ℕ) → MustStart p w (todo.Store a v) → MayStore p.access w a v
  may-store a v m = let ask = asked-for (todo.Store a v) m in
      b.may.store p.config (m.asking.between.story.at (length p.journal.past)) p.access (its-scene (todo.Store a v) m) w a v m.asking.between.living.seen ask.sees (may-work p w (todo.Store a v) m) ask.askable

  pub may-flush : (line : ℕ) → MustStart p w (todo.Flush line) → MayFlush p.access w line
  may-flush line m = let ask = asked-for (todo.Flush line) m in
      b.may.flush p.config (m.asking.between.story.at (length p.journal.past)) p.access (its-scene (todo.Flush line) m) w line m.asking.between.living.seen ask.sees (may-work p w (todo.Flush line) m) ask.askable

  pub may-swap : (entries : List Entry) → MustStart p w (todo.Swap entries) → MaySwap p.access w entries
  may-swap entries m = let ask = asked-for (todo.Swap entries) m in
      b.may.swap p.config (m.asking.between.story.at (length p.journal.past)) p.access (its-scene (todo.Swap entries) m) w entries m.asking.between.living.seen (stores-hidden b.scenes b.hidden p w (todo.Swap entries) m) ask.sees (may-work p w (todo.Swap entries) m) ask.askable

  -- a load is for recovery alone
  pub asks-no-load : (a : ℕ) → MustStart p w (todo.Load a) → ⊥
  asks-no-load a m = (asked-for (todo.Load a) m).askable

  pub read-kept : (a : ℕ) → MustStart p w (todo.Read a) → (new : SwapMemory) → new ≡ started p.access w (Reading a) → Holds new → IsAwake (record p { access = new })
  read-kept a m new is holds = subst (λ z. IsAwake (record p { access = z })) (sym is)
      (started-kept b.solo b.starts b.begun b.solitary.alone p w (todo.Read a) m (Reading a) (subst Holds is holds) (starts-it p.access w (Reading a) (may-work p w (todo.Read a) m).within) refl (λ s e. absurd (cc e)) refl)

  pub store-kept : (a v : ℕ) → MustStart p w (todo.Store a v) → (new : SwapMemory) → new ≡ started p.access w (Storing a v) → Holds new → IsAwake (record p { access = new })
  store-kept a v m new is holds = subst (λ z. IsAwake (record p { access = z })) (sym is)
      (started-kept b.solo b.starts b.begun b.solitary.alone p w (todo.Store a v) m (Storing a v) (subst Holds is holds) (starts-it p.access w (Storing a v) (may-work p w (todo.Store a v) m).within, store-within p.access w a v (may-work p w (todo.Store a v) m).some (may-store a v m)) refl (λ s e. absurd (cc e)) refl)

  pub flush-kept : (line : ℕ) → MustStart p w (todo.Flush line) → (new : SwapMemory) → new ≡ started p.access w (Flushing line) → Holds new → IsAwake (record p { access = new })
  flush-kept line m new is holds = subst (λ z. IsAwake (record p { access = z })) (sym is)
      (started-kept b.solo b.starts b.begun b.solitary.alone p w (todo.Flush line) m (Flushing line) (subst Holds is holds) (starts-it p.access w (Flushing line) (may-work p w (todo.Flush line) m).within, flush-within p.access w line (may-work p w (todo.Flush line) m).some (may-flush line m)) refl (λ s e. absurd (cc e)) refl)

  -- a swap: its number is the next one, and the table names the worker
  pub swap-kept : (entries : List Entry) → MustStart p w (todo.Swap entries) → IsEntryList entries → p.access.taken < p.access.swaps → (new : SwapMemory) → new ≡ swapping p.access w entries → Holds new
      → IsAwake (record p { access = new; owners = with_item p.owners p.access.taken w })
  swap-kept entries m list room new is holds = subst (λ z. IsAwake (record p { access = z; owners = with_item p.owners p.access.taken w })) (sym is)
      (swapping-kept b.solo b.starts b.scenes b.begun b.solitary.alone p w entries m (may-swap entries m) (asked-for (todo.Swap entries) m).askable (subst Holds is holds) list below (with_item p.owners p.access.taken w)
      (length-set p.owners.items p.access.taken w ∙ m.asking.between.tabled.owner_places)
      (get_or-set_same p.owners.items p.access.taken w 0 (omega (arith, below, m.asking.between.tabled.owner_places)))
      (λ s ne. get_or-set_other p.owners.items p.access.taken s w 0 ne))
    where
      below : p.access.taken < p.config.swaps
      below = omega (arith, room, m.asking.between.living.seen.swaps)
