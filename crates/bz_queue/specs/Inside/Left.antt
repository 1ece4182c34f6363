-- How many marks an open call has left at most, while its worker alone steps.
use Rattle.std.specs.Prelude.{◌≤◌, ◌==◌, ◌&&◌, ◌||◌, ℕ, zero, suc, ◌+◌, ◌*◌, Bool, true, false, not, List, [], ◌∷◌, length, get_or, Option, Some, None}
use Rattle.bz_word.specs.declared.entry.Entry.{Entry}
use Rattle.bz_swap_machine.specs.Allowed.{for_word, for_swap, counted}
use Rattle.bz_swap.specs.Solo.{left_to}
use Rattle.bz_swap.specs.SwapMemory.{SwapMemory, Doing, Swapping, value_at, is_missed, entries_of, doing_of}
use Rattle.bz_rivals.specs.Rivals.{is_rival, rivals}
use Rattle.bz_ring.specs.declared.calls.QCall.{QCall}
use Rattle.bz_change.specs.Changes as change
use Rattle.bz_queue.specs.Inside.Serving.{counter_now}
use Rattle.bz_queue.specs.declared.parts.Parts.{Parts}
use Rattle.bz_queue.specs.declared.serving.OpenCall.{OpenCall}
use Rattle.bz_queue.specs.declared.serving.Place.{Place}
use Rattle.bz_queue.specs.declared.serving.Place.TheVariants.{Counter, Cell, Again, Swap}

-- the targets of these entries hold what they expect
abbrev pub do_stand : SwapMemory → List Entry → Bool
do_stand m [] = true
do_stand m (e ∷ entries) = (value_at m e.target == e.expected) && do_stand m entries

-- a swap without effect is to win: it is not noted as missed, and its targets hold what it expects
abbrev pub is_to_win : SwapMemory → ℕ → Bool
is_to_win m s = not (is_missed m s) && do_stand m (entries_of m s)

-- a swap whose counter is this one expects this value of it
abbrev pub moves_from : List Entry → ℕ → ℕ → Bool
moves_from [] a counter = false
moves_from (e ∷ entries) a counter = (e.target == a) && (e.expected == counter)

abbrev pub moves_in : SwapMemory → Doing → ℕ → Bool
moves_in m (Swapping s) a = moves_from (entries_of m s) a (value_at m a)
moves_in m doing a = false

-- a worker that can still move a counter: it is another one, its swap has had no effect, and expects the value that the counter has
abbrev pub is_mover : SwapMemory → ℕ → ℕ → ℕ → Bool
is_mover m w a v = is_rival m w v && moves_in m (doing_of m v) a

-- one of so many does
abbrev pub some_below : (ℕ → Bool) → ℕ → Bool
some_below f zero = false
some_below f (suc n) = some_below f n || f n

-- some worker can still move the counter. Once it has been moved nobody can: whoever expects a value expects one that it had
abbrev pub may_move : SwapMemory → ℕ → ℕ → Bool
may_move m w a = some_below (is_mover m w a) (length m.workers)

-- a swap that was answered without effect, or is not to win
abbrev pub is_lost : SwapMemory → Option ℕ → Doing → Bool
is_lost m (Some at) doing = false
is_lost m None (Swapping s) = not (is_to_win m s)
is_lost m None doing = true

-- what the call has found is not so any more: it is to go back to its counter
abbrev pub is_stale : SwapMemory → ℕ → QCall → Option ℕ → Place → Bool
is_stale m w called effect Counter = false
is_stale m w called effect (Cell counter) = not (counter == counter_now m called)
is_stale m w called effect (Again counter at) = not (counter == counter_now m called)
is_stale m w called effect (Swap counter word) = is_lost m effect (doing_of m w)

-- how often the call may have to go back: once for what is not so any more, and once for another's effect
abbrev pub rounds_left : SwapMemory → ℕ → QCall → Option ℕ → Place → ℕ
rounds_left m w called effect place = counted (is_stale m w called effect place) 1 + counted (may_move m w (change.counter_of called)) 1

-- what is allowed for the starts of a round: two reads and a swap
abbrev pub for_round : ℕ
for_round = for_word + for_word + for_swap

-- and for those that are left of this one
abbrev pub for_place : Place → ℕ
for_place Counter = for_word + for_swap
for_place (Cell counter) = for_swap
for_place (Again counter at) = 0
for_place (Swap counter word) = 0

-- what is allowed for the starts that are left to the call
abbrev pub starts_left : SwapMemory → ℕ → QCall → Option ℕ → Place → ℕ
starts_left m w called effect place = for_place place + for_round * rounds_left m w called effect place

-- its own effect is to come
abbrev pub own_left : Option ℕ → ℕ
own_left None = 1
own_left (Some at) = 0

-- the acts that are left, the effects of others and its own, and its end
abbrev pub left_of : SwapMemory → ℕ → Option OpenCall → ℕ
left_of m w None = 0
left_of m w (Some x) = left_to m w + starts_left m w x.call x.effect x.place + rivals m w + own_left x.effect + 1

abbrev pub marks_left : Parts → ℕ → ℕ
marks_left p w = left_of p.access w (get_or p.workers.items w None)

-- what is left to each of so many workers, from this one on
abbrev pub each_from : (ℕ → ℕ) → ℕ → ℕ → List ℕ
each_from f w zero = []
each_from f w (suc n) = f w ∷ each_from f (w + 1) n

abbrev pub lefts_of : Parts → List ℕ
lefts_of p = each_from (marks_left p) 0 (length p.access.workers)

-- the marks that were added, and what is left, are no more than what was left
abbrev pub PaysFor : Parts → Parts → ℕ → Type 0
PaysFor old new w = length new.journal.past + marks_left new w ≤ length old.journal.past + marks_left old w
