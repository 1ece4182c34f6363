-- One act of a worker: what it changes, where the worker's next act is due, and what is answered.
use Rattle.std.specs.Prelude.{if◌then◌else◌, ℕ, ◌+◌, ◌*◌, ◌==◌, ◌&&◌, not, Bool, true, false, Some, None}
use Rattle.std.specs.declared.option.Option.{Option}
use Rattle.bz_word.specs.Kinds.{word}
use Rattle.bz_word.specs.declared.kind.WordKind.{WordKind}
use Rattle.bz_word.specs.declared.kind.WordKind.TheVariants.{Value, Dirty, Swap, Tag}
use Rattle.bz_swap_machine.specs.declared.status.SwapStatus.TheVariants.{Undecided}
use Rattle.bz_swap_machine.specs.declared.status.Verdict.{Verdict}
use Rattle.bz_swap_machine.specs.declared.status.Verdict.TheVariants.{Succeeded, Failed}
use Rattle.bz_swap_machine.specs.declared.place.Place.{Place}
use Rattle.bz_swap_machine.specs.declared.place.Place.TheVariants.{Idle, Prepare, Learn, Help, ReadWord, AskRead, FenceRead, ClearRead, LoadWord, StoreWord, AskLine, FenceLine}
use Rattle.bz_swap_machine.specs.declared.place.PrepareStep.{PrepareStep}
use Rattle.bz_swap_machine.specs.declared.place.PrepareStep.TheVariants.{WriteWord, WriteStatus, AskHead, AskTail, FenceDescriptor}
use Rattle.bz_swap_machine.specs.declared.place.HelpStep.TheVariants.{Look, InstallTag}
use Rattle.bz_swap_machine.specs.declared.place.Next.{Next}
use Rattle.bz_swap_machine.specs.declared.place.Next.TheVariants.{Step, Meet, Complete}
use Rattle.bz_swap_machine.specs.declared.worker.Operation.{Operation}
use Rattle.bz_swap_machine.specs.declared.worker.Operation.TheVariants.{Nothing, Reading, Swapping}
use Rattle.bz_swap_machine.specs.declared.done.Done.{Done}
use Rattle.bz_swap_machine.specs.declared.done.Done.TheVariants.{Busy, Read, Swapped, Stored, Flushed}
use Rattle.bz_swap_machine.specs.Machine.{Memory, entries_in, is_succeeded}
use Rattle.bz_swap_machine.specs.Changes.{put, with_word, with_status, with_field, with_published, with_answer, line_of, head_of, tail_of, with_ask, fenced}
use Rattle.bz_swap_machine.specs.HelpActs.{cleared_word, help_act}

-- one worker, but for the number of its next tag: what it comes back to, where its next act is due, the swap that
-- it works on, a swap to go on with after that, and the words of the swap's descriptor that it has
pub record Local : Type 0 where
  pub operation : Operation
  pub place : Place
  pub current : ℕ
  pub back : Option ℕ
  pub list : ℕ → ℕ

-- the memory and the worker after an act, and what is answered
pub record Stepped : Type 0 where
  pub memory : Memory
  pub local : Local
  pub done : Done

abbrev pub goes_on : Memory → Local → Place → Stepped
goes_on m l place = record { memory = m; local = record l { place = place }; done = Busy }

abbrev pub answers : Memory → Local → Done → Stepped
answers m l done = record { memory = m; local = record l { operation = Nothing; place = Idle }; done = done }

-- whether a swap is the worker's own
abbrev pub is_own : Operation → ℕ → Bool
is_own Nothing s = false
is_own (Reading a) s = false
is_own (Swapping t) s = t == s

-- the worker begins to help a swap, with another to go on with after it
abbrev pub helping : Local → ℕ → Option ℕ → Local
helping l t back = record { operation = l.operation; place = Learn 0; current = t; back = back; list = l.list }

-- swap t stands in the way of the current one, which is gone on with after it; the own swap is anyhow
abbrev pub meeting : Local → ℕ → Local
meeting l t = helping l t (if is_own l.operation l.current then None else Some l.current)

-- what follows when a swap of another worker is complete: the swap to go back to, or the own operation
abbrev pub resumed : Local → Option ℕ → Operation → Local
resumed l (Some b) operation = helping l b None
resumed l None Nothing = record l { place = Idle }
resumed l None (Reading a) = record l { place = ReadWord a }
resumed l None (Swapping s) = helping l s None

abbrev pub is_success : Verdict → Bool
is_success Succeeded = true
is_success Failed = false

-- the current swap is complete: the own one is answered
abbrev pub completed : Memory → Local → Verdict → Stepped
completed m l d =
    if is_own l.operation l.current
    then answers (with_answer m l.current d) l (Swapped (is_success d))
    else record { memory = m; local = resumed l l.back l.operation; done = Busy }

-- what follows an act on the current swap
abbrev pub after_help : Local → Memory → Next → Stepped
after_help l m (Step step) = goes_on m l (Help step)
after_help l m (Meet t) = record { memory = m; local = meeting l t; done = Busy }
after_help l m (Complete d) = completed m l d

-- word k of the current swap's descriptor is loaded; after the last one the status is looked at
abbrev pub learnt : Memory → Local → ℕ → Stepped
learnt m l k =
    let list : ℕ → ℕ = put l.list k (m.words l.current k) in
    record {
      memory = m;
      local = record l { place = if k == 3 * list 0 then Help Look else Learn (k + 1); list = list };
      done = Busy;
    }

-- an act on the descriptor of the own swap, which is the current one
abbrev pub prepare_act : Memory → ℕ → Local → PrepareStep → Stepped
prepare_act m w l (WriteWord k) = goes_on (with_field m l.current k (l.list k)) l (Prepare (if k == 3 * l.list 0 then WriteStatus else WriteWord (k + 1)))
prepare_act m w l WriteStatus = goes_on (with_status m l.current Undecided) l (Prepare AskHead)
prepare_act m w l AskHead = goes_on (with_ask m w (head_of l.current)) l (Prepare AskTail)
prepare_act m w l AskTail = goes_on (with_ask m w (tail_of l.current)) l (Prepare FenceDescriptor)
prepare_act m w l FenceDescriptor = goes_on (with_published m w l.current) l (Help (InstallTag 0))

-- the load of the word that is read: a plain value is the answer
abbrev pub read_act : Memory → Local → ℕ → WordKind → Stepped
read_act m l a (Value v) = answers m l (Read v)
read_act m l a (Dirty v) = goes_on m l (AskRead a v)
read_act m l a (Swap t) = record { memory = m; local = helping l t None; done = Busy }
read_act m l a (Tag t i w q) = record { memory = m; local = helping l t None; done = Busy }

-- one act of worker w
abbrev pub act : Memory → ℕ → Local → Place → Stepped
act m w l Idle = goes_on m l Idle
act m w l (Prepare step) = prepare_act m w l step
act m w l (Learn k) = learnt m l k
act m w l (Help step) = after_help l (help_act (entries_in l.list) m w l.current step).memory (help_act (entries_in l.list) m w l.current step).next
act m w l (ReadWord a) = read_act m l a (m.cached a)
act m w l (AskRead a v) = goes_on (with_ask m w (line_of a)) l (FenceRead a v)
act m w l (FenceRead a v) = goes_on (fenced m w) l (ClearRead a v)
act m w l (ClearRead a v) = goes_on (cleared_word m a v (m.cached a)) l (ReadWord a)
act m w l (LoadWord a) = answers m l (Read (word (m.cached a)))
act m w l (StoreWord a v) = answers (with_word m a (Value v)) l Stored
act m w l (AskLine line) = goes_on (with_ask m w (line_of (line * 8))) l (FenceLine line)
act m w l (FenceLine line) = answers (fenced m w) l Flushed

-- the swap that took effect at an act, eviction or fence that can have made the status of s durable
abbrev pub effect_of : Memory → Memory → ℕ → Option ℕ
effect_of m n s = if is_succeeded (n.durable_status s) && not (is_succeeded (m.durable_status s)) then Some s else None
