-- Where an act leads: a worker goes on, or its operation is answered and it is idle.
use Rattle.std.specs.Prelude.{◌≡◌, ◌⊎◌, if◌then◌else◌, ◌==◌, ℕ, ◌+◌, ◌*◌, Bool, true, false, Some, None}
use Rattle.std.specs.declared.option.Option.{Option}
use Rattle.std.proofs.Common.{refl, inl, inr}
use Rattle.bz_word.specs.declared.kind.WordKind.{WordKind}
use Rattle.bz_word.specs.declared.kind.WordKind.TheVariants.{Value, Dirty, Swap, Tag}
use Rattle.bz_swap_machine.specs.declared.status.Verdict.{Verdict}
use Rattle.bz_swap_machine.specs.declared.place.Place.{Place}
use Rattle.bz_swap_machine.specs.declared.place.Place.TheVariants.{Idle, Prepare, Learn, Help, ReadWord, AskRead, FenceRead, ClearRead, LoadWord, StoreWord, AskLine, FenceLine}
use Rattle.bz_swap_machine.specs.declared.place.PrepareStep.TheVariants.{WriteWord, WriteStatus, AskHead, AskTail, FenceDescriptor}
use Rattle.bz_swap_machine.specs.declared.place.HelpStep.TheVariants.{Look}
use Rattle.bz_swap_machine.specs.declared.place.Next.{Next}
use Rattle.bz_swap_machine.specs.declared.place.Next.TheVariants.{Step, Meet, Complete}
use Rattle.bz_swap_machine.specs.declared.worker.Operation.{Operation}
use Rattle.bz_swap_machine.specs.declared.worker.Operation.TheVariants.{Nothing, Reading, Swapping}
use Rattle.bz_swap_machine.specs.declared.done.Done.TheVariants.{Busy, Read, Stored, Flushed}
use Rattle.bz_swap_machine.specs.Machine.{Memory, entries_in}
use Rattle.bz_swap_machine.specs.Changes.{put}
use Rattle.bz_swap_machine.specs.HelpActs.{help_act}
use Rattle.bz_swap_machine.specs.Steps.{Local, Stepped, act, is_own, completed, resumed, after_help, read_act}
use Rattle.bz_swap.specs.Inside.Kept.{IsBusy}

-- a place on the way to an answer
abbrev pub IsGoing : Place → Type 0
IsGoing Idle = ⊥
IsGoing (Prepare step) = Unit {0}
IsGoing (Learn k) = Unit {0}
IsGoing (Help step) = Unit {0}
IsGoing (ReadWord a) = Unit {0}
IsGoing (AskRead a v) = Unit {0}
IsGoing (FenceRead a v) = Unit {0}
IsGoing (ClearRead a v) = Unit {0}
IsGoing (LoadWord a) = ⊥
IsGoing (StoreWord a v) = ⊥
IsGoing (AskLine line) = ⊥
IsGoing (FenceLine line) = ⊥

-- a place whose act can answer with a word
abbrev pub ReadsAt : Place → Type 0
ReadsAt Idle = ⊥
ReadsAt (Prepare step) = ⊥
ReadsAt (Learn k) = ⊥
ReadsAt (Help step) = ⊥
ReadsAt (ReadWord a) = Unit {0}
ReadsAt (AskRead a v) = ⊥
ReadsAt (FenceRead a v) = ⊥
ReadsAt (ClearRead a v) = ⊥
ReadsAt (LoadWord a) = Unit {0}
ReadsAt (StoreWord a v) = ⊥
ReadsAt (AskLine line) = ⊥
ReadsAt (FenceLine line) = ⊥

-- the worker goes on with its operation
pub record GoesOn (l : Local) (at : Place) (after : Stepped) : Type 0 where
  pub from : IsGoing at
  pub place : IsGoing after.local.place
  pub operation : after.local.operation ≡ l.operation
  pub busy : after.done ≡ Busy

-- it has answered
pub record HasEnded (at : Place) (after : Stepped) : Type 0 where
  pub place : after.local.place ≡ Idle
  pub operation : after.local.operation ≡ Nothing
  pub done : after.done ≡ Busy → ⊥
  pub told : IsGoing at → (after.done ≡ Stored → ⊥) × (after.done ≡ Flushed → ⊥)
  pub read : (v : ℕ) → after.done ≡ Read v → ReadsAt at

-- it has asked for a line, and makes a fence next
pub record IsBetween (l : Local) (at : Place) (after : Stepped) : Type 0 where
  pub line : ℕ
  pub from : at ≡ AskLine line
  pub place : after.local.place ≡ FenceLine line
  pub operation : after.local.operation ≡ l.operation
  pub busy : after.done ≡ Busy

abbrev pub Leads : Local → Place → Stepped → Type 0
Leads l at after = GoesOn l at after ⊎ HasEnded at after ⊎ IsBetween l at after

going-if : (b : Bool) (x y : Place) → IsGoing x → IsGoing y → IsGoing (if b then x else y)
going-if true x y f g = f
going-if false x y f g = g

going-resumed : (l : Local) (back : Option ℕ) (o : Operation) → IsBusy o → IsGoing (resumed l back o).place × ((resumed l back o).operation ≡ l.operation)
going-resumed l (Some b) o busy = (tt, refl)
going-resumed l None Nothing busy = absurd busy
going-resumed l None (Reading a) busy = (tt, refl)
going-resumed l None (Swapping s) busy = (tt, refl)

leads-completed : (m : Memory) (l : Local) (d : Verdict) (b : Bool) → is_own l.operation l.current ≡ b → IsBusy l.operation → (at : Place) → IsGoing at → Leads l at (completed m l d)
leads-completed m l d true own busy at from = rw own (inr (inl (record { place = refl; operation = refl; done = λ h. absurd cc; told = λ g. (λ h. absurd cc, λ h. absurd cc); read = λ v h. absurd cc })))
leads-completed m l d false own busy at from =
    let (place, operation) = going-resumed l l.back l.operation busy in
    rw own (inl (record { from = from; place = place; operation = operation; busy = refl }))

leads-help : (m : Memory) (l : Local) (next : Next) → IsBusy l.operation → (at : Place) → IsGoing at → Leads l at (after_help l m next)
leads-help m l (Step step) busy at from = inl (record { from = from; place = tt; operation = refl; busy = refl })
leads-help m l (Meet t) busy at from = inl (record { from = from; place = tt; operation = refl; busy = refl })
leads-help m l (Complete d) busy at from = leads-completed m l d _ refl busy at from

leads-read : (m : Memory) (l : Local) (a : ℕ) (found : WordKind) → Leads l (ReadWord a) (read_act m l a found)
leads-read m l a (Value v) = inr (inl (record { place = refl; operation = refl; done = λ h. absurd cc; told = λ g. (λ h. absurd cc, λ h. absurd cc); read = λ u h. tt }))
leads-read m l a (Dirty v) = inl (record { from = tt; place = tt; operation = refl; busy = refl })
leads-read m l a (Swap t) = inl (record { from = tt; place = tt; operation = refl; busy = refl })
leads-read m l a (Tag t i w q) = inl (record { from = tt; place = tt; operation = refl; busy = refl })

-- an act of a worker that does something
pub leads-act : (m : Memory) (w : ℕ) (l : Local) (at : Place) → (at ≡ Idle → ⊥) → (IsGoing at → IsBusy l.operation) → Leads l at (act m w l at)
leads-act m w l Idle some busy = absurd (some refl)
leads-act m w l (Prepare (WriteWord k)) some busy = inl (record { from = tt; place = tt; operation = refl; busy = refl })
leads-act m w l (Prepare WriteStatus) some busy = inl (record { from = tt; place = tt; operation = refl; busy = refl })
leads-act m w l (Prepare AskHead) some busy = inl (record { from = tt; place = tt; operation = refl; busy = refl })
leads-act m w l (Prepare AskTail) some busy = inl (record { from = tt; place = tt; operation = refl; busy = refl })
leads-act m w l (Prepare FenceDescriptor) some busy = inl (record { from = tt; place = tt; operation = refl; busy = refl })
leads-act m w l (Learn k) some busy =
    inl (record { from = tt; place = going-if (k == 3 * put l.list k (m.words l.current k) 0) (Help Look) (Learn (k + 1)) tt tt; operation = refl; busy = refl })
leads-act m w l (Help step) some busy =
    let after = help_act (entries_in l.list) m w l.current step in
    leads-help after.memory l after.next (busy tt) (Help step) tt
leads-act m w l (ReadWord a) some busy = leads-read m l a (m.cached a)
leads-act m w l (AskRead a v) some busy = inl (record { from = tt; place = tt; operation = refl; busy = refl })
leads-act m w l (FenceRead a v) some busy = inl (record { from = tt; place = tt; operation = refl; busy = refl })
leads-act m w l (ClearRead a v) some busy = inl (record { from = tt; place = tt; operation = refl; busy = refl })
leads-act m w l (LoadWord a) some busy = inr (inl (record { place = refl; operation = refl; done = λ h. absurd cc; told = λ g. absurd g; read = λ v h. tt }))
leads-act m w l (StoreWord a v) some busy = inr (inl (record { place = refl; operation = refl; done = λ h. absurd cc; told = λ g. absurd g; read = λ v h. absurd cc }))
leads-act m w l (AskLine line) some busy = inr (inr (record { line = line; from = refl; place = refl; operation = refl; busy = refl }))
leads-act m w l (FenceLine line) some busy = inr (inl (record { place = refl; operation = refl; done = λ h. absurd cc; told = λ g. absurd g; read = λ v h. absurd cc }))
