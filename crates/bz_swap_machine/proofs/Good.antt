-- What a step of a worker owes.
use Rattle.std.proofs.Common.{◌≡◌, ◌≢◌, ℕ, if◌then◌else◌, Bool, true, false, refl, ◌⊎◌, inl, inr, None}
use Rattle.bz_swap_machine.specs.Machine.{Entries, Memory}
use Rattle.bz_swap_machine.specs.Sound.{Sound}
use Rattle.bz_swap_machine.specs.Keeps.{Keeps, KeepsDescriptor}
use Rattle.bz_swap_machine.specs.declared.done.Done.{Done}
use Rattle.bz_swap_machine.specs.declared.done.Done.TheVariants.{Busy}
use Rattle.bz_swap_machine.specs.Steps.{Local, Stepped, answers, effect_of}
use Rattle.bz_swap_machine.specs.Knows.{BackPublished, Knows}
use Rattle.bz_swap_machine.specs.Content.{NotesMiss, QuietOrEffect}
use Rattle.bz_swap_machine.specs.Promise.{IsAnswer}
use Rattle.bz_swap_machine.proofs.Change.{Change, change-same}
use Rattle.bz_swap_machine.proofs.Told.{none-unchanged}

-- the words stay sound, the others' facts and descriptors stay, the effect is whole, a miss is lawful, the worker
-- knows what it must, and its answer is right
pub record Good (e : ℕ → Entries) (m : Memory) (w : ℕ) (l : Local) (a : Stepped) : Type 0 where
  pub sound : Sound e a.memory
  pub keeps : Keeps e m a.memory
  pub descriptors : (s : ℕ) → m.owner s ≢ w → KeepsDescriptor m a.memory s
  pub effect : QuietOrEffect e m a.memory l.current
  pub misses : NotesMiss e m a.memory
  pub knows : Knows e a.memory w a.local
  pub answer : IsAnswer e a.memory l.operation a.done
  pub ends : (a.done ≡ Busy) ⊎ (effect_of m a.memory l.current ≡ None)

pub good : (e : ℕ → Entries) (m : Memory) (w : ℕ) (l : Local) (a : Stepped) → Change e m a.memory l.current → Knows e a.memory w a.local → IsAnswer e a.memory l.operation a.done
    → (a.done ≡ Busy) ⊎ (effect_of m a.memory l.current ≡ None) → Good e m w l a
good e m w l a c k i ends = let descriptors : (s : ℕ) → m.owner s ≢ w → KeepsDescriptor m a.memory s = λ s other. c.descriptors s in assumption (c, descriptors, k, i, ends)

pub good-if : (e : ℕ → Entries) (m : Memory) (w : ℕ) (l : Local) (b : Bool) (x y : Stepped) → (b ≡ true → Good e m w l x) → (b ≡ false → Good e m w l y) → Good e m w l (if b then x else y)
good-if e m w l true x y f g = f refl
good-if e m w l false x y f g = g refl

-- a step that changes no memory and answers nothing
pub good-same : (e : ℕ → Entries) (m : Memory) (w : ℕ) (l l' : Local) → Sound e m → Knows e m w l' → Good e m w l (record { memory = m; local = l'; done = Busy })
good-same e m w l l' g k = good e m w l (record { memory = m; local = l'; done = Busy }) (change-same e m l.current g) k tt (inl refl)

-- an operation that one act ends
pub good-answers : (e : ℕ → Entries) (m n : Memory) (w : ℕ) (l : Local) (done : Done) → Change e m n l.current → BackPublished n l.back → IsAnswer e n l.operation done → n.durable_status ≡ m.durable_status → Good e m w l (answers n l done)
good-answers e m n w l done c b i st = good e m w l (answers n l done) c (record { place = tt; owns = tt; back = b }) i (inr (none-unchanged m n l.current st))
