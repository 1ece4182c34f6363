-- All that is known of a worker stays true under the acts of others.
use Rattle.std.proofs.Common.{◌≡◌, ℕ, false, arith, sym, ◌∙◌, Some, None}
use Rattle.bz_swap_machine.specs.Machine.{Entries, Memory}
use Rattle.bz_swap_machine.specs.Changes.{fenced}
use Rattle.bz_swap_machine.specs.Keeps.{Keeps, KeepsDescriptor}
use Rattle.std.specs.declared.option.Option.{Option}
use Rattle.bz_swap_machine.specs.declared.place.Place.{Place}
use Rattle.bz_swap_machine.specs.declared.place.Place.TheVariants.{Idle, Prepare, Learn, Help, ReadWord, AskRead, FenceRead, ClearRead, LoadWord, StoreWord, AskLine, FenceLine}
use Rattle.bz_swap_machine.specs.declared.place.PrepareStep.{PrepareStep}
use Rattle.bz_swap_machine.specs.declared.place.PrepareStep.TheVariants.{WriteWord, WriteStatus, AskHead, AskTail, FenceDescriptor}
use Rattle.bz_swap_machine.specs.declared.worker.Operation.{Operation}
use Rattle.bz_swap_machine.specs.declared.worker.Operation.TheVariants.{Nothing, Reading, Swapping}
use Rattle.bz_swap_machine.specs.Steps.{Local}
use Rattle.bz_swap_machine.specs.Knows.{Prepared, OwnPublished, Owns, BackPublished, AtPlace, Knows}
use Rattle.bz_swap_machine.proofs.KeptFacts.{fact-keeps}

-- what a change by others keeps for worker w: of the memory, and of the memory as its own fence will leave it
pub record KeepsFor (e : ℕ → Entries) (m n : Memory) (w : ℕ) : Type 0 where
  pub now : Keeps e m n
  pub after : Keeps e (fenced m w) (fenced n w)
  pub descriptors : (s : ℕ) → m.owner s ≡ w → KeepsDescriptor m n s
  pub descriptors_after : (s : ℕ) → m.owner s ≡ w → KeepsDescriptor (fenced m w) (fenced n w) s

pub own-keeps : (e : ℕ → Entries) (m n : Memory) (o : Operation) → Keeps e m n → OwnPublished m o → OwnPublished n o
own-keeps e m n Nothing k p = tt
own-keeps e m n (Reading a) k p = tt
own-keeps e m n (Swapping s) k p = k.published s p

pub back-keeps : (e : ℕ → Entries) (m n : Memory) (b : Option ℕ) → Keeps e m n → BackPublished m b → BackPublished n b
back-keeps e m n None k p = tt
back-keeps e m n (Some b) k p = k.published b p

pub owns-keeps : (e : ℕ → Entries) (m n : Memory) (w : ℕ) (o : Operation) → Keeps e m n → ((s : ℕ) → m.owner s ≡ w → KeepsDescriptor m n s) → Owns m w o → Owns n w o
owns-keeps e m n w Nothing k d p = tt
owns-keeps e m n w (Reading a) k d p = tt
owns-keeps e m n w (Swapping s) k d p = (k.owner s ∙ p.0, omega (arith, k.taken, p.1), (d s p.0).answer ∙ p.2)

-- what is stored of a descriptor that is not published stays, and what its worker's fence will make durable
prepared-keeps : (e : ℕ → Entries) (m n : Memory) (w s : ℕ) (step : PrepareStep) → KeepsDescriptor m n s → KeepsDescriptor (fenced m w) (fenced n w) s → m.published s ≡ false → Prepared e m w s step → Prepared e n w s step
prepared-keeps e m n w s (WriteWord k) d after p f = (f.0, λ j lt le. d.words j ∙ f.1 j lt le)
prepared-keeps e m n w s WriteStatus d after p f = λ j le. d.words j ∙ f j le
prepared-keeps e m n w s AskHead d after p f = ((λ j le. d.words j ∙ f.0 j le), d.status p ∙ f.1)
prepared-keeps e m n w s AskTail d after p f = (
  (λ j le. d.words j ∙ f.0 j le),
  d.status p ∙ f.1,
  (λ k may. after.durable_status p (λ c was. f.2 c was ∙ sym f.1) k may ∙ f.1),
  λ j v may h le. after.durable_words j (λ u was. f.3 j u was h le ∙ sym (f.0 j le)) v may ∙ f.0 j le,
)
prepared-keeps e m n w s FenceDescriptor d after p f = (
  (λ j le. d.words j ∙ f.0 j le),
  d.status p ∙ f.1,
  (λ k may. after.durable_status p (λ c was. f.2 c was ∙ sym f.1) k may ∙ f.1),
  λ j v may le. after.durable_words j (λ u was. f.3 j u was le ∙ sym (f.0 j le)) v may ∙ f.0 j le,
)

place-keeps : (e : ℕ → Entries) (m n : Memory) (w : ℕ) (l : Local) (place : Place) → KeepsFor e m n w → Owns m w l.operation → AtPlace e m w l place → AtPlace e n w l place
place-keeps e m n w l Idle k o f = tt
place-keeps e m n w l (Prepare step) k o f =
    let owns : Owns m w (Swapping l.current) = rw f.0 at o in
    (f.0, (k.descriptors l.current owns.0).published ∙ f.1, f.2, prepared-keeps e m n w l.current step (k.descriptors l.current owns.0) (k.descriptors_after l.current owns.0) f.1 f.3)
place-keeps e m n w l (Learn j) k o f = (k.now.published l.current f.0, own-keeps e m n l.operation k.now f.1, f.2, f.3)
place-keeps e m n w l (Help step) k o f = (k.now.published l.current f.0, own-keeps e m n l.operation k.now f.1, f.2, fact-keeps e m n w l.current step k.now k.after f.0 f.3)
place-keeps e m n w l (ReadWord a) k o f = f
place-keeps e m n w l (AskRead a v) k o f = f
place-keeps e m n w l (FenceRead a v) k o f = f
place-keeps e m n w l (ClearRead a v) k o f = f
place-keeps e m n w l (LoadWord a) k o f = f
place-keeps e m n w l (StoreWord a v) k o f = k.now.named a ∙ f
place-keeps e m n w l (AskLine line) k o f = tt
place-keeps e m n w l (FenceLine line) k o f = tt

pub knows-keeps : (e : ℕ → Entries) (m n : Memory) (w : ℕ) (l : Local) → KeepsFor e m n w → Knows e m w l → Knows e n w l
knows-keeps e m n w l k f = record {
  place = place-keeps e m n w l l.place k f.owns f.place;
  owns = owns-keeps e m n w l.operation k.now k.descriptors f.owns;
  back = back-keeps e m n l.back k.now f.back;
}
