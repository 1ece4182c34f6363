-- What workers know when a swap is begun.
use Rattle.std.proofs.Common.{◌≡◌, ℕ, Bool, true, false, arith, refl, sym, subst, Some, None}
use Rattle.std.proofs.lemmas.Grind.{common_steps}
use Rattle.bz_swap_machine.specs.Machine.{Entries, Memory, spelled}
use Rattle.bz_swap_machine.specs.Changes.{put}
use Rattle.bz_swap_machine.specs.Sound.{Sound}
use Rattle.std.specs.declared.option.Option.{Option}
use Rattle.bz_swap_machine.specs.declared.place.Place.{Place}
use Rattle.bz_swap_machine.specs.declared.place.Place.TheVariants.{Idle, Prepare, Learn, Help, ReadWord, AskRead, FenceRead, ClearRead, LoadWord, StoreWord, AskLine, FenceLine}
use Rattle.bz_swap_machine.specs.declared.worker.Operation.{Operation}
use Rattle.bz_swap_machine.specs.declared.worker.Operation.TheVariants.{Nothing, Reading, Swapping}
use Rattle.bz_swap_machine.specs.Steps.{Local}
use Rattle.bz_swap_machine.specs.Knows.{Spell, Owns, BackPublished, AtPlace, Knows}
use Rattle.bz_swap_machine.specs.Changes.{with_taken}
use Rattle.bz_swap_machine.specs.State.{swapping}
use Rattle.bz_swap_machine.proofs.Takes.{put-other}
use Rattle.bz_swap_machine.proofs.PrepareActs.{put-at}

-- what is known at a place rests on the entries of the current swap alone
at_place-entries : (e : ℕ → Entries) (x : Entries) (m : Memory) (w : ℕ) (l : Local) (place : Place) → e l.current ≡ x → AtPlace e m w l place → AtPlace (λ s. x) m w l place
at_place-entries e x m w l place h f = subst (λ y. AtPlace (λ s. y) m w l place) h f

at_place-same : (e e' : ℕ → Entries) (m : Memory) (w : ℕ) (l : Local) (place : Place) → e' l.current ≡ e l.current → AtPlace e m w l place → AtPlace e' m w l place
at_place-same e e' m w l place h f = subst (λ y. AtPlace (λ s. y) m w l place) (sym h) f

owns-taken : (m : Memory) (v w : ℕ) (targets : ℕ → Bool) (o : Operation) → Owns m v o → Owns (with_taken m w targets) v o
owns-taken m v w targets Nothing f = tt
owns-taken m v w targets (Reading a) f = tt
owns-taken m v w targets (Swapping s) f = (grind (arith, common_steps, f.0, f.1), omega (arith, f.1), f.2)

back-taken : (m : Memory) (w : ℕ) (targets : ℕ → Bool) (b : Option ℕ) → BackPublished m b → BackPublished (with_taken m w targets) b
back-taken m w targets None f = tt
back-taken m w targets (Some b) f = f

current-taken : (e : ℕ → Entries) (m : Memory) (new : Entries) (s : ℕ) → Sound e m → m.published s ≡ true → put e m.taken new s ≡ e s
current-taken e m new s g p = put-other e m.taken new s (λ h. grind (arith, g.not_begun s))

place-taken : (e : ℕ → Entries) (m : Memory) (v w : ℕ) (new : Entries) (targets : ℕ → Bool) (l : Local) (place : Place) → Sound e m → ((a u : ℕ) → place ≡ StoreWord a u → targets a ≡ false)
    → Owns m v l.operation → AtPlace e m v l place → AtPlace (put e m.taken new) (with_taken m w targets) v l place
place-taken e m v w new targets l Idle g out o f = tt
place-taken e m v w new targets l (Prepare step) g out o f =
    let owns : Owns m v (Swapping l.current) = rw f.0 at o in
    let same : put e m.taken new l.current ≡ e l.current = put-other e m.taken new l.current (λ h. grind (arith, owns.1, h)) in
    at_place-same e (put e m.taken new) (with_taken m w targets) v l (Prepare step) same f
place-taken e m v w new targets l (Learn k) g out o f = at_place-same e (put e m.taken new) (with_taken m w targets) v l (Learn k) (current-taken e m new l.current g f.0) f
place-taken e m v w new targets l (Help step) g out o f = at_place-same e (put e m.taken new) (with_taken m w targets) v l (Help step) (current-taken e m new l.current g f.0) f
place-taken e m v w new targets l (ReadWord a) g out o f = f
place-taken e m v w new targets l (AskRead a u) g out o f = f
place-taken e m v w new targets l (FenceRead a u) g out o f = f
place-taken e m v w new targets l (ClearRead a u) g out o f = f
place-taken e m v w new targets l (LoadWord a) g out o f = f
place-taken e m v w new targets l (StoreWord a u) g out o f = grind (arith, common_steps, f, out a u refl)
place-taken e m v w new targets l (AskLine line) g out o f = tt
place-taken e m v w new targets l (FenceLine line) g out o f = tt

pub knows-taken : (e : ℕ → Entries) (m : Memory) (v w : ℕ) (new : Entries) (targets : ℕ → Bool) (l : Local) → Sound e m → ((a u : ℕ) → l.place ≡ StoreWord a u → targets a ≡ false)
    → Knows e m v l → Knows (put e m.taken new) (with_taken m w targets) v l
knows-taken e m v w new targets l g out k = record {
  place = place-taken e m v w new targets l l.place g out k.owns k.place;
  owns = owns-taken m v w targets l.operation k.owns;
  back = back-taken m w targets l.back k.back;
}

-- what the worker that begins it knows
pub knows-swapping : (e : ℕ → Entries) (m : Memory) (w : ℕ) (new : Entries) (targets : ℕ → Bool) (l : Local) → Sound e m → Knows (put e m.taken new) (with_taken m w targets) w (swapping l m.taken new)
knows-swapping e m w new targets l g =
    let here : put e m.taken new m.taken ≡ new = put-at e m.taken new in
    let spells : Spell (put e m.taken new m.taken) (spelled new) = rw here (λ j le. refl) in
    record {
      place = (refl, (g.not_begun m.taken (omega arith)).1, spells, (omega arith, λ j lt le. absurd (omega arith)));
      owns = (put-at m.owner m.taken w, omega arith, g.unanswered m.taken (g.not_begun m.taken (omega arith)).1);
      back = tt;
    }
