-- Every event keeps the numbers in the ranges that words can hold.
use Rattle.std.proofs.Common.{◌≡◌, ℕ, ◌+◌, ◌*◌, ◌==◌, if◌then◌else◌, ◌<◌, Bool, true, false, arith, refl, subst, Some, None}
use Rattle.bz_word.specs.declared.kind.WordKind.{WordKind}
use Rattle.bz_word.specs.declared.kind.WordKind.TheVariants.{Value, Dirty, Swap, Tag}
use Rattle.bz_swap_machine.specs.Machine.{Entries, Memory}
use Rattle.bz_swap_machine.specs.Changes.{put, line_of, head_of, tail_of, fenced}
use Rattle.bz_swap_machine.specs.Sound.{Sound}
use Rattle.bz_swap_machine.specs.declared.place.HelpStep.TheVariants.{Look}
use Rattle.bz_swap_machine.specs.declared.place.Next.{Next}
use Rattle.bz_swap_machine.specs.declared.place.Next.TheVariants.{Step, Meet, Complete}
use Rattle.bz_swap_machine.specs.HelpActs.{help_act}
use Rattle.std.specs.declared.option.Option.{Option}
use Rattle.bz_swap_machine.specs.declared.place.Place.{Place}
use Rattle.bz_swap_machine.specs.declared.place.Place.TheVariants.{Idle, Prepare, Learn, Help, ReadWord, AskRead, FenceRead, ClearRead, LoadWord, StoreWord, AskLine, FenceLine}
use Rattle.bz_swap_machine.specs.declared.place.PrepareStep.{PrepareStep}
use Rattle.bz_swap_machine.specs.declared.place.PrepareStep.TheVariants.{WriteWord, WriteStatus, AskHead, AskTail, FenceDescriptor}
use Rattle.bz_swap_machine.specs.declared.worker.Operation.{Operation}
use Rattle.bz_swap_machine.specs.declared.worker.Operation.TheVariants.{Nothing, Reading, Swapping}
use Rattle.bz_swap_machine.specs.Machine.{entries_in}
use Rattle.bz_swap_machine.specs.Steps.{Local, Stepped, is_own, resumed, after_help, prepare_act, read_act, act}
use Rattle.bz_swap_machine.specs.Knows.{AtPlace}
use Rattle.std.proofs.Common.{List, [], ◌∷◌}
use Rattle.bz_swap_machine.specs.State.{State, Event, StartRead, StartStore, StartFlush, StartSwap, Act, Evict, EvictStatus, EvictField, stepped, swapping, happens, IsState, AllMayHappen, after_all, power_on, IsRenewable}
use Rattle.std.proofs.Common.{◌^◌}
use Rattle.bz_word.specs.Kinds.{IsKind}
use Rattle.bz_swap_machine.specs.Ranges.{IsTagger, AreValues, HoldsKinds, NextInRange, PlaceInRange}
use Rattle.bz_swap_machine.specs.Lawful.{AreInRange, MayHold, AllMayHold, StayInRange}
use Rattle.bz_swap_machine.proofs.Ranges.{InRange, holds-word, holds-copies, holds-cleared, holds-ask, holds-fenced, range-help_act}
use Rattle.bz_swap_machine.specs.Agrees.{agree-spell}
use Rattle.bz_swap_machine.proofs.AgreeActs.{help_act-agrees}
use Rattle.bz_swap_machine.proofs.Events.{state-happens}
use Rattle.bz_swap_machine.proofs.PowerOn.{state-power_on}
use Rattle.bz_swap_machine.proofs.Lasting.{never-asked}

-- what a step of a worker leaves
record SteppedInRange (a : Stepped) : Type 0 where
  pub memory : HoldsKinds a.memory
  pub place : PlaceInRange a.local.place

place-if : (b : Bool) (x y : Place) → PlaceInRange x → PlaceInRange y → PlaceInRange (if b then x else y)
place-if true x y p q = p
place-if false x y p q = q

stepped-if : (b : Bool) (x y : Stepped) → SteppedInRange x → SteppedInRange y → SteppedInRange (if b then x else y)
stepped-if true x y p q = p
stepped-if false x y p q = q

range-resumed : (l : Local) (back : Option ℕ) (operation : Operation) → PlaceInRange (resumed l back operation).place
range-resumed l (Some b) operation = tt
range-resumed l None Nothing = tt
range-resumed l None (Reading a) = tt
range-resumed l None (Swapping s) = tt

range-after_help : (l : Local) (n : Memory) (next : Next) → HoldsKinds n → NextInRange next → SteppedInRange (after_help l n next)
range-after_help l n (Step step) h r = record { memory = h; place = r }
range-after_help l n (Meet t) h r = record { memory = h; place = tt }
range-after_help l n (Complete d) h r = stepped-if (is_own l.operation l.current) _ _
    (record { memory = assumption h; place = tt })
    (record { memory = h; place = range-resumed l l.back l.operation })

range-prepare : (m : Memory) (w : ℕ) (l : Local) (step : PrepareStep) → HoldsKinds m → SteppedInRange (prepare_act m w l step)
range-prepare m w l (WriteWord k) h = record { memory = assumption h; place = tt }
range-prepare m w l WriteStatus h = record { memory = assumption h; place = tt }
range-prepare m w l AskHead h = record { memory = holds-ask m w (head_of l.current) h; place = tt }
range-prepare m w l AskTail h = record { memory = holds-ask m w (tail_of l.current) h; place = tt }
range-prepare m w l FenceDescriptor h = let k : HoldsKinds (fenced m w) = holds-fenced m w h in record { memory = assumption k; place = tt }

range-read : (m : Memory) (l : Local) (a : ℕ) (found : WordKind) → m.cached a ≡ found → HoldsKinds m → SteppedInRange (read_act m l a found)
range-read m l a (Value v) e h = record { memory = h; place = tt }
range-read m l a (Dirty v) e h = record { memory = h; place = subst IsKind e (h.cached a) }
range-read m l a (Swap t) e h = record { memory = h; place = tt }
range-read m l a (Tag t i w q) e h = record { memory = h; place = tt }

range-act : (e : ℕ → Entries) (m : Memory) (w : ℕ) (l : Local) (place : Place) → AtPlace e m w l place → PlaceInRange place → (m.published l.current ≡ true → l.current < 2 ^ 16) → AreValues (e l.current)
    → IsTagger w (m.next_tag w) → HoldsKinds m → SteppedInRange (act m w l place)
range-act e m w l Idle f r sm a t h = record { memory = h; place = tt }
range-act e m w l (Prepare step) f r sm a t h = range-prepare m w l step h
range-act e m w l (Learn k) f r sm a t h = record { memory = h; place = place-if (k == 3 * put l.list k (m.words l.current k) 0) (Help Look) (Learn (k + 1)) tt tt }
range-act e m w l (Help step) f r sm a t h =
    let acted : InRange (help_act (e l.current) m w l.current step) = range-help_act e m w l.current step f.3 r (sm f.0) a t h in
    rw (help_act-agrees e (entries_in l.list) m w l.current step (agree-spell (e l.current) l.list f.2) f.3)
    (range-after_help l (help_act (e l.current) m w l.current step).memory (help_act (e l.current) m w l.current step).next acted.memory acted.next)
range-act e m w l (ReadWord b) f r sm a t h = range-read m l b (m.cached b) refl h
range-act e m w l (AskRead b v) f r sm a t h = record { memory = holds-ask m w (line_of b) h; place = r }
range-act e m w l (FenceRead b v) f r sm a t h = record { memory = holds-fenced m w h; place = r }
range-act e m w l (ClearRead b v) f r sm a t h = record { memory = holds-cleared m b v (m.cached b) r h; place = tt }
range-act e m w l (LoadWord b) f r sm a t h = record { memory = h; place = tt }
range-act e m w l (StoreWord b v) f r sm a t h = record { memory = holds-word m b (Value v) r h; place = tt }
range-act e m w l (AskLine line) f r sm a t h = record { memory = holds-ask m w (line_of (line * 8)) h; place = tt }
range-act e m w l (FenceLine line) f r sm a t h = record { memory = holds-fenced m w h; place = tt }

published-small : (e : ℕ → Entries) (m : Memory) (s : ℕ) → Sound e m → HoldsKinds m → m.published s ≡ true → s < 2 ^ 16
published-small e m s g h p = grind (arith, g.not_begun s, h.taken)

places-put : (w : ℕ) (l : Local) (local : ℕ → Local) → PlaceInRange l.place → ((v : ℕ) → PlaceInRange (local v).place) → (v : ℕ) (b : Bool) → PlaceInRange (if b then l else local v).place
places-put w l local p q v true = p
places-put w l local p q v false = q v

values-put : (e : ℕ → Entries) (s : ℕ) (new : Entries) → AreValues new → ((t : ℕ) → AreValues (e t)) → (t : ℕ) (b : Bool) → AreValues (if b then new else e t)
values-put e s new p q t true = p
values-put e s new p q t false = q t

pub range-happens : (x : State) (v : Event) → MayHold x v → IsState x → AreInRange x → AreInRange (happens x v)
range-happens x (StartRead w a) may i r = record { kinds = r.kinds; values = r.values; places = λ v. places-put w _ x.local tt r.places v (v == w) }
range-happens x (StartStore w a u) may i r = record { kinds = r.kinds; values = r.values; places = λ v. places-put w _ x.local may r.places v (v == w) }
range-happens x (StartFlush w line) may i r = record { kinds = r.kinds; values = r.values; places = λ v. places-put w _ x.local tt r.places v (v == w) }
range-happens x (StartSwap w new targets) may i r = record {
  kinds = record { cached = r.kinds.cached; durable = r.kinds.durable; asked = r.kinds.asked; taken = omega (arith, may.1) };
  values = λ t. values-put x.entries x.memory.taken new may.0 r.values t (t == x.memory.taken);
  places = λ v. places-put w (swapping (x.local w) x.memory.taken new) x.local tt r.places v (v == w);
}
range-happens x (Act w) may i r =
    let l : Local = x.local w in
    let acted : SteppedInRange (stepped x w) = range-act x.entries x.memory w l l.place (i.knows w).place (r.places w) (published-small x.entries x.memory l.current i.sound r.kinds) (r.values l.current) may r.kinds in
    record { kinds = acted.memory; values = r.values; places = λ v. places-put w (stepped x w).local x.local acted.place r.places v (v == w) }
range-happens x (Evict a) may i r = record { kinds = holds-copies x.memory (λ b. b == a) r.kinds; values = r.values; places = r.places }
range-happens x (EvictStatus s) may i r = record { kinds = assumption r.kinds; values = r.values; places = r.places }
range-happens x (EvictField s k) may i r = record { kinds = assumption r.kinds; values = r.values; places = r.places }

range-after_all : (x : State) (vs : List Event) → AllMayHappen x vs → AllMayHold x vs → IsState x → AreInRange x → AreInRange (after_all x vs)
range-after_all x [] may hold i r = r
range-after_all x (v ∷ vs) may hold i r = range-after_all (happens x v) vs may.1 hold.1 (state-happens x v may.0 i) (range-happens x v hold.0 i r)

pub range-power_on : (m : Memory) → IsRenewable m → ((a : ℕ) → IsKind (m.cached a) × IsKind (m.durable a)) → AreInRange (power_on m)
range-power_on m renewable kinds = record {
  kinds = record { cached = λ a. (kinds a).0; durable = λ a. (kinds a).1; asked = λ a w q asked. absurd (never-asked ((m.pending a).asked w) q ((renewable.words a).none w) asked); taken = omega arith };
  values = λ s. record { count = omega arith; expected = λ i lt. absurd (omega arith); value = λ i lt. absurd (omega arith) };
  places = λ w. tt;
}

pub stay_in_range : StayInRange
stay_in_range m renewable kinds before may hold = range-after_all (power_on m) before may hold (state-power_on m renewable) (range-power_on m renewable kinds)
