-- The steps of a worker on a published swap: what follows an act, and learning.
use Rattle.std.proofs.Common.{inl, ◌≡◌, ℕ, if◌then◌else◌, Bool, true, false, arith, refl, Some, None}
use Rattle.bz_swap_machine.specs.declared.status.Verdict.{Verdict}
use Rattle.bz_swap_machine.specs.Machine.{Entries, Memory, is_verdict}
use Rattle.bz_swap_machine.specs.Facts.{FactNext}
use Rattle.bz_swap_machine.specs.declared.place.Next.{Next}
use Rattle.bz_swap_machine.specs.declared.place.Next.TheVariants.{Step, Meet, Complete}
use Rattle.std.specs.declared.option.Option.{Option}
use Rattle.bz_swap_machine.specs.declared.place.Place.TheVariants.{Help}
use Rattle.bz_swap_machine.specs.declared.worker.Operation.{Operation}
use Rattle.bz_swap_machine.specs.declared.worker.Operation.TheVariants.{Nothing, Reading, Swapping}
use Rattle.bz_swap_machine.specs.declared.done.Done.TheVariants.{Busy}
use Rattle.bz_swap_machine.specs.Steps.{Local, is_own, helping, meeting, resumed, completed, after_help}
use Rattle.bz_swap_machine.specs.Knows.{Spell, OwnPublished, Owns, BackPublished, Knows}
use Rattle.bz_swap_machine.proofs.Change.{Change}
use Rattle.bz_swap_machine.proofs.Good.{Good, good, good-if}
use Rattle.bz_swap_machine.proofs.Answered.{good-answered}
use Rattle.bz_swap_machine.proofs.KeptKnowledge.{own-keeps, back-keeps, owns-keeps}

-- what is known on a published swap, before it is known what follows
pub record OnSwap (e : ℕ → Entries) (m : Memory) (w : ℕ) (l : Local) : Type 0 where
  pub published : m.published l.current ≡ true
  pub own : OwnPublished m l.operation
  pub spell : Spell (e l.current) l.list
  pub owns : Owns m w l.operation
  pub back : BackPublished m l.back

pub on_swap-keeps : (e : ℕ → Entries) (m n : Memory) (w : ℕ) (l : Local) → Change e m n l.current → OnSwap e m w l → OnSwap e n w l
on_swap-keeps e m n w l c o = record {
  published = c.keeps.published l.current o.published;
  own = own-keeps e m n l.operation c.keeps o.own;
  spell = o.spell;
  owns = owns-keeps e m n w l.operation c.keeps (λ s h. c.descriptors s) o.owns;
  back = back-keeps e m n l.back c.keeps o.back;
}

back-if : (m : Memory) (b : Bool) (s : ℕ) → m.published s ≡ true → BackPublished m (if b then None else Some s)
back-if m true s p = tt
back-if m false s p = p

-- the worker begins to help a published swap
pub knows-helping : (e : ℕ → Entries) (m : Memory) (w : ℕ) (l : Local) (t : ℕ) (back : Option ℕ) → m.published t ≡ true → OwnPublished m l.operation → Owns m w l.operation → BackPublished m back → Knows e m w (helping l t back)
knows-helping e m w l t back p own owns b = record { place = (p, own, omega arith, λ j lt le. absurd (omega arith)); owns = owns; back = b }

knows-resumed : (e : ℕ → Entries) (m : Memory) (w : ℕ) (l : Local) (back : Option ℕ) (operation : Operation) → l.back ≡ back → l.operation ≡ operation → OnSwap e m w l → Knows e m w (resumed l back operation)
knows-resumed e m w l (Some b) operation h h' o = let back = o.back in knows-helping e m w l b None (rw h at back) o.own o.owns tt
knows-resumed e m w l None Nothing h h' o = record { place = tt; owns = o.owns; back = o.back }
knows-resumed e m w l None (Reading a) h h' o = record { place = h'; owns = o.owns; back = o.back }
knows-resumed e m w l None (Swapping s) h h' o = let own = o.own in knows-helping e m w l s None (rw h' at own) o.own o.owns tt

-- a step after which the worker goes on, with what it then knows
pub good-on : (e : ℕ → Entries) (m n : Memory) (w : ℕ) (l l' : Local) → Change e m n l.current → Knows e n w l' → Good e m w l (record { memory = n; local = l'; done = Busy })
good-on e m n w l l' c k = good e m w l (record { memory = n; local = l'; done = Busy }) c k tt (inl refl)

good-completed : (e : ℕ → Entries) (m n : Memory) (w : ℕ) (l : Local) (d : Verdict) → Change e m n l.current → OnSwap e m w l → is_verdict (n.durable_status l.current) d ≡ true
    → is_verdict (m.durable_status l.current) d ≡ true → Good e m w l (completed n l d)
good-completed e m n w l d c o h before =
    let o' : OnSwap e n w l = on_swap-keeps e m n w l c o in
    good-if e m w l (is_own l.operation l.current) _ _
    (λ b. good-answered e m n w l d c b o.owns o'.back h before)
    (λ b. good-on e m n w l (resumed l l.back l.operation) c (knows-resumed e n w l l.back l.operation refl refl o'))

-- every act on a published swap, and what follows
pub good-after_help : (e : ℕ → Entries) (m n : Memory) (w : ℕ) (l : Local) (next : Next) → Change e m n l.current → OnSwap e m w l → FactNext e n w l.current next
    → ((d : Verdict) → next ≡ Complete d → is_verdict (m.durable_status l.current) d ≡ true) → Good e m w l (after_help l n next)
good-after_help e m n w l (Step step) c o f ended =
    let o' : OnSwap e n w l = on_swap-keeps e m n w l c o in
    good-on e m n w l (record l { place = Help step }) c (record { place = (o'.published, o'.own, o'.spell, f); owns = o'.owns; back = o'.back })
good-after_help e m n w l (Meet t) c o f ended =
    let o' : OnSwap e n w l = on_swap-keeps e m n w l c o in
    good-on e m n w l (meeting l t) c (knows-helping e n w l t _ f o'.own o'.owns (back-if n (is_own l.operation l.current) l.current o'.published))
good-after_help e m n w l (Complete d) c o f ended = good-completed e m n w l d c o f (ended d refl)
