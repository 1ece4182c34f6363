use Rattle.std.proofs.Common.{◌≡◌, ℕ, length, arith, sym, ap, subst, None}
use Rattle.std.specs.Prelude.{get_or}
use Rattle.bz_layout.specs.Slots.{FreeSlots}
use Rattle.bz_task.specs.declared.todo.Seen.TheVariants.{NoSwap}
use Rattle.bz_world.specs.Inside.Acted.{MustTell}
use Rattle.bz_world.specs.Inside.Solitary.{IsNotSolitaryIn}
use Rattle.bz_world.specs.Inside.Telling.{HasToldIn}
use Rattle.bz_world.specs.declared.parts.Parts.{Parts}
use Rattle.bz_solo.specs.FromCosts.Resources.{Resource}
use Rattle.bz_solo.specs.FromCosts.Weights.{start_takes}
use Rattle.bz_refinement.specs.Story.{scene}
use Rattle.bz_world.proofs.Paid.{affords-room}
use Rattle.bz_world.specs.Inside.Going.{HasRoomForEnd}
use Rattle.bz_world.specs.Inside.Paid.{bound_in, errand_of, used_in, IsPaidFor}
use Rattle.bz_world.proofs.Supplies.{told-few, told-fewer, few-asked}
use Rattle.bz_world.proofs.TakingOn.{lacks-told, lacks-swap, lacks-other, told-went, went-started}
use Rattle.bz_world.proofs.going.go_on.Goals as goal

pub tell-requires : goal.tell-requires
tell-requires c = subst (λ (p : Parts). MustTell p c.args.w NoSwap) (sym (c.start.ensures.same c.if-start.false)) (lacks-told c.undisturbed_laws.ensures c.args.parts.now c.args.w c.args.todo c.requires.asks (c.start.ensures.lacks c.if-start.false))

pub end_swapless-requires-clause-lacks : goal.end_swapless-requires-clause-lacks
end_swapless-requires-clause-lacks c =
    let same : c.start.new.parts ≡ c.args.parts.now = c.start.ensures.same c.if-start.false in
    lacks-swap c.undisturbed_laws.ensures.rounds c.args.parts.now c.args.w c.args.todo c.tell.result c.requires.asks (c.start.ensures.lacks c.if-start.false) c.tell.new.parts (length c.args.parts.now.journal.past) c.args.parts.now.slots c.tell.new.parts.slots
    (subst (λ (p : Parts). c.tell.new.parts ≡ record p { slots = c.tell.new.parts.slots; workers = c.tell.new.parts.workers }) same c.tell.ensures.rest) c.tell.ensures.asks
    (subst (λ (p : Parts). HasToldIn (get_or p.workers.items c.args.w None) NoSwap (length p.journal.past) p.slots c.tell.result (get_or c.tell.new.parts.workers.items c.args.w None) c.tell.new.parts.slots) same c.tell.ensures.told)

pub end_swapless-requires-clause-other : goal.end_swapless-requires-clause-other
end_swapless-requires-clause-other c =
    let same : c.start.new.parts ≡ c.args.parts.now = c.start.ensures.same c.if-start.false in
    subst (IsNotSolitaryIn c.tell.new.parts.journal.past c.args.w) (sym c.tell.ensures.asks.is)
    (lacks-other c.args.parts.now c.args.w c.args.todo c.tell.result c.requires.asks (c.start.ensures.lacks c.if-start.false) c.tell.new.parts (length c.args.parts.now.journal.past) c.args.parts.now.slots c.tell.new.parts.slots
    (subst (λ (p : Parts). c.tell.new.parts ≡ record p { slots = c.tell.new.parts.slots; workers = c.tell.new.parts.workers }) same c.tell.ensures.rest) c.tell.ensures.asks
    (subst (λ (p : Parts). HasToldIn (get_or p.workers.items c.args.w None) NoSwap (length p.journal.past) p.slots c.tell.result (get_or c.tell.new.parts.workers.items c.args.w None) c.tell.new.parts.slots) same c.tell.ensures.told))

pub returns-else-start-clause-went : goal.returns-else-start-clause-went
returns-else-start-clause-went c = told-went c.args.parts.now c.tell.new.parts c.args.w c.end_swapless.result c.end_swapless.new.parts
    (subst (λ (p : Parts). c.tell.new.parts ≡ record p { slots = c.tell.new.parts.slots; workers = c.tell.new.parts.workers }) same c.tell.ensures.rest)
    (told-fewer (get_or c.args.parts.now.workers.items c.args.w None) (get_or c.tell.new.parts.workers.items c.args.w None) NoSwap (length c.args.parts.now.journal.past) c.args.parts.now.slots c.tell.result c.tell.new.parts.slots told)
    (omega (
      arith,
      ap (λ (z : FreeSlots). length z.free) c.end_swapless.ensures.slots,
      few-asked c.args.parts.now c.args.w c.args.todo c.requires.asks,
      told-few (get_or c.args.parts.now.workers.items c.args.w None) (get_or c.tell.new.parts.workers.items c.args.w None) NoSwap (length c.args.parts.now.journal.past) c.args.parts.now.slots c.tell.result c.tell.new.parts.slots told,
    ))
    c.end_swapless.ensures.went
  where
    same : c.start.new.parts ≡ c.args.parts.now
    same = c.start.ensures.same c.if-start.false

    told : HasToldIn (get_or c.args.parts.now.workers.items c.args.w None) NoSwap (length c.args.parts.now.journal.past) c.args.parts.now.slots c.tell.result (get_or c.tell.new.parts.workers.items c.args.w None) c.tell.new.parts.slots
    told = subst (λ (p : Parts). HasToldIn (get_or p.workers.items c.args.w None) NoSwap (length p.journal.past) p.slots c.tell.result (get_or c.tell.new.parts.workers.items c.args.w None) c.tell.new.parts.slots) same c.tell.ensures.told

pub returns-else-start-clause-few : goal.returns-else-start-clause-few
returns-else-start-clause-few c = omega (
  arith,
  ap (λ (z : FreeSlots). length z.free) c.end_swapless.ensures.slots,
  told-few (get_or c.args.parts.now.workers.items c.args.w None) (get_or c.tell.new.parts.workers.items c.args.w None) NoSwap (length c.args.parts.now.journal.past) c.args.parts.now.slots c.tell.result c.tell.new.parts.slots told,
)
  where
    told : HasToldIn (get_or c.args.parts.now.workers.items c.args.w None) NoSwap (length c.args.parts.now.journal.past) c.args.parts.now.slots c.tell.result (get_or c.tell.new.parts.workers.items c.args.w None) c.tell.new.parts.slots
    told = subst (λ (p : Parts). HasToldIn (get_or p.workers.items c.args.w None) NoSwap (length p.journal.past) p.slots c.tell.result (get_or c.tell.new.parts.workers.items c.args.w None) c.tell.new.parts.slots) (c.start.ensures.same c.if-start.false) c.tell.ensures.told

pub returns-then-start-clause-went : goal.returns-then-start-clause-went
returns-then-start-clause-went c = went-started c.args.parts.now c.args.parts.now.workers c.args.w c.start.new.parts (c.start.ensures.started c.if-start.true) c.start.ensures.rest c.start.ensures.taken c.start.ensures.others
    (room-in (λ r. start_takes r c.args.todo) c.requires.asks.asking.paid) c.requires.asks.serving c.requires.asks.is
  where
    room-in : (extra : Resource → ℕ) → IsPaidFor c.args.parts.now c.args.w c.requires.asks.serving 0 extra (scene c.args.parts.now.config c.args.parts.now.journal.past c.requires.asks.asking.between.story c.args.w c.requires.asks.asking.between.call_open.look.since c.requires.asks.asking.between.opened).past → HasRoomForEnd c.args.parts.now c.args.w
    room-in extra paid r counted = affords-room r c.args.parts.now.access c.args.w (errand_of c.requires.asks.serving) (used_in r c.args.parts.now c.args.w) (bound_in r c.args.parts.now c.args.w) _ (paid r counted).affords
