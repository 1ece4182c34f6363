use Rattle.std.proofs.Common.{◌≡◌, ◌<◌, ◌-◌, length, arith, sym, ap, ◌∙◌, subst, get_or-set_same, get_or-set_other, slice_set}
use Rattle.bz_content.specs.Content.{view_in}
use Rattle.bz_layout.specs.Slots.{FreeSlots, without}
use Rattle.bz_recover.specs.Walking.{GoesOn, HasCome, goes_in, way_at}
use Rattle.bz_recover.specs.declared.walk.Walk.{Walk}
use Rattle.bz_recover.specs.declared.walk.Way.{Way}
use Rattle.bz_recover.proofs.Between.{fewer}
use Rattle.bz_recover.proofs.Onward.{after}
use Rattle.bz_recover.proofs.Reaching.{child-taken, ChildTaken}
use Rattle.bz_recover.proofs.walk.Walk.reached.Goals as goal

pub returns-in-None-clause-leads : goal.returns-in-None-clause-leads
returns-in-None-clause-leads c place values image t left g told =
    let d : ChildTaken c.args.self.now.config (view_in c.args.self.now.config image) c.args.self.now.top c.args.self.now.ways c.args.slots.now.free c.args.level c.args.way 0 c.args.pointer = child-taken c.args.self.now.config values image c.args.self.now.top c.args.self.now.ways c.args.slots.now.free c.args.level c.args.way 0 c.args.pointer place t g.0 c.requires.more g.1 told in
    let some = c.in-None.ensures.is d.some d.slot in
    absurd (cc)

pub returns-then-not-holds-clause-leads : goal.returns-then-not-holds-clause-leads
returns-then-not-holds-clause-leads c place values image t left g told =
    let d : ChildTaken c.args.self.now.config (view_in c.args.self.now.config image) c.args.self.now.top c.args.self.now.ways c.args.slots.now.free c.args.level c.args.way c.in-Some.child c.args.pointer = child-taken c.args.self.now.config values image c.args.self.now.top c.args.self.now.ways c.args.slots.now.free c.args.level c.args.way c.in-Some.child c.args.pointer place t g.0 c.requires.more g.1 told in
    let free : c.holds.new.slots.free ≡ without c.in-Some.child c.args.slots.now.free = ap (λ (s : FreeSlots). s.free) c.holds.ensures.slots in
    absurd (omega (arith, c.if-not-holds.ensures.no, left, ap length free, fewer c.args.slots.now.free c.in-Some.child (d.was_free c.in-Some.ensures.some.0)))

pub returns-then-level-eq1-clause-leads : goal.returns-then-level-eq1-clause-leads
returns-then-level-eq1-clause-leads c place values image t left g told =
    let d : ChildTaken c.args.self.now.config (view_in c.args.self.now.config image) c.args.self.now.top c.args.self.now.ways c.args.slots.now.free c.args.level c.args.way c.in-Some.child c.args.pointer = child-taken c.args.self.now.config values image c.args.self.now.top c.args.self.now.ways c.args.slots.now.free c.args.level c.args.way c.in-Some.child c.args.pointer place t g.0 c.requires.more g.1 told in
    let free : c.holds.new.slots.free ≡ without c.in-Some.child c.args.slots.now.free = ap (λ (s : FreeSlots). s.free) c.holds.ensures.slots in
    let same : c.holds.new.self ≡ record c.args.self.now { left = length c.holds.new.slots.free } = c.if-not-holds.ensures.left in
    let on : GoesOn (view_in c.args.self.now.config image) c.args.self.now.top c.args.self.now.ways c.holds.new.slots.free c.args.level (after c.args.way) = subst (λ f. GoesOn (view_in c.args.self.now.config image) c.args.self.now.top c.args.self.now.ways f c.args.level (after c.args.way)) (sym free) (d.leaf c.in-Some.ensures.some.0 c.if-level-eq1.true) in
    let there : GoesOn (view_in c.holds.new.self.config image) c.holds.new.self.top c.holds.new.self.ways c.holds.new.slots.free c.args.level (after c.args.way) = subst (λ (w : Walk). GoesOn (view_in w.config image) w.top w.ways c.holds.new.slots.free c.args.level (after c.args.way)) (sym same) on in
    (subst (λ k. goes_in k image c.holds.new.self.top c.holds.new.self.ways c.holds.new.slots.free c.onward.result) (ap (λ (w : Walk). w.config) same) (c.onward.ensures.goes image c.holds.new.slots.free there), ap (λ (w : Walk). w.left) same)

pub returns-clause-leads : goal.returns-clause-leads
returns-clause-leads c place values image t left g told =
    let d : ChildTaken c.args.self.now.config (view_in c.args.self.now.config image) c.args.self.now.top c.args.self.now.ways c.args.slots.now.free c.args.level c.args.way c.in-Some.child c.args.pointer = child-taken c.args.self.now.config values image c.args.self.now.top c.args.self.now.ways c.args.slots.now.free c.args.level c.args.way c.in-Some.child c.args.pointer place t g.0 c.requires.more g.1 told in
    let free : c.holds.new.slots.free ≡ without c.in-Some.child c.args.slots.now.free = ap (λ (s : FreeSlots). s.free) c.holds.ensures.slots in
    let same : c.holds.new.self ≡ record c.args.self.now { left = length c.holds.new.slots.free } = c.if-not-holds.ensures.left in
    let high : 1 < c.args.level = omega (arith, c.requires.level.inner, c.if-level-eq1.false) in
    let none : Way = record { slot = 0; next = 0; count = 0 } in
    let room : c.args.level < length c.holds.new.self.ways = omega (arith, c.holds.ensures.size, c.requires.level.below, c.requires.ready.top) in
    let come = d.inner c.in-Some.ensures.some.0 high c.requires.level.below (slice_set c.holds.new.self.ways c.args.level (after c.args.way))
    (get_or-set_same c.holds.new.self.ways c.args.level (after c.args.way) none room)
    (λ j ne. get_or-set_other c.holds.new.self.ways c.args.level j (after c.args.way) none ne ∙ ap (λ (w : Walk). way_at w.ways j) same) in (
      subst (λ n. HasCome (view_in c.args.self.now.config image) n (slice_set c.holds.new.self.ways c.args.level (after c.args.way)) c.holds.new.slots.free (c.args.level - 1) c.in-Some.child) (sym (ap (λ (w : Walk). w.top) same))
          (subst (λ f. HasCome (view_in c.args.self.now.config image) c.args.self.now.top (slice_set c.holds.new.self.ways c.args.level (after c.args.way)) f (c.args.level - 1) c.in-Some.child) (sym free) come),
      ap (λ (w : Walk). w.left) same,
    )
