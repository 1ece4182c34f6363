use Rattle.std.proofs.Common.{◌≡◌, ◌<◌, ◌%◌, [], length, arith, sym, ap, subst}
use Rattle.bz_content.specs.Content.{view_in}
use Rattle.bz_layout.specs.Slots.{FreeSlots, without}
use Rattle.bz_recover.specs.Walking.{IsBetween, HasCome}
use Rattle.bz_recover.specs.declared.walk.Walk.{Walk}
use Rattle.bz_recover.proofs.Beginning.{root-taken, RootTaken}
use Rattle.bz_recover.proofs.Between.{fewer}
use Rattle.bz_recover.proofs.walk.Walk.begun.Goals.{then-not-holds-via-then-not-holds, then-not-holds-via-else-not-holds+then-level-eq0, then-not-holds-via-else-not-holds+else-level-eq0+then-level-ge-MAX_LEVELS}
use Rattle.bz_recover.proofs.walk.Walk.begun.Goals as goal

pub returns-then-not-holds-clause-leads : goal.returns-then-not-holds-clause-leads
returns-then-not-holds-clause-leads c values image t left b told =
    let r : RootTaken (view_in c.args.self.now.config image) c.args.self.now.ways c.args.slots.now.free c.args.root (c.args.header % 256) = root-taken c.args.self.now.config values image c.args.self.now.ways c.args.slots.now.free c.args.root c.args.header t c.requires.root b.0 b.1 told in
    let free : c.holds.new.slots.free ≡ without c.args.root c.args.slots.now.free = ap (λ (s : FreeSlots). s.free) c.holds.ensures.slots in
    elim c.then-not-holds.branch [
      | then-not-holds-via-then-not-holds w ↦ absurd (omega (arith, w.if-not-holds.ensures.no, left, ap length free, fewer c.args.slots.now.free c.args.root r.was_free))
      | then-not-holds-via-else-not-holds+then-level-eq0 w ↦ (subst (IsBetween (view_in c.args.self.now.config image) []) (sym free) (r.leaf w.if-level-eq0.true), ap (λ (s : Walk). s.left) w.if-not-holds.ensures.left)
      | then-not-holds-via-else-not-holds+else-level-eq0+then-level-ge-MAX_LEVELS w ↦ absurd (omega (arith, r.low, w.if-level-ge-MAX_LEVELS.true))
    ]

pub returns-clause-leads : goal.returns-clause-leads
returns-clause-leads c values image t left b told =
    let r : RootTaken (view_in c.args.self.now.config image) c.holds.new.self.ways c.args.slots.now.free c.args.root (c.args.header % 256) = root-taken c.args.self.now.config values image c.holds.new.self.ways c.args.slots.now.free c.args.root c.args.header t c.requires.root b.0 b.1 told in
    let free : c.holds.new.slots.free ≡ without c.args.root c.args.slots.now.free = ap (λ (s : FreeSlots). s.free) c.holds.ensures.slots in
    let high : 0 < c.args.header % 256 = omega (arith, c.if-level-eq0.false) in
    (subst (λ f. HasCome (view_in c.args.self.now.config image) (c.args.header % 256) c.holds.new.self.ways f (c.args.header % 256) c.args.root) (sym free) (r.inner high), ap (λ (s : Walk). s.left) c.if-not-holds.ensures.left)
