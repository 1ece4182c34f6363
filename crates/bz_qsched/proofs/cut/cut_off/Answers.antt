use Rattle.std.proofs.Common.{refl, inl, inr}
use Rattle.bz_queue.specs.declared.answers.QApplied.TheVariants as applied
use Rattle.bz_qsched.proofs.CutLemmas.{cut_made, still_powered, eviction_stops, cut_stops, cut_is_made}
use Rattle.bz_qsched.proofs.cut.cut_off.Goals as goal

pub returns-then-not-evict_drawn : goal.returns-then-not-evict_drawn
returns-then-not-evict_drawn c = eviction_stops c.args.seed c.args.world.now _ (c.if-not-evict_drawn.ensures.stopped refl)

pub returns-in-Cut : goal.returns-in-Cut
returns-in-Cut c =
    let evicted = c.evict_drawn.ensures.evicted c.if-not-evict_drawn.false in
    elim (cut_made c.evict_drawn.new.world applied.Cut c.apply.new.self (still_powered _ _ evicted.evolves c.requires.powered) c.in-Cut.ensures) [
      | inl none ↦ absurd (let other = none.0 in cc)
      | inr made ↦ cut_is_made c.args.seed c.args.world.now c.evict_drawn.new.world c.apply.new.self evicted made.1
    ]

pub returns-in-Limit : goal.returns-in-Limit
returns-in-Limit c =
    let evicted = c.evict_drawn.ensures.evicted c.if-not-evict_drawn.false in
    elim (cut_made c.evict_drawn.new.world applied.Limit c.apply.new.self (still_powered _ _ evicted.evolves c.requires.powered) c.in-Limit.ensures) [
      | inl none ↦ cut_stops c.args.seed c.args.world.now c.evict_drawn.new.world c.apply.new.self evicted none.1
      | inr made ↦ absurd (let other = made.0 in cc)
    ]

pub unreachable-requires : goal.unreachable-requires
unreachable-requires c =
    let evicted = c.evict_drawn.ensures.evicted c.if-not-evict_drawn.false in
    elim (cut_made c.evict_drawn.new.world c.apply.result c.apply.new.self (still_powered _ _ evicted.evolves c.requires.powered) c.apply.ensures) [
      | inl none ↦ c.in_default.not-Limit none.0
      | inr made ↦ c.in_default.not-Cut made.0
    ]
