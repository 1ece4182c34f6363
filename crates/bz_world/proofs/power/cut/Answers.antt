use Rattle.std.proofs.Common.{◌≢◌, ◌+◌, ◌-◌, ◌≤◌, length, arith, refl, sym, ap, ◌∙◌}
use Rattle.std.proofs.lemmas.Bool.{true≢false}
use Rattle.bz_mark.specs.Log.{Limits}
use Rattle.bz_mark.specs.declared.power.Power.TheVariants as power
use Rattle.bz_sound.proofs.Proved.{cuts_follow, power_tells_what_follows}
use Rattle.bz_refinement.proofs.Proved.{cuts_are_marked}
use Rattle.bz_world.specs.Inside.Beginning.{world_view}
use Rattle.bz_world.specs.declared.answers.Applied.TheVariants as applied
use Rattle.bz_world.proofs.Cutting.{cut-kept, cut-seen}
use Rattle.bz_world.proofs.Refusing.{cut-applied, off-by}
use Rattle.bz_world.proofs.power.cut.Goals as goal

pub returns-then-is_off-clause-applied : goal.returns-then-is_off-clause-applied
returns-then-is_off-clause-applied c =
    let p = c.args.parts.now in
    let room : 3 ≤ p.journal.limits.marks - length p.journal.past = omega arith in
    cut-applied (world_view p) (world_view p) applied.Off room power.Off (c.requires.tabled.power ∙ c.is_off.ensures.0 c.if-is_off.true) (refl, refl)

pub returns-clause-kept : goal.returns-clause-kept
returns-clause-kept c =
    let p = c.args.parts.now in
    let left : 3 ≤ p.journal.limits.marks - length p.journal.past = omega arith in
    let room : length p.journal.past + 3 ≤ p.config.marks = omega (arith, left, ap (λ (l : Limits). l.marks) c.requires.tabled.limits) in
    cut-kept (record { follow = cuts_follow; tells = power_tells_what_follows; leave = cuts_are_marked }) p c.make_cut.new.parts c.requires room
    (λ off. absurd (true≢false (sym (c.is_off.ensures.1 off) ∙ c.if-is_off.false))) c.make_cut.ensures

pub returns-clause-applied : goal.returns-clause-applied
returns-clause-applied c =
    let p = c.args.parts.now in
    let left : 3 ≤ p.journal.limits.marks - length p.journal.past = omega arith in
    let room : length p.journal.past + 3 ≤ p.config.marks = omega (arith, left, ap (λ (l : Limits). l.marks) c.requires.tabled.limits) in
    let on : p.power ≢ power.Off = λ off. absurd (true≢false (sym (c.is_off.ensures.1 off) ∙ c.if-is_off.false)) in
    cut-applied (world_view p) (world_view c.make_cut.new.parts) applied.Cut left p.power c.requires.tabled.power
    (off-by p.power _ _ on (refl, cut-seen (record { follow = cuts_follow; tells = power_tells_what_follows; leave = cuts_are_marked }) p c.make_cut.new.parts c.requires room on c.make_cut.ensures))
