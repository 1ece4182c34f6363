use Rattle.std.specs.Prelude.{◌≡◌, ◌<◌, ◌≤◌, ◌+◌, ℕ, List, [], length, Option, slice_index}
use Rattle.std.proofs.Common.{arith, refl, sym, subst}
use Rattle.bz_judge.specs.Held.{IsImageOf, IsImage as IsHeld}
use Rattle.bz_mark.specs.declared.marks.Mark.{Mark}
use Rattle.bz_mark.specs.Laws.{IsImage, IsOfMemory}
use Rattle.bz_mark.specs.Moments.{at_moment}
use Rattle.bz_mark.proofs.MomentLaws.{length-at_moment}
use Rattle.bz_sound.specs.Memory.Moments.{map_at_start}
use Rattle.bz_check.specs.Counts.{CountsWithin}
use Rattle.bz_check.specs.Pairs.{Holds}
use Rattle.bz_check.specs.Passes.{Passes}
use Rattle.bz_check.specs.declared.verdict.JudgeRule.{JudgeRule}
use Rattle.bz_check.proofs.Judging.{of_memory_at, of_memory_mark}
use Rattle.bz_check.proofs.Replaying.{sized}
use Rattle.bz_verdict.specs.Images.{TellsMoment}
use Rattle.bz_verdict.proofs.Going.{verdict_told, sees_last}
use Rattle.bz_verdict.proofs.Running.{Ran, runs_first, ran, read_at, told_with, image_then, held_then, runs_on}
use Rattle.bz_verdict.proofs.judge.judge_from_good_start.Goals as goal

pub map_held-requires : goal.map_held-requires
map_held-requires c = subst (λ (start : List ℕ). IsHeld start) (sym c.start-start.ensures) (record { config = c.args.config.now; whole = record { config = c.requires.config; size = c.requires.size; none = c.requires.start } })

pub loop-i-init : goal.loop-i-init
loop-i-init c =
    let image : IsImageOf c.args.config.now c.start-start.result.now =
    subst (λ (start : List ℕ). IsImageOf c.args.config.now start) (sym c.start-start.ensures) (record { config = c.requires.config; size = c.requires.size; none = c.requires.start }) in
    let held : Holds (map_at_start c.args.config.now c.args.journal.now.start) c.in_ok-map.map.entries =
    subst (λ (start : List ℕ). Holds (map_at_start c.args.config.now start) c.in_ok-map.map.entries) c.start-start.ensures (c.in_ok-map.ensures c.args.config.now image) in
    let none : Passes c.args.config.now c.args.power c.args.journal.now.start (map_at_start c.args.config.now c.args.journal.now.start) [] c.in_ok-pass.pass =
    subst (λ (start : List ℕ). Passes c.args.config.now c.args.power start (map_at_start c.args.config.now c.args.journal.now.start) [] c.in_ok-pass.pass) c.start-start.ensures
    (c.in_ok-pass.ensures (map_at_start c.args.config.now c.args.journal.now.start) held) in
    runs_first c.args.config.now c.args.power c.args.journal.now.start c.args.journal.now.pages c.args.journal.now.past c.in_ok-pass.pass c.in_ok-asked.asked.items c.requires.start none c.in_ok-asked.ensures

pub take-requires-clause-pass : goal.take-requires-clause-pass
take-requires-clause-pass c =
    let p = c.loop-i.invariant.passes in
    let now : length (at_moment c.loop-i.i c.args.journal.now.past) ≡ c.loop-i.i = length-at_moment c.loop-i.i c.args.journal.now.past (omega (arith, c.loop-i-test.true, c.length-i-end.ensures)) in
    record {
      sized = sized c.args.journal.now.start (at_moment c.loop-i.i c.args.journal.now.past) c.loop-i.pass.words p.replays (omega (arith, c.requires.size));
      workers = p.knows.size;
      counted = subst (λ (n : ℕ). CountsWithin n c.loop-i.pass.counts) now p.counts.within;
    }

pub take-requires-clause-named : goal.take-requires-clause-named
take-requires-clause-named c =
    let within : c.loop-i.i < length c.args.journal.now.past = omega (arith, c.loop-i-test.true, c.length-i-end.ensures) in
    subst (λ (n : ℕ). IsOfMemory n c.mark-mark.result) (sym c.loop-i.invariant.passes.replays.cached_size)
    (of_memory_mark (length c.args.journal.now.start) c.loop-i.i c.args.journal.now.past c.mark-mark.result c.requires.marks within c.mark-mark.ensures)

pub moment_rule-requires-clause-whole : goal.moment_rule-requires-clause-whole
moment_rule-requires-clause-whole c =
    let within : c.loop-i.i < length c.args.journal.now.past = omega (arith, c.loop-i-test.true, c.length-i-end.ensures) in
    let now : c.loop-i.i ≡ length (at_moment c.loop-i.i c.args.journal.now.past) = sym (length-at_moment c.loop-i.i c.args.journal.now.past (omega arith)) in
    let image : IsImage c.args.journal.now.start = subst IsImage c.start-start.ensures c.is_image.ensures in
    let of = of_memory_mark (length c.args.journal.now.start) c.loop-i.i c.args.journal.now.past c.mark-mark.result c.requires.marks within c.mark-mark.ensures in
    let passed = c.in_ok-plain.ensures.passes c.args.config.now c.args.power c.args.journal.now.start (map_at_start c.args.config.now c.args.journal.now.start) (at_moment c.loop-i.i c.args.journal.now.past) now image of c.loop-i.invariant.passes in
    omega (arith, passed.replays.durable_size, c.requires.size)

pub answer-kept-requires-clause-workers : goal.answer-kept-requires-clause-workers
answer-kept-requires-clause-workers c =
    let within : c.loop-i.i < length c.args.journal.now.past = omega (arith, c.loop-i-test.true, c.length-i-end.ensures) in
    let before : List Mark = at_moment c.loop-i.i c.args.journal.now.past in
    let map = map_at_start c.args.config.now c.args.journal.now.start in
    let now : c.loop-i.i ≡ length before = sym (length-at_moment c.loop-i.i c.args.journal.now.past (omega arith)) in
    let image : IsImage c.args.journal.now.start = subst IsImage c.start-start.ensures c.is_image.ensures in
    let of = of_memory_mark (length c.args.journal.now.start) c.loop-i.i c.args.journal.now.past c.mark-mark.result c.requires.marks within c.mark-mark.ensures in
    let are = of_memory_at (length c.args.journal.now.start) c.loop-i.i c.args.journal.now.past c.requires.marks in
    let p = c.loop-i.invariant.passes in
    let r : Ran c.args.config.now c.args.power c.args.journal.now.start c.args.journal.now.pages c.args.journal.now.past c.loop-i.i c.take.new.self c.first-next.result c.is_changed-changed.result c.loop-i.asked.items =
    ran c.args.config.now c.args.power c.args.journal.now.start c.args.journal.now.pages c.args.journal.now.past c.loop-i.i c.mark-mark.result c.loop-i.pass c.take.new.self c.loop-i.broken c.in_ok-plain.plain c.fault_with_page-fault.result c.first-next.result
    c.loop-i.stale c.is_changed-changed.result c.loop-i.asked.items image c.requires.marks (omega (arith, c.length-i-end.ensures)) within c.mark-mark.ensures
    (c.in_ok-plain.ensures.passes c.args.config.now c.args.power c.args.journal.now.start map before now image of p)
    (c.in_ok-plain.ensures.fault c.args.config.now c.args.power c.args.journal.now.start map before c.requires.config now image are p)
    (told_with c.loop-i.asked.items c.deref.result.now c.loop-i.i c.mark-mark.result c.in_ok-plain.plain c.fault_with_page-fault.result c.deref.ensures.value c.fault_with_page-fault.ensures) c.first-next.ensures c.is_changed-changed.ensures c.loop-i.invariant in
    r.passes.knows.size

pub answer-kept-requires-clause-image : goal.answer-kept-requires-clause-image
answer-kept-requires-clause-image c = λ outer.
    let within : c.loop-i.i < length c.args.journal.now.past = omega (arith, c.loop-i-test.true, c.length-i-end.ensures) in
    let before : List Mark = at_moment c.loop-i.i c.args.journal.now.past in
    let map = map_at_start c.args.config.now c.args.journal.now.start in
    let now : c.loop-i.i ≡ length before = sym (length-at_moment c.loop-i.i c.args.journal.now.past (omega arith)) in
    let image : IsImage c.args.journal.now.start = subst IsImage c.start-start.ensures c.is_image.ensures in
    let of = of_memory_mark (length c.args.journal.now.start) c.loop-i.i c.args.journal.now.past c.mark-mark.result c.requires.marks within c.mark-mark.ensures in
    let are = of_memory_at (length c.args.journal.now.start) c.loop-i.i c.args.journal.now.past c.requires.marks in
    let p = c.loop-i.invariant.passes in
    let r : Ran c.args.config.now c.args.power c.args.journal.now.start c.args.journal.now.pages c.args.journal.now.past c.loop-i.i c.take.new.self c.first-next.result c.is_changed-changed.result c.loop-i.asked.items =
    ran c.args.config.now c.args.power c.args.journal.now.start c.args.journal.now.pages c.args.journal.now.past c.loop-i.i c.mark-mark.result c.loop-i.pass c.take.new.self c.loop-i.broken c.in_ok-plain.plain c.fault_with_page-fault.result c.first-next.result
    c.loop-i.stale c.is_changed-changed.result c.loop-i.asked.items image c.requires.marks (omega (arith, c.length-i-end.ensures)) within c.mark-mark.ensures
    (c.in_ok-plain.ensures.passes c.args.config.now c.args.power c.args.journal.now.start map before now image of p)
    (c.in_ok-plain.ensures.fault c.args.config.now c.args.power c.args.journal.now.start map before c.requires.config now image are p)
    (told_with c.loop-i.asked.items c.deref.result.now c.loop-i.i c.mark-mark.result c.in_ok-plain.plain c.fault_with_page-fault.result c.deref.ensures.value c.fault_with_page-fault.ensures) c.first-next.ensures c.is_changed-changed.ensures c.loop-i.invariant in
    held_then c.args.config.now c.take.new.self.words.durable
    (image_then c.args.config.now c.args.power c.args.journal.now.start c.args.journal.now.pages c.args.journal.now.past c.loop-i.i c.take.new.self c.first-next.result c.in_ok-told.told c.is_changed-changed.result c.is_inner-inner.result c.loop-i.asked.items
    c.requires.config c.requires.size r c.in_ok-told.ensures c.in-None.is outer)

pub loop-i-preserved : goal.loop-i-preserved
loop-i-preserved c =
    let within : c.loop-i.i < length c.args.journal.now.past = omega (arith, c.loop-i-test.true, c.length-i-end.ensures) in
    let before : List Mark = at_moment c.loop-i.i c.args.journal.now.past in
    let map = map_at_start c.args.config.now c.args.journal.now.start in
    let now : c.loop-i.i ≡ length before = sym (length-at_moment c.loop-i.i c.args.journal.now.past (omega arith)) in
    let image : IsImage c.args.journal.now.start = subst IsImage c.start-start.ensures c.is_image.ensures in
    let of = of_memory_mark (length c.args.journal.now.start) c.loop-i.i c.args.journal.now.past c.mark-mark.result c.requires.marks within c.mark-mark.ensures in
    let are = of_memory_at (length c.args.journal.now.start) c.loop-i.i c.args.journal.now.past c.requires.marks in
    let p = c.loop-i.invariant.passes in
    let r : Ran c.args.config.now c.args.power c.args.journal.now.start c.args.journal.now.pages c.args.journal.now.past c.loop-i.i c.take.new.self c.first-next.result c.is_changed-changed.result c.loop-i.asked.items =
    ran c.args.config.now c.args.power c.args.journal.now.start c.args.journal.now.pages c.args.journal.now.past c.loop-i.i c.mark-mark.result c.loop-i.pass c.take.new.self c.loop-i.broken c.in_ok-plain.plain c.fault_with_page-fault.result c.first-next.result
    c.loop-i.stale c.is_changed-changed.result c.loop-i.asked.items image c.requires.marks (omega (arith, c.length-i-end.ensures)) within c.mark-mark.ensures
    (c.in_ok-plain.ensures.passes c.args.config.now c.args.power c.args.journal.now.start map before now image of p)
    (c.in_ok-plain.ensures.fault c.args.config.now c.args.power c.args.journal.now.start map before c.requires.config now image are p)
    (told_with c.loop-i.asked.items c.deref.result.now c.loop-i.i c.mark-mark.result c.in_ok-plain.plain c.fault_with_page-fault.result c.deref.ensures.value c.fault_with_page-fault.ensures) c.first-next.ensures c.is_changed-changed.ensures c.loop-i.invariant in
    runs_on c.args.config.now c.args.power c.args.journal.now.start c.args.journal.now.pages c.args.journal.now.past c.loop-i.i c.take.new.self c.first-next.result c.in_ok-told.told c.is_changed-changed.result c.is_inner-inner.result c.is_left-left.result
    c.loop-i.asked.items _ c.index-question.result.now c.answer-kept.result c.requires.config c.requires.size within c.is_inner-inner.ensures.0 r c.in_ok-told.ensures c.in-None.is c.is_left-left.ensures refl (read_at c.loop-i.asked.items (c.loop-i.i + 1) c.index-question.result.now (omega (arith, within, c.loop-i.invariant.answered.size)) c.index-question.ensures) c.answer-kept.ensures.at_most c.answer-kept.ensures.shown

pub returns-in-Some : goal.returns-in-Some
returns-in-Some c =
    let within : c.loop-i.i < length c.args.journal.now.past = omega (arith, c.loop-i-test.true, c.length-i-end.ensures) in
    let before : List Mark = at_moment c.loop-i.i c.args.journal.now.past in
    let map = map_at_start c.args.config.now c.args.journal.now.start in
    let now : c.loop-i.i ≡ length before = sym (length-at_moment c.loop-i.i c.args.journal.now.past (omega arith)) in
    let image : IsImage c.args.journal.now.start = subst IsImage c.start-start.ensures c.is_image.ensures in
    let of = of_memory_mark (length c.args.journal.now.start) c.loop-i.i c.args.journal.now.past c.mark-mark.result c.requires.marks within c.mark-mark.ensures in
    let are = of_memory_at (length c.args.journal.now.start) c.loop-i.i c.args.journal.now.past c.requires.marks in
    let p = c.loop-i.invariant.passes in
    let r : Ran c.args.config.now c.args.power c.args.journal.now.start c.args.journal.now.pages c.args.journal.now.past c.loop-i.i c.take.new.self c.first-next.result c.is_changed-changed.result c.loop-i.asked.items =
    ran c.args.config.now c.args.power c.args.journal.now.start c.args.journal.now.pages c.args.journal.now.past c.loop-i.i c.mark-mark.result c.loop-i.pass c.take.new.self c.loop-i.broken c.in_ok-plain.plain c.fault_with_page-fault.result c.first-next.result
    c.loop-i.stale c.is_changed-changed.result c.loop-i.asked.items image c.requires.marks (omega (arith, c.length-i-end.ensures)) within c.mark-mark.ensures
    (c.in_ok-plain.ensures.passes c.args.config.now c.args.power c.args.journal.now.start map before now image of p)
    (c.in_ok-plain.ensures.fault c.args.config.now c.args.power c.args.journal.now.start map before c.requires.config now image are p)
    (told_with c.loop-i.asked.items c.deref.result.now c.loop-i.i c.mark-mark.result c.in_ok-plain.plain c.fault_with_page-fault.result c.deref.ensures.value c.fault_with_page-fault.ensures) c.first-next.ensures c.is_changed-changed.ensures c.loop-i.invariant in
    verdict_told c.args.config.now c.args.power c.args.journal.now.start c.args.journal.now.pages c.args.journal.now.past (c.loop-i.i + 1) c.take.new.self.words.durable c.take.new.self.pairs c.is_inner-inner.result c.first-next.result
    c.is_changed-changed.result c.in-Some.rule r.seen c.is_inner-inner.ensures.1 r.look
    (subst (λ (o : Option JudgeRule). TellsMoment c.args.config.now (slice_index c.take.new.self.words.durable) c.take.new.self.pairs c.is_inner-inner.result c.first-next.result c.is_changed-changed.result o) c.in-Some.is c.in_ok-told.ensures)

pub returns : goal.returns
returns c =
    let all : length c.args.journal.now.past ≤ c.loop-i.i = omega (arith, c.loop-i-test.false, c.length-i-end.ensures) in
    sees_last c.args.config.now c.args.power c.args.journal.now.start c.args.journal.now.pages c.args.journal.now.past c.loop-i.i c.loop-i.broken c.loop-i.stale all c.loop-i.invariant.sees
