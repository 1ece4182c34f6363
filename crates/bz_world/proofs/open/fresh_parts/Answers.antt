use Rattle.std.proofs.Common.{◌-◌, length, ap, sym, ◌∙◌}
use Rattle.std.specs.FinMap.{len}
use Rattle.bz_sound.specs.Memory.Moments.{map_at_start}
use Rattle.bz_layout.specs.Slots.{FreeSlots, without}
use Rattle.bz_layout.specs.declared.config.Config.{Config}
use Rattle.bz_mark.specs.declared.power.Power.TheVariants as power
use Rattle.bz_layout.proofs.Laws.{fresh_words_say}
use Rattle.bz_content.proofs.Proved.{fresh_memory_is_empty, fresh_memory_reaches_slot_zero}
use Rattle.bz_sound.proofs.Proved.{fresh_journals_are_sound}
use Rattle.bz_refinement.proofs.Proved.{fresh_stories_live}
use Rattle.bz_world.specs.WorldView.{view_over}
use Rattle.bz_world.proofs.FreshSlots.{count-fresh}
use Rattle.bz_world.proofs.Openings.{kept-fresh, lab-made, no-pairs}
use Rattle.bz_world.proofs.open.fresh_parts.Goals as goal

pub parts_over-requires-clause-counted : goal.parts_over-requires-clause-counted
parts_over-requires-clause-counted c =
    sym (ap (λ words. len (map_at_start c.args.config.now words)) (c.deref.ensures.value ∙ c.in_ok-start.ensures) ∙ no-pairs (record {
      says = fresh_words_say;
      empty = fresh_memory_is_empty;
      reaches = fresh_memory_reaches_slot_zero;
      begun = c.begun_laws.ensures;
      sound = fresh_journals_are_sound;
      living = fresh_stories_live;
    }) c.args.config.now c.requires)

pub returns-clause-kept : goal.returns-clause-kept
returns-clause-kept c =
    kept-fresh (record {
      says = fresh_words_say;
      empty = fresh_memory_is_empty;
      reaches = fresh_memory_reaches_slot_zero;
      begun = c.begun_laws.ensures;
      sound = fresh_journals_are_sound;
      living = fresh_stories_live;
    }) c.args.config.now _ _ (c.deref.ensures.value ∙ c.in_ok-start.ensures) c.in_ok-parts.ensures.config
    (c.in_ok-parts.ensures.slots ∙ (c.hold.ensures ∙ ap (λ (s : FreeSlots). record s { free = without 0 s.free }) c.in_ok-slots.ensures)) c.in_ok-parts.ensures.made

pub returns-clause-slots : goal.returns-clause-slots
returns-clause-slots c = c.in_ok-parts.ensures.slots ∙ (c.hold.ensures ∙ ap (λ (s : FreeSlots). record s { free = without 0 s.free }) c.in_ok-slots.ensures)

pub returns-clause-lab : goal.returns-clause-lab
returns-clause-lab c = lab-made c.args.config.now _ power.On _ c.in_ok-parts.ensures.config c.in_ok-parts.ensures.made (λ on. ap (λ (s : FreeSlots). length s.free) (c.in_ok-parts.ensures.slots ∙ (c.hold.ensures ∙ ap (λ (s : FreeSlots). record s { free = without 0 s.free }) c.in_ok-slots.ensures))
    ∙ (count-fresh c.args.config.now.nodes ∙ ap (λ (d : Config). d.nodes - 1) (sym c.in_ok-parts.ensures.config))) ∙ ap (λ words. view_over c.args.config.now words power.On) (c.deref.ensures.value ∙ c.in_ok-start.ensures)
