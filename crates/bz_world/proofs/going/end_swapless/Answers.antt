use Rattle.std.proofs.Common.{sym, ap, ◌∙◌, slice_index}
use Rattle.bz_sound.proofs.Proved.{held_swaps_are_spent}
use Rattle.bz_world.specs.Inside.Going.{effect_in}
use Rattle.bz_world.proofs.Spending.{are-held}
use Rattle.bz_world.proofs.TakingOn.{slot-is}
use Rattle.bz_world.proofs.going.end_swapless.Goals as goal

pub end_effective-requires-clause-had : goal.end_effective-requires-clause-had
end_effective-requires-clause-had c =
    let effect = ap effect_in (sym (slot-is c.args.parts.now c.args.w c.requires.lacks.on c.index.result.now c.index.ensures)) ∙ sym c.in-Some.ensures in
    record { had = record { on = c.requires.lacks.on; effect = effect; room = c.requires.lacks.room }; merged = c.requires.lacks.merged c.in-Some.at effect }

pub end_full-requires-clause-short : goal.end_full-requires-clause-short
end_full-requires-clause-short c = record {
  on = c.requires.lacks.on;
  quiet = ap effect_in (sym (slot-is c.args.parts.now c.args.w c.requires.lacks.on c.index.result.now c.index.ensures)) ∙ sym c.in-None.ensures;
  cause = held_swaps_are_spent c.args.parts.now.config c.args.parts.now.journal.start c.args.parts.now.journal.past c.args.w c.requires.lacks.on.between.opened (slice_index c.args.parts.now.owners.items) (are-held c.args.parts.now c.args.w c.requires.lacks);
  out = record { out = c.requires.lacks.spent; little = c.requires.lacks.little };
  told = c.requires.lacks.told (ap effect_in (sym (slot-is c.args.parts.now c.args.w c.requires.lacks.on c.index.result.now c.index.ensures)) ∙ sym c.in-None.ensures);
  room = c.requires.lacks.room;
  write = c.requires.lacks.write (ap effect_in (sym (slot-is c.args.parts.now c.args.w c.requires.lacks.on c.index.result.now c.index.ensures)) ∙ sym c.in-None.ensures);
}
