use Rattle.std.proofs.Common.{refl}
use Rattle.bz_swap.specs.declared.role.WordRole.TheVariants.{Status}
use Rattle.bz_swap.proofs.eviction.evict_status.Goals as goal

pub returns : goal.returns
returns c = record {
  role = Status c.args.swap;
  is_told = rw (c.told_effect.ensures, c.has_effect-had_effect.ensures, c.has_effect-has_effect.ensures) refl;
  changed = c.evict_status.ensures.changed;
  words = c.evict_status.ensures.words;
  readable = c.evict_status.ensures.typed;
  shape = c.evict_status.ensures.shape;
}
