use Rattle.std.proofs.Common.{sym, subst, ◌∙◌}
use Rattle.bz_call.specs.declared.replies.Reply.TheVariants.{Full}
use Rattle.bz_sound.specs.Memory.Replies.{IsWrite}
use Rattle.bz_sound.proofs.Proved.{spent_answers_full}
use Rattle.bz_world.specs.Inside.Going.{MustEnd, RunsOut}
use Rattle.bz_world.specs.Inside.Solitary.{IsNotSolitaryIn}
use Rattle.bz_world.proofs.Spared.{is-write}
use Rattle.bz_world.proofs.going.end_full.Goals as goal

pub end-requires-clause-right : goal.end-requires-clause-right
end-requires-clause-right c = subst (MustEnd c.args.parts.now c.args.w (Full c.args.spent)) (sym c.length-now.ensures) (record {
  on = c.requires.short.on;
  right = spent_answers_full c.args.parts.now.config c.args.parts.now.journal c.args.w c.requires.short.on.between.opened c.args.spent c.requires.short.on.between.call_open.is_open
      (c.requires.short.on.between.call_open.effect ∙ c.requires.short.quiet) writes c.requires.short.cause;
  room = c.requires.short.room;
  full = λ spent e. subst (RunsOut c.args.parts.now c.args.w) (cc e) c.requires.short.out;
  told = c.requires.short.told;
  merged = tt;
  brief = λ key get solitary. absurd (subst (IsNotSolitaryIn c.args.parts.now.journal.past c.args.w) c.requires.short.on.is c.requires.other key get solitary);
})
  where
    writes : IsWrite c.requires.short.on.between.opened.call
    writes = subst IsWrite (sym c.requires.short.on.between.call_open.call) (is-write c.requires.short.on.serving.call c.requires.short.write)
