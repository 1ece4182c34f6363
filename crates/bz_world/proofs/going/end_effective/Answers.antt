use Rattle.std.proofs.Common.{◌≡◌, ◌+◌, sym, ap, subst, ◌∙◌, Some, None}
use Rattle.bz_sound.proofs.Proved.{effects_answer}
use Rattle.bz_world.specs.Inside.Beginning.{supply_of}
use Rattle.bz_world.specs.Inside.Going.{MustEnd, had_in, known}
use Rattle.bz_world.specs.Inside.Paid.{begun_with, stock_of}
use Rattle.bz_world.specs.Roomy.{swaps_told}
use Rattle.bz_world.specs.Inside.Serving.{effect_reply}
use Rattle.bz_world.proofs.Exact.{effect-told, has-counted}
use Rattle.bz_world.proofs.Exactly.{has-effect}
use Rattle.bz_world.proofs.MergeEnds.{reply-merged}
use Rattle.bz_world.proofs.TakingOn.{call-is, slot-is, no-full}
use Rattle.bz_world.proofs.going.end_effective.Goals as goal

pub end-requires-clause-right : goal.end-requires-clause-right
end-requires-clause-right c = subst (λ r. MustEnd c.args.parts.now c.args.w r c.args.at) (sym reply) (record {
  on = c.requires.had.had.on;
  right = effects_answer c.args.parts.now.config c.args.parts.now.journal c.args.w c.args.at c.requires.had.had.on.between.opened (effect_reply c.requires.had.had.on.between.opened.call c.requires.had.had.on.serving.had)
      c.requires.had.had.on.between.call_open.is_open effect (c.requires.had.had.on.between.call_open.told c.args.at effect);
  room = c.requires.had.had.room;
  told = λ solitary room. let on = c.requires.had.had.on in
      let counts = has-counted on.between.opened (known c.args.parts.now c.args.w on).past c.args.parts.now.access.taken (stock_of c.args.parts.now) on.serving (has-effect c.args.parts.now c.args.w c.args.at c.requires.had.had) (on.exact solitary room) in
      effect-told on.between.opened.call on.serving.had (begun_with c.args.parts.now) (supply_of c.args.parts.now) room.writes (counts.same_taken ∙ ap (λ called. c.args.parts.now.taken_then + swaps_told (effect_reply called on.serving.had)) (sym on.between.call_open.call)) counts.same_left;
  merged = reply-merged c.args.parts.now c.args.w c.args.at c.requires.had.had.on effect c.requires.had.merged;
  full = λ spent e. absurd (no-full c.requires.had.had.on.between.opened.call c.requires.had.had.on.serving.had spent e);
  brief = λ key get solitary. absurd (let never : None ≡ Some c.args.at = sym (c.requires.had.had.on.solitary key get solitary).get.quiet ∙ c.requires.had.had.effect in cc never);
})
  where
    effect : c.requires.had.had.on.between.opened.effect ≡ Some c.args.at
    effect = c.requires.had.had.on.between.call_open.effect ∙ c.requires.had.had.effect

    call : c.called-call.result ≡ c.requires.had.had.on.between.opened.call
    call = sym (c.requires.had.had.on.between.call_open.call ∙ call-is c.args.parts.now c.args.w c.requires.had.had.on c.index.result.now c.called-call.result c.index.ensures c.called-call.ensures)

    had : c.had_in-had.result ≡ c.requires.had.had.on.serving.had
    had = c.had_in-had.ensures ∙ ap had_in (slot-is c.args.parts.now c.args.w c.requires.had.had.on c.index-2.result.now c.index-2.ensures)

    reply : c.effect_reply.result ≡ effect_reply c.requires.had.had.on.between.opened.call c.requires.had.had.on.serving.had
    reply = c.effect_reply.ensures.reply ∙ (ap (λ k. effect_reply k c.had_in-had.result) call ∙ ap (effect_reply c.requires.had.had.on.between.opened.call) had)
