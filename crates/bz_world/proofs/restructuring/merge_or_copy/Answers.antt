use Rattle.std.proofs.Common.{refl, sym, ap, ◌∙◌, inl}
use Rattle.bz_world.specs.Inside.Going.{unmerged_in}
use Rattle.bz_any_task.specs.Kinds as kinds
use Rattle.bz_world.proofs.Exactly.{again-kind}
use Rattle.bz_world.proofs.MakingAnew.{merge-spares, read-due}
use Rattle.bz_world.proofs.Spared.{lacks-write}
use Rattle.bz_world.proofs.TakingOn.{slot-is}
use Rattle.bz_world.proofs.restructuring.merge_or_copy.Goals as goal

pub merge-requires-clause-merge : goal.merge-requires-clause-merge
merge-requires-clause-merge c = let due = c.is_due.ensures.due.0 c.if-is_due.true in record {
  on = c.requires.copy.anew.answer.on;
  may = inl c.requires.copy.anew.answer.quiet;
  viewed = c.requires.copy.anew.answer.viewed;
  way = c.requires.copy.anew.way;
  deep = due.0;
  small = due.1.1.0;
  leads = c.requires.copy.leads;
  thawed = due.1.0;
  other = c.requires.copy.anew.answer.other;
  frozen = λ quiet. c.requires.copy.frozen;
  write = λ quiet. lacks-write c.requires.copy.anew.answer.on.serving.call c.args.view.now.status c.requires.copy.anew.lacks;
  thawed_call = c.requires.copy.anew.answer.on.fit.thawed;
  due = λ quiet. read-due c.args.parts.now c.args.w c.args.view.now c.requires.copy.anew.answer (lacks-write c.requires.copy.anew.answer.on.serving.call c.args.view.now.status c.requires.copy.anew.lacks);
  stands = λ solitary at is deletes. absurd (cc (c.requires.copy.anew.answer.quiet, is));
  first = c.requires.copy.anew.answer.on.fit.quiet c.requires.copy.anew.answer.quiet;
  again = again-kind c.args.parts.now c.args.w c.requires.copy.anew.answer.on c.requires.copy.anew.answer.quiet kinds.ReadWhole c.requires.copy.anew.answer.kind refl refl;
  spares = merge-spares c.start_laws.ensures.solo c.args.parts.now c.args.w c.args.path c.args.view.now c.requires.copy (sym (ap unmerged_in (slot-is c.args.parts.now c.args.w c.requires.copy.anew.answer.on c.index.result.now c.index.ensures)) ∙ (sym c.is_unmerged.ensures ∙ c.if-is_unmerged.false));
}
