use Rattle.std.proofs.Common.{◌≤◌, arith, refl, sym, ◌∙◌, inl}
use Rattle.std.proofs.lemmas.Bool.{true≢false}
use Rattle.bz_any_task.specs.Kinds as kinds
use Rattle.bz_world.proofs.Exactly.{again-kind, no-look-up}
use Rattle.bz_world.proofs.MakingAnew.{not-due}
use Rattle.bz_world.proofs.restructuring.make_anew.Goals as goal

pub look_up-requires : goal.look_up-requires
look_up-requires c = record {
  on = c.requires.anew.answer.on;
  may = inl c.requires.anew.answer.quiet;
  stands = λ solitary at is deletes. absurd (cc (c.requires.anew.answer.quiet, is));
  over = λ delete none. absurd (cc (c.requires.anew.answer.kind, delete));
  again = no-look-up c.args.parts.now c.args.w c.requires.anew.answer.on (again-kind c.args.parts.now c.args.w c.requires.anew.answer.on c.requires.anew.answer.quiet kinds.ReadWhole c.requires.anew.answer.kind refl refl);
  other = c.requires.anew.answer.other;
  pays = not-due c.start_laws.ensures.solo c.args.parts.now c.args.w c.args.path c.args.view.now c.requires.anew (λ may. true≢false (sym (c.is_due.ensures.due.1 (may.due c.requires.frozen)) ∙ c.if-not-is_due.true));
}

pub merge_or_copy-requires-clause-copy : goal.merge_or_copy-requires-clause-copy
merge_or_copy-requires-clause-copy c = record { anew = c.requires.anew; frozen = c.requires.frozen; few = omega (arith, c.if-live_words-le-SPLIT_ABOVE.true, c.live_words.ensures); leads = c.is_due.ensures.leads c.if-not-is_due.false }

pub split_root-requires-clause-split : goal.split_root-requires-clause-split
split_root-requires-clause-split c = record { anew = c.requires.anew; frozen = c.requires.frozen; many = omega (arith, c.if-live_words-le-SPLIT_ABOVE.false, c.live_words.ensures); root = c.if-path-eq1.true; leads = c.is_due.ensures.leads c.if-not-is_due.false }

pub split_below-requires-clause-split : goal.split_below-requires-clause-split
split_below-requires-clause-split c = record {
  anew = c.requires.anew;
  frozen = c.requires.frozen;
  many = omega (arith, c.if-live_words-le-SPLIT_ABOVE.false, c.live_words.ensures);
  deep = omega (arith, c.requires.anew.way.some, c.if-path-eq1.false);
  leads = c.is_due.ensures.leads c.if-not-is_due.false;
  thawed = c.is_due-else-path-eq1.ensures.thawed c.if-is_due.true;
}

pub look_up-requires-else-is_due : goal.look_up-requires-else-is_due
look_up-requires-else-is_due c =
    let deep : 2 ≤ c.args.path.depth = omega (arith, c.requires.anew.way.some, c.if-path-eq1.false) in
    record {
      on = c.requires.anew.answer.on;
      may = inl c.requires.anew.answer.quiet;
      stands = λ solitary at is deletes. absurd (cc (c.requires.anew.answer.quiet, is));
      over = λ delete none. absurd (cc (c.requires.anew.answer.kind, delete));
      again = no-look-up c.args.parts.now c.args.w c.requires.anew.answer.on (again-kind c.args.parts.now c.args.w c.requires.anew.answer.on c.requires.anew.answer.quiet kinds.ReadWhole c.requires.anew.answer.kind refl refl);
      other = c.requires.anew.answer.other;
      pays = not-due c.start_laws.ensures.solo c.args.parts.now c.args.w c.args.path c.args.view.now c.requires.anew
          (λ may. true≢false (sym (c.is_due-else-path-eq1.ensures.due.1 (deep, (may.above deep, (omega (arith, c.if-live_words-le-SPLIT_ABOVE.false, c.live_words.ensures), may.due c.requires.frozen)))) ∙ c.if-is_due.false));
    }
