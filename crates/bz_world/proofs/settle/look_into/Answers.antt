use Rattle.std.proofs.Common.{◌≡◌, true, sym, ap, subst, ◌∙◌, inl, inr}
use Rattle.std.proofs.lemmas.Bool.{true≢false}
use Rattle.bz_call.specs.Pages.{is_page}
use Rattle.bz_world.specs.Inside.Going.{froze_in, page_in, LooksUpIn}
use Rattle.bz_task.specs.declared.todo.Outcome.TheVariants as outcomes
use Rattle.bz_world.proofs.Exactly.{again-call, again-froze, no-reading}
use Rattle.bz_world.proofs.Spared.{writes-look, way-read, finds, pages-read}
use Rattle.bz_any_task.specs.Kinds as kinds
use Rattle.bz_world.proofs.TakingOn.{slot-is}
use Rattle.bz_world.proofs.settle.look_into.Goals as goal

pub read_frozen-requires-clause-path : goal.read_frozen-requires-clause-path
read_frozen-requires-clause-path c = record {
  on = c.requires.path.on;
  may = inl c.requires.path.quiet;
  leads = c.requires.path.leads;
  other = λ key get solitary. absurd (true≢false (c.if-has_frozen.ensures ∙ (ap froze_in (slot-is c.args.parts.now c.args.w c.requires.path.on c.index.result.now c.index.ensures) ∙ (c.requires.path.on.solitary key get solitary).get.thawed)));
  look = λ quiet. writes-look c.requires.path.on.serving.call kinds.ReadWhole (c.requires.path.on.fit.thawed froze);
  due = λ quiet solitary. elim (c.requires.path.on.between.due quiet solitary) [
    | inl due ↦ inr due
    | inr none ↦ absurd (true≢false (sym froze ∙ none.thawed))
  ];
  stands = λ solitary at is deletes. absurd (cc (c.requires.path.quiet, is));
  first = c.requires.path.on.fit.quiet c.requires.path.quiet;
  again = no-reading c.args.parts.now c.args.w c.requires.path.on (again-froze c.args.parts.now c.args.w c.requires.path.on c.requires.path.quiet (outcomes.Path c.args.path) c.requires.path.ends.1 (λ e. e) froze);
  spares = way-read c.round_laws.ensures c.args.parts.now c.args.w c.args.path c.requires.path (inr (inr froze));
}
  where
    froze : c.requires.path.on.serving.froze ≡ true
    froze = sym (c.if-has_frozen.ensures ∙ ap froze_in (slot-is c.args.parts.now c.args.w c.requires.path.on c.index.result.now c.index.ensures))

pub read_leaf-requires-clause-path : goal.read_leaf-requires-clause-path
read_leaf-requires-clause-path c =
    let page : is_page c.requires.path.on.serving.call ≡ true = sym (c.if-asks_page.ensures ∙ ap page_in (slot-is c.args.parts.now c.args.w c.requires.path.on c.index-2.result.now c.index-2.ensures)) in
    let reads = pages-read c.requires.path.on.serving.call page in
    record {
      on = c.requires.path.on;
      may = inl c.requires.path.quiet;
      leads = c.requires.path.leads;
      other = λ key get solitary. absurd (true≢false (sym page ∙ ap is_page get));
      look = λ quiet. reads.0;
      due = λ quiet solitary. inl page;
      stands = λ solitary at is deletes. absurd (cc (c.requires.path.quiet, is));
      first = c.requires.path.on.fit.quiet c.requires.path.quiet;
      again = no-reading c.args.parts.now c.args.w c.requires.path.on (again-call c.args.parts.now c.args.w c.requires.path.on reads.1);
      spares = way-read c.round_laws.ensures c.args.parts.now c.args.w c.args.path c.requires.path (inr (inl reads.1));
    }

pub find_key-requires-clause-thawed : goal.find_key-requires-clause-thawed
find_key-requires-clause-thawed c = ap froze_in (c.requires.path.on.is ∙ sym (slot-is c.args.parts.now c.args.w c.requires.path.on c.index.result.now c.index.ensures)) ∙ sym c.if-has_frozen.ensures

-- which is no page
pub find_key-requires-clause-look : goal.find_key-requires-clause-look
find_key-requires-clause-look c = subst LooksUpIn (sym c.requires.path.on.is) (finds c.requires.path.on.serving.call
    (sym (c.if-asks_page.ensures ∙ ap page_in (slot-is c.args.parts.now c.args.w c.requires.path.on c.index-2.result.now c.index-2.ensures))))
