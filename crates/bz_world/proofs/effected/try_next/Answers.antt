use Rattle.std.proofs.Common.{◌≡◌, ap, ◌∙◌, inr, is_some, sym, Some}
use Rattle.std.proofs.lemmas.Bool.{true≢false}
use Rattle.bz_any_task.specs.Kinds.{is_look}
use Rattle.bz_solo.specs.declared.rest.Rest.TheVariants as rest
use Rattle.bz_world.specs.Inside.Going.{still_in}
use Rattle.bz_world.specs.Inside.Merging.{looks_on}
use Rattle.bz_world.specs.WorldView.{is_delete}
use Rattle.bz_world.proofs.Exactly.{has-effect, looks-on}
use Rattle.bz_world.proofs.MergeStarts.{stands-reading}
use Rattle.bz_world.proofs.Spared.{after-read}
use Rattle.bz_world.proofs.TakingOn.{slot-is}
use Rattle.bz_world.proofs.effected.try_next.Goals as goal

pub read_leaf-requires-clause-path : goal.read_leaf-requires-clause-path
read_leaf-requires-clause-path c =
    let f = c.requires.found in
    let first : f.had.on.serving.rest ≡ rest.Leaf = cc (c.rest_in.ensures, ap still_in (slot-is c.args.parts.now c.args.w f.had.on c.index.result.now c.index.ensures), c.in-Leaf.is) in
    record {
      on = f.had.on;
      may = inr f.deletes;
      stands = stands-reading c.args.parts.now c.args.w f.had.on first (ap looks_on f.kind);
      again = looks-on c.args.parts.now c.args.w f.had.on (has-effect c.args.parts.now c.args.w c.args.at f.had) (ap is_look f.kind);
      leads = f.leads;
      other = λ key get solitary. absurd (true≢false (sym f.deletes ∙ ap is_delete get));
      spares = after-read c.round_laws.ensures c.args.parts.now c.args.w f.had.on (ap is_some f.had.effect) first f.spares;
      look = λ quiet. absurd (cc (f.had.effect, quiet));
      due = λ quiet solitary. absurd (cc (f.had.effect, quiet));
      first = first;
    }

pub merge_inner-requires-clause-inner : goal.merge_inner-requires-clause-inner
merge_inner-requires-clause-inner c = ap still_in c.requires.found.had.on.is ∙ (sym (ap still_in (slot-is c.args.parts.now c.args.w c.requires.found.had.on c.index.result.now c.index.ensures)) ∙ (c.rest_in.ensures ∙ ap Some c.in-Inner.is))

pub lower_root-requires-clause-later : goal.lower_root-requires-clause-later
lower_root-requires-clause-later c leaf = cc (sym (ap still_in c.requires.found.had.on.is) ∙ leaf, ap still_in (slot-is c.args.parts.now c.args.w c.requires.found.had.on c.index.result.now c.index.ensures), c.rest_in.ensures, c.in-Root.is)
