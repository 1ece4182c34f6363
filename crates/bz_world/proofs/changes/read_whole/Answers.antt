use Rattle.std.proofs.Common.{sym, ap, ◌∙◌, inl, inr}
use Rattle.bz_any_task.specs.Kinds as kinds
use Rattle.bz_world.specs.Inside.Going.{path_in}
use Rattle.bz_world.proofs.Exactly.{no-reading}
use Rattle.bz_world.proofs.Spared.{writes-look}
use Rattle.bz_world.proofs.TakingOn.{slot-is, some-path}
use Rattle.bz_world.proofs.changes.read_whole.Goals as goal

pub read_leaf-requires-clause-path : goal.read_leaf-requires-clause-path
read_leaf-requires-clause-path c = let r = c.requires.way.reads in record {
  on = r.on;
  may = inl r.quiet;
  leads = r.leads c.found_path-path.result (ap path_in (sym (slot-is c.args.parts.now c.args.w r.on c.index.result.now c.index.ensures)) ∙ c.found_path-path.ensures);
  other = r.other;
  spares = c.requires.way.spares;
  due = λ quiet solitary. inr (c.requires.way.due solitary);
  stands = λ solitary at is deletes. absurd (cc (r.quiet, is));
  first = r.on.fit.quiet r.quiet;
  again = no-reading c.args.parts.now c.args.w r.on c.requires.way.again;
  look = λ quiet. writes-look r.on.serving.call kinds.ReadWhole c.requires.way.write;
}

pub found_path-path-requires : goal.found_path-path-requires
found_path-path-requires c = some-path c.args.parts.now c.args.w c.requires.way.reads.on c.index.result.now c.index.ensures c.requires.way.reads.some
