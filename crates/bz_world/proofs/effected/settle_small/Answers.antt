use Rattle.std.proofs.Common.{◌≡◌, arith, inr, sym, ap, subst, ◌∙◌, is_some}
use Rattle.std.proofs.lemmas.Bool.{true≢false}
use Rattle.bz_world.specs.Inside.Going.{HasMergedIn, known, path_in as way_in}
use Rattle.bz_world.specs.Inside.Paid.{bound_in, errand_of, used_in}
use Rattle.bz_world.proofs.Exactly.{counted, has-effect}
use Rattle.bz_world.specs.WorldView.{is_delete}
use Rattle.bz_world.proofs.MergeEnds.{ended-read, no-way, read-merged}
use Rattle.bz_world.proofs.Spared.{after-merge}
use Rattle.bz_world.proofs.Enough.{small-no-room}
use Rattle.bz_world.proofs.TakingOn.{read-way, slot-is}
use Rattle.bz_world.proofs.effected.settle_small.Goals as goal
use Rattle.bz_world.specs.Inside.Merging.{looks_on}
use Rattle.bz_world.proofs.MergeStarts.{stands-reading}

pub end_effective-requires-clause-had : goal.end_effective-requires-clause-had
end_effective-requires-clause-had c =
    let none = no-way c.requires.read.had.on.serving.path (λ path is. c.in_default.not-Some path (c.path_in.ensures ∙ (ap way_in (slot-is c.args.parts.now c.args.w c.requires.read.had.on c.index.result.now c.index.ensures) ∙ is))) in
    record { had = c.requires.read.had; merged = λ solitary deletes may. absurd (c.requires.read.some none) }

-- nor is a leaf that is the root
pub end_effective-requires-then-path-lt2-clause-had : goal.end_effective-requires-then-path-lt2-clause-had
end_effective-requires-then-path-lt2-clause-had c = ended-read c.round_laws.ensures c.args.parts.now c.args.w c.args.at c.args.view.now c.in-Some.path c.paths_end.ensures.0 c.requires.read
    (read-way c.args.parts.now c.args.w c.args.at c.args.view.now c.requires.read c.index.result.now c.index.ensures c.path_in.result c.path_in.ensures c.in-Some.path c.in-Some.is) c.paths_end.ensures.1
    (λ due. omega (arith, due.0, c.if-path-lt2.true))

-- a leaf with enough live words is not merged
pub end_effective-requires-then-live_words-ge-MERGE_BELOW-clause-had : goal.end_effective-requires-then-live_words-ge-MERGE_BELOW-clause-had
end_effective-requires-then-live_words-ge-MERGE_BELOW-clause-had c = ended-read c.round_laws.ensures c.args.parts.now c.args.w c.args.at c.args.view.now c.in-Some.path c.paths_end.ensures.0 c.requires.read
    (read-way c.args.parts.now c.args.w c.args.at c.args.view.now c.requires.read c.index.result.now c.index.ensures c.path_in.result c.path_in.ensures c.in-Some.path c.in-Some.is) c.paths_end.ensures.1
    (λ due. omega (arith, due.1.1.0, c.live_words.ensures, c.if-live_words-ge-MERGE_BELOW.true))

pub paths_end-requires-clause-some : goal.paths_end-requires-clause-some
paths_end-requires-clause-some c = (read-way c.args.parts.now c.args.w c.args.at c.args.view.now c.requires.read c.index.result.now c.index.ensures c.path_in.result c.path_in.ensures c.in-Some.path c.in-Some.is).some

pub paths_end-requires-clause-few : goal.paths_end-requires-clause-few
paths_end-requires-clause-few c = (read-way c.args.parts.now c.args.w c.args.at c.args.view.now c.requires.read c.index.result.now c.index.ensures c.path_in.result c.path_in.ensures c.in-Some.path c.in-Some.is).few

pub is_due-requires-clause-some : goal.is_due-requires-clause-some
is_due-requires-clause-some c = (read-way c.args.parts.now c.args.w c.args.at c.args.view.now c.requires.read c.index.result.now c.index.ensures c.path_in.result c.path_in.ensures c.in-Some.path c.in-Some.is).some

pub is_due-requires-clause-few : goal.is_due-requires-clause-few
is_due-requires-clause-few c = (read-way c.args.parts.now c.args.w c.args.at c.args.view.now c.requires.read c.index.result.now c.index.ensures c.path_in.result c.path_in.ensures c.in-Some.path c.in-Some.is).few

pub is_due-requires-clause-leaf : goal.is_due-requires-clause-leaf
is_due-requires-clause-leaf c = record { nodes = _; low = _; high = _; whole = c.requires.read.viewed.whole }

pub merge-requires-clause-merge : goal.merge-requires-clause-merge
merge-requires-clause-merge c = let due = c.is_due.ensures.due.0 c.if-is_due.true in record {
  on = c.requires.read.had.on;
  may = inr c.requires.read.deletes;
  viewed = c.requires.read.viewed;
  way = read-way c.args.parts.now c.args.w c.args.at c.args.view.now c.requires.read c.index.result.now c.index.ensures c.path_in.result c.path_in.ensures c.in-Some.path c.in-Some.is;
  deep = due.0;
  small = due.1.1.0;
  leads = c.is_due.ensures.leads c.if-is_due.true;
  thawed = due.1.0;
  other = λ key get solitary. absurd (true≢false (sym c.requires.read.deletes ∙ ap is_delete get));
  frozen = λ quiet. absurd (cc (c.requires.read.had.effect, quiet));
  write = λ quiet. absurd (cc (c.requires.read.had.effect, quiet));
  thawed_call = c.requires.read.had.on.fit.thawed;
  due = λ quiet. absurd (cc (c.requires.read.had.effect, quiet));
  stands = stands-reading c.args.parts.now c.args.w c.requires.read.had.on c.requires.read.first (ap looks_on c.requires.read.kind);
  first = c.requires.read.first;
  again = small-no-room c.round_laws.ensures.scenes c.round_laws.ensures c.args.parts.now c.args.w c.args.at c.args.view.now c.in-Some.path c.paths_end.ensures.0 c.requires.read
      (read-way c.args.parts.now c.args.w c.args.at c.args.view.now c.requires.read c.index.result.now c.index.ensures c.path_in.result c.path_in.ensures c.in-Some.path c.in-Some.is) c.paths_end.ensures.1 due.0 due.1.1.0;
  spares = after-merge c.round_laws.ensures c.args.parts.now c.args.w c.requires.read.had.on (ap is_some c.requires.read.had.effect) c.requires.read.spares;
}

pub pass_leaf-requires : goal.pass_leaf-requires
pass_leaf-requires c =
    let read = c.requires.read in
    let merged = read-merged c.round_laws.ensures c.args.parts.now c.args.w c.args.at c.args.view.now c.in-Some.path c.paths_end.ensures.0 read
    (read-way c.args.parts.now c.args.w c.args.at c.args.view.now read c.index.result.now c.index.ensures c.path_in.result c.path_in.ensures c.in-Some.path c.in-Some.is) c.paths_end.ensures.1
    (λ due. true≢false (sym (c.is_due.ensures.due.1 due) ∙ c.if-is_due.false)) in
    record {
      looks = record {
        on = read.had.on;
        other = λ key get solitary. absurd (true≢false (sym read.deletes ∙ ap is_delete get));
        may = inr read.deletes;
        stands = λ solitary at is deletes. let same : c.args.at ≡ at = cc (read.had.effect, is) in subst (λ m. HasMergedIn c.args.parts.now c.args.w m read.had.on) same merged;
        over = λ delete. absurd (cc (delete, read.kind));
        again = counted c.args.parts.now c.args.w read.had.on (has-effect c.args.parts.now c.args.w c.args.at read.had);
        pays = λ r counted. (c.round_laws.ensures.read r).small c.args.parts.now.access c.args.w (errand_of read.had.on.serving) (used_in r c.args.parts.now c.args.w) (bound_in r c.args.parts.now c.args.w) (known c.args.parts.now c.args.w read.had.on).past (ap is_some read.had.effect) (read.spares r counted);
      };
      effected = λ none. cc (read.had.effect, none);
      roomless = small-no-room c.round_laws.ensures.scenes c.round_laws.ensures c.args.parts.now c.args.w c.args.at c.args.view.now c.in-Some.path c.paths_end.ensures.0 read
          (read-way c.args.parts.now c.args.w c.args.at c.args.view.now read c.index.result.now c.index.ensures c.path_in.result c.path_in.ensures c.in-Some.path c.in-Some.is) c.paths_end.ensures.1 (omega (arith, c.if-path-lt2.false)) (omega (arith, c.live_words.ensures, c.if-live_words-ge-MERGE_BELOW.false));
      later = λ leaf. cc leaf;
    }
