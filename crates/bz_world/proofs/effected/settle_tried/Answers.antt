use Rattle.std.proofs.Common.{◌≡◌, refl, ap, subst, ◌∙◌, inr, Option, is_some, sym}
use Rattle.std.proofs.lemmas.Bool.{true≢false}
use Rattle.bz_any_task.specs.Kinds as kinds
use Rattle.bz_any_task.specs.Kinds.{kind_of}
use Rattle.bz_solo.specs.Errands.{goes_further}
use Rattle.bz_solo.specs.declared.rest.Rest.TheVariants as rest
use Rattle.bz_world.specs.Inside.Going.{DeletesIn, known, few_in, joins_in}
use Rattle.bz_world.specs.Inside.Meant.{tries_later}
use Rattle.bz_world.specs.Inside.Paid.{bound_in, errand_of, used_in}
use Rattle.bz_world.specs.WorldView.{is_delete}
use Rattle.bz_world.specs.declared.serving.OpenCall.{OpenCall}
use Rattle.bz_world.proofs.Exactly.{counted, has-effect, joins-none}
use Rattle.bz_world.proofs.MergeEnds.{ended-otherwise, ended-tried}
use Rattle.bz_world.proofs.MergeStarts.{stands-as, stands-looking}
use Rattle.bz_world.proofs.Spared.{first-pays, joined-further, joined-later, joined-rest}
use Rattle.bz_world.proofs.TakingOn.{slot-is}
use Rattle.bz_world.proofs.effected.settle_tried.Goals as goal

pub look_up-requires : goal.look_up-requires
look_up-requires c =
    let e = c.requires.tried.ends in
    let delete : kind_of e.had.on.serving.task ≡ kinds.Delete = subst (λ (z : Option OpenCall). DeletesIn z) (slot-is c.args.parts.now c.args.w e.had.on c.index.result.now c.index.ensures) (c.if-leaves_few.ensures.deletes refl) in
    let first : e.had.on.serving.rest ≡ rest.Leaf = e.meant.first (ap tries_later delete) in
    record {
      on = e.had.on;
      other = λ key get solitary. absurd (true≢false (sym c.requires.tried.deletes ∙ ap is_delete get));
      may = inr c.requires.tried.deletes;
      stands = λ solitary at is deletes. stands-as c.args.parts.now c.args.w e.had.on first at (stands-looking c.args.parts.now c.args.w e.had.on first delete solitary at is deletes);
      over = λ delete none. absurd (cc (e.ends, none));
      again = counted c.args.parts.now c.args.w e.had.on (has-effect c.args.parts.now c.args.w c.args.at e.had);
      pays = λ r counted. first-pays r (errand_of e.had.on.serving) first ((c.round_laws.ensures.rounds r).further c.args.parts.now.access c.args.w (errand_of e.had.on.serving) e.had.on.serving.task (used_in r c.args.parts.now c.args.w) (bound_in r c.args.parts.now c.args.w) (known c.args.parts.now c.args.w e.had.on).past (ap is_some e.had.effect)
          (ap goes_further delete) (e.paid r counted)) delete;
    }

pub go_further-requires : goal.go_further-requires
go_further-requires c =
    let e = c.requires.tried.ends in
    let joins = ap joins_in (sym (slot-is c.args.parts.now c.args.w e.had.on c.index-2.result.now c.index-2.ensures)) ∙ sym c.if-is_joining.ensures in
    record {
      looks = record {
        on = e.had.on;
        other = λ key get solitary. absurd (true≢false (sym c.requires.tried.deletes ∙ ap is_delete get));
        may = inr c.requires.tried.deletes;
        stands = λ solitary at is deletes. joined-later c.args.parts.now c.args.w e.had.on at joins (ended-tried c.args.parts.now c.args.w c.args.at c.args.outcome c.requires.tried c.round_laws.ensures.scenes c.round_laws.ensures.trees joins at is);
        over = λ delete none. absurd (cc (e.ends, none));
        again = counted c.args.parts.now c.args.w e.had.on (has-effect c.args.parts.now c.args.w c.args.at e.had);
        pays = λ r counted. (c.round_laws.ensures.rounds r).further c.args.parts.now.access c.args.w (errand_of e.had.on.serving) e.had.on.serving.task (used_in r c.args.parts.now c.args.w) (bound_in r c.args.parts.now c.args.w) (known c.args.parts.now c.args.w e.had.on).past (ap is_some e.had.effect)
            (joined-further (kind_of e.had.on.serving.task) joins) (e.paid r counted);
      };
      effected = λ none. cc (e.had.effect, none);
      roomless = λ solitary room. joins-none c.args.parts.now c.args.w e.had.on (has-effect c.args.parts.now c.args.w c.args.at e.had) joins solitary room;
      later = λ leaf. joined-rest (kind_of e.had.on.serving.task) joins leaf;
    }

pub end_effective-requires-clause-had : goal.end_effective-requires-clause-had
end_effective-requires-clause-had c =
    let e = c.requires.tried.ends in
    ended-otherwise c.args.parts.now c.args.w c.args.at c.args.outcome e c.round_laws.ensures.scenes c.round_laws.ensures.trees
    (ap few_in (sym (slot-is c.args.parts.now c.args.w e.had.on c.index.result.now c.index.ensures)) ∙ sym c.if-leaves_few.ensures.tells) c.requires.tried.no_path c.requires.tried.no_view
