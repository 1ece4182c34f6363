use Rattle.std.proofs.Common.{◌≡◌, ◌<◌, length, arith, refl, sym, ap, subst, ◌∙◌, inl, Option, Some, None}
use Rattle.std.proofs.lemmas.Bool.{true≢false}
use Rattle.std.proofs.lemmas.List.{get_or-set_same}
use Rattle.bz_world.specs.Inside.Meant.{tries_later}
use Rattle.std.specs.Vec.{with_item}
use Rattle.bz_call.specs.Map.{key_of}
use Rattle.bz_task.specs.declared.todo.Todo.TheVariants.{Read}
use Rattle.bz_world.specs.Inside.Due.{only_looks}
use Rattle.bz_world.specs.Inside.Going.{known, with_task}
use Rattle.bz_world.specs.declared.serving.OpenCall.{OpenCall}
use Rattle.bz_world.proofs.Spared.{not-ended, round-room, seeks}
use Rattle.bz_world.proofs.Paid.{within-of}
use Rattle.bz_world.specs.Inside.Paid.{bound_in, errand_of, used_in}
use Rattle.bz_any_task.specs.Kinds as kinds
use Rattle.bz_any_task.specs.Kinds.{is_look, is_renewal}
use Rattle.bz_solo.specs.Errands.{IsLookOf}
use Rattle.bz_world.proofs.TakingOn.{duly-looks, look-after, looks-anew, looks-right, taken-asks, lookup-taken, none-wanted, slot-is, call-is, has-filled, went-started, starts-always}
use Rattle.bz_world.proofs.going.look_up.Goals as goal

pub start-requires-clause-asks : goal.start-requires-clause-asks
start-requires-clause-asks c = taken-asks c.args.parts.now c.args.w c.seek-task.result c.requires.on.serving.had (Some (Read 2)) None
    (lookup-taken c.args.parts.now c.args.w (looks-anew c.args.parts.now c.args.w c.requires.on c.requires.again c.requires.stands c.requires.over) c.requires.may c.seek-task.result None (Some (Read 2)) c.key_of.result c.seek-task.ensures.config c.laws.ensures c.seek-task.ensures.silent (c.seek-task.ensures.ends None) (λ none. c.seek-task.ensures.ends)
    (c.key_of.ensures ∙ ap key_of (sym (call-is c.args.parts.now c.args.w c.requires.on c.index.result.now c.called-call.result c.index.ensures c.called-call.ensures)))
    c.seek-task.ensures.asks (c.seek-task.ensures.facts (known c.args.parts.now c.args.w (looks-anew c.args.parts.now c.args.w c.requires.on c.requires.again c.requires.stands c.requires.over)) (has-filled c.args.parts.now c.args.w (looks-anew c.args.parts.now c.args.w c.requires.on c.requires.again c.requires.stands c.requires.over)))
    (none-wanted c.args.parts.now c.args.w (looks-anew c.args.parts.now c.args.w c.requires.on c.requires.again c.requires.stands c.requires.over) c.seek-task.result c.seek-task.ensures.wants) (λ key get solitary. absurd (c.requires.other key get solitary))
    (record {
      within = within-of c.seek-task.result (λ a e. absurd (let other : kinds.Seek ≡ kinds.SplitLeaf a = sym c.seek-task.ensures.kind ∙ e in cc other));
      fit = record { words = c.requires.on.fit.words; thawed = c.requires.on.fit.thawed; quiet = c.requires.on.fit.quiet };
      look = λ quiet. subst (IsLookOf c.requires.on.serving.call) (sym c.seek-task.ensures.kind) (seeks c.requires.on.serving.call);
      meant = λ quiet. inl (record { slots = c.seek-task.ensures.wants; swaps = inl (ap is_look c.seek-task.ensures.kind) });
      later = λ at is. ap is_renewal c.seek-task.ensures.kind;
      small = λ merge. absurd (let other : kinds.Seek ≡ kinds.Merge = sym c.seek-task.ensures.kind ∙ merge in cc other);
      copied = λ copy. absurd (let other : kinds.Seek ≡ kinds.Copy = sym c.seek-task.ensures.kind ∙ copy in cc other);
      first = λ other. absurd (true≢false (sym (ap tries_later c.seek-task.ensures.kind) ∙ other));
    })
    (λ r counted. c.start_laws.ensures.solo.rounds.begin r c.args.parts.now.access c.args.w (errand_of c.requires.on.serving) c.seek-task.result (used_in r c.args.parts.now c.args.w) (bound_in r c.args.parts.now c.args.w) 2 (known c.args.parts.now c.args.w c.requires.on).past
    (known c.args.parts.now c.args.w (looks-anew c.args.parts.now c.args.w c.requires.on c.requires.again c.requires.stands c.requires.over)).past
    (record { kind = c.seek-task.ensures.kind; left = omega (arith, c.seek-task.ensures.left); goes = not-ended c.seek-task.result (Read 2) c.laws.ensures c.seek-task.ensures.asks (λ e. cc e); config = refl; now = refl; since = refl; image = refl }) (c.requires.pays r counted))
    (looks-right c.args.parts.now c.args.w (looks-anew c.args.parts.now c.args.w c.requires.on c.requires.again c.requires.stands c.requires.over) c.seek-task.result None (ap (only_looks c.requires.on.serving.call) c.seek-task.ensures.kind))
    (λ solitary room. look-after c.args.parts.now c.args.w c.requires.on c.requires.again c.requires.stands c.requires.over solitary room c.seek-task.result (ap is_look c.seek-task.ensures.kind))
    (duly-looks c.args.parts.now c.args.w c.requires.on c.requires.again c.requires.stands c.requires.over c.seek-task.result c.seek-task.ensures.kind))
    c.set_task.new.slot (c.set_task.ensures ∙ ap (λ (z : Option OpenCall). with_task z c.seek-task.result None) (slot-is c.args.parts.now c.args.w c.requires.on c.index_mut.result.now c.index_mut.ensures.value))
    c.requires.on.between.call_open.told c.start_laws.ensures.solo c.requires.other (Read 2) (λ e. absurd (cc e)) refl

pub returns-clause-went : goal.returns-clause-went
returns-clause-went c = went-started c.args.parts.now (with_item c.args.parts.now.workers c.args.w c.set_task.new.slot) c.args.w c.start.new.parts (starts-always _ 2 c.start.new.parts c.start.result c.start.ensures.started c.start.ensures.lacks) c.start.ensures.rest c.start.ensures.taken c.start.ensures.others
    (round-room c.args.parts.now c.args.w (errand_of c.requires.on.serving) (known c.args.parts.now c.args.w c.requires.on).past c.requires.pays)
    (record c.requires.on.serving { task = c.seek-task.result; path = None })
    (get_or-set_same c.args.parts.now.workers.items c.args.w c.set_task.new.slot None in-table ∙ (c.set_task.ensures ∙ ap (λ (z : Option OpenCall). with_task z c.seek-task.result None) (slot-is c.args.parts.now c.args.w c.requires.on c.index_mut.result.now c.index_mut.ensures.value)))
  where
    in-table : c.args.w < length c.args.parts.now.workers.items
    in-table = omega (arith, c.requires.on.between.within, c.requires.on.between.tabled.places, c.requires.on.between.tabled.config.workers_in_range.at_most)
