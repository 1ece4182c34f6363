use Rattle.std.proofs.Common.{◌≡◌, refl, sym, ap, subst, ◌∙◌, inl, inr, Option, Some, None}
use Rattle.std.specs.Vec.{with_item}
use Rattle.bz_call.specs.Map.{key_of}
use Rattle.bz_task.specs.Outcomes.{IsPath}
use Rattle.bz_world.specs.Inside.Going.{known, with_task}
use Rattle.bz_world.specs.declared.serving.OpenCall.{OpenCall}
use Rattle.bz_world.proofs.Spared.{task-paid}
use Rattle.bz_world.proofs.Paid.{within-of}
use Rattle.bz_world.specs.Inside.Due.{only_looks}
use Rattle.std.proofs.lemmas.Bool.{true≢false}
use Rattle.bz_world.specs.Inside.Exact.{seeks}
use Rattle.bz_world.specs.Inside.Meant.{IsMeant}
use Rattle.bz_world.specs.Inside.Merging.{looks_on}
use Rattle.bz_any_task.specs.Kinds as kinds
use Rattle.bz_any_task.specs.Kinds.{begins_on, is_look, is_renewal, kinds-tell-what-goes-on}
use Rattle.bz_solo.specs.Errands.{IsLookOf}
use Rattle.bz_world.proofs.TakingOn.{task-begins, lookup-taken, looks-right, none-wanted, slot-is, call-is, known-scene, went-anew}
use Rattle.bz_world.proofs.lookups.read_leaf.Goals as goal

pub begin_task-requires-clause-begins : goal.begin_task-requires-clause-begins
begin_task-requires-clause-begins c = task-begins c.args.parts.now c.args.w c.read_leaf-task.result c.requires.path.on.serving.had None (Some c.args.path)
    (lookup-taken c.args.parts.now c.args.w c.requires.path.on c.requires.path.may c.read_leaf-task.result (Some c.args.path) None c.key_of.result c.read_leaf-task.ensures.config c.laws.ensures c.read_leaf-task.ensures.silent c.read_leaf-task.ensures.ends (λ none. absurd (cc none))
    key c.read_leaf-task.ensures.asks (c.read_leaf-task.ensures.facts (known c.args.parts.now c.args.w c.requires.path.on) (known-scene c.start_laws.ensures.scenes c.args.parts.now c.args.w c.requires.path.on)
    (subst (λ k. IsPath k c.args.path (known c.args.parts.now c.args.w c.requires.path.on).past) (sym key) c.requires.path.leads))
    (none-wanted c.args.parts.now c.args.w c.requires.path.on c.read_leaf-task.result c.read_leaf-task.ensures.wants) (λ key get solitary. absurd (c.requires.path.other key get solitary))
    meant
    (task-paid c.start_laws.ensures.solo.rounds c.args.parts.now c.args.w c.requires.path.on c.read_leaf-task.result (Some c.args.path) c.requires.path.on.serving.had kinds.ReadWhole c.read_leaf-task.ensures.kind c.laws.ensures c.read_leaf-task.ensures.asks c.read_leaf-task.ensures.made
    meant (λ quiet merge. absurd (cc merge)) c.requires.path.spares)
    (λ quiet solitary. elim (c.requires.path.due quiet solitary) [
      | inl page ↦ looks-right c.args.parts.now c.args.w c.requires.path.on c.read_leaf-task.result (Some c.args.path) (ap (only_looks c.requires.path.on.serving.call) c.read_leaf-task.ensures.kind ∙ page) quiet solitary
      | inr due ↦ inl due
    ])
    (λ solitary room. let reads = c.requires.path.again solitary room in inr (inr (inr (record { looks = ap is_look c.read_leaf-task.ensures.kind; counted = assumption reads.0; alone = reads.1 }))))
    (λ solitary. record {
      looking = λ quiet seek. absurd (true≢false (sym seek ∙ ap seeks c.read_leaf-task.ensures.kind));
      deleting = λ quiet delete going. absurd (cc (c.read_leaf-task.ensures.kind, delete));
      merging = λ at is deletes. let s = c.requires.path.stands solitary at is deletes in record { after_begin = s.0.after_begin; by_now = s.0.by_now; merging = λ may. inl (record { standing = s.0.standing may; task = inr (record { looks = ap looks_on c.read_leaf-task.ensures.kind; first = λ seek. c.requires.path.first; alone = s.1 may }) }) };
    }))
    c.set_task.new.slot (c.set_task.ensures ∙ ap (λ (z : Option OpenCall). with_task z c.read_leaf-task.result (Some c.args.path)) (slot-is c.args.parts.now c.args.w c.requires.path.on c.index_mut.result.now c.index_mut.ensures.value))
    c.requires.path.on.between.call_open.told c.start_laws.ensures.solo c.requires.path.other refl (kinds-tell-what-goes-on c.read_leaf-task.result (ap begins_on c.read_leaf-task.ensures.kind))
  where
    meant : IsMeant (record c.requires.path.on.serving { task = c.read_leaf-task.result; path = Some c.args.path }) (known c.args.parts.now c.args.w c.requires.path.on).past
    meant = record {
      within = within-of c.read_leaf-task.result (λ a e. absurd (let other : kinds.ReadWhole ≡ kinds.SplitLeaf a = sym c.read_leaf-task.ensures.kind ∙ e in cc other));
      fit = record { words = c.requires.path.on.fit.words; thawed = c.requires.path.on.fit.thawed; quiet = c.requires.path.on.fit.quiet };
      first = λ other. c.requires.path.first;
      look = λ quiet. subst (IsLookOf c.requires.path.on.serving.call) (sym c.read_leaf-task.ensures.kind) (c.requires.path.look quiet);
      meant = λ quiet. inl (record { slots = c.read_leaf-task.ensures.wants; swaps = inl (ap is_look c.read_leaf-task.ensures.kind) });
      later = λ at is. ap is_renewal c.read_leaf-task.ensures.kind;
      small = λ merge. absurd (let other : kinds.ReadWhole ≡ kinds.Merge = sym c.read_leaf-task.ensures.kind ∙ merge in cc other);
      copied = λ copy. absurd (let other : kinds.ReadWhole ≡ kinds.Copy = sym c.read_leaf-task.ensures.kind ∙ copy in cc other);
    }

    key : c.key_of.result ≡ key_of c.requires.path.on.serving.call
    key = c.key_of.ensures ∙ ap key_of (sym (call-is c.args.parts.now c.args.w c.requires.path.on c.index.result.now c.called-call.result c.index.ensures c.called-call.ensures))

pub returns : goal.returns
returns c = went-anew c.args.parts.now (with_item c.args.parts.now.workers c.args.w c.set_task.new.slot) c.args.parts.now.page c.args.w c.begin_task.result c.begin_task.new.parts c.begin_task.ensures
