use Rattle.std.proofs.Common.{inl, inr, refl, sym, subst, ◌∙◌}
use Rattle.bz_solo.specs.Errands.{IsLookOf}
use Rattle.bz_any_task.specs.Kinds as kinds
use Rattle.bz_world.specs.Inside.Room.{LacksRoomFor, HasRoomFor}
use Rattle.bz_world.proofs.Spared.{read-lacks, read-has, lacks-write, no-read}
use Rattle.bz_world.proofs.Exactly.{again-kind, no-look-up}
use Rattle.bz_world.proofs.TakingOn.{call-is}
use Rattle.bz_world.proofs.settle.answer_whole.Goals as goal

-- a get reads no leaf whole
pub unreachable-requires : goal.unreachable-requires
unreachable-requires c = elim (subst (λ z. IsLookOf z kinds.ReadWhole) (call-is c.args.parts.now c.args.w c.requires.view.on c.index.result.now _ c.index.ensures c.in-Get.ensures) c.requires.view.look) [
  | inl e ↦ cc e
  | inr e ↦ cc e
]

pub look_up_frozen-requires : goal.look_up_frozen-requires
look_up_frozen-requires c =
    let called = call-is c.args.parts.now c.args.w c.requires.view.on c.index.result.now _ c.index.ensures c.called.ensures in
    record {
      on = c.requires.view.on;
      may = inl c.requires.view.quiet;
      stands = λ solitary at is deletes. absurd (cc (c.requires.view.quiet, is));
      over = λ delete none. absurd (cc (c.requires.view.kind, delete));
      again = no-look-up c.args.parts.now c.args.w c.requires.view.on (again-kind c.args.parts.now c.args.w c.requires.view.on c.requires.view.quiet kinds.ReadWhole c.requires.view.kind refl refl);
      other = c.requires.view.other;
      pays = read-has c.start_laws.ensures.solo c.args.parts.now c.args.w c.args.view.now c.requires.view
          (no-read c.requires.view.on.serving.call (λ key e. c.in_default.not-Get key (sym called ∙ e)) (λ key e. c.in_default.not-Page key (sym called ∙ e)))
          (subst (λ z. HasRoomFor z c.args.view.now.status) (sym called) (c.if-lacks_room.ensures.room refl));
    }

pub restructure-requires-clause-lacks : goal.restructure-requires-clause-lacks
restructure-requires-clause-lacks c =
    let lacks : LacksRoomFor c.requires.view.on.serving.call c.args.view.now.status = subst (λ called. LacksRoomFor called c.args.view.now.status) (sym (call-is c.args.parts.now c.args.w c.requires.view.on c.index.result.now _ c.index.ensures c.called.ensures)) (c.if-lacks_room.ensures.none refl) in
    record { answer = c.requires.view; lacks = lacks; spares = read-lacks c.start_laws.ensures.solo c.args.parts.now c.args.w c.args.view.now c.requires.view (lacks-write c.requires.view.on.serving.call c.args.view.now.status lacks) lacks }
