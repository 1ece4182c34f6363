use Rattle.std.proofs.Common.{refl, sym, ap, subst, ◌∙◌}
use Rattle.bz_layout.specs.declared.config.Config.{Config}
use Rattle.bz_sound.proofs.Proved.{fences_follow, quiet_acts_follow, same_content_decodes}
use Rattle.bz_refinement.proofs.Proved.{acts_are_marked, recoveries_go_on, turns_make_no_mark}
use Rattle.bz_world.proofs.Recovered.{asked-on}
use Rattle.bz_world.proofs.Recovering.{Laws, hears-on, made-on, told-on, after-on, flush-on}
use Rattle.bz_swap_machine.specs.declared.done.Done.{Done}
use Rattle.bz_world.specs.Inside.Powering.{IsRawAct}
use Rattle.bz_world.proofs.recovery.ask_next.Goals as goal

pub next-requires : goal.next-requires
next-requires c =
    let b : Laws = record { quiet = quiet_acts_follow; flush = fences_follow; same = same_content_decodes } in
    let on = made-on b acts_are_marked c.args.parts.now c.make_raw_act-progress.new.parts c.make_raw_act-progress.result.act c.make_raw_act-progress.result.done c.make_raw_act-progress.result.effect c.requires.started c.requires.power c.requires.room c.make_raw_act-progress.ensures c.in_default.not-Busy in
    record {
      ready = on.memory.recovering.ready;
      slots = on.dark.slots ∙ ap (λ (d : Config). d.nodes) (sym on.memory.recovering.config);
      hears = hears-on b acts_are_marked c.args.parts.now c.make_raw_act-progress.new.parts c.make_raw_act-progress.result.act c.make_raw_act-progress.result.done c.make_raw_act-progress.result.effect c.requires.started c.requires.power c.requires.room c.make_raw_act-progress.ensures c.in_default.not-Busy c.seen_of.result c.seen_of.ensures;
    }

pub returns-in_default : goal.returns-in_default
returns-in_default c = record {
  made = c.make_raw_act-progress.result.act;
  done = c.make_raw_act-progress.result.done;
  told = c.make_raw_act-progress.result.effect;
  mid = c.make_raw_act-progress.new.parts;
  act = c.make_raw_act-progress.ensures;
  rest = refl;
  recovering = asked-on recoveries_go_on turns_make_no_mark c.make_raw_act-progress.new.parts c.seen_of.result c.next.new.self c.next.new.slots
      (made-on (record { quiet = quiet_acts_follow; flush = fences_follow; same = same_content_decodes }) acts_are_marked c.args.parts.now c.make_raw_act-progress.new.parts c.make_raw_act-progress.result.act c.make_raw_act-progress.result.done c.make_raw_act-progress.result.effect c.requires.started c.requires.power c.requires.room c.make_raw_act-progress.ensures c.in_default.not-Busy)
      (record { config = c.next.ensures.config; ready = c.next.ensures.ready; learns = c.next.ensures.learns; sooner = c.next.ensures.sooner })
      (told-on (record { quiet = quiet_acts_follow; flush = fences_follow; same = same_content_decodes }) acts_are_marked c.args.parts.now c.make_raw_act-progress.new.parts c.make_raw_act-progress.result.act c.make_raw_act-progress.result.done c.make_raw_act-progress.result.effect c.requires.started c.requires.power c.requires.room c.make_raw_act-progress.ensures c.in_default.not-Busy c.seen_of.result c.seen_of.ensures)
      c.next.ensures.slots c.next.ensures.walked;
  asks = c.next.ensures.asked;
  after = after-on (record { quiet = quiet_acts_follow; flush = fences_follow; same = same_content_decodes }) acts_are_marked c.args.parts.now c.make_raw_act-progress.new.parts c.make_raw_act-progress.result.act c.make_raw_act-progress.result.done c.make_raw_act-progress.result.effect c.requires.started c.requires.power c.requires.room c.make_raw_act-progress.ensures;
}

pub returns-in-Busy : goal.returns-in-Busy
returns-in-Busy c = record {
  made = c.make_raw_act-progress.result.act;
  told = c.make_raw_act-progress.result.effect;
  act = subst (λ (done : Done). IsRawAct c.args.parts.now c.make_raw_act-progress.result.act done c.make_raw_act-progress.result.effect c.make_raw_act-progress.new.parts) c.in-Busy.is c.make_raw_act-progress.ensures;
  started = flush-on (record { quiet = quiet_acts_follow; flush = fences_follow; same = same_content_decodes }) acts_are_marked c.args.parts.now c.make_raw_act-progress.new.parts c.make_raw_act-progress.result.act c.make_raw_act-progress.result.done c.make_raw_act-progress.result.effect c.requires.started c.requires.power c.requires.room c.make_raw_act-progress.ensures c.in-Busy.is;
}
