use Rattle.std.proofs.Common.{refl, subst}
use Rattle.bz_swap_machine.specs.declared.done.Done.{Done}
use Rattle.bz_queue.proofs.Recovering.{asked-on, hears-on, made-on, told-on, after-on, flush-on}
use Rattle.bz_queue.specs.Inside.Powering.{IsRawAct}
use Rattle.bz_queue.proofs.recovery.ask_next.Goals as goal

pub next-requires : goal.next-requires
next-requires c =
    let p = c.args.parts.now in
    let q = c.make_raw_act-progress.new.parts in
    let progress = c.make_raw_act-progress.result in
    record {
      ready = (made-on p q progress.act progress.done progress.effect c.requires.started c.requires.power c.requires.room c.make_raw_act-progress.ensures c.in_default.not-Busy).memory.ready;
      hears = hears-on p q progress.act progress.done progress.effect c.requires.started c.requires.power c.requires.room c.make_raw_act-progress.ensures c.in_default.not-Busy c.answer_of.result c.answer_of.ensures;
    }

pub returns-in_default : goal.returns-in_default
returns-in_default c =
    let p = c.args.parts.now in
    let q = c.make_raw_act-progress.new.parts in
    let progress = c.make_raw_act-progress.result in
    record {
      made = progress.act;
      done = progress.done;
      told = progress.effect;
      mid = q;
      act = c.make_raw_act-progress.ensures;
      rest = refl;
      swept = asked-on q c.answer_of.result c.next.new.self
          (made-on p q progress.act progress.done progress.effect c.requires.started c.requires.power c.requires.room c.make_raw_act-progress.ensures c.in_default.not-Busy)
          (record { area = c.next.ensures.area; ready = c.next.ensures.ready; learns = c.next.ensures.learns; sooner = c.next.ensures.sooner })
          (told-on p q progress.act progress.done progress.effect c.requires.started c.requires.power c.requires.room c.make_raw_act-progress.ensures c.in_default.not-Busy c.answer_of.result c.answer_of.ensures);
      asks = c.next.ensures.asked;
      after = after-on p q progress.act progress.done progress.effect c.requires.started c.requires.power c.requires.room c.make_raw_act-progress.ensures;
    }

pub returns-in-Busy : goal.returns-in-Busy
returns-in-Busy c =
    let p = c.args.parts.now in
    let q = c.make_raw_act-progress.new.parts in
    let progress = c.make_raw_act-progress.result in
    record {
      made = progress.act;
      told = progress.effect;
      act = subst (λ (done : Done). IsRawAct p progress.act done progress.effect q) c.in-Busy.is c.make_raw_act-progress.ensures;
      started = flush-on p q progress.act progress.done progress.effect c.requires.started c.requires.power c.requires.room c.make_raw_act-progress.ensures c.in-Busy.is;
    }
