use Rattle.std.proofs.Common.{subst, ap, arith, ◌<◌, ℕ, length, Option, Some, None}
use Rattle.bz_queue.specs.Inside.Acted.{IsActed}
use Rattle.bz_queue.specs.declared.parts.Parts.{Parts}
use Rattle.bz_queue.proofs.Acted.{is-busy, worker-inside, struck-acted, kept-on, has-ended, has-acted}
use Rattle.bz_queue.proofs.Left.{quiet-pays, struck-pays}
use Rattle.bz_queue.proofs.Striking.{act-strikes}
use Rattle.bz_queue.proofs.act.act.Goals as goal

pub make_act-progress-requires-clause-worker : goal.make_act-progress-requires-clause-worker
make_act-progress-requires-clause-worker c = worker-inside c.args.parts.now c.args.w c.requires.kept c.requires.open

pub make_act-progress-requires-clause-busy : goal.make_act-progress-requires-clause-busy
make_act-progress-requires-clause-busy c = is-busy c.args.parts.now c.args.w c.requires.kept c.requires.open

pub mark_effect-requires-clause-striking : goal.mark_effect-requires-clause-striking
mark_effect-requires-clause-striking c =
    act-strikes c.args.parts.now c.make_act-progress.new.parts c.args.w c.make_act-progress.result.act c.make_act-progress.result.done c.in-Some.swap c.requires.kept c.requires.open
    (subst (λ (o : Option ℕ). IsActed c.args.parts.now c.args.w c.make_act-progress.result.act c.make_act-progress.result.done o c.make_act-progress.new.parts) c.in-Some.is c.make_act-progress.ensures)

pub returns-in-Some-clause-made : goal.returns-in-Some-clause-made
returns-in-Some-clause-made c =
    let p = c.args.parts.now in
    let mid = c.make_act-progress.new.parts in
    let new = c.mark_effect.new.parts in
    let w = c.args.w in
    let made = c.make_act-progress.result.act in
    let ended = c.make_act-progress.result.done in
    let acted : IsActed p w made ended (Some c.in-Some.swap) mid = subst (λ (o : Option ℕ). IsActed p w made ended o mid) c.in-Some.is c.make_act-progress.ensures in
    struck-acted p mid new w made ended c.make_act-progress.result.effect c.make_act-progress.ensures c.mark_effect.ensures.struck c.mark_effect.ensures.rest
    (struck-pays p mid new w made ended c.in-Some.swap c.requires.kept c.requires.open acted c.mark_effect.ensures.marked c.mark_effect.ensures.struck (ap (λ (q : Parts). q.access) c.mark_effect.ensures.rest))

pub returns : goal.returns
returns c =
    let p = c.args.parts.now in
    let q = c.make_act-progress.new.parts in
    let w = c.args.w in
    let made = c.make_act-progress.result.act in
    let ended = c.make_act-progress.result.done in
    let acted : IsActed p w made ended None q = subst (λ (o : Option ℕ). IsActed p w made ended o q) c.in_default.is c.make_act-progress.ensures in
    let room : length p.journal.past < p.journal.most = omega (arith, c.requires.room) in
    record {
      made = has-acted p q w made ended c.requires.kept c.requires.open room acted (quiet-pays p q w made ended c.requires.kept c.requires.open acted);
      busy = λ is. kept-on p q w made ended c.requires.kept c.requires.open room acted is;
      ended = λ other. has-ended p q w made ended c.requires.kept c.requires.open room acted other;
    }
