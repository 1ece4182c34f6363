use Rattle.std.proofs.Common.{◌-◌, ◌≤◌, length, arith, refl, ◌∙◌}
use Rattle.bz_mark.specs.declared.power.Power.TheVariants as power
use Rattle.bz_queue.specs.Inside.Kept.{view_of}
use Rattle.bz_queue.specs.declared.answers.QApplied.TheVariants as applied
use Rattle.bz_queue.proofs.Powered.{awake-in, started-in, kept-awake}
use Rattle.bz_queue.proofs.Refusing.{evict-unknown, evict-short, evict-applied}
use Rattle.bz_queue.proofs.Tables.{ring-of}
use Rattle.bz_queue.proofs.step.evict.Goals as goal

pub words-requires : goal.words-requires
words-requires c = ring-of c.args.parts.now.numbers c.requires.tabled.numbers

pub returns-then-a-words : goal.returns-then-a-words
returns-then-a-words c = record { kept = c.requires; applied = evict-unknown (view_of c.args.parts.now) c.args.a (omega arith) }

pub returns-then-room-lt3 : goal.returns-then-room-lt3
returns-then-room-lt3 c = record { kept = c.requires; applied = evict-short (view_of c.args.parts.now) (omega arith) c.args.a (omega arith) }

pub returns-in-Off : goal.returns-in-Off
returns-in-Off c =
    let p = c.args.parts.now in
    let room : 3 ≤ p.journal.most - length p.journal.past = omega arith in
    record {
      kept = c.requires;
      applied = evict-applied (view_of p) (view_of p) applied.Off room power.Off (c.requires.tabled.powered ∙ c.in-Off.is) c.args.a (omega arith) (refl, refl);
    }

pub evict_recovering-requires : goal.evict_recovering-requires
evict_recovering-requires c =
    let p = c.args.parts.now in
    let room : 3 ≤ p.journal.most - length p.journal.past = omega arith in
    record { started = started-in p c.requires c.in-Recovering.is; power = c.in-Recovering.is; within = omega arith; room = omega (arith, room) }

pub returns-in-Recovering : goal.returns-in-Recovering
returns-in-Recovering c =
    let p = c.args.parts.now in
    let room : 3 ≤ p.journal.most - length p.journal.past = omega arith in
    record {
      kept = c.evict_recovering.ensures.kept;
      applied = evict-applied (view_of p) (view_of c.evict_recovering.new.parts) applied.Evicted room power.Recovering (c.requires.tabled.powered ∙ c.in-Recovering.is) c.args.a (omega arith) c.evict_recovering.ensures.evicts;
    }

pub evict_word-requires : goal.evict_word-requires
evict_word-requires c =
    let p = c.args.parts.now in
    let room : 3 ≤ p.journal.most - length p.journal.past = omega arith in
    record { kept = awake-in p c.requires c.in-On.is; within = omega arith; room = omega (arith, room) }

pub returns-in-On : goal.returns-in-On
returns-in-On c =
    let p = c.args.parts.now in
    let room : 3 ≤ p.journal.most - length p.journal.past = omega arith in
    record {
      kept = kept-awake c.evict_word.new.parts c.evict_word.ensures.kept;
      applied = evict-applied (view_of p) (view_of c.evict_word.new.parts) applied.Evicted room power.On (c.requires.tabled.powered ∙ c.in-On.is) c.args.a (omega arith) c.evict_word.ensures.evicts;
    }
