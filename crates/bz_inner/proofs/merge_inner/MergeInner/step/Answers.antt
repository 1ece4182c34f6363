use Rattle.bz_inner.specs.JoinDuties.{joining_of}
use Rattle.bz_inner.proofs.JoinGoing.{steps-begun, steps-pointer, steps-writing, writing-hears}
use Rattle.bz_inner.proofs.JoinSteps.{steps-above, steps-own, steps-beside}
use Rattle.bz_inner.proofs.JoinTurning.{steps-told, steps-read, steps-opened, steps-weighed, told-parent, may-weigh}
use Rattle.bz_inner.proofs.merge_inner.MergeInner.step.Goals as goal

pub write-next-requires : goal.write-next-requires
write-next-requires c = let t = c.args.self.now in writing-hears t.config (joining_of t) t.phase c.in-Writing.phase c.args.seen c.args.moment c.args.slots.now c.in-Writing.is c.requires

pub told-next-requires : goal.told-next-requires
told-next-requires c =
    let t = c.args.self.now in
    let k = c.requires.known in
    told-parent t.config (joining_of t) t.phase c.args.seen k.stage k.scene c.in-AboveAgain.is k.good k.holds k.tells

pub weighed-self-requires : goal.weighed-self-requires
weighed-self-requires c =
    let t = c.args.self.now in
    let k = c.requires.known in
    may-weigh t.config (joining_of t) t.phase c.args.seen k.stage k.scene c.in-BesideAgain.is k.config k.good k.holds k.tells

pub returns-in-Fresh : goal.returns-in-Fresh
returns-in-Fresh c =
    let t = c.args.self.now in
    let k = steps-begun t.config (joining_of t) t.phase c.begun-self.result c.args.seen c.args.moment c.args.slots.now c.in-Fresh.is c.requires c.begun-self.ensures in
    record { known = k.known; begun = k.begun; ready = k.ready; goes = k.goes; learns = k.learns }

pub returns-in-Above : goal.returns-in-Above
returns-in-Above c =
    let t = c.args.self.now in
    let n = c.next_place-next in
    let k = steps-above t.config (joining_of t) t.phase c.after_above-self.result c.in-Above.i n.result c.word_in.result c.args.seen c.args.moment c.args.slots.now c.in-Above.is c.requires n.ensures.after n.ensures.within n.ensures.skipped c.word_in.ensures c.after_above-self.ensures in
    record { known = k.known; begun = k.begun; ready = k.ready; goes = k.goes; learns = k.learns }

pub returns-in-AboveAgain : goal.returns-in-AboveAgain
returns-in-AboveAgain c =
    let t = c.args.self.now in
    let k = steps-told t.config (joining_of t) c.told-next.result.side t.phase c.told-next.result.phase c.args.seen c.args.moment c.args.slots.now c.in-AboveAgain.is c.requires c.told-next.ensures in
    record { known = k.known; begun = k.begun; ready = k.ready; goes = k.goes; learns = k.learns }

pub returns-in-Own : goal.returns-in-Own
returns-in-Own c =
    let t = c.args.self.now in
    let n = c.next_place-other in
    let k = steps-own t.config (joining_of t) t.phase c.after_own-self.result c.in-Own.i n.result c.word_in-in-Own.result c.args.seen c.args.moment c.args.slots.now c.in-Own.is c.requires n.ensures.after n.ensures.within n.ensures.skipped c.word_in-in-Own.ensures c.after_own-self.ensures in
    record { known = k.known; begun = k.begun; ready = k.ready; goes = k.goes; learns = k.learns }

pub returns-in-OwnAgain : goal.returns-in-OwnAgain
returns-in-OwnAgain c =
    let t = c.args.self.now in
    let k = steps-read t.config (joining_of t) t.phase c.read_on-self.result c.args.seen c.args.moment c.args.slots.now c.in-OwnAgain.is c.requires c.read_on-self.ensures in
    record { known = k.known; begun = k.begun; ready = k.ready; goes = k.goes; learns = k.learns }

pub returns-in-Status : goal.returns-in-Status
returns-in-Status c =
    let t = c.args.self.now in
    let k = steps-opened t.config (joining_of t) c.first_read-next.result.read.0 t.phase c.first_read-next.result.phase c.args.seen c.args.moment c.args.slots.now c.in-Status.is c.requires c.first_read-next.ensures in
    record { known = k.known; begun = k.begun; ready = k.ready; goes = k.goes; learns = k.learns }

pub returns-in-Beside : goal.returns-in-Beside
returns-in-Beside c =
    let t = c.args.self.now in
    let n = c.next_place-further in
    let k = steps-beside t.config (joining_of t) t.phase c.after_beside-self.result c.in-Beside.i n.result c.word_in-in-Beside.result c.args.seen c.args.moment c.args.slots.now c.in-Beside.is c.requires n.ensures.after n.ensures.within n.ensures.skipped c.word_in-in-Beside.ensures c.after_beside-self.ensures in
    record { known = k.known; begun = k.begun; ready = k.ready; goes = k.goes; learns = k.learns }

pub returns-in-BesideAgain : goal.returns-in-BesideAgain
returns-in-BesideAgain c =
    let t = c.args.self.now in
    let k = steps-weighed t.config (joining_of t) t.phase c.weighed-self.result c.args.seen c.args.moment c.args.slots.now c.in-BesideAgain.is c.requires c.weighed-self.ensures in
    record { known = k.known; begun = k.begun; ready = k.ready; goes = k.goes; learns = k.learns }

pub returns-in-Pointer : goal.returns-in-Pointer
returns-in-Pointer c =
    let t = c.args.self.now in
    let k = steps-pointer t.config (joining_of t) t.phase c.args.seen c.args.moment c.args.slots.now c.in-Pointer.is c.requires in
    record { known = k.known; begun = k.begun; ready = k.ready; goes = k.goes; learns = k.learns }

pub returns-in-Writing : goal.returns-in-Writing
returns-in-Writing c =
    let t = c.args.self.now in
    let e = c.write-next.ensures in
    let u = c.write-next.new.self in
    let k = steps-writing t.config u.config (joining_of t) (joining_of u) t.phase c.in-Writing.phase c.write-next.result c.args.seen c.args.moment c.args.slots.now c.write-next.new.slots c.in-Writing.is e.config e.upper e.middle e.lower e.begun e.ready e.goes e.learns in
    record { known = e.known; begun = k.begun; ready = k.ready; goes = k.goes; learns = k.learns }
