use Rattle.std.proofs.Common.{refl, sym, subst, None}
use Rattle.std.specs.Vec.{with_item}
use Rattle.bz_world.specs.Inside.Going.{WentOn}
use Rattle.bz_world.specs.declared.answers.Applied.TheVariants.{Ended}
use Rattle.bz_world.proofs.Ended.{in-numbers, in-workers, number-read, end-room, end-went}
use Rattle.bz_world.proofs.end.end.Goals as goal

pub push-requires : goal.push-requires
push-requires c = end-room c.end_laws.ensures c.args.parts.now c.args.w c.requires.right.on c.index-n.result.now c.args.reply c.args.at c.requires.room

pub returns-clause-went : goal.returns-clause-went
returns-clause-went c = subst (λ z. WentOn c.args.parts.now c.args.w (Ended c.index-n.result.now) (record c.args.parts.now { journal = z; workers = with_item c.args.parts.now.workers c.args.w None })) (sym c.push.ensures)
    (end-went c.end_laws.ensures c.args.parts.now c.args.w c.index-n.result.now c.args.reply c.args.at c.requires.right (number-read c.end_laws.ensures c.args.parts.now c.args.w c.requires.right.on c.index-n.result.now c.index-n.ensures) c.requires.plain c.requires.room)

pub returns-clause-slots : goal.returns-clause-slots
returns-clause-slots c = refl

pub index-n-requires : goal.index-n-requires
index-n-requires c = in-numbers c.end_laws.ensures c.args.parts.now c.args.w c.requires.right.on

pub index_mut-requires : goal.index_mut-requires
index_mut-requires c = in-workers c.end_laws.ensures c.args.parts.now c.args.w c.requires.right.on
