use Rattle.std.proofs.Common.{false, arith, refl, sym, ap, ◌+◌, ◌<◌, ◌^◌, subst, rules, Some, None}
use Rattle.std.specs.Vec.{with_item}
use Rattle.bz_any_task.specs.Hearing.{IsLookup}
use Rattle.bz_solo.specs.declared.rest.Rest.TheVariants as rest
use Rattle.bz_task.specs.declared.todo.Todo.TheVariants.{Read}
use Rattle.bz_world.specs.Inside.Beginning.{HasBegun}
use Rattle.bz_world.proofs.Beginning.{in-numbers, begin-room, few-numbers, number-is, has-begun}
use Rattle.bz_world.proofs.Spared.{not-ended}
use Rattle.bz_world.proofs.begin.open_call.Goals as goal

pub overflow_add-n : goal.overflow_add-n
overflow_add-n c = let small : c.index.result.now + 1 < 2 ^ 32 = few-numbers c.args.parts.now c.requires.kept c.args.w c.args.call c.requires.may c.index.result.now c.index.ensures in search rules

pub index-requires : goal.index-requires
index-requires c = in-numbers c.args.parts.now c.requires.kept c.args.w c.args.call c.requires.may

pub push-requires : goal.push-requires
push-requires c = begin-room c.args.parts.now c.requires.kept c.args.w c.args.call c.requires.may (c.index.result.now + 1)

pub returns : goal.returns
returns c =
    subst (HasBegun c.args.parts.now c.args.w c.args.call (c.index.result.now + 1)) (λ t. record c.args.parts.now {
      access = c.start_read.new.self;
      journal = sym c.push.ensures t;
      workers = with_item c.args.parts.now.workers c.args.w (Some record { call = c.args.call; task = c.seek-task.result; path = None; had = None; effect = None; alone = false; froze = false; rest = rest.Leaf });
      numbers = with_item c.args.parts.now.numbers c.args.w (c.index.result.now + 1);
      taken_then = sym c.taken-parts.ensures t;
      left_then = sym c.left-parts.ensures.left t;
      begun = c.args.parts.now.begun + 1;
      pages_begun = c.args.parts.now.pages_begun + sym c.pages_asked.ensures t;
    })
    (has-begun c.args.parts.now c.requires.kept c.args.w c.args.call c.requires.may c.end_laws.ensures c.start_laws.ensures (c.index.result.now + 1)
    (ap (λ m. m + 1) (number-is c.args.parts.now c.requires.kept c.args.w c.args.call c.requires.may c.index.result.now c.index.ensures))
    c.seek-task.result c.seek-task.ensures.config c.laws.ensures c.seek-task.ensures.silent (λ way. subst (λ k. IsLookup k way c.seek-task.result) c.key_of.ensures (c.seek-task.ensures.ends way))
    c.seek-task.ensures.asks c.seek-task.ensures.facts c.seek-task.ensures.wants c.seek-task.ensures.look c.seek-task.ensures.reads c.looks.ensures c.seek-task.ensures.swaps
    c.seek-task.ensures.kind (λ q since. record { kind = c.seek-task.ensures.kind; left = omega (arith, c.seek-task.ensures.left); goes = not-ended c.seek-task.result (Read 2) c.laws.ensures c.seek-task.ensures.asks (λ e. cc e); config = refl; now = refl; since = since; image = refl })
    c.asks_little.ensures c.start_read.new.self c.start_read.ensures.started c.start_read.ensures.held)
