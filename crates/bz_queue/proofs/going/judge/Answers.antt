use Rattle.std.proofs.Common.{◌≡◌, true, false, sym, ◌∙◌}
use Rattle.bz_queue.proofs.Judging.{unsuited-next}
use Rattle.bz_queue.proofs.going.judge.Goals as goal

pub read_next-requires : goal.read_next-requires
read_next-requires c =
    unsuited-next c.args.parts.now c.args.w c.args.serving c.args.counter c.args.word c.length-at.result c.counter_at.result c.requires.judge
    (λ suits. (let both : true ≡ false = sym (c.suits.ensures.1 suits) ∙ c.if-suits.false in cc)) c.length-at.ensures c.counter_at.ensures
