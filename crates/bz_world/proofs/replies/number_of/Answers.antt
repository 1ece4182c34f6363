use Rattle.std.proofs.Common.{◌≡◌, ◌<◌, length, arith, refl, sym, ap, ◌∙◌, slice_index, Some, None}
use Rattle.std.specs.Prelude.{get_or}
use Rattle.std.proofs.lemmas.List.{get_or_read_under}
use Rattle.bz_sound.proofs.Proved.{open_calls_are_last}
use Rattle.bz_world.proofs.Numbers.{number-open}
use Rattle.bz_world.proofs.replies.number_of.Goals as goal

pub returns-in-Some : goal.returns-in-Some
returns-in-Some c =
    let p = c.args.parts.now in
    let few : c.args.w < 65 = omega (arith, c.if-from-parts.false, c.from.ensures, c.requires.tabled.config.workers_in_range.at_most) in
    let slot : c.index.result.now ≡ get_or p.workers.items c.args.w None = get_or_read_under p.workers.items c.args.w (length p.workers.items) c.index.result.now None c.index.ensures (omega (arith, few, c.requires.tabled.places)) refl in
    let number : c.index-in-Some.result.now ≡ slice_index p.numbers.items c.args.w = get_or_read_under p.numbers.items c.args.w (length p.numbers.items) c.index-in-Some.result.now 0 c.index-in-Some.ensures (omega (arith, few, c.requires.tabled.number_places)) refl in
    ap Some number ∙ sym (number-open open_calls_are_last p c.requires c.args.w c.in-Some.field-0 (sym slot ∙ c.in-Some.is) (omega (arith, c.if-from-parts.false, c.from.ensures)))
