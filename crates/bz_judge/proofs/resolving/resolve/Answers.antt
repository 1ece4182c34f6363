use Rattle.std.proofs.Common.{sym, ap, ◌∙◌}
use Rattle.std.specs.Prelude.{slice_index, Some}
use Rattle.bz_content.specs.Resolving.{stands_for, expected_in}
use Rattle.bz_judge.proofs.ReadKinds.{none-read, some-read}
use Rattle.bz_judge.proofs.Resolved.{resolved, few-entries}
use Rattle.bz_judge.proofs.resolving.resolve.Goals as goal

pub pointed-requires : goal.pointed-requires
pointed-requires c =
    few-entries (slice_index c.args.image.now) c.args.a c.in-Some-Swap.swap c.requires (some-read _ (slice_index c.args.image.now c.args.a) (ap Some (sym c.in-Some-Swap.field-0-is) ∙ c.in-Some-Swap.ensures.kind))

pub unreachable-requires : goal.unreachable-requires
unreachable-requires c = let t = none-read (slice_index c.args.image.now c.args.a) c.in-None.ensures.kind in let u = c.requires.is_word in cc

pub returns-in-Some-Value : goal.returns-in-Some-Value
returns-in-Some-Value c =
    resolved (slice_index c.args.image.now) c.args.a _ c.in-Some-Value.field-0 (some-read c.in-Some-Value.field-0 (slice_index c.args.image.now c.args.a) c.in-Some-Value.ensures.kind)
    (ap (stands_for (slice_index c.args.image.now) c.args.a) (sym c.in-Some-Value.field-0-is))

pub returns-in-Some-Dirty : goal.returns-in-Some-Dirty
returns-in-Some-Dirty c =
    resolved (slice_index c.args.image.now) c.args.a _ c.in-Some-Dirty.field-0 (some-read c.in-Some-Dirty.field-0 (slice_index c.args.image.now c.args.a) c.in-Some-Dirty.ensures.kind)
    (ap (stands_for (slice_index c.args.image.now) c.args.a) (sym c.in-Some-Dirty.field-0-is))

pub returns-in-Some-Swap : goal.returns-in-Some-Swap
returns-in-Some-Swap c =
    resolved (slice_index c.args.image.now) c.args.a _ c.in-Some-Swap.field-0 (some-read c.in-Some-Swap.field-0 (slice_index c.args.image.now c.args.a) c.in-Some-Swap.ensures.kind)
    (c.pointed.ensures ∙ ap (stands_for (slice_index c.args.image.now) c.args.a) (sym c.in-Some-Swap.field-0-is))

pub returns-in-Some-Tag : goal.returns-in-Some-Tag
returns-in-Some-Tag c =
    resolved (slice_index c.args.image.now) c.args.a _ c.in-Some-Tag.field-0 (some-read c.in-Some-Tag.field-0 (slice_index c.args.image.now c.args.a) c.in-Some-Tag.ensures.kind)
    (c.expected.ensures ∙ (ap (expected_in (slice_index c.args.image.now) c.in-Some-Tag.swap) c.from.ensures ∙ ap (stands_for (slice_index c.args.image.now) c.args.a) (sym c.in-Some-Tag.field-0-is)))
