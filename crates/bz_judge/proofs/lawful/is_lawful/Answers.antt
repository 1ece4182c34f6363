use Rattle.std.proofs.Common.{ap, sym, ◌∙◌}
use Rattle.std.specs.Prelude.{slice_index}
use Rattle.bz_content.specs.Lawful.{is_named, is_value}
use Rattle.bz_judge.proofs.LawfulWords.{of-no-kind, in-descriptor, fixed, elsewhere}
use Rattle.bz_judge.proofs.ReadKinds.{none-read, some-read}
use Rattle.bz_judge.proofs.lawful.is_lawful.Goals as goal

pub returns-in-None : goal.returns-in-None
returns-in-None c = of-no-kind c.args.config.now (slice_index c.args.image.now) c.args.a (none-read (slice_index c.args.image.now c.args.a) c.in-None.ensures.kind)

pub returns-then-is_in_descriptor : goal.returns-then-is_in_descriptor
returns-then-is_in_descriptor c =
    in-descriptor c.args.config.now (slice_index c.args.image.now) c.args.a _ (some-read c.in-Some.kind (slice_index c.args.image.now c.args.a) c.in-Some.ensures.kind).word
    (sym c.is_in_descriptor.ensures ∙ c.if-is_in_descriptor.true) c.is_descriptor_word.ensures

pub returns-then-is_fixed : goal.returns-then-is_fixed
returns-then-is_fixed c =
    fixed c.args.config.now (slice_index c.args.image.now) c.args.a _ (some-read c.in-Some.kind (slice_index c.args.image.now c.args.a) c.in-Some.ensures.kind).word
    (sym c.is_in_descriptor.ensures ∙ c.if-is_in_descriptor.false) (sym c.is_fixed.ensures ∙ c.if-is_fixed.true) (c.is_value.ensures ∙ ap is_value c.word.ensures)

pub is_named-requires : goal.is_named-requires
is_named-requires c = c.in-Some.ensures.lawful

pub returns : goal.returns
returns c =
    elsewhere c.args.config.now (slice_index c.args.image.now) c.args.a _ (some-read c.in-Some.kind (slice_index c.args.image.now c.args.a) c.in-Some.ensures.kind).word
    (sym c.is_in_descriptor.ensures ∙ c.if-is_in_descriptor.false) (sym c.is_fixed.ensures ∙ c.if-is_fixed.false)
    (c.is_named.ensures ∙ ap (is_named c.args.config.now (slice_index c.args.image.now) c.args.a) (some-read c.in-Some.kind (slice_index c.args.image.now c.args.a) c.in-Some.ensures.kind).kind)
