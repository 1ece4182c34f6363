use Rattle.std.proofs.Common.{sym, ◌∙◌}
use Rattle.bz_slotted.specs.ReadingLaws.{node_of}
use Rattle.bz_slotted.proofs.NodeKinds.{leaf-kind, inner-kind, wrong-level, wrong-fence, wrong-status}
use Rattle.bz_slotted.proofs.fault.node_fault.Goals as goal

pub returns-then-not-is_at_level : goal.returns-then-not-is_at_level
returns-then-not-is_at_level c =
    wrong-level c.args.nodes (node_of c.args.raw.now) (node_of c.args.words.now) c.args.place.now.level c.args.place.now.low c.args.place.now.high
    (sym c.is_at_level.ensures ∙ c.if-not-is_at_level.true)

pub returns-then-not-has_fences : goal.returns-then-not-has_fences
returns-then-not-has_fences c =
    wrong-fence c.args.nodes (node_of c.args.raw.now) (node_of c.args.words.now) c.args.place.now.level c.args.place.now.low c.args.place.now.high
    (sym c.is_at_level.ensures ∙ c.if-not-is_at_level.false)
    (sym c.has_fences.ensures ∙ c.if-not-has_fences.true)

pub returns-then-not-is_filled : goal.returns-then-not-is_filled
returns-then-not-is_filled c =
    wrong-status c.args.nodes (node_of c.args.raw.now) (node_of c.args.words.now) c.args.place.now.level c.args.place.now.low c.args.place.now.high
    (sym c.is_at_level.ensures ∙ c.if-not-is_at_level.false)
    (sym c.has_fences.ensures ∙ c.if-not-has_fences.false)
    (sym c.is_filled.ensures ∙ c.if-not-is_filled.true)

pub returns-then-place-eq0 : goal.returns-then-place-eq0
returns-then-place-eq0 c =
    c.leaf_fault.ensures
    ∙ leaf-kind c.args.nodes (node_of c.args.raw.now) (node_of c.args.words.now) c.args.place.now.level c.args.place.now.low c.args.place.now.high c.if-place-eq0.true

pub returns : goal.returns
returns c =
    c.inner_fault.ensures
    ∙ inner-kind c.args.nodes (node_of c.args.raw.now) (node_of c.args.words.now) c.args.place.now.level c.args.place.now.low c.args.place.now.high c.if-place-eq0.false
