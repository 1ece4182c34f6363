use Rattle.std.proofs.Common.{sym, ◌∙◌}
use Rattle.bz_slotted.specs.Page.{page}
use Rattle.bz_slotted.specs.ReadingLaws.{node_of}
use Rattle.bz_slotted.proofs.Deciding.{at_end}
use Rattle.bz_slotted.proofs.Firsts.{skip, stop, both, not-first, not-second, inner-keys-read, inner-shows, pointers-read}
use Rattle.bz_slotted.proofs.FrontTests.{Decides-filled}
use Rattle.bz_slotted.proofs.fault.inner_fault.Goals as goal

pub returns-then-not-is_settled : goal.returns-then-not-is_settled
returns-then-not-is_settled c = sym
    (skip _ _ _ c.requires.level
    (skip _ _ _ c.requires.fences
    (stop _ _ (not-second _ _ c.requires.filled (sym c.is_settled.ensures ∙ c.if-not-is_settled.true)))))

pub all_inner_records-requires-clause-filled : goal.all_inner_records-requires-clause-filled
all_inner_records-requires-clause-filled c = (Decides-filled (page (node_of c.args.words.now))).0 c.requires.filled

pub returns-then-not-all_inner_records : goal.returns-then-not-all_inner_records
returns-then-not-all_inner_records c = sym
    (skip _ _ _ c.requires.level
    (skip _ _ _ c.requires.fences
    (skip _ _ _ (both _ _ c.requires.filled (sym c.is_settled.ensures ∙ c.if-not-is_settled.false))
    (stop _ _ (not-first _ _ (sym c.all_inner_records.ensures ∙ c.if-not-all_inner_records.true))))))

pub all_apart-requires-clause-filled : goal.all_apart-requires-clause-filled
all_apart-requires-clause-filled c = (Decides-filled (page (node_of c.args.words.now))).0 c.requires.filled

pub returns-then-not-all_apart : goal.returns-then-not-all_apart
returns-then-not-all_apart c = sym
    (skip _ _ _ c.requires.level
    (skip _ _ _ c.requires.fences
    (skip _ _ _ (both _ _ c.requires.filled (sym c.is_settled.ensures ∙ c.if-not-is_settled.false))
    (stop _ _ (not-second _ _ (sym c.all_inner_records.ensures ∙ c.if-not-all_inner_records.false) (sym c.all_apart.ensures ∙ c.if-not-all_apart.true))))))

pub all_rise-requires-clause-filled : goal.all_rise-requires-clause-filled
all_rise-requires-clause-filled c = (Decides-filled (page (node_of c.args.words.now))).0 c.requires.filled

pub all_rise-requires-clause-keys : goal.all_rise-requires-clause-keys
all_rise-requires-clause-keys c = inner-keys-read (node_of c.args.raw.now) (page (node_of c.args.words.now)) (sym c.all_inner_records.ensures ∙ c.if-not-all_inner_records.false)

pub returns-then-not-all_rise : goal.returns-then-not-all_rise
returns-then-not-all_rise c = sym
    (skip _ _ _ c.requires.level
    (skip _ _ _ c.requires.fences
    (skip _ _ _ (both _ _ c.requires.filled (sym c.is_settled.ensures ∙ c.if-not-is_settled.false))
    (skip _ _ _ (both _ _ (sym c.all_inner_records.ensures ∙ c.if-not-all_inner_records.false) (sym c.all_apart.ensures ∙ c.if-not-all_apart.false))
    (stop _ _ (sym c.all_rise.ensures ∙ c.if-not-all_rise.true))))))

pub all_inner_keys-requires-clause-filled : goal.all_inner_keys-requires-clause-filled
all_inner_keys-requires-clause-filled c = (Decides-filled (page (node_of c.args.words.now))).0 c.requires.filled

pub all_inner_keys-requires-clause-keys : goal.all_inner_keys-requires-clause-keys
all_inner_keys-requires-clause-keys c = inner-keys-read (node_of c.args.raw.now) (page (node_of c.args.words.now)) (sym c.all_inner_records.ensures ∙ c.if-not-all_inner_records.false)

pub all_inner_keys-requires-clause-shows : goal.all_inner_keys-requires-clause-shows
all_inner_keys-requires-clause-shows c = inner-shows (node_of c.args.raw.now) (page (node_of c.args.words.now)) (sym c.all_inner_records.ensures ∙ c.if-not-all_inner_records.false)

pub returns-then-not-all_inner_keys : goal.returns-then-not-all_inner_keys
returns-then-not-all_inner_keys c = sym
    (skip _ _ _ c.requires.level
    (skip _ _ _ c.requires.fences
    (skip _ _ _ (both _ _ c.requires.filled (sym c.is_settled.ensures ∙ c.if-not-is_settled.false))
    (skip _ _ _ (both _ _ (sym c.all_inner_records.ensures ∙ c.if-not-all_inner_records.false) (sym c.all_apart.ensures ∙ c.if-not-all_apart.false))
    (skip _ _ _ (sym c.all_rise.ensures ∙ c.if-not-all_rise.false)
    (stop _ _ (not-first _ _ (sym c.all_inner_keys.ensures ∙ c.if-not-all_inner_keys.true))))))))

pub all_differ-requires-clause-filled : goal.all_differ-requires-clause-filled
all_differ-requires-clause-filled c = (Decides-filled (page (node_of c.args.words.now))).0 c.requires.filled

pub all_differ-requires-clause-keys : goal.all_differ-requires-clause-keys
all_differ-requires-clause-keys c = inner-keys-read (node_of c.args.raw.now) (page (node_of c.args.words.now)) (sym c.all_inner_records.ensures ∙ c.if-not-all_inner_records.false)

pub returns-then-not-all_differ : goal.returns-then-not-all_differ
returns-then-not-all_differ c = sym
    (skip _ _ _ c.requires.level
    (skip _ _ _ c.requires.fences
    (skip _ _ _ (both _ _ c.requires.filled (sym c.is_settled.ensures ∙ c.if-not-is_settled.false))
    (skip _ _ _ (both _ _ (sym c.all_inner_records.ensures ∙ c.if-not-all_inner_records.false) (sym c.all_apart.ensures ∙ c.if-not-all_apart.false))
    (skip _ _ _ (sym c.all_rise.ensures ∙ c.if-not-all_rise.false)
    (stop _ _ (not-second _ _ (sym c.all_inner_keys.ensures ∙ c.if-not-all_inner_keys.false) (sym c.all_differ.ensures ∙ c.if-not-all_differ.true))))))))

pub all_children-requires-clause-filled : goal.all_children-requires-clause-filled
all_children-requires-clause-filled c = (Decides-filled (page (node_of c.args.words.now))).0 c.requires.filled

pub all_children-requires-clause-pointers : goal.all_children-requires-clause-pointers
all_children-requires-clause-pointers c = pointers-read (node_of c.args.raw.now) (page (node_of c.args.words.now)) (sym c.all_inner_records.ensures ∙ c.if-not-all_inner_records.false)

pub returns-then-not-all_children : goal.returns-then-not-all_children
returns-then-not-all_children c = sym
    (skip _ _ _ c.requires.level
    (skip _ _ _ c.requires.fences
    (skip _ _ _ (both _ _ c.requires.filled (sym c.is_settled.ensures ∙ c.if-not-is_settled.false))
    (skip _ _ _ (both _ _ (sym c.all_inner_records.ensures ∙ c.if-not-all_inner_records.false) (sym c.all_apart.ensures ∙ c.if-not-all_apart.false))
    (skip _ _ _ (sym c.all_rise.ensures ∙ c.if-not-all_rise.false)
    (skip _ _ _ (both _ _ (sym c.all_inner_keys.ensures ∙ c.if-not-all_inner_keys.false) (sym c.all_differ.ensures ∙ c.if-not-all_differ.false))
    (stop _ _ (sym c.all_children.ensures ∙ c.if-not-all_children.true))))))))

pub returns : goal.returns
returns c = sym
    (skip _ _ _ c.requires.level
    (skip _ _ _ c.requires.fences
    (skip _ _ _ (both _ _ c.requires.filled (sym c.is_settled.ensures ∙ c.if-not-is_settled.false))
    (skip _ _ _ (both _ _ (sym c.all_inner_records.ensures ∙ c.if-not-all_inner_records.false) (sym c.all_apart.ensures ∙ c.if-not-all_apart.false))
    (skip _ _ _ (sym c.all_rise.ensures ∙ c.if-not-all_rise.false)
    (skip _ _ _ (both _ _ (sym c.all_inner_keys.ensures ∙ c.if-not-all_inner_keys.false) (sym c.all_differ.ensures ∙ c.if-not-all_differ.false))
    (skip _ _ _ (sym c.all_children.ensures ∙ c.if-not-all_children.false)
    (at_end))))))))
