use Rattle.std.proofs.Common.{sym, ◌∙◌}
use Rattle.bz_slotted.specs.Page.{page}
use Rattle.bz_slotted.specs.ReadingLaws.{node_of}
use Rattle.bz_slotted.proofs.Plain.{inside-visible}
use Rattle.bz_slotted.proofs.records.is_leaf_record.Goals as goal

pub is_plain_key-requires-clause-inside : goal.is_plain_key-requires-clause-inside
is_plain_key-requires-clause-inside c =
    inside-visible (page (node_of c.args.words.now)) c.meta_of-meta.result c.extent_of.result (sym c.is_visible.ensures ∙ c.if-not-is_visible.false) (sym c.is_inside.ensures ∙ c.if-not-is_inside.false) c.extent_of.ensures.extent

pub is_plain_payload-requires-clause-inside : goal.is_plain_payload-requires-clause-inside
is_plain_payload-requires-clause-inside c =
    inside-visible (page (node_of c.args.words.now)) c.meta_of-meta.result c.extent_of-2.result (sym c.is_visible.ensures ∙ c.if-not-is_visible.false) (sym c.is_inside.ensures ∙ c.if-not-is_inside.false) c.extent_of-2.ensures.extent
