use Rattle.std.proofs.Common.{◌≡◌, sym, ◌∙◌}
use Rattle.bz_layout.specs.declared.sizes.TheConstants.{HEADER_AT}
use Rattle.bz_word.specs.Headers.{header}
use Rattle.bz_slotted.specs.ReadingLaws.{node_of}
use Rattle.bz_slotted.proofs.Unpacking.{header-is}
use Rattle.bz_slotted.proofs.front.has_fences.Goals as goal

pub returns-then-is_fence : goal.returns-then-is_fence
returns-then-is_fence c =
    let h : c.in-Some.header ≡ header (node_of c.args.words.now HEADER_AT) = header-is c.in-Some.header (node_of c.args.words.now HEADER_AT) c.in-Some.ensures.word.0 c.in-Some.ensures.word.1 in
    let low = rw h at (sym c.is_fence.ensures ∙ c.if-is_fence.true) in
    rw low (rw h at c.is_fence-then-is_fence.ensures)

pub returns-else-is_fence : goal.returns-else-is_fence
returns-else-is_fence c =
    let h : c.in-Some.header ≡ header (node_of c.args.words.now HEADER_AT) = header-is c.in-Some.header (node_of c.args.words.now HEADER_AT) c.in-Some.ensures.word.0 c.in-Some.ensures.word.1 in
    let low = rw h at (sym c.is_fence.ensures ∙ c.if-is_fence.false) in
    rw low c.if-is_fence.false
