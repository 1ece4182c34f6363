use Rattle.std.proofs.Common.{◌<◌, refl, inl, inr}
use Rattle.std.proofs.lemmas.Bool.{cases_lt}
use Rattle.bz_layout.specs.declared.sizes.TheConstants.{SHARED_WORDS}
use Rattle.bz_branch.specs.FromBelow.Facts.{words_with}
use Rattle.bz_fork.proofs.split_inner.SplitInner.opened.Goals as goal

pub leaves_room-requires : goal.leaves_room-requires
leaves_room-requires c = c.requires.plain (c.is_read.ensures.0 c.if-not-is_read.false)

pub returns-then-leaves_room : goal.returns-then-leaves_room
returns-then-leaves_room c =
    let h = c.parts_of-separator in
    (refl, (c.is_read.ensures.0 c.if-not-is_read.false, record { has = record { left = h.result.left.0; right = h.result.right.0; sep = h.result.separator; parts = h.ensures }; room = c.leaves_room.ensures.0 c.if-leaves_room.true }))

pub returns-else-leaves_room : goal.returns-else-leaves_room
returns-else-leaves_room c =
    let h = c.parts_of-separator in
    let words = words_with c.args.self.now.middle.status h.result.separator in
    let lacks : SHARED_WORDS < words = elim (cases_lt SHARED_WORDS words) [ inl more ↦ more | inr fits ↦ absurd (let no = c.leaves_room.ensures.1 fits in let is = c.if-leaves_room.false in cc (no, is)) ] in
    (c.is_read.ensures.0 c.if-not-is_read.false, record { has = record { left = h.result.left.0; right = h.result.right.0; sep = h.result.separator; parts = h.ensures }; room = lacks })
