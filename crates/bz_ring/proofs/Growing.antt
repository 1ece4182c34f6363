-- A sound journal grows by one mark, or by an act and its effect.
use Rattle.std.proofs.Common.{◌≡◌, ℕ, List, ◌∷◌, refl, sym, ◌∙◌, ap, subst, Option, Some}
use Rattle.bz_mark.specs.declared.marks.Mark.{Mark}
use Rattle.bz_ring.specs.declared.calls.QReply.{QReply}
use Rattle.bz_ring.specs.declared.marks.QMark.{QMark}
use Rattle.bz_ring.specs.declared.marks.QMark.TheVariants.{Memory}
use Rattle.bz_ring.specs.declared.ring.Ring.{Ring}
use Rattle.bz_ring.specs.Calls.{Open, open_call}
use Rattle.bz_ring.specs.Growth.{LeavesContent, SoundJournalsGrow, FreshJournalsAreSound}
use Rattle.bz_ring.specs.Replies.{IsRightReply, HasRightReplyTo}
use Rattle.bz_ring.specs.Sound.{Decodes, first_items, items_or_none}

-- the reply to the open call
reply-to : (r : Ring) (first : List ℕ) (past : List QMark) (w : ℕ) (opened : Open) (answer : QReply) (at : ℕ) → open_call w past ≡ Some opened
    → IsRightReply r first past (record { worker = w; opened = opened; reply = answer; at = at }) → HasRightReplyTo r first past w answer at (open_call w past)
reply-to r first past w opened answer at is right = subst (HasRightReplyTo r first past w answer at) (sym is) right

-- the same list where an act leaves the content
decodes-still : (r : Ring) (start : List ℕ) (past : List QMark) (memory : Mark) → Decodes r start past → LeavesContent r start past memory → Decodes r start (Memory memory ∷ past)
decodes-still r start past memory decodes leaves = leaves ∙ decodes

pub sound_journals_grow : SoundJournalsGrow
sound_journals_grow r start past = record {
  now = λ s. s.durable.0;
  begin = λ w n call s may. record { truthful = s.truthful; once = (may, s.once); replies = (tt, s.replies); durable = (s.durable.0, (s.durable.0, s.durable.1)) };
  quiet = λ memory s happens leaves. record {
    truthful = (happens.found, s.truthful);
    once = (happens.may, s.once);
    replies = (tt, s.replies);
    durable = (decodes-still r start past memory s.durable.0 leaves, (s.durable.0, s.durable.1));
  };
  effect = λ memory w n s happens now decodes. record {
    truthful = (happens.found, s.truthful);
    once = (now, (happens.may, s.once));
    replies = (tt, (tt, s.replies));
    durable = (decodes, (s.durable.0, s.durable.1));
  };
  end = λ told s is right. record {
    truthful = s.truthful;
    once = (record { opened = told.opened; is_open = is; number = refl }, s.once);
    replies = (reply-to r (first_items r start) past told.worker told.opened told.reply told.at is right, s.replies);
    durable = (s.durable.0, (s.durable.0, s.durable.1));
  };
}

pub fresh_journals_are_sound : FreshJournalsAreSound
fresh_journals_are_sound r start items is = record {
  truthful = tt;
  once = tt;
  replies = tt;
  durable = (is ∙ ap (λ (found : Option (List ℕ)). Some (items_or_none found)) (sym is), tt);
}
