-- Which marks keep a journal sound.
use Rattle.std.proofs.Common.{◌≡◌, ℕ, ◌+◌, Bool, true, false, List, [], ◌∷◌, ◌++◌, length, refl, sym, ◌∙◌, subst, arith, length-append, Some}
use Rattle.std.specs.Prelude.{if◌then◌else◌}
use Rattle.bz_layout.specs.declared.config.Config.{Config}
use Rattle.bz_call.specs.Pages.{names_page}
use Rattle.bz_call.specs.declared.replies.Spent.{Spent}
use Rattle.bz_mark.specs.Log.{Log, with_mark, count_page_ends}
use Rattle.bz_mark.proofs.MomentLaws.{mark_at-newest}
use Rattle.bz_mark.specs.Moments.{IsInner, mark_at}
use Rattle.bz_mark.specs.WordsAfter.{words_after_marks, Found}
use Rattle.bz_mark.specs.declared.marks.Mark.{Mark}
use Rattle.bz_mark.specs.declared.marks.Mark.TheVariants.{Begin, End, Load, Store, Cas, Ask, Fence, Evict, Effect}
use Rattle.bz_sound.specs.Calls.{Open, open_call}
use Rattle.bz_sound.specs.Memory.Calls.{MayFollow}
use Rattle.bz_sound.specs.Memory.Laws.{QuietActsFollow, FencesFollow, EffectsFollowActs, BeginsFollow, EndsFollow, PageEndsFollow}
use Rattle.bz_sound.specs.Memory.Moments.{map_at_start, Decodes}
use Rattle.bz_sound.specs.Memory.Replies.{Answer, IsRightReplyBy, HasRightReplyBy, HasRightReply}
use Rattle.bz_sound.specs.Memory.Sound.{IsSound}
use Rattle.bz_sound.specs.Memory.Spent.{IsSpent}
use Rattle.bz_sound.proofs.Memory.Marks.{holds-now, each-with, each-with_two}
use Rattle.bz_sound.proofs.Memory.MorePages.{right-with_more}

-- the durable words decode now
pub decodes-now : (c : Config) (log : Log) → IsSound c log → Decodes c log.start log.past
decodes-now c log sound = holds-now (Decodes c log.start) log.past sound.durable

-- a mark that names no page
grown : (c : Config) (log : Log) (mark : Mark) → IsSound c log → Found (words_after_marks log.start log.past) mark → MayFollow (map_at_start c log.start) log.past mark
    → HasRightReply c log.start log.pages log.past mark → count_page_ends (mark ∷ log.past) ≡ count_page_ends log.past → Decodes c log.start (mark ∷ log.past)
    → IsSound c (with_mark log mark)
grown c log mark sound found follows right pages decodes = record {
  size = sound.size;
  truthful = (found, sound.truthful);
  once = (follows, sound.once);
  replies = (right, sound.replies);
  pages = sound.pages ∙ sym pages;
  durable = each-with (Decodes c log.start) mark log.past sound.durable decodes;
}

pub quiet-acts : QuietActsFollow
quiet-acts c log (Load w a v) sound quiet follows found = grown c log (Load w a v) sound found follows tt refl (decodes-now c log sound)
quiet-acts c log (Store w a v) sound quiet follows found = grown c log (Store w a v) sound found follows tt refl (decodes-now c log sound)
quiet-acts c log (Cas w a old new is) sound quiet follows found = grown c log (Cas w a old new is) sound found follows tt refl (decodes-now c log sound)
quiet-acts c log (Ask w line) sound quiet follows found = grown c log (Ask w line) sound found follows tt refl (decodes-now c log sound)
quiet-acts c log mark sound quiet follows found = absurd quiet

pub flushes : FencesFollow
flushes c log (Fence w) sound flush follows decodes = grown c log (Fence w) sound tt follows tt refl decodes
flushes c log (Evict a) sound flush follows decodes = grown c log (Evict a) sound tt follows tt refl decodes
flushes c log mark sound flush follows decodes = absurd flush

pub begins : BeginsFollow
begins c log w n call sound worker may = grown c log (Begin w n call) sound tt (worker, may) tt refl (decodes-now c log sound)

-- what is right of the open call is right of the End
pub right-end : (Cause : List Mark → ℕ → Open → Spent → Type 0) (c : Config) (start : List ℕ) (pages : List (List (List ℕ × List ℕ))) (past : List Mark) (answer : Answer)
    → open_call answer.worker past ≡ Some answer.opened → IsRightReplyBy (Cause past answer.worker answer.opened) c start pages past answer
    → HasRightReplyBy Cause c start pages past (End answer.worker answer.opened.number answer.reply answer.at)
right-end Cause c start pages past answer is right = rw is right

pub same-count : (b : Bool) (count : ℕ) → b ≡ false → (if b then count + 1 else count) ≡ count
same-count true count is = absurd (cc)
same-count false count is = refl

pub ends : EndsFollow
ends c log answer sound is unpaged right =
    grown c log (End answer.worker answer.opened.number answer.reply answer.at) sound tt (record { opened = answer.opened; is_open = is; number = refl })
    (right-end (IsSpent c log.start) c log.start log.pages log.past answer is right) (same-count (names_page answer.reply) (count_page_ends log.past) unpaged) (decodes-now c log sound)

pub one-page : (b : Bool) (pages : List (List (List ℕ × List ℕ))) (pairs : List (List ℕ × List ℕ)) (count : ℕ) → b ≡ true → length pages ≡ count
    → length (pages ++ pairs ∷ []) ≡ (if b then count + 1 else count)
one-page true pages pairs count is same = omega (arith, length-append pages (pairs ∷ []))
one-page false pages pairs count is same = absurd (cc)

pub page-ends : PageEndsFollow
page-ends c log answer pairs sound is paged right = record {
  size = sound.size;
  truthful = (tt, sound.truthful);
  once = (record { opened = answer.opened; is_open = is; number = refl }, sound.once);
  replies = (
    right-end (IsSpent c log.start) c log.start (log.pages ++ pairs ∷ []) log.past answer is right,
    right-with_more (IsSpent c log.start) c log.start log.pages (pairs ∷ []) log.past sound.replies,
  );
  pages = one-page (names_page answer.reply) log.pages pairs (count_page_ends log.past) paged sound.pages;
  durable = each-with (Decodes c log.start) (End answer.worker answer.opened.number answer.reply answer.at) log.past sound.durable (decodes-now c log sound);
}

-- the moment directly before an Effect is inner
pub inner-effect : (w n : ℕ) (mark : Mark) (past : List Mark) → IsInner (length past + 1) (Effect w n ∷ mark ∷ past)
inner-effect w n mark past =
    let next : length (mark ∷ past) ≡ length past + 1 = omega arith in
    (omega arith, (w, n, subst (λ (k : ℕ). mark_at k (Effect w n ∷ mark ∷ past) ≡ Some (Effect w n)) next (mark_at-newest (Effect w n) (mark ∷ past))))

-- a fence or an eviction with the Effect of a call
with-effect : (c : Config) (log : Log) (mark : Mark) (w n : ℕ) → IsSound c log → Found (words_after_marks log.start log.past) mark → MayFollow (map_at_start c log.start) log.past mark
    → HasRightReply c log.start log.pages log.past mark → count_page_ends (mark ∷ log.past) ≡ count_page_ends log.past
    → MayFollow (map_at_start c log.start) (mark ∷ log.past) (Effect w n) → Decodes c log.start (Effect w n ∷ mark ∷ log.past)
    → IsSound c (with_mark (with_mark log mark) (Effect w n))
with-effect c log mark w n sound found follows right pages effect decodes = record {
  size = sound.size;
  truthful = (tt, (found, sound.truthful));
  once = (effect, (follows, sound.once));
  replies = (tt, (right, sound.replies));
  pages = sound.pages ∙ sym pages;
  durable = each-with_two (Decodes c log.start) (Effect w n) mark log.past sound.durable (inner-effect w n mark log.past) decodes;
}

pub effects : EffectsFollowActs
effects c log (Fence v) w n sound follows effect decodes = with-effect c log (Fence v) w n sound tt follows tt refl effect decodes
effects c log (Evict a) w n sound follows effect decodes = with-effect c log (Evict a) w n sound tt follows tt refl effect decodes
effects c log mark w n sound follows effect decodes = absurd effect.0
