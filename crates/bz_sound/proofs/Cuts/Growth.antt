-- Which marks keep a journal sound where the power fails and comes on again.
use Rattle.std.proofs.Common.{◌≡◌, ℕ, [], ◌∷◌, ◌++◌, refl, sym, ◌∙◌, arith}
use Rattle.bz_layout.specs.declared.config.Config.{Config}
use Rattle.bz_call.specs.Pages.{names_page}
use Rattle.bz_mark.specs.Log.{Log, with_mark, count_page_ends}
use Rattle.bz_mark.specs.WordsAfter.{words_after_marks, Found}
use Rattle.bz_mark.specs.declared.marks.Mark.{Mark}
use Rattle.bz_mark.specs.declared.marks.Mark.TheVariants.{Begin, End, Load, Store, Cas, Ask, Fence, Evict, Cut, On, Ready, Effect}
use Rattle.bz_mark.specs.declared.power.Power.{Power}
use Rattle.bz_sound.specs.Memory.Moments.{map_at_start, Decodes}
use Rattle.bz_sound.specs.Power.Calls.{MayFollow}
use Rattle.bz_sound.specs.Power.Growth.{FreshJournalsAreSound, QuietActsFollow, FencesFollow, EffectsFollowActs, BeginsFollow, EndsFollow, PageEndsFollow, LoadsAreSettled}
use Rattle.bz_sound.specs.Power.Laws.{CutsFollow, OnsFollow, ReadysFollow}
use Rattle.bz_sound.specs.Power.Replies.{HasRightReply}
use Rattle.bz_sound.specs.Power.Sound.{IsSound}
use Rattle.bz_sound.specs.Power.Spent.{IsSpent}
use Rattle.bz_sound.proofs.Cuts.Follows.{off-cut, cut-off}
use Rattle.bz_sound.proofs.Memory.Fresh.{decodes-start}
use Rattle.bz_sound.proofs.Memory.Growth.{right-end, same-count, one-page, inner-effect}
use Rattle.bz_sound.proofs.Memory.Marks.{holds-now, holds-last, each-with, each-with_two}
use Rattle.bz_sound.proofs.Memory.MorePages.{right-with_more}
use Rattle.bz_sound.proofs.Memory.Settled.{outer-load}
use Rattle.bz_sound.proofs.Memory.Standing.{powered-stands}

-- the durable words decode now
pub decodes-now : (c : Config) (at_start : Power) (log : Log) → IsSound c at_start log → Decodes c log.start log.past
decodes-now c at_start log sound = holds-now (Decodes c log.start) log.past sound.durable

-- a mark that names no page
pub grown : (c : Config) (at_start : Power) (log : Log) (mark : Mark) → IsSound c at_start log → Found (words_after_marks log.start log.past) mark
    → MayFollow at_start (map_at_start c log.start) log.past mark → HasRightReply c log.start log.pages log.past mark
    → count_page_ends (mark ∷ log.past) ≡ count_page_ends log.past → Decodes c log.start (mark ∷ log.past) → IsSound c at_start (with_mark log mark)
grown c at_start log mark sound found follows right pages decodes = record {
  size = sound.size;
  truthful = (found, sound.truthful);
  once = (follows, sound.once);
  replies = (right, sound.replies);
  pages = sound.pages ∙ sym pages;
  durable = each-with (Decodes c log.start) mark log.past sound.durable decodes;
}

pub cuts-follow : CutsFollow
cuts-follow c at_start log sound before =
    grown c at_start log Cut sound tt (λ off. before (off-cut at_start (map_at_start c log.start) log.past sound.once off)) tt refl (decodes-now c at_start log sound)

pub ons-follow : OnsFollow
ons-follow c at_start log sound cut = grown c at_start log On sound tt (cut-off at_start log.past cut) tt refl (decodes-now c at_start log sound)

pub readys-follow : ReadysFollow
readys-follow c at_start log sound acted = grown c at_start log Ready sound tt acted tt refl (decodes-now c at_start log sound)

pub fresh-sound : FreshJournalsAreSound
fresh-sound c at_start start limits size none = record {
  size = size;
  truthful = tt;
  once = tt;
  replies = tt;
  pages = refl;
  durable = λ moment h outer. holds-last (Decodes c start) [] moment (omega arith) (decodes-start c start none);
}

pub quiet-acts : QuietActsFollow
quiet-acts c at_start log (Load w a v) sound quiet follows found = grown c at_start log (Load w a v) sound found follows tt refl (decodes-now c at_start log sound)
quiet-acts c at_start log (Store w a v) sound quiet follows found = grown c at_start log (Store w a v) sound found follows tt refl (decodes-now c at_start log sound)
quiet-acts c at_start log (Cas w a old new is) sound quiet follows found = grown c at_start log (Cas w a old new is) sound found follows tt refl (decodes-now c at_start log sound)
quiet-acts c at_start log (Ask w line) sound quiet follows found = grown c at_start log (Ask w line) sound found follows tt refl (decodes-now c at_start log sound)
quiet-acts c at_start log mark sound quiet follows found = absurd quiet

pub flushes : FencesFollow
flushes c at_start log (Fence w) sound flush follows decodes = grown c at_start log (Fence w) sound tt follows tt refl decodes
flushes c at_start log (Evict a) sound flush follows decodes = grown c at_start log (Evict a) sound tt follows tt refl decodes
flushes c at_start log mark sound flush follows decodes = absurd flush

pub begins : BeginsFollow
begins c at_start log w n call sound may = grown c at_start log (Begin w n call) sound tt may tt refl (decodes-now c at_start log sound)

pub ends : EndsFollow
ends c at_start log answer sound is unpaged right =
    grown c at_start log (End answer.worker answer.opened.number answer.reply answer.at) sound tt (record { opened = answer.opened; is_open = is; number = refl })
    (right-end (IsSpent c log.start) c log.start log.pages log.past answer is right) (same-count (names_page answer.reply) (count_page_ends log.past) unpaged) (decodes-now c at_start log sound)

pub page-ends : PageEndsFollow
page-ends c at_start log answer pairs sound is paged right = record {
  size = sound.size;
  truthful = (tt, sound.truthful);
  once = (record { opened = answer.opened; is_open = is; number = refl }, sound.once);
  replies = (
    right-end (IsSpent c log.start) c log.start (log.pages ++ pairs ∷ []) log.past answer is right,
    right-with_more (IsSpent c log.start) c log.start log.pages (pairs ∷ []) log.past sound.replies,
  );
  pages = one-page (names_page answer.reply) log.pages pairs (count_page_ends log.past) paged sound.pages;
  durable = each-with (Decodes c log.start) (End answer.worker answer.opened.number answer.reply answer.at) log.past sound.durable (decodes-now c at_start log sound);
}

-- a fence or an eviction with the Effect of a call
with-effect : (c : Config) (at_start : Power) (log : Log) (mark : Mark) (w n : ℕ) → IsSound c at_start log → Found (words_after_marks log.start log.past) mark
    → MayFollow at_start (map_at_start c log.start) log.past mark → HasRightReply c log.start log.pages log.past mark → count_page_ends (mark ∷ log.past) ≡ count_page_ends log.past
    → MayFollow at_start (map_at_start c log.start) (mark ∷ log.past) (Effect w n) → Decodes c log.start (Effect w n ∷ mark ∷ log.past)
    → IsSound c at_start (with_mark (with_mark log mark) (Effect w n))
with-effect c at_start log mark w n sound found follows right pages effect decodes = record {
  size = sound.size;
  truthful = (tt, (found, sound.truthful));
  once = (effect, (follows, sound.once));
  replies = (tt, (right, sound.replies));
  pages = sound.pages ∙ sym pages;
  durable = each-with_two (Decodes c log.start) (Effect w n) mark log.past sound.durable (inner-effect w n mark log.past) decodes;
}

pub effects : EffectsFollowActs
effects c at_start log (Fence v) w n sound follows effect decodes = with-effect c at_start log (Fence v) w n sound tt follows tt refl effect decodes
effects c at_start log (Evict a) w n sound follows effect decodes = with-effect c at_start log (Evict a) w n sound tt follows tt refl effect decodes
effects c at_start log mark w n sound follows effect decodes = absurd effect.0

pub loads-settled : LoadsAreSettled
loads-settled c at_start log w at sound h load = sound.durable at h (outer-load _ log.past w at (powered-stands c at_start log sound).once load)
