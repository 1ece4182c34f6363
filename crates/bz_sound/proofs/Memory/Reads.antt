-- What the image has for a key directly after a load answers a call as the map does.
use Rattle.std.proofs.Common.{◌≡◌, ℕ, List, refl, sym, ◌∙◌, subst, Option, Some, None}
use Rattle.std.specs.FinMap.{get}
use Rattle.bz_layout.specs.declared.config.Config.{Config}
use Rattle.bz_content.specs.Content.{content_in}
use Rattle.bz_call.specs.Map.{Map, key_of, apply_at}
use Rattle.bz_call.specs.declared.calls.Call.{Call}
use Rattle.bz_call.specs.declared.calls.Call.TheVariants.{Insert, Delete, Update, Get}
use Rattle.bz_call.specs.declared.replies.Reply.{Reply}
use Rattle.bz_call.specs.declared.replies.Reply.TheVariants.{Exists, Missing, Value}
use Rattle.bz_call.specs.declared.replies.Spent.{Spent}
use Rattle.bz_mark.specs.Log.{Log}
use Rattle.bz_mark.specs.Moments.{at_moment}
use Rattle.bz_sound.specs.Calls.{Open, map_at}
use Rattle.bz_sound.specs.Replies.{AnswersOnly}
use Rattle.bz_sound.specs.Memory.ImageLaws.{ReadsAt, ImageAnswersBy, AnswersComeFromTheImage}
use Rattle.bz_sound.specs.Memory.Moments.{image_at, map_at_start, Decodes}
use Rattle.bz_sound.specs.Memory.Replies.{IsRead, IsAnswerBy, IsRightReplyBy}
use Rattle.bz_sound.specs.Memory.Spent.{IsSpent}
use Rattle.bz_sound.proofs.Memory.Settled.{loads-settled}

-- where the words decode the map has for a key what the image has
pub has-content : (c : Config) (log : Log) (at : ℕ) → Decodes c log.start (at_moment at log.past) → (key : List ℕ)
    → content_in c (image_at log.start at log.past) key ≡ get (map_at (map_at_start c log.start) at log.past) key
has-content c log at decodes key = decodes.content key

answers : (map : Map) (call asked : Call) (reply : Reply) (found : Option (List ℕ)) → asked ≡ call → get map (key_of call) ≡ found → (apply_at found map call).reply ≡ Some reply
    → (apply_at found map call).map ≡ map → AnswersOnly map asked reply
answers map call asked reply found is has replies stays = subst (λ (other : Call). AnswersOnly map other reply) (sym is) (record { answers = rw has replies; stays = rw has stays })

-- a reply that is right if it is read
right-read : (Cause : Spent → Type 0) (c : Config) (log : Log) (w at : ℕ) (opened : Open) (reply : Reply) → ReadsAt log.past w opened at
    → (IsRead c log.start log.past (record { worker = w; opened = opened; reply = reply; at = at })
    → IsAnswerBy Cause c log.start log.pages log.past (record { worker = w; opened = opened; reply = reply; at = at }) None reply)
    → AnswersOnly (map_at (map_at_start c log.start) at log.past) opened.call reply
    → IsRightReplyBy Cause c log.start log.pages log.past (record { worker = w; opened = opened; reply = reply; at = at })
right-read Cause c log w at opened reply reads is_read is = record {
  after_begin = reads.after_begin;
  before_end = reads.before_end;
  right = subst (λ (effect : Option ℕ). IsAnswerBy Cause c log.start log.pages log.past (record { worker = w; opened = opened; reply = reply; at = at }) effect reply) (sym reads.quiet)
      (is_read (record { loaded = reads.loaded; answers = is }));
}

pub answers-by : (Cause : Spent → Type 0) (c : Config) (log : Log) (w at : ℕ) (opened : Open) → Decodes c log.start (at_moment at log.past) → ReadsAt log.past w opened at
    → ImageAnswersBy Cause c log w opened at
answers-by Cause c log w at opened decodes reads = record {
  exists = λ key payload had asked is. right-read Cause c log w at opened Exists reads (λ r. r) (answers _ (Insert key payload) opened.call Exists (Some had) asked (has key (Some had) is) refl refl);
  value = λ key had asked is. right-read Cause c log w at opened (Value had) reads (λ r. r) (answers _ (Get key) opened.call (Value had) (Some had) asked (has key (Some had) is) refl refl);
  no_value = λ key asked is. right-read Cause c log w at opened Missing reads (λ r. r) (answers _ (Get key) opened.call Missing None asked (has key None is) refl refl);
  no_delete = λ key asked is. right-read Cause c log w at opened Missing reads (λ r. r) (answers _ (Delete key) opened.call Missing None asked (has key None is) refl refl);
  no_update = λ key payload asked is. right-read Cause c log w at opened Missing reads (λ r. r) (answers _ (Update key payload) opened.call Missing None asked (has key None is) refl refl);
}
  where
    has : (key : List ℕ) (found : Option (List ℕ)) → content_in c (image_at log.start at log.past) key ≡ found → get (map_at (map_at_start c log.start) at log.past) key ≡ found
    has key found is = sym (has-content c log at decodes key) ∙ is

pub image-answers : AnswersComeFromTheImage
image-answers c log w at opened sound reads = answers-by (IsSpent c log.start log.past w opened) c log w at opened (loads-settled c log w at sound reads.before_end reads.loaded) reads
