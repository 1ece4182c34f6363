-- No line has a number with a fraction.
use Rattle.std.proofs.Common.{◌≡◌, ℕ, List, [], ◌∷◌, map, false, refl, Option, Some, None, get_or}
use Rattle.std.proofs.lemmas.Bool.{cases_Bool}
use Rattle.std.proofs.Common.{inl, inr, ◌==◌, ◌+◌}
use Rattle.serde_json.specs.View.{items_of}
use Rattle.serde_json.specs.Written.{has_float, items_have_float}
use Rattle.bz_call.specs.declared.calls.Call.{Call}
use Rattle.bz_call.specs.declared.calls.Call.TheVariants as call
use Rattle.bz_call.specs.declared.replies.Reply.{Reply}
use Rattle.bz_call.specs.declared.replies.Reply.TheVariants as reply
use Rattle.bz_call.specs.declared.replies.Spent.{Spent}
use Rattle.bz_call.specs.declared.replies.Spent.TheVariants as spent
use Rattle.bz_layout.specs.declared.config.Config.{Config}
use Rattle.bz_mark.specs.declared.marks.Mark.{Mark}
use Rattle.bz_mark.specs.declared.marks.Mark.TheVariants.{Begin, End, Load, Store, Cas, Ask, Fence, Evict, Cut, On, Ready, Effect}
use Rattle.bz_lines.specs.Objects.{call_data, spent_data, pair_data, next_data, reply_data, data_of, word_pairs, head_data}

call_whole : (call : Call) → has_float (call_data call) ≡ false
call_whole (call.Insert key payload) = refl
call_whole (call.Delete key) = refl
call_whole (call.Update key payload) = refl
call_whole (call.Upsert key payload) = refl
call_whole (call.Get key) = refl
call_whole (call.Page key) = refl

spent_whole : (spent : Spent) → has_float (spent_data spent) ≡ false
spent_whole spent.Nodes = refl
spent_whole spent.Swaps = refl
spent_whole spent.Height = refl

pairs_whole : (pairs : List (List ℕ × List ℕ)) → items_have_float (items_of (map pair_data pairs)) ≡ false
pairs_whole [] = refl
pairs_whole (pair ∷ pairs) = pairs_whole pairs

next_whole : (next : Option (List ℕ)) → has_float (next_data next) ≡ false
next_whole None = refl
next_whole (Some key) = refl

reply_whole : (pages : List (List (List ℕ × List ℕ))) (reply : Reply) → has_float (reply_data pages reply) ≡ false
reply_whole pages reply.Inserted = refl
reply_whole pages reply.Exists = refl
reply_whole pages (reply.Deleted payload) = refl
reply_whole pages (reply.Updated payload) = refl
reply_whole pages reply.Missing = refl
reply_whole pages (reply.Value payload) = refl
reply_whole pages (reply.Page page next) = rw (pairs_whole (get_or pages page []), next_whole next)
reply_whole pages (reply.Full spent) = spent_whole spent

-- the object of a mark has whole numbers alone
pub mark_whole : (pages : List (List (List ℕ × List ℕ))) (mark : Mark) → has_float (data_of pages mark) ≡ false
mark_whole pages (Begin w n call) = rw (call_whole call)
mark_whole pages (End w n reply at) = rw (reply_whole pages reply)
mark_whole pages (Load w a v) = refl
mark_whole pages (Store w a v) = refl
mark_whole pages (Cas w a old new found) = refl
mark_whole pages (Ask w line) = refl
mark_whole pages (Fence w) = refl
mark_whole pages (Evict a) = refl
mark_whole pages Cut = refl
mark_whole pages On = refl
mark_whole pages Ready = refl
mark_whole pages (Effect w n) = refl

words_whole : (words : List ℕ) (a : ℕ) → items_have_float (items_of (word_pairs a words)) ≡ false
words_whole [] a = refl
words_whole (word ∷ words) a = elim (cases_Bool (word == 0)) [
  | inl zero ↦ rw zero (words_whole words (a + 1))
  | inr some ↦ rw some (words_whole words (a + 1))
]

-- and so has the first line
pub head_whole : (c : Config) (start : List ℕ) → has_float (head_data c start) ≡ false
head_whole c start = rw (words_whole start 0)
