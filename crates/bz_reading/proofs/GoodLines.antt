-- The objects of lines in range are made of whole numbers and plain texts.
use Rattle.std.proofs.Common.{◌≡◌, ◌<◌, ◌^◌, ◌&&◌, ◌||◌, ◌==◌, ℕ, Bool, true, List, [], ◌∷◌, map, get_or, Option, Some, None, refl, arith}
use Rattle.std.specs.Prelude.{IfSome}
use Rattle.std.specs.List.{AllByRecursion}
use Rattle.std.proofs.lemmas.List.Elements.{recursion_from_All}
use Rattle.serde_json.specs.View.{items_of}
use Rattle.bz_key.specs.Bytes.{AreBytes, IsKey}
use Rattle.bz_key.specs.Spelling.{is_plain, IsSpellingByte, spelled}
use Rattle.bz_key.proofs.Proved.{spelling_is_plain}
use Rattle.bz_call.specs.declared.calls.Call.{Call}
use Rattle.bz_call.specs.declared.calls.Call.TheVariants as call
use Rattle.bz_call.specs.declared.replies.Reply.{Reply}
use Rattle.bz_call.specs.declared.replies.Reply.TheVariants as reply
use Rattle.bz_call.specs.declared.replies.Spent.TheVariants as spent
use Rattle.bz_mark.specs.declared.marks.Mark.{Mark}
use Rattle.bz_mark.specs.declared.marks.Mark.TheVariants.{Begin, End, Load, Store, Cas, Ask, Fence, Evict, Cut, On, Ready, Effect}
use Rattle.bz_lines.specs.Objects.{call_data, pair_data, next_data, reply_data, data_of}
use Rattle.bz_lines.specs.Ranges.{IsCallInRange, IsReplyInRange, IsInRange, IsPair, ArePairs}
use Rattle.bz_reading.proofs.Good.{IsGood, AreGoodItems, are_plain}

and_true : (b c : Bool) → b ≡ true → c ≡ true → (b && c) ≡ true
and_true b c h k = rw (h, k)

plain_all : (xs : List ℕ) → AllByRecursion IsSpellingByte xs → are_plain xs ≡ true
plain_all [] h = refl
plain_all (x ∷ xs) h = and_true (is_plain x || (x == 37)) (are_plain xs) h.0 (plain_all xs h.1)

spelled_plain : (bytes : List ℕ) → AreBytes bytes → are_plain (spelled bytes) ≡ true
spelled_plain bytes each = plain_all _ (recursion_from_All _ _ (spelling_is_plain bytes each))

call_good : (call : Call) → IsCallInRange call → IsGood 3 (call_data call)
call_good (call.Insert key payload) h = (omega arith, (refl, (spelled_plain key h.0.each, (spelled_plain payload h.1.each, tt))))
call_good (call.Delete key) h = (omega arith, (refl, (spelled_plain key h.each, tt)))
call_good (call.Update key payload) h = (omega arith, (refl, (spelled_plain key h.0.each, (spelled_plain payload h.1.each, tt))))
call_good (call.Upsert key payload) h = (omega arith, (refl, (spelled_plain key h.0.each, (spelled_plain payload h.1.each, tt))))
call_good (call.Get key) h = (omega arith, (refl, (spelled_plain key h.each, tt)))
call_good (call.Page key) h = (omega arith, (refl, (spelled_plain key h.each, tt)))

pairs_good : (pairs : List (List ℕ × List ℕ)) → AllByRecursion IsPair pairs → AreGoodItems 1 (items_of (map pair_data pairs))
pairs_good [] h = tt
pairs_good (pair ∷ pairs) h = ((omega arith, (spelled_plain pair.0 h.0.0.each, (spelled_plain pair.1 h.0.1.each, tt))), pairs_good pairs h.1)

next_good : (next : Option (List ℕ)) → IfSome next IsKey → IsGood 2 (next_data next)
next_good None h = tt
next_good (Some key) h = spelled_plain key h.each

-- the page that a reply names, if it names one, is one that may be told
abbrev pub HasPage : List (List (List ℕ × List ℕ)) → Reply → Type 0
HasPage pages (reply.Page page next) = ArePairs (get_or pages page [])
HasPage pages other = Unit {0}

abbrev pub MarkHasPage : List (List (List ℕ × List ℕ)) → Mark → Type 0
MarkHasPage pages (End w n reply at) = HasPage pages reply
MarkHasPage pages mark = Unit {0}

reply_good : (pages : List (List (List ℕ × List ℕ))) (reply : Reply) → IsReplyInRange reply → HasPage pages reply → IsGood 3 (reply_data pages reply)
reply_good pages reply.Inserted h p = (omega arith, (refl, tt))
reply_good pages reply.Exists h p = (omega arith, (refl, tt))
reply_good pages (reply.Deleted payload) h p = (omega arith, (refl, (spelled_plain payload h.each, tt)))
reply_good pages (reply.Updated payload) h p = (omega arith, (refl, (spelled_plain payload h.each, tt)))
reply_good pages reply.Missing h p = (omega arith, (refl, tt))
reply_good pages (reply.Value payload) h p = (omega arith, (refl, (spelled_plain payload h.each, tt)))
reply_good pages (reply.Page page next) h p = (omega arith, (refl, ((omega arith, pairs_good (get_or pages page []) p.each), (next_good next h, tt))))
reply_good pages (reply.Full spent.Nodes) h p = (omega arith, (refl, (refl, tt)))
reply_good pages (reply.Full spent.Swaps) h p = (omega arith, (refl, (refl, tt)))
reply_good pages (reply.Full spent.Height) h p = (omega arith, (refl, (refl, tt)))

-- the object of a mark in range
pub mark_good : (pages : List (List (List ℕ × List ℕ))) (words before : ℕ) (mark : Mark) → words < 2 ^ 32 → before < 2 ^ 32 → IsInRange words before mark → MarkHasPage pages mark → IsGood 4 (data_of pages mark)
mark_good pages words before (Begin w n call) few past h p = (omega arith, (refl, call_good call h.1, (refl, refl, (refl, omega (arith, h.0.last), (refl, omega (arith, h.0.worker), tt)))), refl)
mark_good pages words before (End w n reply at) few past h p = (omega arith, (refl, omega (arith, h.2), (refl, refl, (refl, omega (arith, h.0.last), (refl, reply_good pages reply h.1 p, (refl, omega (arith, h.0.worker), tt))))), refl)
mark_good pages words before (Load w a v) few past h p = (omega arith, (refl, omega (arith, h.1), (refl, refl, (refl, h.2, (refl, omega (arith, h.0), tt)))), refl)
mark_good pages words before (Store w a v) few past h p = (omega arith, (refl, omega (arith, h.1), (refl, refl, (refl, h.2, (refl, omega (arith, h.0), tt)))), refl)
mark_good pages words before (Cas w a old new found) few past h p = (omega arith, (refl, omega (arith, h.1), (refl, h.4, (refl, refl, (refl, h.3, (refl, h.2, (refl, omega (arith, h.0), tt)))))), refl)
mark_good pages words before (Ask w line) few past h p = (omega arith, (refl, omega (arith, h.1), (refl, refl, (refl, omega (arith, h.0), tt))), refl)
mark_good pages words before (Fence w) few past h p = (omega arith, (refl, refl, (refl, omega (arith, h), tt)), refl)
mark_good pages words before (Evict a) few past h p = (omega arith, (refl, omega (arith, h), (refl, refl, tt)), refl)
mark_good pages words before Cut few past h p = (omega arith, (refl, refl, tt), refl)
mark_good pages words before On few past h p = (omega arith, (refl, refl, tt), refl)
mark_good pages words before Ready few past h p = (omega arith, (refl, refl, tt), refl)
mark_good pages words before (Effect w n) few past h p = (omega arith, (refl, refl, (refl, omega (arith, h.last), (refl, omega (arith, h.worker), tt))), refl)
