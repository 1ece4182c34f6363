-- What was written of a call, a reply or a mark is read as it was.
use Rattle.std.proofs.Common.{◌≡◌, ◌<◌, ◌≤◌, ◌+◌, ◌-◌, ◌*◌, ◌/◌, ◌^◌, nat_lt, true, ℕ, List, [], ◌∷◌, ◌++◌, map, length, Option, Some, None, option_map, option_and_then, refl, sym, ap, ◌∙◌, arith, append_assoc, append-nil, length-append}
use Rattle.std.proofs.lemmas.Bool.Decides.{nat_tests}
use Rattle.std.specs.Prelude.{IfSome}
use Rattle.std.specs.List.{AllByRecursion}
use Rattle.serde_json.specs.Find.{at}
use Rattle.bz_key.specs.Bytes.{IsKey, IsPayload}
use Rattle.bz_key.specs.Spelling.{spelled, key_of_word, payload_of_word}
use Rattle.bz_key.specs.declared.limits.TheConstants.{PAGE_PAIRS}
use Rattle.bz_key.proofs.Proved.{keys_are_read, payloads_are_read}
use Rattle.bz_call.specs.declared.calls.Call.{Call}
use Rattle.bz_call.specs.declared.calls.Call.TheVariants as call
use Rattle.bz_call.specs.declared.replies.Reply.{Reply}
use Rattle.bz_call.specs.declared.replies.Reply.TheVariants as reply
use Rattle.bz_call.specs.declared.replies.Spent.TheVariants as spent
use Rattle.bz_mark.specs.declared.marks.Mark.{Mark}
use Rattle.bz_mark.specs.declared.marks.Mark.TheVariants.{Begin, End, Load, Store, Cas, Ask, Fence, Evict, Cut, On, Ready, Effect}
use Rattle.bz_lines.specs.Objects.{number_data, call_data, pair_data, next_data, reply_data, data_of}
use Rattle.bz_lines.specs.Ranges.{IsName, IsCallInRange, IsReplyInRange, IsInRange, IsPair, ArePairs, HasNumber, IsNumbered}
use Rattle.bz_reading.specs.Reading.{within, both, number_in, call_in, next_in, reply_in, pair_in, pairs_in, mark_in}

pub key_again : (key : List ℕ) → IsKey key → key_of_word (spelled key) ≡ Some key
key_again key h = (keys_are_read (spelled key) key).1 (h, refl)

pub payload_again : (payload : List ℕ) → IsPayload payload → payload_of_word (spelled payload) ≡ Some payload
payload_again payload h = (payloads_are_read (spelled payload) payload).1 (h, refl)

pub within_again : (low high n : ℕ) → low ≤ n → n ≤ high → within low high (Some n) ≡ Some n
within_again low high n l h = grind (arith, nat_tests)

pub call_again : (call : Call) → IsCallInRange call → call_in (call_data call) ≡ Some call
call_again (call.Insert key payload) h = rw (key_again key h.0, payload_again payload h.1)
call_again (call.Delete key) h = rw (key_again key h)
call_again (call.Update key payload) h = rw (key_again key h.0, payload_again payload h.1)
call_again (call.Upsert key payload) h = rw (key_again key h.0, payload_again payload h.1)
call_again (call.Get key) h = rw (key_again key h)
call_again (call.Page key) h = rw (key_again key h)

next_again : (next : Option (List ℕ)) → IfSome next IsKey → next_in (Some (next_data next)) ≡ Some next
next_again None h = refl
next_again (Some key) h = rw (key_again key h)

pub reply_again : (pages : List (List (List ℕ × List ℕ))) (number : ℕ) (reply : Reply) → IsReplyInRange reply → HasNumber number reply → reply_in number (reply_data pages reply) ≡ Some reply
reply_again pages number reply.Inserted h is = refl
reply_again pages number reply.Exists h is = refl
reply_again pages number (reply.Deleted payload) h is = rw (payload_again payload h)
reply_again pages number (reply.Updated payload) h is = rw (payload_again payload h)
reply_again pages number reply.Missing h is = refl
reply_again pages number (reply.Value payload) h is = rw (payload_again payload h)
reply_again pages number (reply.Page page next) h is = ap (option_map (reply.Page number)) (next_again next h) ∙ ap (λ (p : ℕ). Some (reply.Page p next)) (sym is)
reply_again pages number (reply.Full spent.Nodes) h is = refl
reply_again pages number (reply.Full spent.Swaps) h is = refl
reply_again pages number (reply.Full spent.Height) h is = refl

number_again : (low high n : ℕ) → low ≤ n → n ≤ high → within low high (option_and_then number_in (Some (number_data n))) ≡ Some n
number_again low high n l h = within_again low high n l h

name_again : (w n : ℕ) → IsName w n → both {C = ℕ × ℕ} (λ (w n : ℕ). (w, n)) (within 0 64 (Some w)) (within 1 (2 ^ 32 - 1) (Some n)) ≡ Some (w, n)
name_again w n h = rw (within_again 0 64 w (omega arith) h.worker, within_again 1 (2 ^ 32 - 1) n h.first (omega (arith, h.last)))

word_again : (v : ℕ) → v < 2 ^ 64 → within 0 (2 ^ 64 - 1) (Some v) ≡ Some v
word_again v h = within_again 0 (2 ^ 64 - 1) v (omega arith) (omega arith)

worker_again : (w : ℕ) → w ≤ 64 → within 0 64 (Some w) ≡ Some w
worker_again w h = within_again 0 64 w (omega arith) h

place_again : (last a : ℕ) → a < last + 1 → within 0 last (Some a) ≡ Some a
place_again last a h = within_again 0 last a (omega arith) (omega arith)

line_again : (last line : ℕ) → line * 8 < last + 1 → within 0 (last / 8) (Some line) ≡ Some line
line_again last line h = within_again 0 (last / 8) line (omega arith) (omega arith)

-- the object of a mark in range is read as that mark
pub mark_again : (pages : List (List (List ℕ × List ℕ))) (last before number : ℕ) (mark : Mark) → IsInRange (last + 1) before mark → IsNumbered number mark → mark_in last before number (data_of pages mark) ≡ Some mark
mark_again pages last before number (Begin w n call) h is = rw (name_again w n h.0, call_again call h.1)
mark_again pages last before number (End w n reply at) h is = rw (name_again w n h.0, reply_again pages number reply h.1 is, within_again 0 before at (omega arith) h.2)
mark_again pages last before number (Load w a v) h is = rw (worker_again w h.0, place_again last a h.1, word_again v h.2)
mark_again pages last before number (Store w a v) h is = rw (worker_again w h.0, place_again last a h.1, word_again v h.2)
mark_again pages last before number (Cas w a old new found) h is = rw (word_again old h.2, word_again new h.3, word_again found h.4, worker_again w h.0, place_again last a h.1)
mark_again pages last before number (Ask w line) h is = rw (worker_again w h.0, line_again last line h.1)
mark_again pages last before number (Fence w) h is = rw (worker_again w h)
mark_again pages last before number (Evict a) h is = rw (place_again last a h)
mark_again pages last before number Cut h is = refl
mark_again pages last before number On h is = refl
mark_again pages last before number Ready h is = refl
mark_again pages last before number (Effect w n) h is = rw (name_again w n h)

pair_again : (pair : List ℕ × List ℕ) → IsPair pair → pair_in (pair_data pair) ≡ Some pair
pair_again pair h = rw (key_again pair.0 h.0, payload_again pair.1 h.1)

pairs_more : (pairs read : List (List ℕ × List ℕ)) → AllByRecursion IsPair pairs → length read + length pairs ≤ PAGE_PAIRS → pairs_in (map pair_data pairs) read ≡ Some (read ++ pairs)
pairs_more [] read each few = ap (λ (ps : List (List ℕ × List ℕ)). Some ps) (sym (append-nil read))
pairs_more (pair ∷ pairs) read each few =
    let room : nat_lt (length read) PAGE_PAIRS ≡ true = grind (arith, nat_tests) in
    rw (room, pair_again pair each.0) (pairs_more pairs (read ++ pair ∷ []) each.1 (omega (arith, length-append read (pair ∷ []))) ∙ ap (λ (ps : List (List ℕ × List ℕ)). Some ps) (append_assoc read (pair ∷ []) pairs))

-- the list of a page's pairs is read as they are
pub pairs_again : (pairs : List (List ℕ × List ℕ)) → ArePairs pairs → pairs_in (map pair_data pairs) [] ≡ Some pairs
pairs_again pairs h = pairs_more pairs [] h.each (omega (arith, h.few))
