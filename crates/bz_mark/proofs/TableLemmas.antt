-- One compact mark more, with what its table gains.
use Rattle.std.proofs.Common.{◌≡◌, ◌<◌, ◌≤◌, ℕ, List, [], ◌∷◌, ◌++◌, map, length, get_or, refl, arith}
use Rattle.std.proofs.lemmas.Grind.{common_steps}
use Rattle.std.proofs.lemmas.List.{map_push, reverse-append}
use Rattle.bz_call.specs.declared.calls.Call.{Call}
use Rattle.bz_call.specs.declared.calls.Call.TheVariants.{Get}
use Rattle.bz_call.specs.declared.replies.Reply.{Reply}
use Rattle.bz_call.specs.declared.replies.Reply.TheVariants.{Missing}
use Rattle.bz_mark.specs.declared.marks.Mark.TheVariants as mark
use Rattle.bz_mark.specs.declared.compact.CompactMark.{CompactMark}
use Rattle.bz_mark.specs.declared.compact.CompactMark.TheVariants.{Begin, End}
use Rattle.bz_mark.specs.Tables.{whole, IsPlaced, ArePlaced, past_of, IsPlain, plain_mark}

kept : {A : Type 0} (xs : List A) (x : A) (place : ℕ) (d : A) → place < length xs → get_or (xs ++ x ∷ []) place d ≡ get_or xs place d
kept xs x place d h = grind (arith, common_steps)

last : {A : Type 0} (xs : List A) (x d : A) → get_or (xs ++ x ∷ []) (length xs) d ≡ x
last xs x d = grind (arith, common_steps)

-- a mark stands for the same one over longer tables
same_call : (calls : List Call) (replies : List Reply) (call : Call) (m : CompactMark) → IsPlaced (length calls) (length replies) m
    → whole (calls ++ call ∷ []) replies m ≡ whole calls replies m
same_call calls replies call (Begin w n place) h = rw (kept calls call place (Get []) h) refl
same_call calls replies call m h = refl

same_reply : (calls : List Call) (replies : List Reply) (reply : Reply) (m : CompactMark) → IsPlaced (length calls) (length replies) m
    → whole calls (replies ++ reply ∷ []) m ≡ whole calls replies m
same_reply calls replies reply (End w n place at) h = rw (kept replies reply place Missing h) refl
same_reply calls replies reply m h = refl

same_calls : (calls : List Call) (replies : List Reply) (call : Call) (ms : List CompactMark) → ArePlaced (length calls) (length replies) ms
    → map (whole (calls ++ call ∷ []) replies) ms ≡ map (whole calls replies) ms
same_calls calls replies call [] h = refl
same_calls calls replies call (m ∷ ms) h = rw (same_call calls replies call m h.0, same_calls calls replies call ms h.1) refl

same_replies : (calls : List Call) (replies : List Reply) (reply : Reply) (ms : List CompactMark) → ArePlaced (length calls) (length replies) ms
    → map (whole calls (replies ++ reply ∷ [])) ms ≡ map (whole calls replies) ms
same_replies calls replies reply [] h = refl
same_replies calls replies reply (m ∷ ms) h = rw (same_reply calls replies reply m h.0, same_replies calls replies reply ms h.1) refl

pub past-begin : (calls : List Call) (replies : List Reply) (ms : List CompactMark) (w n : ℕ) (call : Call) → ArePlaced (length calls) (length replies) ms
    → past_of (calls ++ call ∷ []) replies (ms ++ Begin w n (length calls) ∷ []) ≡ mark.Begin w n call ∷ past_of calls replies ms
past-begin calls replies ms w n call h = rw (map_push (whole (calls ++ call ∷ []) replies) ms (Begin w n (length calls)), reverse-append, same_calls calls replies call ms h, last calls call (Get [])) refl

pub past-end : (calls : List Call) (replies : List Reply) (ms : List CompactMark) (w n at : ℕ) (reply : Reply) → ArePlaced (length calls) (length replies) ms
    → past_of calls (replies ++ reply ∷ []) (ms ++ End w n (length replies) at ∷ []) ≡ mark.End w n reply at ∷ past_of calls replies ms
past-end calls replies ms w n at reply h = rw (map_push (whole calls (replies ++ reply ∷ [])) ms (End w n (length replies) at), reverse-append, same_replies calls replies reply ms h, last replies reply Missing) refl

plain_whole : (calls : List Call) (replies : List Reply) (m : CompactMark) → IsPlain m → whole calls replies m ≡ plain_mark m
plain_whole calls replies (Begin w n place) h = absurd h
plain_whole calls replies (End w n place at) h = absurd h
plain_whole calls replies m h = refl

pub past-plain : (calls : List Call) (replies : List Reply) (ms : List CompactMark) (m : CompactMark) → IsPlain m
    → past_of calls replies (ms ++ m ∷ []) ≡ plain_mark m ∷ past_of calls replies ms
past-plain calls replies ms m h = rw (map_push (whole calls replies) ms m, reverse-append, plain_whole calls replies m h) refl

placed_longer : (c r c' r' : ℕ) (m : CompactMark) → c ≤ c' → r ≤ r' → IsPlaced c r m → IsPlaced c' r' m
placed_longer c r c' r' (Begin w n place) more_calls more_replies h = omega arith
placed_longer c r c' r' (End w n place at) more_calls more_replies h = omega arith
placed_longer c r c' r' m more_calls more_replies h = tt

pub placed_more : (c r c' r' : ℕ) (ms : List CompactMark) (m : CompactMark) → c ≤ c' → r ≤ r' → ArePlaced c r ms → IsPlaced c' r' m → ArePlaced c' r' (ms ++ m ∷ [])
placed_more c r c' r' [] m more_calls more_replies h p = (p, tt)
placed_more c r c' r' (x ∷ ms) m more_calls more_replies h p = (placed_longer c r c' r' x more_calls more_replies h.0, placed_more c r c' r' ms m more_calls more_replies h.1 p)

pub plain_placed : (c r : ℕ) (m : CompactMark) → IsPlain m → IsPlaced c r m
plain_placed c r (Begin w n place) h = absurd h
plain_placed c r (End w n place at) h = absurd h
plain_placed c r m h = tt
