-- What the object of a line says, for reading. Members that are not asked for are passed over: whether a line has just its
-- own members is seen when the mark is written again.
use Rattle.std.specs.Prelude.{ℕ, ◌-◌, ◌/◌, ◌^◌, ◌&&◌, nat_le, nat_lt, bytes_eq, Bool, false, if◌then◌else◌, List, [], ◌∷◌, ◌++◌, length, codes, Option, Some, None, option_map, option_and_then}
use Rattle.serde_json.specs.Data.{Data, null, boolean, number, string, array, object, Items, no_items, item}
use Rattle.serde_json.specs.Find.{get, at, as_array, as_number, as_str, as_u64}
use Rattle.bz_key.specs.Spelling.{key_of_word, payload_of_word}
use Rattle.bz_key.specs.declared.limits.TheConstants.{PAGE_PAIRS}
use Rattle.bz_call.specs.declared.calls.Call.{Call}
use Rattle.bz_call.specs.declared.calls.Call.TheVariants as call
use Rattle.bz_call.specs.declared.replies.Reply.{Reply}
use Rattle.bz_call.specs.declared.replies.Reply.TheVariants as reply
use Rattle.bz_call.specs.declared.replies.Spent.{Spent}
use Rattle.bz_call.specs.declared.replies.Spent.TheVariants as spent
use Rattle.bz_layout.specs.declared.limits.TheConstants.{MAX_WORKERS}
use Rattle.bz_layout.specs.declared.sizes.TheConstants.{LINE_WORDS}
use Rattle.bz_mark.specs.declared.marks.Mark.{Mark}
use Rattle.bz_mark.specs.declared.marks.Mark.TheVariants.{Begin, End, Load, Store, Cas, Ask, Fence, Evict, Cut, On, Ready, Effect}

-- a number in a range
abbrev pub within : ℕ → ℕ → Option ℕ → Option ℕ
within low high None = None
within low high (Some n) = if nat_le low n && nat_le n high then Some n else None

abbrev pub number_in : Data → Option ℕ
number_in d = option_and_then as_u64 (as_number d)

-- the number of a member, in a range
abbrev pub number_at : List ℕ → ℕ → ℕ → Data → Option ℕ
number_at key low high d = within low high (option_and_then number_in (get key d))

-- the text of an item
abbrev pub text_at : ℕ → Data → Option (List ℕ)
text_at place d = option_and_then as_str (at place d)

abbrev pub is_text : Option (List ℕ) → List ℕ → Bool
is_text None text = false
is_text (Some found) text = bytes_eq found text

abbrev pub key_at : ℕ → Data → Option (List ℕ)
key_at place d = option_and_then key_of_word (text_at place d)

abbrev pub payload_at : ℕ → Data → Option (List ℕ)
payload_at place d = option_and_then payload_of_word (text_at place d)

-- several answers as one, where each is there
abbrev pub both : {A B C : Type 0} → (A → B → C) → Option A → Option B → Option C
both f None y = None
both f (Some x) None = None
both f (Some x) (Some y) = Some (f x y)

abbrev pub all_three : {A B C D : Type 0} → (A → B → C → D) → Option A → Option B → Option C → Option D
all_three f x y z = both (λ g z. g z) (both f x y) z

-- the call that a list of words asks for
abbrev pub call_in : Data → Option Call
call_in d =
    if is_text (text_at 0 d) (codes "insert") then both call.Insert (key_at 1 d) (payload_at 2 d)
    else (if is_text (text_at 0 d) (codes "delete") then option_map call.Delete (key_at 1 d)
    else (if is_text (text_at 0 d) (codes "update") then both call.Update (key_at 1 d) (payload_at 2 d)
    else (if is_text (text_at 0 d) (codes "upsert") then both call.Upsert (key_at 1 d) (payload_at 2 d)
    else (if is_text (text_at 0 d) (codes "get") then option_map call.Get (key_at 1 d)
    else (if is_text (text_at 0 d) (codes "page") then option_map call.Page (key_at 1 d)
    else None)))))

abbrev pub spent_in : Data → Option Spent
spent_in d =
    if is_text (text_at 1 d) (codes "nodes") then Some spent.Nodes
    else (if is_text (text_at 1 d) (codes "swaps") then Some spent.Swaps
    else (if is_text (text_at 1 d) (codes "height") then Some spent.Height
    else None))

-- the key at which the next page begins, or that there is none
abbrev pub next_in : Option Data → Option (Option (List ℕ))
next_in None = None
next_in (Some null) = Some None
next_in (Some (string s)) = option_map (λ key. Some key) (key_of_word s)
next_in (Some (boolean b)) = None
next_in (Some (number n)) = None
next_in (Some (array ds)) = None
next_in (Some (object ms)) = None

-- the reply that a list of words tells; a page gets this number
abbrev pub reply_in : ℕ → Data → Option Reply
reply_in page d =
    if is_text (text_at 0 d) (codes "inserted") then Some reply.Inserted
    else (if is_text (text_at 0 d) (codes "exists") then Some reply.Exists
    else (if is_text (text_at 0 d) (codes "deleted") then option_map reply.Deleted (payload_at 1 d)
    else (if is_text (text_at 0 d) (codes "updated") then option_map reply.Updated (payload_at 1 d)
    else (if is_text (text_at 0 d) (codes "missing") then Some reply.Missing
    else (if is_text (text_at 0 d) (codes "value") then option_map reply.Value (payload_at 1 d)
    else (if is_text (text_at 0 d) (codes "page") then option_map (reply.Page page) (next_in (at 2 d))
    else (if is_text (text_at 0 d) (codes "full") then option_map reply.Full (spent_in d)
    else None)))))))

-- the pair that a list of two texts tells
abbrev pub pair_in : Data → Option (List ℕ × List ℕ)
pair_in d = both (λ key payload. (key, payload)) (key_at 0 d) (payload_at 1 d)

-- the pairs that were read with that of an item, if there is room on a page
abbrev pub added : Data → List (List ℕ × List ℕ) → Option (List (List ℕ × List ℕ))
added d read = if nat_lt (length read) PAGE_PAIRS then option_map (λ pair. read ++ pair ∷ []) (pair_in d) else None

-- and with those of all items
abbrev pub pairs_in : List Data → List (List ℕ × List ℕ) → Option (List (List ℕ × List ℕ))
pairs_in [] read = Some read
pairs_in (d ∷ ds) read = option_and_then (pairs_in ds) (added d read)

abbrev pub worker_in : Data → Option ℕ
worker_in d = number_at (codes "w") 0 MAX_WORKERS d

abbrev pub name_in : Data → Option (ℕ × ℕ)
name_in d = both (λ (w n : ℕ). (w, n)) (worker_in d) (number_at (codes "n") 1 (2 ^ 32 - 1) d)

abbrev pub word_in : List ℕ → Data → Option ℕ
word_in key d = number_at key 0 (2 ^ 64 - 1) d

-- what each kind of mark says; `last` is the last address of the memory
abbrev pub begin_in : Data → Option Mark
begin_in d = both (λ (name : ℕ × ℕ) (call : Call). Begin name.0 name.1 call) (name_in d) (option_and_then call_in (get (codes "call") d))

abbrev pub end_in : ℕ → ℕ → Data → Option Mark
end_in before page d =
    all_three (λ (name : ℕ × ℕ) (reply : Reply) (at : ℕ). End name.0 name.1 reply at) (name_in d) (option_and_then (reply_in page) (get (codes "reply") d)) (number_at (codes "at") 0 before d)

abbrev pub load_in : ℕ → Data → Option Mark
load_in last d = all_three Load (worker_in d) (number_at (codes "a") 0 last d) (word_in (codes "v") d)

abbrev pub store_in : ℕ → Data → Option Mark
store_in last d = all_three Store (worker_in d) (number_at (codes "a") 0 last d) (word_in (codes "v") d)

abbrev pub cas_in : ℕ → Data → Option Mark
cas_in last d =
    both (λ (swap : ℕ × ℕ × ℕ) (place : ℕ × ℕ). Cas place.0 place.1 swap.0 swap.1 swap.2) (all_three (λ (old new found : ℕ). (old, new, found)) (word_in (codes "old") d) (word_in (codes "new") d) (word_in (codes "found") d))
    (both (λ (w a : ℕ). (w, a)) (worker_in d) (number_at (codes "a") 0 last d))

-- the worker and the line of an ask
abbrev pub line_in : ℕ → Data → Option (ℕ × ℕ)
line_in last d = both (λ (w line : ℕ). (w, line)) (worker_in d) (number_at (codes "line") 0 (last / LINE_WORDS) d)

abbrev pub kind_text : Data → Option (List ℕ)
kind_text d = option_and_then as_str (get (codes "mark") d)

-- an act of a worker
abbrev pub act_in : Option (List ℕ) → ℕ → Data → Option Mark
act_in kind last d =
    if is_text kind (codes "load") then load_in last d
    else (if is_text kind (codes "store") then store_in last d
    else (if is_text kind (codes "cas") then cas_in last d
    else (if is_text kind (codes "ask") then option_map (λ (place : ℕ × ℕ). Ask place.0 place.1) (line_in last d)
    else (if is_text kind (codes "fence") then option_map Fence (worker_in d)
    else None))))

-- a mark that is none
abbrev pub event_in : Option (List ℕ) → ℕ → Data → Option Mark
event_in kind last d =
    if is_text kind (codes "evict") then option_map Evict (number_at (codes "a") 0 last d)
    else (if is_text kind (codes "effect") then option_map (λ (name : ℕ × ℕ). Effect name.0 name.1) (name_in d)
    else (if is_text kind (codes "cut") then Some Cut
    else (if is_text kind (codes "on") then Some On
    else (if is_text kind (codes "ready") then Some Ready
    else None))))

-- the first answer, or the second where there is none
abbrev pub either_of : {A : Type 0} → Option A → Option A → Option A
either_of None y = y
either_of (Some x) y = Some x

-- the mark that an object tells, of a memory with this last address, behind so many marks; a page gets this number
abbrev pub kind_in : Option (List ℕ) → ℕ → ℕ → ℕ → Data → Option Mark
kind_in kind last before page d =
    if is_text kind (codes "begin") then begin_in d
    else (if is_text kind (codes "end") then end_in before page d
    else either_of (act_in kind last d) (event_in kind last d))

abbrev pub mark_in : ℕ → ℕ → ℕ → Data → Option Mark
mark_in last before page d = kind_in (kind_text d) last before page d

-- the items of an array as a list
abbrev pub listed : Items → List Data
listed no_items = []
listed (item d ds) = d ∷ listed ds

-- the pairs of the page that the object of an End tells, as they stand there, and read
abbrev pub page_items : Data → Option Items
page_items d = option_and_then as_array (option_and_then (at 1) (get (codes "reply") d))

abbrev pub page_in : Data → Option (List (List ℕ × List ℕ))
page_in d = option_and_then (λ ds. pairs_in (listed ds) []) (page_items d)
