-- The object of each line. This one definition says what is written and what is read.
use Rattle.std.specs.Prelude.{ℕ, ◌+◌, ◌==◌, if◌then◌else◌, List, [], ◌∷◌, ◌++◌, map, codes, Option, Some, None}
use Rattle.std.proofs.Common.{get_or}
use Rattle.serde_json.specs.Data.{Data, null, number, unsigned, string, array, object, Members, no_members, member}
use Rattle.serde_json.specs.View.{items_of}
use Rattle.bz_key.specs.Spelling.{spelled}
use Rattle.bz_call.specs.declared.calls.Call.{Call}
use Rattle.bz_call.specs.declared.calls.Call.TheVariants as call
use Rattle.bz_call.specs.declared.replies.Reply.{Reply}
use Rattle.bz_call.specs.declared.replies.Reply.TheVariants as reply
use Rattle.bz_call.specs.declared.replies.Spent.{Spent}
use Rattle.bz_call.specs.declared.replies.Spent.TheVariants as spent
use Rattle.bz_layout.specs.declared.config.Config.{Config}
use Rattle.bz_layout.specs.declared.sizes.TheConstants.{FORMAT}
use Rattle.bz_mark.specs.declared.marks.Mark.{Mark}
use Rattle.bz_mark.specs.declared.marks.Mark.TheVariants.{Begin, End, Load, Store, Cas, Ask, Fence, Evict, Cut, On, Ready, Effect}

abbrev pub number_data : ℕ → Data
number_data n = number (unsigned n)

abbrev pub list_of : List Data → Data
list_of ds = array (items_of ds)

-- an object of these members
abbrev pub named : List (List ℕ × Data) → Members
named [] = no_members
named (m ∷ ms) = member m.0 m.1 (named ms)

abbrev pub fields : List (List ℕ × Data) → Data
fields ms = object (named ms)

-- a key or a payload in its one spelling
abbrev pub spelling : List ℕ → Data
spelling bytes = string (spelled bytes)

-- the words of a call in a script, from its kind on
abbrev pub call_data : Call → Data
call_data (call.Insert key payload) = list_of (string (codes "insert") ∷ spelling key ∷ spelling payload ∷ [])
call_data (call.Delete key) = list_of (string (codes "delete") ∷ spelling key ∷ [])
call_data (call.Update key payload) = list_of (string (codes "update") ∷ spelling key ∷ spelling payload ∷ [])
call_data (call.Upsert key payload) = list_of (string (codes "upsert") ∷ spelling key ∷ spelling payload ∷ [])
call_data (call.Get key) = list_of (string (codes "get") ∷ spelling key ∷ [])
call_data (call.Page key) = list_of (string (codes "page") ∷ spelling key ∷ [])

abbrev pub spent_data : Spent → Data
spent_data spent.Nodes = list_of (string (codes "full") ∷ string (codes "nodes") ∷ [])
spent_data spent.Swaps = list_of (string (codes "full") ∷ string (codes "swaps") ∷ [])
spent_data spent.Height = list_of (string (codes "full") ∷ string (codes "height") ∷ [])

abbrev pub pair_data : (List ℕ × List ℕ) → Data
pair_data pair = list_of (spelling pair.0 ∷ spelling pair.1 ∷ [])

-- the key at which the next page begins
abbrev pub next_data : Option (List ℕ) → Data
next_data None = null
next_data (Some key) = spelling key

-- the words of a reply in a report; a page by its pairs
abbrev pub reply_data : List (List (List ℕ × List ℕ)) → Reply → Data
reply_data pages reply.Inserted = list_of (string (codes "inserted") ∷ [])
reply_data pages reply.Exists = list_of (string (codes "exists") ∷ [])
reply_data pages (reply.Deleted payload) = list_of (string (codes "deleted") ∷ spelling payload ∷ [])
reply_data pages (reply.Updated payload) = list_of (string (codes "updated") ∷ spelling payload ∷ [])
reply_data pages reply.Missing = list_of (string (codes "missing") ∷ [])
reply_data pages (reply.Value payload) = list_of (string (codes "value") ∷ spelling payload ∷ [])
reply_data pages (reply.Page page next) = list_of (string (codes "page") ∷ list_of (map pair_data (get_or pages page [])) ∷ next_data next ∷ [])
reply_data pages (reply.Full spent) = spent_data spent

-- a mark of a journal with these pages; the keys of each object ascend
abbrev pub data_of : List (List (List ℕ × List ℕ)) → Mark → Data
data_of pages (Begin w n call) = fields ((codes "call", call_data call) ∷ (codes "mark", string (codes "begin")) ∷ (codes "n", number_data n) ∷ (codes "w", number_data w) ∷ [])
data_of pages (End w n reply at) =
    fields ((codes "at", number_data at) ∷ (codes "mark", string (codes "end")) ∷ (codes "n", number_data n) ∷ (codes "reply", reply_data pages reply) ∷ (codes "w", number_data w) ∷ [])
data_of pages (Load w a v) = fields ((codes "a", number_data a) ∷ (codes "mark", string (codes "load")) ∷ (codes "v", number_data v) ∷ (codes "w", number_data w) ∷ [])
data_of pages (Store w a v) = fields ((codes "a", number_data a) ∷ (codes "mark", string (codes "store")) ∷ (codes "v", number_data v) ∷ (codes "w", number_data w) ∷ [])
data_of pages (Cas w a old new found) =
    fields ((codes "a", number_data a) ∷ (codes "found", number_data found) ∷ (codes "mark", string (codes "cas")) ∷ (codes "new", number_data new) ∷ (codes "old", number_data old) ∷ (codes "w", number_data w) ∷ [])
data_of pages (Ask w line) = fields ((codes "line", number_data line) ∷ (codes "mark", string (codes "ask")) ∷ (codes "w", number_data w) ∷ [])
data_of pages (Fence w) = fields ((codes "mark", string (codes "fence")) ∷ (codes "w", number_data w) ∷ [])
data_of pages (Evict a) = fields ((codes "a", number_data a) ∷ (codes "mark", string (codes "evict")) ∷ [])
data_of pages Cut = fields ((codes "mark", string (codes "cut")) ∷ [])
data_of pages On = fields ((codes "mark", string (codes "on")) ∷ [])
data_of pages Ready = fields ((codes "mark", string (codes "ready")) ∷ [])
data_of pages (Effect w n) = fields ((codes "mark", string (codes "effect")) ∷ (codes "n", number_data n) ∷ (codes "w", number_data w) ∷ [])

-- the pair of an address and its word, and none for a word 0
abbrev pub pair_at : ℕ → ℕ → List Data
pair_at a word = if word == 0 then [] else list_of (number_data a ∷ number_data word ∷ []) ∷ []

-- the words other than 0, each with its address, from an address on
abbrev pub word_pairs : ℕ → List ℕ → List Data
word_pairs a [] = []
word_pairs a (word ∷ words) = pair_at a word ++ word_pairs (a + 1) words

-- the first line: the format, the sizes, and the image from which the journal goes on
abbrev pub head_data : Config → List ℕ → Data
head_data c start =
    fields ((codes "format", number_data FORMAT) ∷ (codes "nodes", number_data c.nodes) ∷ (codes "start", list_of (word_pairs 0 start)) ∷ (codes "swaps", number_data c.swaps) ∷ [])
