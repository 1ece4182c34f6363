-- The records that a page shows, what a leaf says of a key, and the children of an inner node.
use Rattle.std.specs.Prelude.{ℕ, zero, suc, ◌+◌, ◌&&◌, bytes_eq, if◌then◌else◌, List, [], ◌∷◌, ◌++◌, Option, Some, None}
use Rattle.bz_key.specs.Packing.{packed_len, unpacked}
use Rattle.bz_node.specs.Reading.{payload_at, payload_len, extent_words}
use Rattle.bz_word.specs.declared.meta.Extent.{Extent}
use Rattle.bz_word.specs.declared.meta.Meta.{Meta}
use Rattle.bz_slotted.specs.Page.{words_at, visible, extent_of, Page}

-- the words of a record's key, and of what follows it
abbrev pub key_words : (ℕ → ℕ) → Extent → List ℕ
key_words n e = words_at n e.offset (packed_len e.key)

abbrev pub payload_words : (ℕ → ℕ) → Extent → List ℕ
payload_words n e = words_at n (payload_at e) (packed_len (payload_len e))

-- a record's key and payload
abbrev pub key_in : (ℕ → ℕ) → Extent → List ℕ
key_in n e = unpacked e.key (key_words n e)

abbrev pub payload_in : (ℕ → ℕ) → Extent → List ℕ
payload_in n e = unpacked (payload_len e) (payload_words n e)

-- the key of the record at a place
abbrev pub key_at : Page → ℕ → List ℕ
key_at p j = key_in p.word (extent_of (p.meta j))

-- the block words of a record
abbrev pub weight : Meta → ℕ
weight m = extent_words (extent_of m)

-- the block words of a record that is visible
abbrev pub shown : Meta → ℕ
shown m = if visible m then weight m else 0

-- the block words of the visible ones among the first records, so many
unfoldable pub live_block : (ℕ → Meta) → ℕ → ℕ
live_block meta zero = 0
live_block meta (suc n) = live_block meta n + shown (meta n)

-- the same with their metadata words
unfoldable pub live_to : (ℕ → Meta) → ℕ → ℕ
live_to meta zero = 0
live_to meta (suc n) = live_to meta n + (if visible (meta n) then 1 + weight (meta n) else 0)

-- the live words of a page: those of its visible records
abbrev pub live_words : Page → ℕ
live_words p = live_to p.meta p.count

-- the visible ones among the first records, in the order of their metadata words
unfoldable pub records_to : (ℕ → ℕ) → (ℕ → Meta) → ℕ → List (List ℕ × List ℕ)
records_to n meta zero = []
records_to n meta (suc k) = records_to n meta k ++ (if visible (meta k) then (key_in n (extent_of (meta k)), payload_in n (extent_of (meta k))) ∷ [] else [])

-- the records that a leaf shows
abbrev pub records : Page → List (List ℕ × List ℕ)
records p = records_to p.word p.meta p.count

-- the payload of a key's record among the first records, the last one first
unfoldable pub search_to : (ℕ → ℕ) → (ℕ → Meta) → List ℕ → ℕ → Option (List ℕ)
search_to n meta key zero = None
search_to n meta key (suc k) =
    if visible (meta k) && bytes_eq (key_in n (extent_of (meta k))) key
    then Some (payload_in n (extent_of (meta k)))
    else search_to n meta key k

-- what a leaf says of a key: its payload, or that there is none
abbrev pub found : Page → List ℕ → Option (List ℕ)
found p key = search_to p.word p.meta key p.count

-- where the pointer of an inner node's record stands
abbrev pub pointer_at : Page → ℕ → ℕ
pointer_at p i = payload_at (extent_of (p.meta i))
