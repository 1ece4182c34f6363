-- The steps of a search for a key in the words of a leaf.
use Rattle.std.specs.Prelude.{ℕ, ◌+◌, ◌-◌, nat_lt, if◌then◌else◌, List, take, replicate, slice_set, Option, Some, None}
use Rattle.std.specs.Cmp.Lexicographic.{slice_cmp}
use Rattle.std.specs.Ordering.{nat_cmp}
use Rattle.std.specs.declared.cmp.Ordering.{Ordering}
use Rattle.std.specs.declared.cmp.Ordering.TheVariants.{Less, Equal, Greater}
use Rattle.bz_key.specs.Packing.{packed_len, unpacked_key, unpacked_payload}
use Rattle.bz_layout.specs.declared.sizes.TheConstants.{META_AT, FENCE_WORDS}
use Rattle.bz_node.specs.Reading.{payload_at, payload_len}
use Rattle.bz_search.specs.Probes.{probe_in, lower_of, upper_of, down_of}
use Rattle.bz_search.specs.declared.probe.Probe.{Probe}
use Rattle.bz_task.specs.declared.view.Found.{Found}
use Rattle.bz_find.specs.Words.{lies, is_record}
use Rattle.bz_find.specs.declared.search.Search.{Search}
use Rattle.bz_find.specs.declared.search.Spot.{Spot}
use Rattle.bz_find.specs.declared.search.Spot.TheVariants.{Tail, Sorted}
use Rattle.bz_find.specs.declared.search.Step.{Step}
use Rattle.bz_find.specs.declared.search.Step.TheVariants.{Meta, Word, Payload, Done}

-- which record it is
abbrev pub index_of : Spot → ℕ
index_of (Tail j) = j
index_of (Sorted r) = r.index

-- the place in the leaf of the word that a step wants
abbrev pub place_of : Step → ℕ
place_of (Meta at) = META_AT + index_of at
place_of (Word at w i) = (lies w).offset + i
place_of (Payload j w i) = payload_at (lies w) + i
place_of Done = 0

-- the step at a probe
abbrev pub step_at : Option Probe → Step
step_at None = Done
step_at (Some r) = Meta (Sorted r)

-- the record before this one is the next, while it is none of the sorted ones; then these are searched by halving
abbrev pub step_below : ℕ → ℕ → Step
step_below sorted j = if nat_lt sorted j then Meta (Tail (j - 1)) else step_at (probe_in 0 sorted)

-- a search that begins in a leaf of so many records, of which so many are sorted
abbrev pub begun : List ℕ → ℕ → ℕ → Search
begun key count sorted = record { key = key; count = count; sorted = sorted; step = step_below sorted count; dead = 0; words = replicate FENCE_WORDS 0; found = None }

-- the record is none that readers see
abbrev pub passed : Search → Spot → Search
passed t (Tail j) = record t { step = step_below t.sorted j }
passed t (Sorted r) = record t { step = step_at (down_of r); dead = t.dead + 1 }

-- the payload that the words are
abbrev pub payload_read : List ℕ → ℕ → Option (List ℕ)
payload_read words w = unpacked_payload (payload_len (lies w)) (take (packed_len (payload_len (lies w))) words)

abbrev pub found_as : ℕ → ℕ → Option (List ℕ) → Option Found
found_as j w None = None
found_as j w (Some payload) = Some (record { index = j; meta = w; payload = payload })

-- the record is the key's, and its payload has been read
abbrev pub finished : Search → ℕ → ℕ → Search
finished t j w = record t { step = Done; found = found_as j w (payload_read t.words w) }

-- the record is the key's: its payload is to be read
abbrev pub matched : Search → ℕ → ℕ → Search
matched t j w = if nat_lt 0 (packed_len (payload_len (lies w))) then record t { step = Payload j w 0 } else finished t j w

-- how the key compares with the one that the words are; words that are none are taken for a later one
abbrev pub compared_with : List ℕ → Option (List ℕ) → Ordering
compared_with key None = Less
compared_with key (Some read) = slice_cmp nat_cmp key read

abbrev pub key_order : Search → ℕ → Ordering
key_order t w = compared_with t.key (unpacked_key (lies w).key (take (packed_len (lies w).key) t.words))

-- the key has been compared with that of the record
abbrev pub ordered : Search → Spot → ℕ → Ordering → Search
ordered t (Tail j) w Less = record t { step = step_below t.sorted j }
ordered t (Tail j) w Equal = matched t j w
ordered t (Tail j) w Greater = record t { step = step_below t.sorted j }
ordered t (Sorted r) w Less = record t { step = step_at (lower_of r) }
ordered t (Sorted r) w Equal = matched t r.index w
ordered t (Sorted r) w Greater = record t { step = step_at (upper_of r) }

-- one of the words of a key, or of a payload, has been read
abbrev pub key_word : Search → Spot → ℕ → ℕ → Search
key_word t at w i = if nat_lt (i + 1) (packed_len (lies w).key) then record t { step = Word at w (i + 1) } else ordered t at w (key_order t w)

abbrev pub payload_word : Search → ℕ → ℕ → ℕ → Search
payload_word t j w i = if nat_lt (i + 1) (packed_len (payload_len (lies w))) then record t { step = Payload j w (i + 1) } else finished t j w

-- the word that a step wants has been read
abbrev pub heard_at : Search → Step → ℕ → Search
heard_at t (Meta at) v = if is_record v then record t { step = Word at v 0 } else passed t at
heard_at t (Word at w i) v = key_word (record t { words = slice_set t.words i v }) at w i
heard_at t (Payload j w i) v = payload_word (record t { words = slice_set t.words i v }) j w i
heard_at t Done v = t

abbrev pub heard : Search → ℕ → Search
heard t v = heard_at t t.step v
