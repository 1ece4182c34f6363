-- What a search costs: how many words it has asked for, at most, and how many it will still ask for.
use Rattle.std.specs.Prelude.{ℕ, ◌+◌, ◌-◌, ◌*◌, ◌<◌, ◌≤◌, ◌≡◌, Some}
use Rattle.bz_layout.specs.declared.sizes.TheConstants.{SHARED_WORDS}
use Rattle.bz_layout.specs.declared.thresholds.TheConstants.{PAYLOAD_WORDS, FIND_READS_PER_RECORD}
use Rattle.bz_search.specs.Digits.{digits}
use Rattle.bz_search.specs.Probes.{still, size}
use Rattle.bz_find.specs.Bounds.{IsStep}
use Rattle.bz_find.specs.declared.search.Search.{Search}
use Rattle.bz_find.specs.declared.search.Spot.TheVariants.{Tail, Sorted}
use Rattle.bz_find.specs.declared.search.Step.{Step}
use Rattle.bz_find.specs.declared.search.Step.TheVariants.{Meta, Word, Payload, Done}

-- the most words that are read to compare records: of each after the sorted ones, of a sorted one for each binary digit of their
-- number, and one for each sorted one that was met and is not visible
abbrev pub compare_reads : Search → ℕ
compare_reads t = FIND_READS_PER_RECORD * ((t.count - t.sorted) + digits t.sorted) + t.dead

-- of the records after the sorted ones, down to one of them
abbrev pub tail_reads : Search → ℕ → ℕ
tail_reads t j = FIND_READS_PER_RECORD * (t.count - j)

-- of all of these, and of sorted ones until a part is left
abbrev pub part_reads : Search → ℕ → ℕ
part_reads t part = tail_reads t t.sorted + FIND_READS_PER_RECORD * (digits t.sorted - digits part) + t.dead

-- the most words that were asked for up to a step, with the one that it wants
abbrev pub spent_at : Search → Step → ℕ
spent_at t (Meta (Tail j)) = tail_reads t (j + 1) + 1
spent_at t (Meta (Sorted r)) = part_reads t (size (Some r)) + 1
spent_at t (Word (Tail j) w i) = tail_reads t (j + 1) + 2 + i
spent_at t (Word (Sorted r) w i) = part_reads t (size (Some r)) + 2 + i
spent_at t (Payload j w i) = compare_reads t + 1 + i
spent_at t Done = compare_reads t + PAYLOAD_WORDS

abbrev pub spent : Search → ℕ
spent t = spent_at t t.step

-- a step wants a word, but for the last
abbrev pub wants : Step → ℕ
wants Done = 0
wants step = 1

-- the most words that will be asked for after that which a step wants
abbrev pub more_at : Step → ℕ
more_at (Meta (Tail j)) = FIND_READS_PER_RECORD * (j + 1) + PAYLOAD_WORDS
more_at (Meta (Sorted r)) = FIND_READS_PER_RECORD * still (Some r) + PAYLOAD_WORDS
more_at (Word (Tail j) w i) = FIND_READS_PER_RECORD * (j + 1) + PAYLOAD_WORDS - (i + 1)
more_at (Word (Sorted r) w i) = FIND_READS_PER_RECORD * still (Some r) + PAYLOAD_WORDS - (i + 1)
more_at (Payload j w i) = PAYLOAD_WORDS - i
more_at Done = 0

-- the most words that any search asks for after its first one
abbrev pub most_more : ℕ
most_more = FIND_READS_PER_RECORD * SHARED_WORDS + PAYLOAD_WORDS

-- a search has gone on by a word
pub record Advances (t u : Search) : Type 0 where
  pub step : IsStep u
  pub spent : spent t + wants u.step ≤ spent u
  pub more : more_at u.step < more_at t.step
  pub key : u.key ≡ t.key
  pub count : u.count ≡ t.count
  pub sorted : u.sorted ≡ t.sorted
