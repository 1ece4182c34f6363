-- The tables beside the words after a change of one place.
use Rattle.std.specs.Prelude.{◌≡◌, if◌then◌else◌, ℕ, ◌+◌, ◌<◌, Bool, true, false, List, length, slice_index, slice_set, get_or}
use Rattle.std.proofs.Common.{arith}
use Rattle.std.proofs.lemmas.List.{get_or-set_same, get_or-set_other}
use Rattle.std.proofs.lemmas.Grind.{common_steps}
use Rattle.bz_swap_machine.specs.Machine.{is_succeeded}
use Rattle.bz_swap_machine.specs.Changes.{put, with_word, with_tag, with_miss}
use Rattle.bz_word.specs.declared.kind.WordKind.TheVariants.{Tag}
use Rattle.bz_swap_cells.specs.Store.{Store, Beside, typed, status_at}

pub number-set : (xs : List ℕ) (a x b : ℕ) → a < length xs → slice_index (slice_set xs a x) b ≡ put (slice_index xs) a x b
number-set xs a x b within = grind (arith, common_steps, get_or-set_same xs a x 0 within, get_or-set_other xs a b x 0)

note-set : (xs : List Bool) (a : ℕ) (x : Bool) (b : ℕ) → a < length xs → get_or (slice_set xs a x) b false ≡ put (λ c. get_or xs c false) a x b
note-set xs a x b within = grind (arith, common_steps, get_or-set_same xs a x false within, get_or-set_other xs a b x false)

-- a swap is noted, unless it has taken effect
pub typed-missed : (st : Store) (b : Beside) (s : ℕ) (x : Bool) → s < length st.missed
    → x ≡ (if is_succeeded (status_at st.swaps st.durable s) then get_or st.missed s false else true)
    → typed (record st { missed = slice_set st.missed s x }) b ≡ with_miss (typed st b) s
typed-missed st b s x within is =
    λ i. record (typed st b) { missed = λ t. noted t i }
  where
    noted : (t : ℕ) → get_or (slice_set st.missed s x) t false ≡ put (λ c. get_or st.missed c false) s (if is_succeeded (status_at st.swaps st.durable s) then get_or st.missed s false else true) t
    noted t = rw (← is) (note-set st.missed s x t within)

-- a tag was put, and its number is used
pub typed-tagged : (st new : Store) (b : Beside) (a s i w : ℕ) (tags : List ℕ)
    → ((v : ℕ) → slice_index tags v ≡ put (slice_index st.next_tags) w (slice_index st.next_tags w + 1) v)
    → typed new b ≡ with_word (typed st b) a (Tag s i w (slice_index st.next_tags w))
    → typed (record new { next_tags = tags }) b ≡ with_tag (typed st b) a s i w
typed-tagged st new b a s i w tags numbers change = λ k. record (change k) { next_tag = λ v. numbers v k }
