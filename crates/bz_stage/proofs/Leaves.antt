-- The stage of a leaf, case by case.
use Rattle.std.proofs.Common.{◌≡◌, ℕ, ◌+◌, ◌<◌, ◌≤◌, if◌then◌else◌, ◌&&◌, Bool, true, false, arith, ap, ◌∙◌, inl, inr}
use Rattle.std.specs.Prelude.{not, nat_lt, nat_le}
use Rattle.std.proofs.lemmas.Bool.{cases_lt}
use Rattle.std.proofs.lemmas.Bool.Decides.{nat_tests}
use Rattle.bz_layout.specs.declared.sizes.TheConstants.{SHARED_WORDS}
use Rattle.bz_layout.specs.declared.thresholds.TheConstants.{LEAF_RECORD_WORDS, SPLIT_ABOVE}
use Rattle.bz_layout.proofs.Laws.{settled_leaf_takes_record}
use Rattle.bz_slotted.specs.Page.{Page}
use Rattle.bz_slotted.specs.Records.{live_words}
use Rattle.bz_leaves.specs.Neighbours.{leaf_page}
use Rattle.bz_stage.specs.Laws.{StagesSay, LackingLeavesSay}
use Rattle.bz_stage.specs.Rooms.{words_taken, has_room, is_crowded}
use Rattle.bz_stage.specs.Stages.{full_above, frozen_stage, stage_of}
use Rattle.bz_stage.specs.Swaps.{IsRoomy}

pub less : (a b : ℕ) → a < b → nat_lt a b ≡ true
less a b h = grind (arith, nat_tests)

pub not-less : (a b : ℕ) → b ≤ a → nat_lt a b ≡ false
not-less a b h = grind (arith, nat_tests)

at-most : (a b : ℕ) → a ≤ b → nat_le a b ≡ true
at-most a b h = grind (arith, nat_tests)

more : (a b : ℕ) → b < a → nat_le a b ≡ false
more a b h = grind (arith, nat_tests)

-- whether a leaf has room, by whether it is frozen
abbrev room_by : Page → ℕ → Bool → Bool
room_by p words frozen = not frozen && nat_le (words_taken p + words) SHARED_WORDS

-- the stage of a leaf, by whether it has room, is frozen, and is to be split
abbrev by_tests : ℕ → Bool → Bool → Bool → ℕ
by_tests full room frozen crowded = if room then 0 else if frozen then 1 + (if crowded then full else 0) else 1 + (1 + (if crowded then full else 0))

pub stage-ready : (p : Page) (full words : ℕ) → p.frozen ≡ false → words_taken p + words ≤ SHARED_WORDS → stage_of p full words ≡ 0
stage-ready p full words thawed fits =
    let room : has_room p words ≡ true = ap (room_by p words) thawed ∙ at-most (words_taken p + words) SHARED_WORDS fits in
    ap (λ (b : Bool). by_tests full b p.frozen (is_crowded p)) room

pub stage-lacking : (p : Page) (full words : ℕ) → p.frozen ≡ false → SHARED_WORDS < words_taken p + words → stage_of p full words ≡ 1 + frozen_stage p full
stage-lacking p full words thawed lacks =
    let room : has_room p words ≡ false = ap (room_by p words) thawed ∙ more (words_taken p + words) SHARED_WORDS lacks in
    ap (λ (b : Bool). by_tests full b p.frozen (is_crowded p)) room ∙ ap (λ (b : Bool). by_tests full false b (is_crowded p)) thawed

pub stage-frozen : (p : Page) (full words : ℕ) → p.frozen ≡ true → stage_of p full words ≡ frozen_stage p full
stage-frozen p full words frozen =
    let room : has_room p words ≡ false = ap (room_by p words) frozen in
    ap (λ (b : Bool). by_tests full b p.frozen (is_crowded p)) room ∙ ap (λ (b : Bool). by_tests full false b (is_crowded p)) frozen

pub stage-split : (p : Page) (full words : ℕ) → p.frozen ≡ true → SPLIT_ABOVE < live_words p → stage_of p full words ≡ 1 + full
stage-split p full words frozen many = stage-frozen p full words frozen ∙ ap (λ (b : Bool). 1 + (if b then full else 0)) (less SPLIT_ABOVE (live_words p) many)

stage-copied : (p : Page) (full words : ℕ) → p.frozen ≡ true → live_words p ≤ SPLIT_ABOVE → stage_of p full words ≡ 1
stage-copied p full words frozen few = stage-frozen p full words frozen ∙ ap (λ (b : Bool). 1 + (if b then full else 0)) (not-less SPLIT_ABOVE (live_words p) few)

pub stages-say : StagesSay
stages-say = record { ready = stage-ready; lacking = stage-lacking; copied = stage-copied; split = stage-split }

-- a leaf that is not frozen and has no room
thawed-lacks : (p : Page) (full words : ℕ) → p.frozen ≡ false → 0 < stage_of p full words → 2 ≤ stage_of p full words
thawed-lacks p full words thawed some = elim (cases_lt SHARED_WORDS (words_taken p + words)) [
  | inl l ↦ let e : stage_of p full words ≡ 1 + frozen_stage p full = stage-lacking p full words thawed l in omega (arith, e)
  | inr l ↦ let e : stage_of p full words ≡ 0 = stage-ready p full words thawed l in absurd (omega (arith, e, some))
]

-- and frozen ones
frozen-lacks : (p : Page) (full words : ℕ) → p.frozen ≡ true → 1 ≤ stage_of p full words
frozen-lacks p full words frozen = let e : stage_of p full words ≡ frozen_stage p full = stage-frozen p full words frozen in omega (arith, e)

few-copied : (p : Page) (full words : ℕ) → p.frozen ≡ true → is_crowded p ≡ false → stage_of p full words ≡ 1
few-copied p full words frozen few = stage-frozen p full words frozen ∙ ap (λ (b : Bool). 1 + (if b then full else 0)) few

pub lacking-leaves-say : LackingLeavesSay
lacking-leaves-say = record {
  thawed = λ c x key words. thawed-lacks (leaf_page c x key) (full_above c x key) words;
  frozen = λ c x key words. frozen-lacks (leaf_page c x key) (full_above c x key) words;
  copied = λ c x key words. few-copied (leaf_page c x key) (full_above c x key) words;
}

-- a roomy leaf has room for any record, and one word more
pub roomy-ready : (p : Page) (full words : ℕ) → IsRoomy p → words ≤ LEAF_RECORD_WORDS + 1 → stage_of p full words ≡ 0
roomy-ready p full words roomy few =
    let fits : words_taken p + LEAF_RECORD_WORDS + 1 ≤ SHARED_WORDS = settled_leaf_takes_record (words_taken p) LEAF_RECORD_WORDS roomy.few (same LEAF_RECORD_WORDS) in
    stage-ready p full words roomy.thawed (omega (arith, fits, few))
  where
    same : (n : ℕ) → n ≤ n
    same n = omega arith

-- a stage is at most two more than the number of full nodes
pub stage-at-most : (p : Page) (full words : ℕ) → stage_of p full words ≤ 2 + full
stage-at-most p full words = go (has_room p words) p.frozen (is_crowded p)
  where
    go : (room frozen crowded : Bool) → by_tests full room frozen crowded ≤ 2 + full
    go true frozen crowded = omega arith
    go false true true = omega arith
    go false true false = omega arith
    go false false true = omega arith
    go false false false = omega arith
