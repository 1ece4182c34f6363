-- While others add their entries, no call of a worker comes to be open.
use Rattle.std.proofs.Common.{◌≡◌, ◌≢◌, ◌<◌, ℕ, Bool, true, false, List, [], ◌∷◌, ◌++◌, length, refl, ap, ◌∙◌, ◌==◌, eqb-true, lt-ltb, ltb-true, arith, Option, None}
use borrow.Author.Tests.{eqb-false}
use Rattle.std.specs.Prelude.{if◌then◌else◌, nat_lt, option_map}
use Rattle.bz_bus.specs.Entries.{entries_of}
use Rattle.bz_bus.specs.declared.TheConstants.{PASSES}
use Rattle.bz_index.specs.Entries.{beginner_of, maker_of, owner_of, marks_in}
use Rattle.bz_index.specs.declared.shared.IndexEntry.{IndexEntry}
use Rattle.bz_mark.specs.declared.marks.Mark.{Mark}
use Rattle.bz_mark.specs.declared.marks.Mark.TheVariants.{Begin, End, Cut, Effect}
use Rattle.bz_sound.specs.Calls.{Open, open_call, with_effect}

-- a worker that a pass can have begins its own calls, and nobody else does
pub begins_own : (w : ℕ) → w < PASSES → beginner_of w ≡ w
begins_own w below = ap (λ (b : Bool). if b then w else 0) (lt-ltb w PASSES below)

pub begins_other : (w v : ℕ) → w < PASSES → beginner_of v ≢ w → v ≢ w
begins_other w v below ne same = ne (ap beginner_of same ∙ begins_own w below)

-- it is one that a pass can have, if it begins its own
pub owns_below : (w : ℕ) → beginner_of w ≡ w → w < PASSES
owns_below w own = by (nat_lt w PASSES) refl own
  where
    by : (b : Bool) → nat_lt w PASSES ≡ b → (if b then w else 0) ≡ w → w < PASSES
    by true is own = ltb-true w PASSES is
    by false is own = omega (arith, own)

pub skip_begin : (b : Bool) (w v : ℕ) (new : Option Open) (rest : Option Open) → (v == w) ≡ b → v ≢ w → (if b then new else rest) ≡ rest
skip_begin true w v new rest is ne = absurd (ne (eqb-true v w is))
skip_begin false w v new rest is ne = refl

effect_none : (b : Bool) (moment : ℕ) (rest : Option Open) → rest ≡ None → (if b then option_map (with_effect moment) rest else rest) ≡ None
effect_none true moment rest is = rw is refl
effect_none false moment rest is = is

pub one_none : (w : ℕ) (mark : Mark) (past : List Mark) → w < PASSES → maker_of mark ≢ w → open_call w past ≡ None → open_call w (mark ∷ past) ≡ None
one_none w (Begin v k call) past below ne none = skip_begin (v == w) w v _ (open_call w past) refl (begins_other w v below ne) ∙ none
one_none w (End v k reply at) past below ne none = skip_begin (v == w) w v None (open_call w past) refl ne ∙ none
one_none w (Effect v k) past below ne none = effect_none (v == w) (length past) (open_call w past) none
one_none w Cut past below ne none = refl
one_none w mark past below ne none = none

-- no entry of w: not the newest, nor another
not_owned : (b : Bool) (w : ℕ) (entry : IndexEntry) (rest : List IndexEntry) → (owner_of entry == w) ≡ b → (if b then entry ∷ rest else rest) ≡ [] → (owner_of entry ≢ w) × (rest ≡ [])
not_owned true w entry rest is none = absurd cc
not_owned false w entry rest is none = (eqb-false (owner_of entry) w is, none)

pub none_of : (w : ℕ) (entry : IndexEntry) (entries : List IndexEntry) → entries_of owner_of w (entry ∷ entries) ≡ [] → (owner_of entry ≢ w) × (entries_of owner_of w entries ≡ [])
none_of w entry entries none = not_owned (owner_of entry == w) w entry (entries_of owner_of w entries) refl none

-- while others add their entries, no call of the worker comes to be open
pub none_stays : (w : ℕ) (added seen : List IndexEntry) → w < PASSES → entries_of owner_of w added ≡ [] → open_call w (marks_in seen) ≡ None → open_call w (marks_in (added ++ seen)) ≡ None
none_stays w [] seen below none is = is
none_stays w (entry ∷ added) seen below none is =
    let (other, rest) = none_of w entry added none in one_none w entry.mark (marks_in (added ++ seen)) below other (none_stays w added seen below rest is)
