-- What becomes of an open call while others add their entries: it stays open, or the power was cut.
use Rattle.std.proofs.Common.{◌≡◌, ◌≢◌, ◌<◌, ℕ, ◌⊎◌, inl, inr, ⊎_elim, Bool, true, false, List, [], ◌∷◌, ◌++◌, length, refl, ◌∙◌, ◌==◌, Option, Some, None}
use Rattle.std.specs.Prelude.{if◌then◌else◌, option_map}
use Rattle.bz_bus.specs.Entries.{entries_of}
use Rattle.bz_bus.specs.declared.TheConstants.{PASSES}
use Rattle.bz_index.proofs.OpenCalls.{begins_other, skip_begin, one_none, none_of}
use Rattle.bz_index.specs.Calls.{HasCut}
use Rattle.bz_index.specs.Entries.{maker_of, owner_of, marks_in}
use Rattle.bz_index.specs.Inside.Running.{StandsOpen, OpenOrCut}
use Rattle.bz_index.specs.declared.shared.IndexEntry.{IndexEntry}
use Rattle.bz_mark.specs.declared.marks.Mark.{Mark}
use Rattle.bz_mark.specs.declared.marks.Mark.TheVariants.{Begin, End, Cut, Effect}
use Rattle.bz_sound.specs.Calls.{Open, open_call, with_effect}

-- what one mark of another's leaves of the call: it stays open, or the power was cut
abbrev Still : ℕ → ℕ → ℕ → Mark → List Mark → Type 0
Still w n begun mark past = StandsOpen w n begun (mark ∷ past) ⊎ (HasCut (mark ∷ []) × (open_call w (mark ∷ past) ≡ None))

same_open : (w n begun : ℕ) (past now : List Mark) → open_call w now ≡ open_call w past → StandsOpen w n begun past → StandsOpen w n begun now
same_open w n begun past now is stands = record { opened = stands.opened; is_open = is ∙ stands.is_open; number = stands.number; since = stands.since }

effect_open : (b : Bool) (n begun moment : ℕ) (rest : Option Open) (opened : Open) → rest ≡ Some opened → opened.number ≡ n → opened.begun ≡ begun
    → (after : Open) × ((if b then option_map (with_effect moment) rest else rest) ≡ Some after) × (after.number ≡ n) × (after.begun ≡ begun)
effect_open true n begun moment rest opened is number since = (with_effect moment opened, rw is refl, number, since)
effect_open false n begun moment rest opened is number since = (opened, is, number, since)

one_stays : (w n begun : ℕ) (mark : Mark) (past : List Mark) → w < PASSES → maker_of mark ≢ w → StandsOpen w n begun past → Still w n begun mark past
one_stays w n begun (Begin v k call) past below ne stands = inl (same_open w n begun past _ (skip_begin (v == w) w v _ (open_call w past) refl (begins_other w v below ne)) stands)
one_stays w n begun (End v k reply at) past below ne stands = inl (same_open w n begun past _ (skip_begin (v == w) w v None (open_call w past) refl ne) stands)
one_stays w n begun (Effect v k) past below ne stands =
    let (after, is, number, since) = effect_open (v == w) n begun (length past) (open_call w past) stands.opened stands.is_open stands.number stands.since in
    inl (record { opened = after; is_open = is; number = number; since = since })
one_stays w n begun Cut past below ne stands = inr (tt, refl)
one_stays w n begun mark past below ne stands = inl (same_open w n begun past _ refl stands)

cut_later : (mark : Mark) (past : List Mark) → HasCut past → HasCut (mark ∷ past)
cut_later Cut past h = tt
cut_later mark past h = h

cut_here : (mark : Mark) (past : List Mark) → HasCut (mark ∷ []) → HasCut (mark ∷ past)
cut_here Cut past h = tt
cut_here mark past h = absurd h

-- an open call stays open or the power was cut
pub open_stays : (w n begun : ℕ) (added seen since : List IndexEntry) → w < PASSES → entries_of owner_of w added ≡ [] → OpenOrCut w n begun (marks_in seen) since
    → OpenOrCut w n begun (marks_in (added ++ seen)) (added ++ since)
open_stays w n begun [] seen since below none is = is
open_stays w n begun (entry ∷ added) seen since below none is =
    let (other, rest) = none_of w entry added none in
    let past : List Mark = marks_in (added ++ seen) in
    ⊎_elim
    (λ stands. ⊎_elim
    (λ still. inl still)
    (λ cut. inr (cut_here entry.mark (marks_in (added ++ since)) cut.0, cut.1))
    (one_stays w n begun entry.mark past below other stands))
    (λ cut. inr (cut_later entry.mark (marks_in (added ++ since)) cut.0, one_none w entry.mark past below other cut.1))
    (open_stays w n begun added seen since below rest is)
