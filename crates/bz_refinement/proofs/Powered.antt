-- What a mark that is none of the power leaves: what is counted since power on, and that open calls began since then.
use Rattle.std.proofs.Common.{◌≡◌, ℕ, ◌≤◌, ◌==◌, Bool, true, false, List, ◌∷◌, length, arith, refl, sym, ap, subst}
use Rattle.std.specs.Prelude.{Option, Some, None, option_map, if◌then◌else◌}
use Rattle.bz_layout.specs.declared.config.Config.{Config}
use Rattle.bz_mark.specs.declared.marks.Mark.{Mark}
use Rattle.bz_mark.specs.declared.marks.Mark.TheVariants.{Begin, End, Load, Store, Cas, Ask, Fence, Evict, Cut, On, Ready, Effect}
use Rattle.bz_sound.specs.Calls.{Open, open_call, with_effect}
use Rattle.bz_sound.specs.Memory.Spent.{is_stored_into}
use Rattle.bz_mark.specs.Times.{LeavesPower}
use Rattle.bz_mark.specs.Times.{since_on}
use Rattle.bz_sound.specs.Power.Times.{image_at_on}
use Rattle.bz_mark.proofs.TimeLaws.{since-more}
use Rattle.bz_refinement.proofs.Storing.{stored-on}

pub image-as-it-was : (start : List ℕ) (past : List Mark) (mark : Mark) → LeavesPower past mark → image_at_on start (mark ∷ past) ≡ image_at_on start past
image-as-it-was start past Cut h = absurd h
image-as-it-was start past On h = absurd h
image-as-it-was start past Ready h = absurd h
image-as-it-was start past mark h = refl

-- the journal shows a store still with one mark more
pub stored-since : (c : Config) (past : List Mark) (mark : Mark) (k : ℕ) → LeavesPower past mark → is_stored_into c k (since_on past) ≡ true → is_stored_into c k (since_on (mark ∷ past)) ≡ true
stored-since c past mark k p h = subst (λ (marks : List Mark). is_stored_into c k marks ≡ true) (sym (since-more past mark p)) (stored-on c (since_on past) mark k h)

-- calls that are open with one mark more began since, if those that are open did
pub begins-more : (from : ℕ) (past : List Mark) (mark : Mark) → from ≤ length past → ((w : ℕ) (opened : Open) → open_call w past ≡ Some opened → from ≤ opened.begun)
    → (w : ℕ) (opened : Open) → open_call w (mark ∷ past) ≡ Some opened → from ≤ opened.begun
begins-more from past (Begin v n call) l all w opened h = go (v == w) h
  where
    go : (b : Bool) → (if b then Some (record { number = n; call = call; begun = length past; effect = None }) else open_call w past) ≡ Some opened → from ≤ opened.begun
    go true e = let same : ◌≡◌ {A = Open} (record { number = n; call = call; begun = length past; effect = None }) opened = cc in omega (arith, l, ap (λ (o : Open). o.begun) same)
    go false e = all w opened e
begins-more from past (End v n reply at) l all w opened h = go (v == w) h
  where
    go : (b : Bool) → (if b then None else open_call w past) ≡ Some opened → from ≤ opened.begun
    go true e = absurd (cc)
    go false e = all w opened e
begins-more from past (Effect v n) l all w opened h = go (v == w) h
  where
    marked : (o : Option Open) → open_call w past ≡ o → option_map (with_effect (length past)) o ≡ Some opened → from ≤ opened.begun
    marked None e f = absurd (cc)
    marked (Some o) e f = let same : with_effect (length past) o ≡ opened = cc in omega (arith, all w o e, ap (λ (z : Open). z.begun) same)

    go : (b : Bool) → (if b then option_map (with_effect (length past)) (open_call w past) else open_call w past) ≡ Some opened → from ≤ opened.begun
    go true e = marked (open_call w past) refl e
    go false e = all w opened e
begins-more from past Cut l all w opened h = absurd (cc)
begins-more from past (Load v a x) l all w opened h = all w opened h
begins-more from past (Store v a x) l all w opened h = all w opened h
begins-more from past (Cas v a old new found) l all w opened h = all w opened h
begins-more from past (Ask v line) l all w opened h = all w opened h
begins-more from past (Fence v) l all w opened h = all w opened h
begins-more from past (Evict a) l all w opened h = all w opened h
begins-more from past On l all w opened h = all w opened h
begins-more from past Ready l all w opened h = all w opened h
