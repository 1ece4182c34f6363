-- One mark and the words: which marks are cuts, what a mark leaves of the cached words, and what it makes durable.
use Rattle.std.proofs.Common.{◌≡◌, ◌≢◌, ◌<◌, ◌⊎◌, ℕ, List, length, slice_index, refl, ap, inl, inr, arith}
use Rattle.std.specs.Prelude.{slice_set, ◌==◌, if◌then◌else◌}
use Rattle.std.proofs.lemmas.Bool.{cases_eq}
use Rattle.std.proofs.lemmas.Grind.{common_steps}
use Rattle.std.proofs.lemmas.List.{get_or-set_other}
use Rattle.bz_pm.specs.State.{State}
use Rattle.bz_mark.specs.declared.marks.Mark.{Mark}
use Rattle.bz_mark.specs.declared.marks.Mark.TheVariants.{Begin, End, Load, Store, Cas, Ask, Fence, Evict, Cut, On, Ready, Effect}
use Rattle.bz_mark.specs.WordsAfter.{state_after, KeepsLength}

pub cut_or_not : (mark : Mark) → (mark ≡ Cut) ⊎ (mark ≢ Cut)
cut_or_not Cut = inl refl
cut_or_not (Begin w n call) = inr (λ e. cc)
cut_or_not (End w n reply at) = inr (λ e. cc)
cut_or_not (Load w a v) = inr (λ e. cc)
cut_or_not (Store w a v) = inr (λ e. cc)
cut_or_not (Cas w a old new found) = inr (λ e. cc)
cut_or_not (Ask w line) = inr (λ e. cc)
cut_or_not (Fence w) = inr (λ e. cc)
cut_or_not (Evict a) = inr (λ e. cc)
cut_or_not On = inr (λ e. cc)
cut_or_not Ready = inr (λ e. cc)
cut_or_not (Effect w n) = inr (λ e. cc)

set_here : (cached durable : List ℕ) (a b : ℕ) → a < length durable → a ≡ b → slice_index (slice_set durable b (slice_index cached b)) a ≡ slice_index cached a
set_here cached durable a b within is = grind (arith, common_steps)

-- but for a fence, a mark makes the cached value of a word the durable one, or leaves the durable one
pub levelled_or_left : (start : List ℕ) (m : State) (mark : Mark) (a : ℕ) → KeepsLength start m.words → a < length start → ((w : ℕ) → mark ≢ Fence w)
    → (slice_index (state_after m mark).words.durable a ≡ slice_index (state_after m mark).words.cached a) ⊎ (slice_index (state_after m mark).words.durable a ≡ slice_index m.words.durable a)
levelled_or_left start m (Evict b) a same within go = elim (cases_eq a b) [
  | inl here ↦ inl (set_here m.words.cached m.words.durable a b (rw same.durable within) here)
  | inr other ↦ inr (get_or-set_other m.words.durable b a (slice_index m.words.cached b) 0 other)
]
levelled_or_left start m Cut a same within go = inl refl
levelled_or_left start m (Fence w) a same within go = absurd (go w refl)
levelled_or_left start m mark a same within go = inr refl

-- but for a cut, the cached words come from the cached words alone
pub same_cached : (old new : State) (mark : Mark) → mark ≢ Cut → old.words.cached ≡ new.words.cached → (state_after old mark).words.cached ≡ (state_after new mark).words.cached
same_cached old new (Store w a v) go is = ap (λ (words : List ℕ). slice_set words a v) is
same_cached old new (Cas w a expected v found) go is = ap (λ (words : List ℕ). if found == expected then slice_set words a v else words) is
same_cached old new Cut go is = absurd (go refl)
same_cached old new mark go is = is
