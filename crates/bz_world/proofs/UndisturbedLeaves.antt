-- During a call beside which no other is open each leaf more or less is one of the call's key.
use Rattle.std.proofs.Common.{◌≡◌, ◌⊎◌, ◌||◌, ℕ, ◌<◌, ◌≤◌, ◌==◌, if◌then◌else◌, Bool, true, false, List, [], ◌∷◌, length, arith, refl, sym, ap, subst, ◌∙◌, inl, inr, Option, Some, None}
use Rattle.std.proofs.lemmas.Bool.{cases_eq, true≢false}
use Rattle.std.proofs.lemmas.Bool.Decides.{nat_tests}
use Rattle.bz_call.specs.Map.{Map, key_of}
use Rattle.bz_call.specs.declared.calls.Call.{Call}
use Rattle.bz_content.specs.Content.{image_of, leaf_in}
use Rattle.bz_stage.specs.FromLeaves.Neighbours.{leaf_page}
use Rattle.bz_layout.specs.declared.config.Config.{Config}
use Rattle.bz_mark.specs.Moments.{at_moment}
use Rattle.bz_mark.proofs.MomentLaws.{at_moment-earlier, at_moment-before}
use Rattle.bz_mark.specs.declared.marks.Mark.{Mark}
use Rattle.bz_mark.specs.declared.marks.Mark.TheVariants.{Begin}
use Rattle.bz_tree.specs.Walk.{is_among}
use Rattle.bz_sound.specs.Calls.{Open, open_call}
use Rattle.bz_sound.specs.Solitary.{IsSolitary, NoneIsOpenBesideASolitaryCall}
use Rattle.bz_sound.specs.Memory.Moments.{EachMark, image_after, image_at, map_at_start}
use Rattle.bz_slotted.specs.Records.{live_words}
use Rattle.bz_sound.specs.Memory.Spent.{is_reached_in}
use Rattle.bz_sound.specs.Power.Calls.{CallsOnce}
use Rattle.bz_sound.specs.Power.Laws.{PowerTellsWhatFollows}
use Rattle.bz_mark.specs.declared.power.Power.{Power}
use Rattle.bz_world.specs.Leaves.{AddsALeaf, FollowsLeaves, FollowsTree, IsMomentOfCall, LeavesFollow, NoneComesBack, TakesALeaf, in_tree, leaves_after, live_at}
use Rattle.bz_world.specs.UndisturbedLeaves.{CountsItsLeaves, HasLeft, SolitaryCallsCountLeaves, WasItsLeaf, WasMerged, WasSplit}
use Rattle.bz_world.proofs.ToldEnds.{WasOpen, was-solitary, was-open}

among-cases : (a k : ℕ) (rest : List ℕ) → is_among (a ∷ rest) k ≡ true → (k ≡ a) ⊎ (is_among rest k ≡ true)
among-cases a k rest e = by (a == k) refl e
  where
    by : (t : Bool) → (a == k) ≡ t → t || is_among rest k ≡ true → (k ≡ a) ⊎ (is_among rest k ≡ true)
    by true q h = inl (grind (arith, nat_tests))
    by false q h = inr h

none-among : (k : ℕ) → is_among [] k ≡ true → ⊥
none-among k e = true≢false (sym e)

-- what is known beside
record Counts (c : Config) (start : List ℕ) (past : List Mark) (opened : Open) : Type 0 where
  leaves : CountsItsLeaves c start past opened
  before : opened.begun < length past

newest-open : (t : Bool) (new : Open) (o : Option Open) (opened : Open) → t ≡ true → (if t then Some new else o) ≡ Some opened → opened ≡ new
newest-open true new o opened is e = let same : new ≡ opened = cc e in sym same
newest-open false new o opened is e = absurd (true≢false (sym is))

-- one mark later, at which no call begins
module _ (c : Config) (start : List ℕ) (past : List Mark) (mark : Mark) (w : ℕ) (opened : Open) (o : WasOpen w past opened) (back : NoneComesBack c start past mark) where
  image-earlier : (m : ℕ) → m ≤ length past → image_at start m (mark ∷ past) ≡ image_at start m past
  image-earlier m few = ap (image_after start) (at_moment-earlier m mark past few)

  image-before : image_at start (length past) (mark ∷ past) ≡ image_after start past
  image-before = ap (image_after start) (at_moment-before mark past)

  call-is : opened.call ≡ o.was.call
  call-is = sym o.call

  live-earlier : (m : ℕ) → m ≤ length past → live_at c start (mark ∷ past) opened m ≡ live_at c start past o.was m
  live-earlier m few = λ e. live_words (leaf_page c (image_of (image-earlier m few e)) (key_of (call-is e)))

  -- what was so is so
  abbrev itself : (slot : ℕ) → WasItsLeaf c start past o.was slot → WasItsLeaf c start (mark ∷ past) opened slot
  itself slot m = record { moment = m.moment; after_begin = omega (arith, m.after_begin, o.begun); by_now = omega (arith, m.by_now); leaf = (λ e. leaf_in c (image-earlier m.moment m.by_now e) (key_of (call-is e))) ∙ m.leaf }

  left-still : (slot : ℕ) → HasLeft c start past o.was slot → HasLeft c start (mark ∷ past) opened slot
  left-still slot h = record {
    moment = h.moment;
    after_begin = omega (arith, h.after_begin, o.begun);
    by_now = omega (arith, h.by_now);
    was = (λ e. is_reached_in c (image-earlier h.moment h.by_now e) slot) ∙ h.was;
    gone = back (record { worker = w; opened = o.was; is_open = o.is_open; moment = h.moment; after_begin = h.after_begin; by_now = h.by_now }) slot h.was h.gone;
  }

  split-still : (slot : ℕ) → WasSplit c start past o.was slot → WasSplit c start (mark ∷ past) opened slot
  split-still slot s = record { was = itself slot s.was; many = omega (arith, live-earlier s.was.moment s.was.by_now, s.many); left = left-still slot s.left }

  merged-still : (slot : ℕ) → WasMerged c start past o.was slot → WasMerged c start (mark ∷ past) opened slot
  merged-still slot s = record { was = itself slot s.was; few = omega (arith, live-earlier s.was.moment s.was.by_now, s.few); left = left-still slot s.left }

  -- the leaf that this mark splits or merges is one of the call's key
  module _ (alone : NoneIsOpenBesideASolitaryCall) (solitary : IsSolitary w past) (k : Counts c start past o.was) where
    its : (m : IsMomentOfCall past) → m.opened ≡ o.was
    its m = elim (cases_eq m.worker w) [
      | inl e ↦ (let same : open_call w past ≡ Some m.opened = subst (λ (v : ℕ). open_call v past ≡ Some m.opened) e m.is_open in let is : open_call w past ≡ Some o.was = o.is_open in cc (same, is))
      | inr ne ↦ absurd (let none : open_call m.worker past ≡ None = alone w m.worker past solitary ne in let some : open_call m.worker past ≡ Some m.opened = m.is_open in cc (none, some))
    ]

    abbrev leaf-new : (m : IsMomentOfCall past) (slot : ℕ) → leaf_in c (image_at start m.moment past) (key_of m.opened.call) ≡ slot → WasItsLeaf c start (mark ∷ past) opened slot
    leaf-new m slot leaf = itself slot (record {
      moment = m.moment;
      after_begin = omega (arith, m.after_begin, ap (λ (z : Open). z.begun) (its m));
      by_now = m.by_now;
      leaf = ap (λ (z : Open). leaf_in c (image_at start m.moment past) (key_of z.call)) (sym (its m)) ∙ leaf;
    })

    live-new : (m : IsMomentOfCall past) → live_at c start (mark ∷ past) opened m.moment ≡ live_at c start past m.opened m.moment
    live-new m = live-earlier m.moment m.by_now ∙ ap (λ (z : Open). live_at c start past z m.moment) (sym (its m))

    left-new : (slot : ℕ) → in_tree c start past slot ≡ true → in_tree c start (mark ∷ past) slot ≡ false → HasLeft c start (mark ∷ past) opened slot
    left-new slot was gone = record { moment = length past; after_begin = omega (arith, k.before, o.begun); by_now = omega arith; was = ap (λ (image : ℕ → ℕ). is_reached_in c image slot) image-before ∙ was; gone = gone }

    split-new : (a : AddsALeaf c start past mark) → WasSplit c start (mark ∷ past) opened a.slot
    split-new a = record { was = leaf-new a.call a.slot a.leaf; many = omega (arith, live-new a.call, a.many); left = left-new a.slot a.was a.gone }

    merged-new : (a : TakesALeaf c start past mark) → WasMerged c start (mark ∷ past) opened a.slot
    merged-new a = record { was = leaf-new a.call a.slot a.leaf; few = omega (arith, live-new a.call, a.few); left = left-new a.slot a.was a.gone }

    -- which is another than those before
    other : (slots : List ℕ) (slot : ℕ) → (is_among slots slot ≡ true → in_tree c start past slot ≡ false) → in_tree c start past slot ≡ true → is_among slots slot ≡ false
    other slots slot gone was = go (is_among slots slot) refl
      where
        go : (t : Bool) → is_among slots slot ≡ t → is_among slots slot ≡ false
        go false e = e
        go true e = absurd (true≢false (sym was ∙ gone e))

    at-begin : leaves_after c start (at_moment opened.begun (mark ∷ past)) ≡ leaves_after c start (at_moment o.was.begun past)
    at-begin = ap (leaves_after c start) (at_moment-earlier opened.begun mark past (omega (arith, k.before, o.begun)) ∙ ap (λ (n : ℕ). at_moment n past) (sym o.begun))

    still : leaves_after c start (mark ∷ past) ≡ leaves_after c start past → CountsItsLeaves c start (mark ∷ past) opened
    still same = record {
      split = k.leaves.split;
      merged = k.leaves.merged;
      split_each = λ slot e. split-still slot (k.leaves.split_each slot e);
      merged_each = λ slot e. merged-still slot (k.leaves.merged_each slot e);
      split_apart = k.leaves.split_apart;
      merged_apart = k.leaves.merged_apart;
      count = omega (arith, same, at-begin, k.leaves.count);
    }

    more : AddsALeaf c start past mark → CountsItsLeaves c start (mark ∷ past) opened
    more a = record {
      split = a.slot ∷ k.leaves.split;
      merged = k.leaves.merged;
      split_each = λ slot e. elim (among-cases a.slot slot k.leaves.split e) [ inl p ↦ subst (WasSplit c start (mark ∷ past) opened) (sym p) (split-new a) | inr r ↦ split-still slot (k.leaves.split_each slot r) ];
      merged_each = λ slot e. merged-still slot (k.leaves.merged_each slot e);
      split_apart = (other k.leaves.split a.slot (λ e. (k.leaves.split_each a.slot e).left.gone) a.was, k.leaves.split_apart);
      merged_apart = k.leaves.merged_apart;
      count = omega (arith, a.more, at-begin, k.leaves.count);
    }

    less : TakesALeaf c start past mark → CountsItsLeaves c start (mark ∷ past) opened
    less a = record {
      split = k.leaves.split;
      merged = a.slot ∷ k.leaves.merged;
      split_each = λ slot e. split-still slot (k.leaves.split_each slot e);
      merged_each = λ slot e. elim (among-cases a.slot slot k.leaves.merged e) [ inl p ↦ subst (WasMerged c start (mark ∷ past) opened) (sym p) (merged-new a) | inr r ↦ merged-still slot (k.leaves.merged_each slot r) ];
      split_apart = k.leaves.split_apart;
      merged_apart = (other k.leaves.merged a.slot (λ e. (k.leaves.merged_each a.slot e).left.gone) a.was, k.leaves.merged_apart);
      count = omega (arith, a.less, at-begin, k.leaves.count);
    }

    counted : FollowsLeaves c start past mark → Counts c start (mark ∷ past) opened
    counted follows = record {
      leaves = elim follows [
        | inl keeps ↦ still keeps.same
        | inr (inl adds) ↦ more adds
        | inr (inr takes) ↦ less takes
      ];
      before = omega (arith, k.before, o.begun);
    }

-- at its begin
begins : (c : Config) (start : List ℕ) (past : List Mark) (v n w : ℕ) (call : Call) (opened : Open) → v ≡ w → open_call w (Begin v n call ∷ past) ≡ Some opened → Counts c start (Begin v n call ∷ past) opened
begins c start past v n w call opened its is = record {
  leaves = record {
    split = [];
    merged = [];
    split_each = λ slot e. absurd (none-among slot e);
    merged_each = λ slot e. absurd (none-among slot e);
    split_apart = tt;
    merged_apart = tt;
    count = let same : leaves_after c start (at_moment opened.begun (Begin v n call ∷ past)) ≡ leaves_after c start (Begin v n call ∷ past) = ap (leaves_after c start) (ap (λ (m : ℕ). at_moment m (Begin v n call ∷ past)) first ∙ at_moment-before (Begin v n call) past) in omega (arith, same);
  };
  before = omega (arith, first);
}
  where
    first : opened.begun ≡ length past
    first = ap (λ (z : Open). z.begun) (newest-open (v == w) (record { number = n; call = call; begun = length past; effect = None }) (open_call w past) opened (let t : (v == w) ≡ true = grind (arith, nat_tests, its) in t) is)

module _ (tells : PowerTellsWhatFollows) (alone : NoneIsOpenBesideASolitaryCall) (c : Config) (at_start : Power) (map : Map) (start : List ℕ) (w : ℕ) where
  counts : (past : List Mark) → CallsOnce at_start map past → EachMark (LeavesFollow c at_start start) past → (opened : Open) → open_call w past ≡ Some opened → IsSolitary w past → Counts c start past opened
  counts [] once kept opened is solitary = absurd solitary
  counts (Begin v n call ∷ past) once kept opened is solitary = begins c start past v n w call opened solitary.0 is
  counts (mark ∷ past) once kept opened is solitary =
      let o : WasOpen w past opened = was-open w past mark opened tt is in
      let follows : FollowsTree c start past mark = kept.0 ((tells at_start map past once.1).stays_open w o.was o.is_open) in
      counted c start past mark w opened o follows.back alone (was-solitary w past mark tt solitary) (counts past once.1 kept.1 o.was o.is_open (was-solitary w past mark tt solitary)) follows.leaves

pub solitary-calls-count : PowerTellsWhatFollows → NoneIsOpenBesideASolitaryCall → SolitaryCallsCountLeaves
solitary-calls-count tells alone c at_start log w opened sound kept is solitary = (counts tells alone c at_start (map_at_start c log.start) log.start w log.past sound.once kept opened is solitary).leaves
