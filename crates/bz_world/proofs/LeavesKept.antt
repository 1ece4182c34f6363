-- The leaves of the tree, from a mark to the next one at which no swap takes effect.
use Rattle.std.proofs.Common.{◌≡◌, ℕ, zero, suc, ◌+◌, ◌<◌, ◌≤◌, ◌==◌, ◌&&◌, Bool, true, false, cond, List, ◌∷◌, length, slice_index, arith, refl, sym, ap, ◌∙◌, inl}
use Rattle.std.specs.Prelude.{filter, nat_lt}
use Rattle.std.specs.List.{range_with_len}
use Rattle.std.proofs.lemmas.Bool.{true≢false}
use Rattle.std.proofs.lemmas.List.Sums.{length-filter}
use Rattle.bz_content.specs.Content.{view_in}
use Rattle.bz_layout.specs.declared.config.Config.{Config}
use Rattle.bz_solo.specs.FromTally.Leaves.{is_leaf, leaf_count, leaves_in}
use Rattle.bz_mark.specs.Log.{Log, with_mark}
use Rattle.bz_mark.specs.declared.marks.Mark.{Mark}
use Rattle.bz_mark.proofs.MomentLaws.{at_moment-now, at_moment-before}
use Rattle.bz_tree.specs.Walk.{form}
use Rattle.bz_sight.specs.Passing.{Passed}
use Rattle.bz_sight.specs.Sight.{next_instant}
use Rattle.bz_sound.specs.Memory.Moments.{image_after, image_at}
use Rattle.bz_sound.specs.Memory.Spent.{is_reached_in}
use Rattle.bz_mark.specs.declared.power.Power.{Power}
use Rattle.bz_refinement.specs.Living.{IsLiving}
use Rattle.bz_refinement.specs.Story.{Story}
use Rattle.bz_swap.specs.SwapMemory.{SwapMemory}
use Rattle.bz_task.specs.Instant.{Instant, is_inside}
use Rattle.bz_task.specs.Laws.{RangesStay}
use Rattle.bz_task.specs.Steps.{IsHistory}
use Rattle.bz_world.specs.Leaves.{in_tree, is_leaf_after, leaves_after, LeavesFollow, FollowsTree, KeepsLeaves}
use Rattle.bz_solo.specs.FromAlone.Trees.{SameTree, TreesStand}
use Rattle.bz_solo.specs.FromAlone.Quiet.{IsQuietSince}
use Rattle.bz_task.specs.Scene.{Scene, IsScene, here}

-- a test that says the same on a range passes as many of it
filter-same : (f g : ℕ → Bool) (a n : ℕ) → ((k : ℕ) → k < a + n → f k ≡ g k) → length (filter f (range_with_len a n)) ≡ length (filter g (range_with_len a n))
filter-same f g a zero same = refl
filter-same f g a (suc n) same = by (f a) (g a) (same a (omega arith)) (filter-same f g (a + 1) n (λ k few. same k (omega (arith, few))))
  where
    by : (s t : Bool) → s ≡ t → length (filter f (range_with_len (a + 1) n)) ≡ length (filter g (range_with_len (a + 1) n))
        → length (cond s (a ∷ filter f (range_with_len (a + 1) n)) (filter f (range_with_len (a + 1) n))) ≡ length (cond t (a ∷ filter g (range_with_len (a + 1) n)) (filter g (range_with_len (a + 1) n)))
    by true true e rest = omega (arith, rest)
    by false false e rest = rest
    by true false e rest = absurd (true≢false e)
    by false true e rest = absurd (true≢false (sym e))

same-count : (c : Config) (x y : ℕ → ℕ) → ((k : ℕ) → k < c.nodes → is_leaf (view_in c y) k ≡ is_leaf (view_in c x) k) → leaves_in c y ≡ leaves_in c x
unfolding leaf_count
same-count c x y same =
    sym (length-filter (is_leaf (view_in c y)) (range_with_len 0 c.nodes)) ∙ (filter-same (is_leaf (view_in c y)) (is_leaf (view_in c x)) 0 c.nodes (λ k few. same k (omega (arith, few))) ∙ length-filter (is_leaf (view_in c x)) (range_with_len 0 c.nodes))

-- where the same slots are in the tree there are as many leaves
leaf-by : (i j : Bool) (l n : ℕ) → j ≡ i → (i ≡ true → n ≡ l) → j && (n == 0) ≡ i && (l == 0)
leaf-by true true l n e same = ap (λ (z : ℕ). z == 0) (same refl)
leaf-by false false l n e same = refl
leaf-by true false l n e same = absurd (true≢false (sym e))
leaf-by false true l n e same = absurd (true≢false e)

leaves-stay : RangesStay → (c : Config) (at : ℕ → Instant) (first last m : ℕ) → IsHistory c at first last → first ≤ m → m + 1 ≤ last → ((k : ℕ) → is_inside c (at (m + 1)) k ≡ is_inside c (at m) k) → leaves_in c (at (m + 1)).image ≡ leaves_in c (at m).image
leaves-stay ranges c at first last m history from now same = same-count c (at m).image (at (m + 1)).image (λ k few. leaf-by (is_inside c (at m) k) (is_inside c (at (m + 1)) k) _ _ (same k)
    (λ inside. (ranges c at first last m (m + 1) k history (record { since = from; order = omega arith; until = now }) (λ e. absurd (omega (arith, e, few))) inside (same k ∙ inside)).level))

-- in a time in which no swap takes effect they are as many
pub leaves-stand : TreesStand → (s : Scene) (m : ℕ) → IsScene s → IsQuietSince m s.past → leaves_in s.past.config (here s).image ≡ leaves_in s.past.config (s.past.at m).image
leaves-stand trees s m good quiet =
    let same : SameTree s.past.config (s.past.at m) (here s) = trees s m m s.past.now good quiet (record { from = omega arith; to = quiet.now }) (record { from = quiet.now; to = omega arith }) in
    same-count s.past.config (s.past.at m).image (here s).image (λ k few. leaf-by (is_inside s.past.config (s.past.at m) k) (is_inside s.past.config (here s) k) _ _ (same.inside k) (λ inside. (same.place k (λ e. absurd (omega (arith, e, few))) inside).level))

-- a mark at which no swap takes effect
abbrev inside_in : Config → (ℕ → ℕ) → ℕ → Bool
inside_in c image k = (form (view_in c image)).inside k

quiet-leaves : RangesStay → (c : Config) (m : SwapMemory) (log : Log) (mark : Mark) (after : Story) → IsLiving c m (with_mark log mark) after → after.from ≤ length log.past → ((k : ℕ) → inside_in c (image_after log.start (mark ∷ log.past)) k ≡ inside_in c (image_after log.start log.past) k)
    → leaves_after c log.start (mark ∷ log.past) ≡ leaves_after c log.start log.past
quiet-leaves ranges c m log mark after living first same = ap (leaves_in c) (sym new-is) ∙ (leaves-stay ranges c after.at after.from (suc (length log.past)) (length log.past) living.history first (omega arith) inside ∙ ap (leaves_in c) old-is)
  where
    new-is : (after.at (length log.past + 1)).image ≡ image_after log.start (mark ∷ log.past)
    new-is = living.images (length log.past + 1) (omega (arith, first)) (omega arith) ∙ (ap (λ (n : ℕ). image_at log.start n (mark ∷ log.past)) next ∙ ap (image_after log.start) (at_moment-now (mark ∷ log.past)))
      where
        next : length log.past + 1 ≡ suc (length log.past)
        next = omega arith

    old-is : (after.at (length log.past)).image ≡ image_after log.start log.past
    old-is = living.images (length log.past) first (omega arith) ∙ ap (image_after log.start) (at_moment-before mark log.past)

    inside : (k : ℕ) → is_inside c (after.at (length log.past + 1)) k ≡ is_inside c (after.at (length log.past)) k
    inside k = ap (λ (image : ℕ → ℕ). inside_in c image k) new-is ∙ (same k ∙ ap (λ (image : ℕ → ℕ). inside_in c image k) (sym old-is))

-- a leaf is in the tree
leaf-in : (a i l : Bool) → a && (i && l) ≡ true → a && i ≡ true
leaf-in true true l e = refl
leaf-in true false l e = absurd (true≢false (sym e))
leaf-in false i l e = absurd (true≢false (sym e))

-- so where the same slots are in it, and there are as many leaves, none goes
kept-leaves : (c : Config) (start : List ℕ) (past : List Mark) (mark : Mark) → leaves_after c start (mark ∷ past) ≡ leaves_after c start past → ((k : ℕ) → in_tree c start (mark ∷ past) k ≡ in_tree c start past k) → KeepsLeaves c start past mark
kept-leaves c start past mark same inside = record { same = same; copied = λ slot leaf out. absurd (stays slot leaf out); once = λ slot other leaf out also gone. absurd (stays slot leaf out) }
  where
    stays : (slot : ℕ) → is_leaf_after c start past slot ≡ true → in_tree c start (mark ∷ past) slot ≡ false → ⊥
    stays slot leaf out = true≢false (sym (leaf-in (nat_lt slot c.nodes) (inside_in c (image_after start past) slot) ((form (view_in c (image_after start past))).level slot == 0) leaf) ∙ (sym (inside slot) ∙ out))

-- or one that makes no word durable
pub same-leaves : (c : Config) (start : List ℕ) (past : List Mark) (mark : Mark) → image_after start (mark ∷ past) ≡ image_after start past → FollowsTree c start past mark
same-leaves c start past mark same = record {
  leaves = inl (kept-leaves c start past mark (ap (leaves_in c) same) (λ k. ap (λ (image : ℕ → ℕ). is_reached_in c image k) same));
  back = λ m slot came now. ap (λ (image : ℕ → ℕ). is_reached_in c image slot) same ∙ now;
}

pub passed-leaves : RangesStay → (c : Config) (at_start : Power) (m new : SwapMemory) (log : Log) (mark : Mark) (story after : Story) → IsLiving c m log story → IsLiving c new (with_mark log mark) after → after.from ≡ story.from → Passed c (story.at (length log.past)) new
    → LeavesFollow c at_start log.start log.past mark
passed-leaves ranges c at_start m new log mark story after living later from passed on =
    record { leaves = inl (kept-leaves c log.start log.past mark (quiet-leaves ranges c new log mark after later (omega (arith, living.from, from)) same) (λ k. ap (λ (b : Bool). nat_lt k c.nodes && b) (same k))); back = λ m slot came now. ap (λ (b : Bool). nat_lt slot c.nodes && b) (same slot) ∙ now }
  where
    was : image_after log.start log.past ≡ (story.at (length log.past)).image
    was = sym (living.images (length log.past) living.from (omega arith) ∙ ap (image_after log.start) (at_moment-now log.past))

    becomes : image_after log.start (mark ∷ log.past) ≡ (next_instant new (story.at (length log.past))).image
    becomes = ap (λ z. slice_index z.durable) (sym later.words)

    same : (k : ℕ) → inside_in c (image_after log.start (mark ∷ log.past)) k ≡ inside_in c (image_after log.start log.past) k
    same k = ap (λ (image : ℕ → ℕ). inside_in c image k) becomes ∙ (passed.same.inside k ∙ ap (λ (image : ℕ → ℕ). inside_in c image k) (sym was))
