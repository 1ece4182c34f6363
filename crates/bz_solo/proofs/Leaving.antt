-- What the end of a task leaves: the next round is paid for.
use Rattle.std.proofs.Common.{◌≡◌, ℕ, ◌+◌, ◌*◌, ◌≤◌, Bool, true, false, true≢false, arith, ap, refl, sym, subst, inl, inr, ◌∙◌}
use Rattle.std.specs.Prelude.{Some, if◌then◌else◌, nat_lt}
use Rattle.bz_joined.specs.FromAlone.Undisturbed.{IsUndisturbed}
use Rattle.bz_call.specs.Map.{key_of}
use Rattle.bz_call.specs.declared.calls.Call.{Call}
use Rattle.bz_call.specs.declared.calls.Call.TheVariants as call
use Rattle.bz_content.specs.Content.{image_of}
use Rattle.bz_joined.specs.FromStage.Neighbours.{leaf_page}
use Rattle.bz_costs.specs.Solo.{one_mark}
use Rattle.bz_costs.specs.Resources.{Resource}
use Rattle.bz_costs.specs.Weights.{weigh}
use Rattle.bz_costs.specs.Most.{most_of_seek, most_of_find, most_of_leaf, most_of_copy}
use Rattle.bz_costs.specs.Stretches.{cost_of_view, cost_from, cost_viewed_at, solo_stretch}
use Rattle.bz_rivals.specs.Rivals.{rivals}
use Rattle.bz_costs.specs.FromRunning.Duties.{end_of}
use Rattle.bz_costs.specs.FromRunning.Kinds as kinds
use Rattle.bz_costs.specs.FromRunning.Kinds.{Kind, kind_of}
use Rattle.bz_costs.specs.FromRunning.AnyTask.{AnyTask}
use Rattle.bz_slotted.specs.Page.{Page}
use Rattle.bz_joined.specs.FromStage.Rooms.{is_crowded}
use Rattle.bz_swap.specs.SwapMemory.{SwapMemory}
use Rattle.bz_task.specs.Scene.{Past}
use Rattle.bz_task.specs.declared.todo.Outcome.TheVariants.{Done, NeedsRoom, Restart}
use Rattle.bz_solo.proofs.Coming.{either, comes-after, comes-to-write}
use Rattle.bz_solo.proofs.Ends.{unmade}
use Rattle.bz_solo.proofs.Pricing.{Laws, viewed-small, round-within}
use Rattle.bz_solo.proofs.Sparing.{less-afforded}
use Rattle.bz_solo.specs.Errands.{Errand, is_read, is_freeze, IsLookOf, after, goes_further, rest_after, further}
use Rattle.bz_solo.specs.declared.rest.Rest.{Rest}
use Rattle.bz_solo.specs.Prices.{Prices, clean_prices, prices_in, way_price, coming_by_rest, coming_after, coming, round_price}
use Rattle.bz_solo.specs.Rounds.{stage_now, DisturbedRoundsArePaid, EndsLeaveARound}
use Rattle.bz_solo.specs.Sum.{Affords, IsThawed, Round, Disturbed, Clean, State, In, Made, IsIn, IsSmall, PaysForRound, own_left, reserve, prices_of, left_in}

-- in a round that was disturbed a stretch is kept for the next one
of-reserve : (stretch rest price : ℕ) → price ≤ stretch → price ≤ stretch + rest
of-reserve stretch rest price l = omega (arith, l)

of-all : (stretch rest price : ℕ) → price ≤ stretch → price ≤ 0 + (stretch + rest)
of-all stretch rest price l = omega (arith, l)

-- so much pays for the round of a call that has come to this, where as many marks of its own are left as before
pub pays : (r : Resource) (m : SwapMemory) (w : ℕ) (e next : Errand) (used by : ℕ) (p : Past) (much : ℕ) → own_left r next ≡ own_left r e → IsThawed next → round_price r (prices_in r p.config (p.at p.now).image next) next ≤ much → Affords r m w e used by much → PaysForRound r m w next used by p
pays r m w e next used by p much same thawed l a = record {
  thawed = thawed;
  affords = as-before (less-afforded r m w e used by much (round_price r (prices_in r p.config (p.at p.now).image next) next) l a);
}
  where
    as-before : Affords r m w e used by (round_price r (prices_in r p.config (p.at p.now).image next) next) → Affords r m w next used by (round_price r (prices_in r p.config (p.at p.now).image next) next)
    as-before b = record { enough = subst (λ (own : ℕ). (solo_stretch r + one_mark r) * rivals m w + own + used + round_price r (prices_in r p.config (p.at p.now).image next) next ≤ by) (sym same) b.enough }

disturbed-in : (r : Resource) → Laws r → (m : SwapMemory) (w : ℕ) (e : Errand) (used by : ℕ) (p : Past) (price : Prices → ℕ) → (IsUndisturbed 0 p → ⊥) → IsThawed e → (round : Round) → (round ≡ Clean → IsUndisturbed 0 p) → Affords r m w e used by (reserve r round + price (prices_of r round e p)) → PaysForRound r m w e used by p
disturbed-in r b m w e used by p price hurt thawed Disturbed alone a = pays r m w e e used by p _ refl thawed (of-reserve (solo_stretch r) _ _ (round-within r b p.config (p.at p.now).image e)) a
disturbed-in r b m w e used by p price hurt thawed Clean alone a = absurd (hurt (alone refl))

pub disturbed-paid : (r : Resource) → Laws r → DisturbedRoundsArePaid r
disturbed-paid r b m w e used by p price hurt s = disturbed-in r b m w e used by p price hurt s.thawed s.round s.alone s.affords

-- a call that reads only looks its key up
write-frozen : (called : Call) (k : Kind) → IsLookOf called k → is_freeze k ≡ true → is_read called ≡ false
write-frozen (call.Get key) k (inl is) freeze = absurd (true≢false (sym freeze ∙ ap is_freeze is))
write-frozen (call.Get key) k (inr is) freeze = absurd (true≢false (sym freeze ∙ ap is_freeze is))
write-frozen (call.Page key) k (inl is) freeze = absurd (true≢false (sym freeze ∙ ap is_freeze is))
write-frozen (call.Page key) k (inr is) freeze = absurd (true≢false (sym freeze ∙ ap is_freeze is))
write-frozen called k look freeze = refl

write-merges : (called : Call) (k : Kind) → IsLookOf called k → k ≡ kinds.Merge → is_read called ≡ false
write-merges (call.Get key) k (inl is) merge = cc
write-merges (call.Get key) k (inr is) merge = cc
write-merges (call.Page key) k (inl is) merge = cc
write-merges (call.Page key) k (inr is) merge = cc
write-merges called k look merge = refl

-- after its swap
done-in : (r : Resource) → Laws r → (m : SwapMemory) (w : ℕ) (e : Errand) (t : AnyTask) (used by : ℕ) (p : Past) → e.effected ≡ false → end_of t ≡ Some Done → IsThawed (after e (kind_of t)) → (state : State) → IsIn state e t 0 p → Affords r m w e used by (0 + left_in r state e t p) →
    PaysForRound r m w (after e (kind_of t)) used by p
done-in r b m w e t used by p quiet ended thawed (In Disturbed) h a = pays r m w e (after e (kind_of t)) used by p _ refl thawed (of-all (solo_stretch r) _ _ (round-within r b p.config (p.at p.now).image (after e (kind_of t)))) a
done-in r b m w e t used by p quiet ended thawed (In Clean) h a = absurd (h.goes quiet ended)
done-in r b m w e t used by p quiet ended thawed Made h a = pays r m w e (after e (kind_of t)) used by p _ refl thawed (rest (weigh r t) (round_price r (prices_in r p.config (p.at p.now).image (after e (kind_of t))) (after e (kind_of t)))) a
  where
    rest : (own price : ℕ) → price ≤ 0 + (own + price)
    rest own price = omega arith

-- where it begins again
restart-in : (r : Resource) → Laws r → (m : SwapMemory) (w : ℕ) (e : Errand) (t : AnyTask) (used by : ℕ) (p : Past) → end_of t ≡ Some Restart → IsThawed e → (state : State) → IsIn state e t 0 p → Affords r m w e used by (0 + left_in r state e t p) → PaysForRound r m w e used by p
restart-in r b m w e t used by p ended thawed (In Disturbed) h a = pays r m w e e used by p _ refl thawed (of-all (solo_stretch r) _ _ (round-within r b p.config (p.at p.now).image e)) a
restart-in r b m w e t used by p ended thawed (In Clean) h a = absurd (h.stands ended)
restart-in r b m w e t used by p ended thawed Made h a = unmade e t Restart _ ended (λ same. cc) h

-- where a split or a change lacked room in a round that was disturbed
crowded-in : (r : Resource) → Laws r → (m : SwapMemory) (w : ℕ) (e : Errand) (t : AnyTask) (used by : ℕ) (p : Past) → end_of t ≡ Some NeedsRoom → (IsIn (In Clean) e t 0 p → ⊥) → IsThawed e → (state : State) → IsIn state e t 0 p → Affords r m w e used by (0 + left_in r state e t p) →
    PaysForRound r m w (record e { alone = false }) used by p
crowded-in r b m w e t used by p ended hurt thawed (In Disturbed) h a =
    pays r m w e (record e { alone = false }) used by p _ refl thawed (of-all (solo_stretch r) _ _ (round-within r b p.config (p.at p.now).image (record e { alone = false }))) a
crowded-in r b m w e t used by p ended hurt thawed (In Clean) h a = absurd (hurt h)
crowded-in r b m w e t used by p ended hurt thawed Made h a = unmade e t NeedsRoom _ ended (λ same. cc) h

-- where a merge found no neighbour with room, the leaf is looked up once more and copied
way-copied : (r : Resource) (q : Prices) (e : Errand) → q.viewed ≡ most_of_copy r + cost_from r 0 → q.read ≤ most_of_copy r + cost_from r 0 → way_price r q e ≤ most_of_find r + (most_of_leaf r + (most_of_copy r + cost_from r 0))
way-copied r q e viewed read = either e.froze _ _ _ (omega (arith, read)) (omega (arith, viewed))

copied : (r : Resource) (e : Errand) (leaf : Page) (stage : ℕ) → e.effected ≡ false → is_read e.call ≡ false → e.alone ≡ true → leaf.frozen ≡ true → is_crowded leaf ≡ false → round_price r (clean_prices r e.alone leaf stage) e ≤ cost_of_view r + (most_of_copy r + cost_from r 0)
copied r e leaf stage quiet write alone frozen few =
    let q : Prices = clean_prices r e.alone leaf stage in
    omega (arith, comes-to-write r q e kinds.Seek quiet write, way-copied r q e viewed (either (nat_lt 0 stage) _ _ _ (omega (arith, viewed)) (omega arith)))
  where
    viewed : (clean_prices r e.alone leaf stage).viewed ≡ most_of_copy r + cost_from r 0
    viewed = viewed-small r e.alone leaf stage frozen few ∙ ap (λ (b : Bool). if b then most_of_copy r + cost_from r 0 else cost_viewed_at r true stage) alone

merge-in : (r : Resource) → Laws r → (m : SwapMemory) (w : ℕ) (e : Errand) (t : AnyTask) (used by : ℕ) (p : Past) → e.effected ≡ false → is_read e.call ≡ false → end_of t ≡ Some NeedsRoom → kind_of t ≡ kinds.Merge → IsThawed e → (state : State) → IsIn state e t 0 p → Affords r m w e used by (0 + left_in r state e t p) →
    PaysForRound r m w (record e { alone = true }) used by p
merge-in r b m w e t used by p quiet write ended merge thawed (In Disturbed) h a =
    pays r m w e (record e { alone = true }) used by p _ refl thawed (of-all (solo_stretch r) _ _ (round-within r b p.config (p.at p.now).image (record e { alone = true }))) a
merge-in r b m w e t used by p quiet write ended merge thawed (In Clean) h a =
    let small : IsSmall e p = h.small quiet merge in
    pays r m w e (record e { alone = true }) used by p _ refl thawed
    (rest (weigh r t) (coming r (prices_in r p.config (p.at p.now).image e) e (kind_of t)) _ _ merged
    (copied r (record e { alone = true }) (leaf_page p.config (image_of (p.at p.now).image) (key_of e.call)) (stage_now e p) quiet write refl small.frozen small.few)) a
  where
    merged : coming r (prices_in r p.config (p.at p.now).image e) e (kind_of t) ≡ cost_of_view r + (most_of_copy r + cost_from r 0)
    merged = ap (coming r (prices_in r p.config (p.at p.now).image e) e) merge ∙ comes-to-write r (prices_in r p.config (p.at p.now).image e) e kinds.Merge quiet write

    rest : (own after price copy : ℕ) → after ≡ copy → price ≤ copy → price ≤ 0 + (0 + (own + after))
    rest own after price copy same l = omega (arith, same, l)
merge-in r b m w e t used by p quiet write ended merge thawed Made h a = unmade e t NeedsRoom _ ended (λ same. cc) h

-- and where a delete that has had its effect may go on, the way to the next that is to be tried
after-further : (r : Resource) (left : Rest) (k : Kind) → goes_further k ≡ true → most_of_seek r + coming_by_rest r (rest_after k) ≤ coming_after r left k
after-further r left kinds.Delete goes = omega arith
after-further r left kinds.Merge goes = omega arith
after-further r left kinds.MergeNodes goes = omega arith
after-further r left k goes = absurd (cc)

further-in : (r : Resource) (m : SwapMemory) (w : ℕ) (e : Errand) (t : AnyTask) (used by : ℕ) (p : Past) → e.effected ≡ true → goes_further (kind_of t) ≡ true → IsThawed e → (state : State) → IsIn state e t 0 p → Affords r m w e used by (0 + left_in r state e t p) →
    PaysForRound r m w (further e (kind_of t)) used by p
further-in r m w e t used by p done goes thawed (In round) h a =
    pays r m w e (further e (kind_of t)) used by p _ refl thawed
    (rest (reserve r round) (weigh r t) _ _ _ _ (comes-after r (prices_of r round e p) e (kind_of t) done) (comes-after r (prices_in r p.config (p.at p.now).image (further e (kind_of t))) (further e (kind_of t)) kinds.Seek done) (after-further r e.rest (kind_of t) goes)) a
  where
    rest : (kept own comes late look next : ℕ) → comes ≡ late → look ≡ next → most_of_seek r + next ≤ late → most_of_seek r + look ≤ 0 + (kept + (own + comes))
    rest kept own comes late look next same way l = omega (arith, same, way, l)
further-in r m w e t used by p done goes thawed Made h a = absurd (true≢false (sym done ∙ h.quiet))

pub ends-leave : (r : Resource) → Laws r → EndsLeaveARound r
ends-leave r b = record {
  done = λ m w e t used by p quiet ended paid. done-in r b m w e t used by p quiet ended (λ froze. write-frozen e.call (kind_of t) (paid.look quiet) froze) paid.state paid.holds paid.affords;
  restart = λ m w e t used by p quiet ended paid. restart-in r b m w e t used by p ended paid.thawed paid.state paid.holds paid.affords;
  merge = λ m w e t used by p quiet ended merge paid. merge-in r b m w e t used by p quiet (write-merges e.call (kind_of t) (paid.look quiet) merge) ended merge paid.thawed paid.state paid.holds paid.affords;
  crowded = λ m w e t used by p quiet ended hurt paid. crowded-in r b m w e t used by p ended hurt paid.thawed paid.state paid.holds paid.affords;
  further = λ m w e t used by p done goes paid. further-in r m w e t used by p done goes paid.thawed paid.state paid.holds paid.affords;
}
