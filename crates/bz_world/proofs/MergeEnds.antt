-- A delete that has had its effect, beside which no other call is open, ends once its leaf was merged, where that might be, or slots or descriptors were not left.
use Rattle.std.proofs.Common.{◌≡◌, ◌≢◌, ℕ, suc, true, false, List, length, arith, refl, sym, ap, subst, ◌∙◌, inl, inr, Option, Some, None, ◌≤◌, ◌+◌, ◌-◌}
use Rattle.std.proofs.lemmas.Bool.{true≢false}
use Rattle.bz_solo.specs.FromAlone.Trees.{TreesStand}
use Rattle.bz_call.specs.Map.{key_of}
use Rattle.bz_call.specs.declared.calls.Call.{Call}
use Rattle.bz_call.specs.declared.calls.Call.TheVariants as call
use Rattle.bz_call.specs.declared.replies.Reply.{Reply}
use Rattle.bz_call.specs.declared.replies.Reply.TheVariants.{Deleted}
use Rattle.bz_call.specs.declared.replies.Spent.TheVariants.{Nodes, Swaps}
use Rattle.bz_layout.specs.declared.config.Config.{Config}
use Rattle.bz_mark.specs.declared.marks.Mark.{Mark}
use Rattle.bz_sound.specs.Calls.{Open}
use Rattle.bz_world.specs.Inside.Serving.{effect_reply}
use Rattle.bz_solo.specs.FromTally.Leaves.{leaves_in}
use Rattle.bz_mark.specs.Moments.{at_moment}
use Rattle.bz_mark.proofs.MomentLaws.{at_moment-now}
use Rattle.bz_any_task.specs.Duties.{end_of}
use Rattle.bz_any_task.specs.Ends.{IsEndOf}
use Rattle.bz_any_task.specs.Kinds as kinds
use Rattle.bz_any_task.specs.Kinds.{Kind, kind_of}
use Rattle.bz_sound.specs.Memory.Moments.{image_after, image_at}
use Rattle.bz_refinement.specs.Laws.{ScenesAreSeen}
use Rattle.bz_refinement.specs.Story.{scene}
use Rattle.bz_task.specs.declared.todo.Outcome.{Outcome}
use Rattle.bz_task.specs.declared.path.Link.{Link}
use Rattle.bz_task.specs.declared.path.Path as declared
use Rattle.bz_task.specs.declared.view.LeafView.{LeafView}
use Rattle.bz_task.specs.Outcomes.{IsPath}
use Rattle.bz_task.specs.declared.todo.Outcome.TheVariants.{Path, View, Restart, Full}
use Rattle.bz_solo.specs.declared.rest.Rest.TheVariants as rest
use Rattle.bz_world.specs.Inside.Exact.{reach_idle}
use Rattle.bz_world.specs.Inside.Going.{HasMergedIn, MustGoOn, known, HasEndedAfter, HasReadAfter, HasFoundAfter, HasToEnd, HasTriedAfter}
use Rattle.bz_world.specs.Leaves.{leaves_after}
use Rattle.bz_world.specs.Inside.Merging.{leaves_at, StoodSince, looks_on, EndsShort, IsMerging, IsToMerge, tells_few, IsLookingOn}
use Rattle.bz_world.specs.Inside.Paid.{is_joining, stock_of}
use Rattle.bz_world.specs.Merges.{IsMergedSince, LacksForMerge, MergesFor}
use Rattle.bz_world.specs.WorldView.{is_delete}
use Rattle.bz_world.specs.declared.parts.Parts.{Parts}
use Rattle.bz_world.proofs.LeavesKept.{leaves-stand}
use Rattle.bz_world.proofs.MergeStarts.{since-then, may-now}
use Rattle.std.specs.Prelude.{slice_get}
use Rattle.bz_solo.specs.FromJoined.DueMerges.{IsDueToMerge}
use Rattle.bz_world.specs.Inside.Laws.{RoundLaws}
use Rattle.bz_stage.specs.FromLeaves.Neighbours.{MayBeMerged}

-- the image of a moment since a delete's effect
pub then-image : (p : Parts) (w : ℕ) (on : MustGoOn p w) (at : ℕ) → on.between.opened.begun ≤ at → (m : ℕ) → suc at ≤ m → m ≤ length p.journal.past → ((known p w on).past.at m).image ≡ image_at p.journal.start m p.journal.past
then-image p w on at begun m from by_now = on.between.living.images m (omega (arith, on.between.living.begins w on.between.opened on.between.call_open.is_open, begun, from)) by_now

-- what looks on ends with what it looked for, or is to begin again
abbrev pub EndsLookingOn : Outcome → Type 0
EndsLookingOn (Path path) = Unit {0}
EndsLookingOn (View view) = Unit {0}
EndsLookingOn Restart = Unit {0}
EndsLookingOn outcome = ⊥

pub looks-on-ends : (k : Kind) (o : Outcome) → looks_on k ≡ true → IsEndOf k o → EndsLookingOn o
looks-on-ends kinds.Seek (Path path) e h = tt
looks-on-ends kinds.Seek Restart e h = tt
looks-on-ends kinds.Seek o e h = absurd h
looks-on-ends kinds.ReadWhole (View view) e h = tt
looks-on-ends kinds.ReadWhole Restart e h = tt
looks-on-ends kinds.ReadWhole o e h = absurd h
looks-on-ends k o e h = absurd (true≢false (sym e))

module _ (scenes : ScenesAreSeen) (trees : TreesStand) (p : Parts) (w at : ℕ) (on : MustGoOn p w) (effect : on.serving.effect ≡ Some at) (outcome : Outcome) (ended : end_of on.serving.task ≡ Some outcome) (spent : outcome ≡ Full Swaps → p.access.taken ≡ p.config.swaps)
    (never : on.between.opened.begun ≤ at → MayBeMerged p.config ((known p w on).past.at (suc at)).image (key_of on.serving.call) → IsToMerge p.config p.journal at (known p w on).past (reach_idle p.access) (stock_of p) on.serving → ⊥) where
  -- it ended for want of these
  short-lacks : (o : Outcome) → (o ≡ Full Swaps → p.access.taken ≡ p.config.swaps) → EndsShort p.config p.journal at (reach_idle p.access) o → LacksForMerge p.config p.journal.start (at_moment (suc at) p.journal.past)
  short-lacks (Full Nodes) all short = inl short
  short-lacks (Full Swaps) all short = inr (omega (arith, short, all refl))
  short-lacks o all short = absurd short

  module _ (begun : on.between.opened.begun ≤ at) where
    image-then : (m : ℕ) → suc at ≤ m → m ≤ length p.journal.past → ((known p w on).past.at m).image ≡ image_at p.journal.start m p.journal.past
    image-then m from by_now = then-image p w on at begun m from by_now

    -- there is one leaf fewer since a moment after which no swap took effect
    fewer-since : suc at ≤ length p.journal.past → (moment : ℕ) → suc at ≤ moment → StoodSince moment (known p w on).past → leaves_at (known p w on).past moment + 1 ≡ leaves_at (known p w on).past (suc at) → leaves_after p.config p.journal.start p.journal.past + 1 ≡ leaves_after p.config p.journal.start (at_moment (suc at) p.journal.past)
    fewer-since by_now moment after stood less =
        let stand = leaves-stand trees (scene p.config p.journal.past on.between.story w moment on.between.opened) moment (since-then scenes p w on moment (omega (arith, begun, after)) stood.by_now)
        (record { since = omega arith; now = stood.by_now; effects = stood.still }) in
        let now = ap (leaves_in p.config) (image-then (length p.journal.past) by_now (omega arith) ∙ ap (image_after p.journal.start) (at_moment-now p.journal.past)) in
        let then = ap (leaves_in p.config) (image-then (suc at) (omega arith) by_now) in
        omega (arith, less, stand, now, then)

    by-state : suc at ≤ length p.journal.past → IsMerging p.config p.journal at (known p w on).past (reach_idle p.access) (stock_of p) on.serving → MayBeMerged p.config ((known p w on).past.at (suc at)).image (key_of on.serving.call) → IsMergedSince p.config p.journal.start p.journal.past at
    by-state by_now (inl s) may = absurd (never begun may s)
    by-state by_now (inr (inl u)) may = inr (short-lacks outcome spent (u.ends outcome ended))
    by-state by_now (inr (inr (inl d))) may = inl (fewer-since by_now d.moment d.after d.stood d.leaves)
    by-state by_now (inr (inr (inr o))) may = elim o.over [
      | inl less ↦ inl (fewer-since by_now o.moment o.after o.stood less)
      | inr lacks ↦ inr lacks
    ]

  pub ended-merged : HasMergedIn p w at on
  ended-merged solitary deletes may =
      let m = (on.merges solitary).merging at effect deletes in
      let there : MayBeMerged p.config ((known p w on).past.at (suc at)).image (key_of on.serving.call) = subst (λ image. MayBeMerged p.config image (key_of on.serving.call)) (sym (image-then m.after_begin (suc at) (omega arith) m.by_now)) may in
      by-state m.after_begin m.by_now (m.merging there) there

-- so the reply that tells its effect is right of the leaves
deletes-by : (called : Call) (had : Option (List ℕ)) (payload : List ℕ) → effect_reply called had ≡ Deleted payload → is_delete called ≡ true
deletes-by (call.Delete key) had payload e = refl
deletes-by (call.Insert key value) had payload e = absurd (cc e)
deletes-by (call.Update key value) None payload e = absurd (cc e)
deletes-by (call.Update key value) (Some had) payload e = absurd (cc e)
deletes-by (call.Upsert key value) None payload e = absurd (cc e)
deletes-by (call.Upsert key value) (Some had) payload e = absurd (cc e)
deletes-by (call.Get key) had payload e = absurd (cc e)
deletes-by (call.Page key) had payload e = absurd (cc e)

merges-by : (c : Config) (start : List ℕ) (past : List Mark) (w : ℕ) (reply : Reply) → ((payload : List ℕ) → reply ≡ Deleted payload → MergesFor c start past w (Deleted payload)) → MergesFor c start past w reply
merges-by c start past w (Deleted payload) merges = merges payload refl
merges-by c start past w reply merges = tt

pub reply-merged : (p : Parts) (w at : ℕ) (on : MustGoOn p w) → on.between.opened.effect ≡ Some at → HasMergedIn p w at on → MergesFor p.config p.journal.start p.journal.past w (effect_reply on.between.opened.call on.serving.had)
reply-merged p w at on effect merged = merges-by p.config p.journal.start p.journal.past w (effect_reply on.between.opened.call on.serving.had) (λ payload e opened moment is-open solitary effected may. (
    let both : Some on.between.opened ≡ Some opened = sym on.between.call_open.is_open ∙ is-open in
    let same : on.between.opened ≡ opened = cc both in
    let when : Some at ≡ Some moment = sym effect ∙ (ap (λ (o : Open). o.effect) same ∙ effected) in
    let then : at ≡ moment = cc when in
    let key : key_of opened.call ≡ key_of on.serving.call = ap (λ (o : Open). key_of o.call) (sym same) ∙ ap key_of on.between.call_open.call in
    subst (IsMergedSince p.config p.journal.start p.journal.past) then
    (merged solitary (sym (ap is_delete on.between.call_open.call) ∙ deletes-by on.between.opened.call on.serving.had payload e)
    (subst (λ m. MayBeMerged p.config (image_at p.journal.start (suc m) p.journal.past) (key_of on.serving.call)) (sym then) (subst (MayBeMerged p.config (image_at p.journal.start (suc moment) p.journal.past)) key may)))
    ))

-- a call that is a delete is one of a key
pub no-delete-key : (called : Call) → is_delete called ≡ true → ((key : List ℕ) → called ≡ call.Delete key → ⊥) → ⊥
no-delete-key (call.Delete key) deletes none = none key refl
no-delete-key called deletes none = absurd (true≢false (sym deletes))

pub no-way : (way : Option declared.Path) → ((path : declared.Path) → way ≡ Some path → ⊥) → way ≡ None
no-way None never = refl
no-way (Some path) never = absurd (never path refl)

-- a delete beside which no other call was open, and which looks on, is not to begin again
restarts-solitary : (o : Outcome) → EndsLookingOn o → ((path : declared.Path) → o ≡ Path path → ⊥) → ((view : LeafView) → o ≡ View view → ⊥) → o ≡ Restart
restarts-solitary (Path path) on no-path no-view = absurd (no-path path refl)
restarts-solitary (View view) on no-path no-view = absurd (no-view view refl)
restarts-solitary Restart on no-path no-view = refl
restarts-solitary o on no-path no-view = absurd on

module _ (p : Parts) (w at : ℕ) (o : Outcome) (e : HasEndedAfter p w at o) where
  looked-so : IsLookingOn (known p w e.had.on).past e.had.on.serving → EndsLookingOn o
  looked-so look = looks-on-ends (kind_of e.had.on.serving.task) o look.looks (e.tasked.laws.ends_of o (known p w e.had.on) (e.tasked.laws.sound.ends (known p w e.had.on) o e.facts e.ends).0)

  -- so where it told that it leaves much, and ended in another way than these, it had its leaf merged, if that might be
  pub ended-otherwise : ScenesAreSeen → TreesStand → tells_few e.had.on.serving ≡ false → ((path : declared.Path) → o ≡ Path path → ⊥) → ((view : LeafView) → o ≡ View view → ⊥) → HasToEnd p w at
  ended-otherwise scenes trees much no-path no-view = record {
    had = e.had;
    merged = ended-merged scenes trees p w at e.had.on e.had.effect o e.ends (λ full. absurd (e.swaps full)) (λ begun may s. elim s.task [
      | inl tells ↦ true≢false (sym tells.few ∙ much)
      | inr look ↦ (let none : e.alone.others ≡ 0 = omega (arith, look.alone, e.alone.counted) in e.alone.stands none (restarts-solitary o (looked-so look) no-path no-view))
    ]);
  }

-- so it had where a merge of two nodes has ended
pub ended-tried : (p : Parts) (w at : ℕ) (o : Outcome) (t : HasTriedAfter p w at o) → ScenesAreSeen → TreesStand → is_joining (kind_of t.ends.had.on.serving.task) ≡ true → (then : ℕ) → t.ends.had.on.serving.effect ≡ Some then → HasMergedIn p w then t.ends.had.on
ended-tried p w at o t scenes trees joins then is = subst (λ m. HasMergedIn p w m t.ends.had.on) (cc (t.ends.had.effect, is))
    (ended-merged scenes trees p w at t.ends.had.on t.ends.had.effect o t.ends.ends (λ full. absurd (t.ends.swaps full)) (λ begun may s. elim s.task [
      | inl tells ↦ true≢false (sym joins ∙ ap is_joining tells.kind)
      | inr look ↦ joins-no-look (kind_of t.ends.had.on.serving.task) joins look.looks
    ]))
  where
    joins-no-look : (k : Kind) → is_joining k ≡ true → looks_on k ≡ true → ⊥
    joins-no-look kinds.Seek j l = cc j
    joins-no-look kinds.ReadWhole j l = cc j
    joins-no-look k j l = cc l

-- or where the way to its leaf was found, and another thing is tried than that
pub found-ends : ScenesAreSeen → TreesStand → (p : Parts) (w at : ℕ) (path : declared.Path) (f : HasFoundAfter p w at path) → f.had.on.serving.rest ≢ rest.Leaf → HasToEnd p w at
found-ends scenes trees p w at path f later = record {
  had = f.had;
  merged = ended-merged scenes trees p w at f.had.on f.had.effect (Path path) f.ends (λ full. absurd (cc full)) (λ begun may s. elim s.task [
    | inl tells ↦ cc (tells.kind, f.kind)
    | inr look ↦ later (look.first f.kind)
  ]);
}

-- or its leaf was read, and no merge was due
pub read-merged : RoundLaws → (p : Parts) (w at : ℕ) (view : LeafView) (path : declared.Path) (link : Link) (r : HasReadAfter p w at view) → IsPath (key_of r.had.on.serving.call) path (known p w r.had.on).past → slice_get path.links (path.depth - 1) ≡ Some link → (IsDueToMerge path view → ⊥) → HasMergedIn p w at r.had.on
read-merged b p w at view path link r way last not-due = ended-merged b.scenes b.trees p w at r.had.on r.had.effect (View view) r.ends (λ full. absurd (cc full)) (λ begun may s. elim s.task [
  | inl tells ↦ cc (tells.kind, r.kind)
  | inr look ↦ not-due (b.merges_due (key_of r.had.on.serving.call) path link view (known p w r.had.on) (since-then b.scenes p w r.had.on r.had.on.between.call_open.look.since (omega (arith, r.had.on.between.call_open.look.after_begin)) r.had.on.between.call_open.look.by_now) (omega (arith, look.alone)) way last r.viewed
      (may-now b.scenes b.neighbours p w r.had.on at begun s.standing.stood may))
])

pub ended-read : RoundLaws → (p : Parts) (w at : ℕ) (view : LeafView) (path : declared.Path) (link : Link) (r : HasReadAfter p w at view) → IsPath (key_of r.had.on.serving.call) path (known p w r.had.on).past → slice_get path.links (path.depth - 1) ≡ Some link → (IsDueToMerge path view → ⊥) → HasToEnd p w at
ended-read b p w at view path link r way last not-due = record { had = r.had; merged = read-merged b p w at view path link r way last not-due }
