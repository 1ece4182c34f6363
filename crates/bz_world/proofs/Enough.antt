-- A delete whose leaf had enough live words when it began, while no other call is open, finds no merge to be due: that leaf stands alone.
use Rattle.std.proofs.Common.{◌≡◌, ◌≤◌, ◌<◌, ◌-◌, ℕ, zero, suc, true, List, length, arith, refl, sym, ap, subst, ◌∙◌, inl, inr, Some}
use Rattle.std.proofs.lemmas.Bool.{true≢false}
use Rattle.std.specs.Prelude.{slice_get}
use Rattle.bz_call.specs.Map.{key_of}
use Rattle.bz_call.specs.declared.calls.Call.{Call}
use Rattle.bz_call.specs.declared.calls.Call.TheVariants as call
use Rattle.bz_content.specs.Content.{leaf_in, view_in}
use Rattle.bz_any_task.specs.FromDescend.SeekFacts.{reads_through}
use Rattle.bz_layout.specs.declared.config.Config.{Config}
use Rattle.bz_layout.specs.declared.thresholds.TheConstants.{MERGE_BELOW}
use Rattle.bz_solo.specs.FromAlone.Undisturbed.{IsUndisturbed}
use Rattle.bz_solo.specs.FromAlone.Reads.{PathsReadFew, reads_above, way_reads}
use Rattle.bz_solo.specs.FromRounds.Stands.{SameStage, StagesStand}
use Rattle.bz_any_task.specs.Kinds.{is_look}
use Rattle.bz_tree.specs.Form.{Form}
use Rattle.bz_tree.specs.View.{View}
use Rattle.bz_tree.specs.Walk.{form}
use Rattle.bz_slotted.specs.Readers.{live_of}
use Rattle.bz_slotted.specs.ReadingLaws.{node_of}
use Rattle.bz_refinement.specs.Laws.{ScenesAreSeen}
use Rattle.bz_refinement.specs.Story.{scene}
use Rattle.bz_task.specs.Instant.{Instant}
use Rattle.bz_task.specs.Outcomes.{IsPath}
use Rattle.bz_task.specs.Scene.{Scene, IsScene, here}
use Rattle.bz_task.specs.declared.path.Link.{Link}
use Rattle.bz_task.specs.declared.path.Path.{Path}
use Rattle.bz_task.specs.declared.view.LeafView.{LeafView}
use Rattle.bz_world.specs.Inside.Exact.{HasStood}
use Rattle.bz_world.specs.Inside.Going.{HadNoRoom, HasReadAfter, MustGoOn, known}
use Rattle.bz_world.specs.Inside.Laws.{RoundLaws}
use Rattle.bz_world.specs.Roomy.{KeepsEnough, NeedsNoNeighbour}
use Rattle.bz_world.specs.WorldView.{is_delete}
use Rattle.bz_world.specs.declared.parts.Parts.{Parts}
use Rattle.bz_world.proofs.Exactly.{has-effect, looks-after}
use Rattle.bz_world.proofs.TakingOn.{known-scene}

-- to the leaf that is the root leads one link: any other path would take more reads
none-above : (v : View) (f : Form) (k n : ℕ) → n ≡ 0 → reads_above v f k n ≡ 0
unfolding reads_above
none-above v f k n none = ap (reads_above v f k) none

some-through : (links : List Link) (n : ℕ) → 1 ≤ n → 1 ≤ reads_through links n
unfolding reads_through
some-through links zero some = absurd (omega (arith, some))
some-through links (suc n) some = omega arith

low-path : PathsReadFew → (s : Scene) (key : List ℕ) (path : Path) (link : Link) → IsScene s → IsUndisturbed 0 s.past → IsPath key path s.past → slice_get path.links (path.depth - 1) ≡ Some link → 2 ≤ path.depth → (view_in s.past.config (here s).image).height ≡ 1 → ⊥
unfolding way_reads
low-path few s key path link good alone p last deep high =
    let v : View = view_in s.past.config (here s).image in
    let none : v.height - 1 ≡ 0 = omega (arith, high) in
    omega (arith, few s key path link s.past.now good alone p last (record { from = good.begun; to = omega arith }), none-above v (form v) (leaf_in s.past.config (here s).image key) (v.height - 1) none, some-through path.links (path.depth - 1) (omega (arith, deep)))

-- of a delete, and only of one, its leaf keeps enough
pub of-delete : (c : Config) (image : ℕ → ℕ) (called : Call) (more : ℕ) → is_delete called ≡ true → KeepsEnough c image called more → NeedsNoNeighbour c image (key_of called) more
of-delete c image (call.Delete key) more deletes keeps = keeps
of-delete c image called more deletes keeps = absurd (true≢false (sym deletes))

pub enough-by : (c : Config) (image : ℕ → ℕ) (called : Call) (more : ℕ) → (is_delete called ≡ true → NeedsNoNeighbour c image (key_of called) more) → KeepsEnough c image called more
enough-by c image (call.Delete key) more stands = stands refl
enough-by c image called more stands = tt

-- what it keeps at one moment it keeps at another, where the leaf is as it was
pub stands-as : (c : Config) (x y : Instant) (key : List ℕ) (more : ℕ) → SameStage c x y key → NeedsNoNeighbour c x.image key more → NeedsNoNeighbour c y.image key more
stands-as c x y key more same (inl enough) = inl (omega (arith, enough, same.live))
stands-as c x y key more same (inr high) = inr (same.height ∙ high)

pub keeps-as : (c : Config) (x y : Instant) (called : Call) (more : ℕ) → SameStage c x y (key_of called) → KeepsEnough c x.image called more → KeepsEnough c y.image called more
keeps-as c x y called more same keeps = enough-by c y.image called more (λ deletes. stands-as c x y (key_of called) more same (of-delete c x.image called more deletes keeps))

-- what is known of the memory since its effect
abbrev since-effect : (p : Parts) (w : ℕ) (on : MustGoOn p w) → HasStood on.between.opened (known p w on).past → Scene
since-effect p w on stood = scene p.config p.journal.past on.between.story w (suc stood.at) on.between.opened

-- so what it kept directly after its effect it keeps now
stood-now : ScenesAreSeen → StagesStand → (p : Parts) (w : ℕ) (on : MustGoOn p w) → HasStood on.between.opened (known p w on).past → KeepsEnough p.config (here (known p w on)).image on.between.opened.call 0
stood-now scenes stand p w on stood = keeps-as p.config (on.between.story.at (suc stood.at)) (on.between.story.at (length p.journal.past)) on.between.opened.call 0 same stood.enough
  where
    good : IsScene (since-effect p w on stood)
    good = (scenes p.config p.access p.journal on.between.story w (suc stood.at) on.between.opened on.between.living
        (record { from = omega (arith, on.between.living.begins w on.between.opened on.between.call_open.is_open, stood.after_begin); by_now = stood.by_now })).scene

    same : SameStage p.config (on.between.story.at (suc stood.at)) (on.between.story.at (length p.journal.past)) (key_of on.between.opened.call)
    same = stand (since-effect p w on stood) (suc stood.at) (suc stood.at) (length p.journal.past) (key_of on.between.opened.call) good (record { since = omega arith; now = stood.by_now; effects = stood.still })
        (record { from = omega arith; to = stood.by_now }) (record { from = stood.by_now; to = omega arith })

-- and its leaf, which was read since, is not to be merged
pub small-no-room : ScenesAreSeen → RoundLaws → (p : Parts) (w at : ℕ) (view : LeafView) (path : Path) (link : Link) (r : HasReadAfter p w at view) → IsPath (key_of r.had.on.serving.call) path (known p w r.had.on).past
    → slice_get path.links (path.depth - 1) ≡ Some link → 2 ≤ path.depth → live_of (node_of view.image.0) < MERGE_BELOW → HadNoRoom p w r.had.on
small-no-room scenes b p w at view path link r way last deep small solitary room =
    let on = r.had.on in
    let after = looks-after on.between.opened (known p w on).past _ _ _ on.serving (has-effect p w at r.had) (ap is_look r.kind) (on.exact solitary room) in
    let good : IsScene (known p w on) = known-scene scenes p w on in
    let alone : IsUndisturbed 0 (known p w on).past = omega (arith, after.alone) in
    let keeps : KeepsEnough p.config (here (known p w on)).image on.serving.call 0 = subst (λ called. KeepsEnough p.config (here (known p w on)).image called 0) on.between.call_open.call (stood-now scenes b.stand p w on after.counted.stood) in
    elim (of-delete p.config (here (known p w on)).image on.serving.call 0 r.deletes keeps) [
      | inl enough ↦ omega (arith, enough, b.live (key_of on.serving.call) view (known p w on) good alone r.viewed, small)
      | inr high ↦ low-path b.low (known p w on) (key_of on.serving.call) path link good alone way last deep high
    ]
