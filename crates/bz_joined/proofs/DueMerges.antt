-- What was viewed of the key's leaf tells whether it may be merged, while nobody's swap takes effect.
use Rattle.std.proofs.Common.{◌≡◌, ◌≢◌, ℕ, ◌+◌, ◌-◌, ◌<◌, ◌≤◌, ◌==◌, if◌then◌else◌, true, List, arith, refl, sym, ap, subst, ◌∙◌, inl, inr, Some}
use Rattle.std.specs.Prelude.{slice_get}
use Rattle.std.proofs.lemmas.Bool.{cases_lt}
use Rattle.std.proofs.lemmas.Bool.Decides.{nat_tests}
use Rattle.bz_layout.specs.declared.config.Config.{Config}
use Rattle.bz_layout.specs.declared.sizes.TheConstants.{ROOT_AT}
use Rattle.bz_page.specs.Laws.{IsSaidBy}
use Rattle.bz_page.proofs.Proved.{views_say_what_images_say}
use Rattle.bz_tree.specs.Form.{Fits, Form, Holds, Stands}
use Rattle.bz_tree.specs.View.{View}
use Rattle.bz_tree.specs.Walk.{IsTree}
use Rattle.bz_slotted.specs.Page.{page}
use Rattle.bz_slotted.specs.Readers.{child_of}
use Rattle.bz_slotted.specs.Records.{live_words}
use Rattle.bz_content.specs.Content.{image_of, leaf_in, view_in}
use Rattle.bz_content.specs.Image.{Image, node, root}
use Rattle.bz_content.specs.Resolving.{resolve}
use Rattle.bz_content.specs.View.{view_of}
use Rattle.bz_content.proofs.Proved.{well_formed_images_have_no_fault}
use Rattle.bz_stage.specs.FromLeaves.Neighbours.{parent_in, place_in, MayBeMerged}
use Rattle.bz_task.specs.Good.{IsGood}
use Rattle.bz_task.specs.Instant.{durable, form_at}
use Rattle.bz_task.specs.Outcomes.{IsLink, IsPath}
use Rattle.bz_task.specs.Scene.{Scene, IsScene, here}
use Rattle.bz_task.specs.declared.path.Link.{Link}
use Rattle.bz_task.specs.declared.path.Path.{Path}
use Rattle.bz_rounds.specs.FromAlone.Undisturbed.{IsUndisturbed}
use Rattle.bz_rounds.specs.FromAlone.Quiet.{IsQuietSince, IsIn}
use Rattle.bz_rounds.specs.Due.{MayBeMadeAnew}
use Rattle.bz_rounds.proofs.FromAlone.Proved.{undisturbed_times_are_quiet, paths_lead_to_leaves, read_values_stand, trees_stand}
use Rattle.bz_rounds.proofs.Proved.{undisturbed_leaves_are_due}
use Rattle.bz_joined.specs.DueMerges.{UndisturbedViewsTellTheLiveWords, UndisturbedRootLeavesHaveNoNeighbour, UndisturbedMergesAreDue}
use Rattle.bz_joined.proofs.Alike.{live-is}
use Rattle.bz_joined.proofs.Families.{up-is, index-is}
use Rattle.bz_joined.proofs.Quiet.{live-same}
use Rattle.bz_tree.proofs.TreeForms.{fits}
use Rattle.bz_tree.proofs.Proved.{leaves_tile_the_keys}

-- the view has as many live words as its leaf
pub views-tell-live : UndisturbedViewsTellTheLiveWords
views-tell-live key view s good alone v =
    let q : IsQuietSince s.past.since s.past = undisturbed_times_are_quiet.whole s good alone in
    let then-it : IsIn s.past.since s.past view.at = record { from = v.since; to = v.now } in
    let now : IsIn s.past.since s.past s.past.now = record { from = good.begun; to = omega arith } in
    let said : IsSaidBy key view s.past = views_say_what_images_say key view s.past v (good.history.good view.at v.since v.now) in
    let below : view.slot ≢ s.past.config.nodes = λ e. absurd (omega (arith, e, v.slot)) in
    let leaf : leaf_in s.past.config (here s).image key ≡ view.slot = (trees_stand s s.past.since view.at s.past.now good q then-it now).leaf key ∙ v.leaf in
    ap (λ k. live_words (page (durable s.past.config (here s) k))) leaf
    ∙ (live-same s s.past.since view.at s.past.now good q then-it now view.slot below said.holds.inside ∙ (live-is (durable s.past.config (s.past.at view.at) view.slot) ∙ sym said.live))

itself : (k : ℕ) → (k == k) ≡ true
itself k = grind (arith, nat_tests)

-- the one child of the superblock
root-child : (c : Config) (x : Image) → (view_of c x).child c.nodes 0 ≡ root x.words
root-child c x = ap (λ t. if t then (if 0 == 0 then root x.words else 0) else child_of (node c x.words c.nodes) 0) (itself c.nodes)

module _ (key : List ℕ) (path : Path) (link : Link) (s : Scene) (good : IsScene s) (alone : IsUndisturbed 0 s.past) (p : IsPath key path s.past) (last : slice_get path.links (path.depth - 1) ≡ Some link) (one : path.depth ≡ 1) where
  abbrev c : Config
  c = s.past.config

  abbrev v : View
  v = view_in s.past.config (here s).image

  abbrev fm : Form
  fm = form_at s.past.config (here s)

  first : slice_get path.links 0 ≡ Some link
  first = let e : path.depth - 1 ≡ 0 = omega (arith, one) in subst (λ i. slice_get path.links i ≡ Some link) e last

  on : IsLink key s.past link
  on = p.links 0 link (omega (arith, one)) first

  good-now : IsGood s.past.config (here s)
  good-now = good.history.good s.past.now good.begun (omega arith)

  tree-now : IsTree (view_in s.past.config (here s).image)
  tree-now = ((well_formed_images_have_no_fault c (here s).image).0 good-now.form).tree

  fits-now : Fits (view_in s.past.config (here s).image) (form_at s.past.config (here s))
  fits-now = fits v tree-now

  pointer-now : (here s).value ROOT_AT ≡ link.slot + 1
  pointer-now =
      let was : IsIn s.past.since s.past on.was = record { from = on.since; to = on.now } in
      read_values_stand s s.past.since on.was ROOT_AT good (undisturbed_times_are_quiet.whole s good alone) was (inl refl) s.past.now on.was (record { from = good.begun; to = omega arith }) was
      ∙ (ap (s.past.at on.was).value (sym (p.first link first).pointer) ∙ on.led)

  root-now : root (resolve (here s).image) ≡ link.slot
  root-now = omega (arith, good-now.root, pointer-now)

  child-now : (view_in s.past.config (here s).image).child s.past.config.nodes 0 ≡ link.slot
  child-now = root-child c (image_of (here s).image) ∙ root-now

  leaf-now : leaf_in s.past.config (here s).image key ≡ link.slot
  leaf-now = paths_lead_to_leaves s key path link good alone p last

  high : 0 < (form_at s.past.config (here s)).level s.past.config.nodes
  high = omega (arith, fits-now.height, fits-now.tall)

  within : 0 < (view_in s.past.config (here s).image).count s.past.config.nodes
  within = omega (arith, fits-now.top_one)

  -- it hangs from the superblock
  up-now : parent_in s.past.config (here s).image key ≡ s.past.config.nodes
  up-now = ap fm.up leaf-now ∙ up-is v fm fits-now c.nodes 0 link.slot fits-now.top high within child-now

  place-now : place_in s.past.config (here s).image key ≡ 0
  place-now = ap fm.index leaf-now ∙ index-is v fm fits-now c.nodes 0 link.slot fits-now.top high within child-now

  pub no-neighbour : MayBeMerged s.past.config (here s).image key → ⊥
  no-neighbour m = elim m.next [
    | inl after ↦ absurd (omega (arith, after, place-now, m.within, ap v.count up-now, fits-now.top_one))
    | inr before ↦ absurd (omega (arith, before, place-now))
  ]

  -- and is a leaf
  pub height-one : (view_in s.past.config (here s).image).height ≡ 1
  height-one =
      let h : Holds (form_at s.past.config (here s)) key link.slot = (leaves_tile_the_keys v tree-now key link.slot).1 leaf-now in
      let one-down : Stands v fm c.nodes 0 (v.child c.nodes 0) = fits-now.down c.nodes 0 fits-now.top high within in
      omega (arith, one-down.level, ap fm.level child-now, h.leaf, fits-now.height)

pub roots-have-none : UndisturbedRootLeavesHaveNoNeighbour
roots-have-none key path link s good alone p last one m = no-neighbour key path link s good alone p last one m

pub merges-are-due : UndisturbedMergesAreDue
merges-are-due key path link view s good alone p last v m =
    let anew : MayBeMadeAnew path view = undisturbed_leaves_are_due key path view s good alone p v in
    let deep : 2 ≤ path.depth = elim (cases_lt path.depth 2) [ inl low ↦ absurd (roots-have-none key path link s good alone p last (omega (arith, low, p.some)) m) | inr high ↦ high ] in
    (deep, (anew.above deep, (omega (arith, m.small, views-tell-live key view s good alone v), anew.led)))
