-- In a quiet time the key's leaf has the neighbours that it had, with as many live words.
use Rattle.std.proofs.Common.{◌≡◌, ◌≢◌, ℕ, ◌+◌, ◌<◌, true, List, arith, refl, sym, ap, ◌∙◌, inl, inr}
use Rattle.bz_layout.specs.declared.config.Config.{Config}
use Rattle.bz_tree.specs.Form.{Fits, Form, Hangs, Holds, Stands}
use Rattle.bz_tree.specs.View.{View}
use Rattle.bz_tree.proofs.Proved.{leaves_tile_the_keys}
use Rattle.bz_slotted.specs.Page.{page}
use Rattle.bz_slotted.specs.Readers.{child_of, count_of}
use Rattle.bz_slotted.specs.Records.{live_words}
use Rattle.bz_content.specs.Content.{image_of, leaf_in, view_in}
use Rattle.bz_stage.specs.FromLeaves.Neighbours.{parent_in, place_in, own_live, beside_live, MayBeMerged}
use Rattle.bz_task.specs.Instant.{Instant, durable, form_at, is_inside}
use Rattle.bz_task.specs.Scene.{Scene, IsScene}
use Rattle.bz_rounds.specs.FromAlone.Quiet.{IsQuietSince, IsIn}
use Rattle.bz_rounds.specs.FromAlone.Trees.{SameTree}
use Rattle.bz_joined.specs.Neighbours.{NeighboursStand}
use Rattle.bz_joined.proofs.Families.{count-is, child-is, up-is, index-is}
use Rattle.bz_joined.proofs.Quiet.{fits-at, tree-at, good-first, good-second, same-tree, live-same, inner-same}

module _ (s : Scene) (m i j : ℕ) (key : List ℕ) (good : IsScene s) (q : IsQuietSince m s.past) (in-i : IsIn m s.past i) (in-j : IsIn m s.past j) (h : MayBeMerged s.past.config (s.past.at i).image key) where
  abbrev c : Config
  c = s.past.config

  abbrev x : Instant
  x = s.past.at i

  abbrev y : Instant
  y = s.past.at j

  abbrev v : View
  v = view_in s.past.config (s.past.at i).image

  abbrev w : View
  w = view_in s.past.config (s.past.at j).image

  abbrev f : Form
  f = form_at s.past.config (s.past.at i)

  abbrev g : Form
  g = form_at s.past.config (s.past.at j)

  same : SameTree s.past.config (s.past.at i) (s.past.at j)
  same = same-tree s m i j good q in-i in-j

  fits-x : Fits (view_in s.past.config (s.past.at i).image) (form_at s.past.config (s.past.at i))
  fits-x = fits-at c x (good-first s m i j good q in-i in-j)

  fits-y : Fits (view_in s.past.config (s.past.at j).image) (form_at s.past.config (s.past.at j))
  fits-y = fits-at c y (good-second s m i j good q in-i in-j)

  -- the leaf
  abbrev k : ℕ
  k = leaf_in s.past.config (s.past.at i).image key

  holds : Holds (form_at s.past.config (s.past.at i)) key (leaf_in s.past.config (s.past.at i).image key)
  holds = (leaves_tile_the_keys v (tree-at c x (good-first s m i j good q in-i in-j)) key k).1 refl

  leaf-below : leaf_in s.past.config (s.past.at i).image key ≢ s.past.config.nodes
  leaf-below e = absurd (omega (arith, holds.leaf, fits-x.height, fits-x.tall, ap f.level e))

  -- the node above it, which is not the superblock
  abbrev u : ℕ
  u = parent_in s.past.config (s.past.at i).image key

  hangs : Hangs (view_in s.past.config (s.past.at i).image) (form_at s.past.config (s.past.at i)) (leaf_in s.past.config (s.past.at i).image key)
  hangs = fits-x.hangs k holds.inside leaf-below

  not-top : parent_in s.past.config (s.past.at i).image key ≢ s.past.config.nodes
  not-top e = elim h.next [
    | inl after ↦ absurd (omega (arith, after, h.within, ap v.count e, fits-x.top_one))
    | inr before ↦ absurd (omega (arith, before, hangs.within, ap v.count e, fits-x.top_one))
  ]

  node-same : durable s.past.config (s.past.at j) (parent_in s.past.config (s.past.at i).image key) ≡ durable s.past.config (s.past.at i) (parent_in s.past.config (s.past.at i).image key)
  node-same = inner-same s m i j good q in-i in-j u not-top hangs.inside hangs.inner

  count-same : (view_in s.past.config (s.past.at j).image).count (parent_in s.past.config (s.past.at i).image key) ≡ (view_in s.past.config (s.past.at i).image).count (parent_in s.past.config (s.past.at i).image key)
  count-same = count-is c (image_of y.image) u not-top ∙ (ap count_of node-same ∙ sym (count-is c (image_of x.image) u not-top))

  child-same : (n : ℕ) → (view_in s.past.config (s.past.at j).image).child (parent_in s.past.config (s.past.at i).image key) n ≡ (view_in s.past.config (s.past.at i).image).child (parent_in s.past.config (s.past.at i).image key) n
  child-same n = child-is c (image_of y.image) u n not-top ∙ (ap (λ r. child_of r n) node-same ∙ sym (child-is c (image_of x.image) u n not-top))

  inside-y : is_inside s.past.config (s.past.at j) (parent_in s.past.config (s.past.at i).image key) ≡ true
  inside-y = same.inside u ∙ hangs.inside

  high-y : 0 < (form_at s.past.config (s.past.at j)).level (parent_in s.past.config (s.past.at i).image key)
  high-y = omega (arith, hangs.inner, (same.place u not-top hangs.inside).level)

  within-y : place_in s.past.config (s.past.at i).image key < (view_in s.past.config (s.past.at j).image).count (parent_in s.past.config (s.past.at i).image key)
  within-y = omega (arith, hangs.within, count-same)

  there-y : (view_in s.past.config (s.past.at j).image).child (parent_in s.past.config (s.past.at i).image key) (place_in s.past.config (s.past.at i).image key) ≡ leaf_in s.past.config (s.past.at i).image key
  there-y = child-same (place_in c x.image key) ∙ hangs.child

  parent-same : parent_in s.past.config (s.past.at j).image key ≡ parent_in s.past.config (s.past.at i).image key
  parent-same = ap g.up (same.leaf key) ∙ up-is w g fits-y u (place_in c x.image key) k inside-y high-y within-y there-y

  place-same : place_in s.past.config (s.past.at j).image key ≡ place_in s.past.config (s.past.at i).image key
  place-same = ap g.index (same.leaf key) ∙ index-is w g fits-y u (place_in c x.image key) k inside-y high-y within-y there-y

  own-same : own_live s.past.config (s.past.at j).image key ≡ own_live s.past.config (s.past.at i).image key
  own-same = ap (λ n. live_words (page (durable c y n))) (same.leaf key) ∙ live-same s m i j good q in-i in-j k leaf-below holds.inside

  -- the neighbour
  abbrev o : ℕ
  o = (view_in s.past.config (s.past.at i).image).child (parent_in s.past.config (s.past.at i).image key) h.place

  stands : Stands (view_in s.past.config (s.past.at i).image) (form_at s.past.config (s.past.at i)) (parent_in s.past.config (s.past.at i).image key) h.place
      ((view_in s.past.config (s.past.at i).image).child (parent_in s.past.config (s.past.at i).image key) h.place)
  stands = fits-x.down u h.place hangs.inside hangs.inner h.within

  other-below : (view_in s.past.config (s.past.at i).image).child (parent_in s.past.config (s.past.at i).image key) h.place ≢ s.past.config.nodes
  other-below e = absurd (omega (arith, stands.level, ap f.level e, fits-x.height, (fits-x.hangs u hangs.inside not-top).lower))

  beside-same : beside_live s.past.config (s.past.at j).image key h.place ≡ beside_live s.past.config (s.past.at i).image key h.place
  beside-same =
      ap (λ n. live_words (page (durable c y (w.child n h.place)))) parent-same
      ∙ (ap (λ n. live_words (page (durable c y n))) (child-same h.place) ∙ live-same s m i j good q in-i in-j o other-below stands.inside)

  pub stands-still : MayBeMerged s.past.config (s.past.at j).image key
  stands-still = record {
    small = omega (arith, h.small, own-same);
    place = h.place;
    within = omega (arith, h.within, count-same, ap w.count parent-same);
    next = elim h.next [ inl after ↦ inl (after ∙ ap (λ n. n + 1) (sym place-same)) | inr before ↦ inr (before ∙ sym place-same) ];
    room = omega (arith, h.room, own-same, beside-same);
  }

pub neighbours-stand : NeighboursStand
neighbours-stand s m i j key good q in-i in-j h = stands-still s m i j key good q in-i in-j h
