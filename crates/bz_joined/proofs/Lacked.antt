-- Where no neighbour of the key's leaf had room for it, none has while nobody's swap takes effect: what was read of the two and of the node
-- above them is so now.
use Rattle.std.proofs.Common.{◌≡◌, ◌≢◌, ℕ, ◌+◌, ◌<◌, true, List, arith, ap, subst, ◌∙◌, inl, inr, Option}
use Rattle.bz_layout.specs.declared.config.Config.{Config}
use Rattle.bz_merge.specs.Facts.{NoneFitted}
use Rattle.bz_merge.specs.Plans.{LackedAt}
use Rattle.bz_merge.specs.Siblings.{SeenLeaf, WasSeen}
use Rattle.bz_tree.specs.Form.{Fits, Form}
use Rattle.bz_tree.specs.View.{View}
use Rattle.bz_slotted.specs.Page.{page}
use Rattle.bz_slotted.specs.Readers.{child_of, count_of, live_of}
use Rattle.bz_slotted.specs.ReadingLaws.{node_of}
use Rattle.bz_slotted.specs.Records.{live_words}
use Rattle.bz_content.specs.Content.{image_of, leaf_in, view_in}
use Rattle.bz_stage.specs.FromLeaves.Neighbours.{parent_in, place_in, own_live, beside_live, MayBeMerged}
use Rattle.bz_task.specs.Good.{IsGood}
use Rattle.bz_task.specs.Instant.{durable, form_at, is_inside}
use Rattle.bz_task.specs.Scene.{Scene, IsScene, here}
use Rattle.bz_task.specs.declared.path.Link.{Link}
use Rattle.bz_rounds.specs.FromAlone.Undisturbed.{IsUndisturbed}
use Rattle.bz_rounds.specs.FromAlone.MadeFor.{WasLeafOf}
use Rattle.bz_rounds.specs.FromAlone.Quiet.{IsQuietSince, IsIn}
use Rattle.bz_rounds.specs.FromAlone.Trees.{SameTree}
use Rattle.bz_rounds.proofs.FromAlone.Proved.{undisturbed_times_are_quiet, trees_stand}
use Rattle.bz_joined.specs.Neighbours.{WasReadBelow, UndisturbedNeighboursLackRoom}
use Rattle.bz_joined.proofs.Alike.{live-is}
use Rattle.bz_joined.proofs.Families.{count-is, child-is, high-inside, up-is, index-is}
use Rattle.bz_joined.proofs.SeenLeaves.{below, live-then}
use Rattle.bz_joined.proofs.Quiet.{fits-at, inner-read, same-tree, live-same, inner-same}

module _ (s : Scene) (good : IsScene s) (alone : IsUndisturbed 0 s.past) where
  abbrev c : Config
  c = s.past.config

  q : IsQuietSince s.past.since s.past
  q = undisturbed_times_are_quiet.whole s good alone

  now : IsIn s.past.since s.past s.past.now
  now = record { from = good.begun; to = omega arith }

  -- a leaf that was seen has the live words now that were seen
  module _ (l : SeenLeaf) (at : ℕ) (low high : Option (List ℕ)) (w : WasSeen l at low high s.past) where
    then-it : IsIn s.past.since s.past at
    then-it = record { from = w.stood.since; to = w.stood.now }

    live-now : live_words (page (durable s.past.config (here s) l.slot)) ≡ live_of (node_of l.image)
    live-now = live-same s s.past.since at s.past.now good q then-it now l.slot (below s good l at low high w) w.stood.inside ∙ (live-is (durable c (s.past.at at) l.slot) ∙ live-then s good l at low high w)

  -- the node above, of which these words were read
  module _ (key : List ℕ) (upper lower : Link) (read-leaf : List ℕ) (was : WasLeafOf key lower.slot s.past) (r : WasReadBelow upper lower read-leaf s.past) (f : NoneFitted upper lower read-leaf s.past) where
    abbrev v : View
    v = view_in s.past.config (here s).image

    abbrev fm : Form
    fm = form_at s.past.config (here s)

    abbrev u : ℕ
    u = upper.slot

    in-time : IsIn s.past.since s.past f.moment
    in-time = record { from = f.since; to = f.now }

    old-good : IsGood s.past.config (s.past.at f.moment)
    old-good = good.history.good f.moment f.since f.now

    good-now : IsGood s.past.config (here s)
    good-now = good.history.good s.past.now good.begun (omega arith)

    not-top : upper.slot ≢ s.past.config.nodes
    not-top e = absurd (omega (arith, e, r.above))

    high-then : 0 < (form_at s.past.config (s.past.at f.moment)).level upper.slot
    high-then = omega (arith, f.old.level_is, f.old.inner)

    inside-then : is_inside s.past.config (s.past.at f.moment) upper.slot ≡ true
    inside-then = high-inside (view_in c (s.past.at f.moment).image) u high-then

    same : SameTree s.past.config (s.past.at f.moment) (here s)
    same = same-tree s s.past.since f.moment s.past.now good q in-time now

    node-now : durable s.past.config (here s) upper.slot ≡ node_of f.read
    node-now =
        inner-same s s.past.since f.moment s.past.now good q in-time now u not-top inside-then high-then
        ∙ (inner-read c (s.past.at f.moment) old-good u not-top inside-then high-then ∙ f.old.were)

    inside-now : is_inside s.past.config (here s) upper.slot ≡ true
    inside-now = same.inside u ∙ inside-then

    high-now : 0 < (form_at s.past.config (here s)).level upper.slot
    high-now = omega (arith, high-then, (same.place u not-top inside-then).level)

    count-now : (view_in s.past.config (here s).image).count upper.slot ≡ count_of (node_of f.read)
    count-now = count-is c (image_of (here s).image) u not-top ∙ ap count_of node-now

    child-now : (j : ℕ) → (view_in s.past.config (here s).image).child upper.slot j ≡ child_of (node_of f.read) j
    child-now j = child-is c (image_of (here s).image) u j not-top ∙ ap (λ n. child_of n j) node-now

    fits-now : Fits (view_in s.past.config (here s).image) (form_at s.past.config (here s))
    fits-now = fits-at c (here s) good-now

    -- the key's leaf is the one that was read
    leaf-now : leaf_in s.past.config (here s).image key ≡ lower.slot
    leaf-now = (trees_stand s s.past.since was.moment s.past.now good q (record { from = was.since; to = was.now }) now).leaf key ∙ was.leaf

    within-now : f.place < (view_in s.past.config (here s).image).count upper.slot
    within-now = omega (arith, f.own.within, count-now)

    up-now : parent_in s.past.config (here s).image key ≡ upper.slot
    up-now = ap fm.up leaf-now ∙ up-is v fm fits-now u f.place lower.slot inside-now high-now within-now (child-now f.place ∙ f.own.there)

    place-now : place_in s.past.config (here s).image key ≡ f.place
    place-now = ap fm.index leaf-now ∙ index-is v fm fits-now u f.place lower.slot inside-now high-now within-now (child-now f.place ∙ f.own.there)

    own-now : own_live s.past.config (here s).image key ≡ live_of (node_of read-leaf)
    own-now = ap (λ k. live_words (page (durable c (here s) k))) leaf-now ∙ live-now (record { slot = lower.slot; status = r.status; image = read-leaf }) r.at r.low r.high r.seen

    beside-now : (j : ℕ) (l : LackedAt f.read read-leaf j s.past) → beside_live s.past.config (here s).image key j ≡ live_of (node_of l.other.image)
    beside-now j l =
        ap (λ k. live_words (page (durable c (here s) (v.child k j)))) up-now
        ∙ (ap (λ k. live_words (page (durable c (here s) k))) (child-now j ∙ l.slot) ∙ live-now l.other l.at l.low l.high l.seen)

    -- the neighbour that it could be merged with was found to lack the room
    module _ (m : MayBeMerged s.past.config (here s).image key) where
      counted : m.place < count_of (node_of f.read)
      counted = omega (arith, m.within, ap v.count up-now, count-now)

      lacked : LackedAt f.read read-leaf m.place s.past
      lacked = elim m.next [
        | inl after ↦ (
            let e : f.place + 1 ≡ m.place = omega (arith, after, place-now) in
            subst (λ j. LackedAt f.read read-leaf j s.past) e (f.right (omega (arith, e, counted))))
        | inr before ↦ f.left m.place (omega (arith, before, place-now))
      ]

      pub no-room : ⊥
      no-room = absurd (omega (arith, m.room, lacked.many, own-now, beside-now m.place lacked))

pub undisturbed-lack : UndisturbedNeighboursLackRoom
undisturbed-lack key upper lower leaf s good alone was r f m = no-room s good alone key upper lower leaf was r f m
