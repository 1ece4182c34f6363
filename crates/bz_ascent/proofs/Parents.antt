-- A parent that was read word by word: its child stood one level below it, and it was full where it lacked the room for a separator.
use Rattle.std.proofs.Common.{◌≡◌, ◌≢◌, ℕ, ◌+◌, ◌<◌, ◌==◌, false, List, arith, ap, subst, ◌∙◌, inl, inr}
use Rattle.std.specs.Prelude.{length, map}
use Rattle.std.proofs.lemmas.Bool.Decides.{nat_tests}
use Rattle.bz_key.specs.Packing.{packed}
use Rattle.bz_key.proofs.PackingLaws.{length-packed}
use Rattle.bz_layout.specs.declared.config.Config.{Config}
use Rattle.bz_layout.specs.declared.sizes.TheConstants.{SHARED_WORDS}
use Rattle.bz_layout.specs.declared.thresholds.TheConstants.{INNER_LIMIT}
use Rattle.bz_layout.proofs.Laws.{full_inner_is_above_limit}
use Rattle.bz_node.specs.Layout.{needed}
use Rattle.bz_node.specs.Reading.{children_in}
use Rattle.bz_node.specs.Records.{child_entry}
use Rattle.bz_tree.specs.Form.{Fits, Stands}
use Rattle.bz_tree.proofs.Proved.{trees_have_forms}
use Rattle.bz_slotted.specs.Readers.{count_of, child_of}
use Rattle.bz_slotted.specs.ReadingLaws.{node_of}
use Rattle.bz_content.specs.Content.{IsWellFormed, view_in}
use Rattle.bz_content.proofs.Proved.{well_formed_images_have_no_fault}
use Rattle.bz_task.specs.Good.{IsGood}
use Rattle.bz_task.specs.Instant.{Instant, durable, page_at, form_at}
use Rattle.bz_task.specs.Scene.{Past}
use Rattle.bz_task.specs.declared.path.Link.{Link}
use Rattle.bz_task.proofs.Proved.{headers_say_the_level}
use Rattle.bz_branch.specs.FromBelow.Parents.{WasParent}

-- a good memory is a tree, which has a form
fits : (c : Config) (x : Instant) → IsGood c x → Fits (view_in c x.image) (form_at c x)
fits c x g =
    let w : IsWellFormed c x.image = (well_formed_images_have_no_fault c x.image).0 g.form in
    trees_have_forms (view_in c x.image) w.tree.one w.tree.tall w.tree.none

other : (a b : ℕ) → a ≢ b → (a == b) ≡ false
other a b ne = grind (arith, nat_tests)

module _ (p : Past) (upper lower : Link) (m i : ℕ) (sep read : List ℕ) (g : IsGood p.config (p.at m)) (w : WasParent upper lower m i sep read p) where
  pub within : upper.slot < p.config.nodes
  within = g.slots upper.slot w.reached

  below_top : upper.slot ≢ p.config.nodes
  below_top e = absurd (omega (arith, within, e))

  inner : 0 < (page_at p.config (p.at m) upper.slot).level
  inner = omega (arith, w.parent.inner, w.level_is, (headers_say_the_level p.config (p.at m) upper.slot g below_top w.inside).level)

  -- reads of it answer what the image has
  pub has : durable p.config (p.at m) upper.slot ≡ node_of read
  has = (λ t i. g.shown upper.slot i w.reached (inr (inr (inl inner))) t) ∙ w.were

  count : (view_in p.config (p.at m).image).count upper.slot ≡ length (children_in read)
  count = rw (other upper.slot p.config.nodes below_top) (ap count_of has ∙ w.parent.partable.has.count)

  child : (view_in p.config (p.at m).image).child upper.slot i ≡ lower.slot
  child = rw (other upper.slot p.config.nodes below_top) (ap (λ n. child_of n i) has ∙ (w.parent.partable.has.child i w.parent.partable.may.within ∙ w.parent.there))

  -- the child stood below it then
  pub stands : Stands (view_in p.config (p.at m).image) (form_at p.config (p.at m)) upper.slot i lower.slot
  stands = subst (λ z. Stands (view_in p.config (p.at m).image) (form_at p.config (p.at m)) upper.slot i z) child
      ((fits p.config (p.at m) g).down upper.slot i w.inside (omega (arith, w.parent.inner, w.level_is)) (omega (arith, w.parent.partable.may.within, count)))

  pub full : SHARED_WORDS < needed (map child_entry (children_in read)) + 2 + length (packed sep) → INNER_LIMIT < needed (map child_entry (children_in read))
  full lacked = full_inner_is_above_limit (needed (map child_entry (children_in read))) (2 + length (packed sep)) (omega (arith, length-packed sep, w.parent.partable.may.key.fits)) (omega (arith, lacked))
