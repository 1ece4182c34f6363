-- A swap on one leaf that leaves it whole is lawful for everybody, and the content follows what the leaf says.
use Rattle.std.proofs.Common.{◌≡◌, ◌≢◌, ℕ, ◌==◌, ◌&&◌, if◌then◌else◌, Bool, true, false, List, arith, refl, sym, ap, ◌∙◌, inl, inr}
use Rattle.std.specs.Prelude.{bytes_eq}
use Rattle.std.proofs.lemmas.Bool.{cases_eq}
use Rattle.std.proofs.lemmas.Bool.Decides.{nat_tests}
use Rattle.std.proofs.lemmas.Slice.Eq.{bytes_eq-Decides}
use Rattle.bz_tree.specs.Order.{is_at_least, is_below, is_within}
use Rattle.bz_tree.proofs.Proved.{leaves_tile_the_keys}
use Rattle.bz_content.specs.FromSlotted.Readers.{found_of}
use Rattle.bz_word.specs.declared.entry.Entry.{Entry}
use Rattle.bz_content.specs.Content.{content_in, leaf_in, view_in, IsWellFormed}
use Rattle.bz_content.proofs.Proved.{well_formed_images_have_no_fault}
use Rattle.bz_task.specs.Instant.{Instant, durable, form_at}
use Rattle.bz_task.specs.LeafSwaps.{SaysAsItShould, IsLeafSwap, LeafSwapsAreGood}
use Rattle.bz_task.specs.PairSwaps.{IsLeafChanged, IsPairSwap, IsLawfulSwap, PairSays}
use Rattle.bz_task.specs.Scene.{Scene, IsScene, here}
use Rattle.bz_task.specs.Swaps.{Change, ContentFollows}
use Rattle.bz_task.proofs.PairSwaps.{pair-swaps}

and-left : (a b : Bool) → (a && b) ≡ true → a ≡ true
and-left true b e = refl
and-left false b e = e

and-right : (a b : Bool) → (a && b) ≡ true → b ≡ true
and-right true b e = e
and-right false b e = absurd (cc)

-- a leaf of the tree that is changed
module _ (s : Scene) (k : ℕ) (y : Instant) (good : IsScene s) (d : IsLeafChanged s k y) where
  was : IsWellFormed s.past.config (here s).image
  was = (well_formed_images_have_no_fault s.past.config (here s).image).0 (good.history.good s.past.now good.begun (omega arith)).form

  -- the content of its keys is what it says
  pub at-leaf : (key : List ℕ) → leaf_in s.past.config (here s).image key ≡ k → content_in s.past.config (here s).image key ≡ found_of (durable s.past.config (here s) k) key
  at-leaf key e =
      let far : k ≢ s.past.config.nodes = (λ q. omega (arith, q, d.slot)) in
      let below : (k == s.past.config.nodes) ≡ false = grind (arith, nat_tests, far) in
      ap (λ z. (view_in s.past.config (here s).image).found z key) e ∙ rw below refl

  -- and its keys are those in its range
  pub in-leaf : (key : List ℕ) → is_within key ((form_at s.past.config (here s)).low k) ((form_at s.past.config (here s)).high k) ≡ true → leaf_in s.past.config (here s).image key ≡ k
  in-leaf key r = (leaves_tile_the_keys (view_in s.past.config (here s).image) was.tree key k).0 (record {
    inside = d.inside;
    leaf = d.leaf;
    low = and-left (is_at_least key ((form_at s.past.config (here s)).low k)) (is_below key ((form_at s.past.config (here s)).high k)) r;
    high = and-right (is_at_least key ((form_at s.past.config (here s)).low k)) (is_below key ((form_at s.past.config (here s)).high k)) r;
  })

module _ (publishes : Bool) (change : Change) (entries : List Entry) (s : Scene) (k : ℕ) (y : Instant) (good : IsScene s) (w : IsLeafSwap publishes change entries s k y) where
  leaf-changed : IsLeafChanged s k y
  leaf-changed = record { inside = w.inside; slot = w.slot; leaf = w.leaf; moves = w.moves; whole = w.whole; shown = w.shown }

  pair : IsPairSwap entries s k k y
  pair = record { swaps = w.swaps; first = leaf-changed; second = leaf-changed; place = λ a t. inl (w.place a t); targets = w.targets }

  both : IsLawfulSwap entries s y × PairSays s.past.config (here s) y k k
  both = pair-swaps entries s k k y good pair

  -- the content follows what the leaf says
  follows : (p : Bool) → SaysAsItShould p change (durable s.past.config (here s) k) (durable s.past.config y k) ((form_at s.past.config (here s)).low k) ((form_at s.past.config (here s)).high k) → ContentFollows p change s.past.config (here s) y
  follows true says = record {
    before = at-leaf s k y good leaf-changed change.key (in-leaf s k y good leaf-changed change.key says.range) ∙ says.before;
    after = λ key. elim (cases_eq (leaf_in s.past.config (here s).image key) k) [
      | inl e ↦ both.1.first key e ∙ (says.after key ∙ ap (λ z. if bytes_eq key change.key then change.new else z) (sym (at-leaf s k y good leaf-changed key e)))
      | inr ne ↦ both.1.other key ne ne ∙ another key ne (bytes_eq key change.key) refl
    ];
  }
    where
      another : (key : List ℕ) → leaf_in s.past.config (here s).image key ≢ k → (t : Bool) → bytes_eq key change.key ≡ t
          → content_in s.past.config (here s).image key ≡ if bytes_eq key change.key then change.new else content_in s.past.config (here s).image key
      another key ne true e = absurd (ne (ap (leaf_in s.past.config (here s).image) ((bytes_eq-Decides key change.key).0 e) ∙ in-leaf s k y good leaf-changed change.key says.range))
      another key ne false e = rw e refl
  follows false says = λ key. elim (cases_eq (leaf_in s.past.config (here s).image key) k) [
    | inl e ↦ both.1.first key e ∙ (says key ∙ sym (at-leaf s k y good leaf-changed key e))
    | inr ne ↦ both.1.other key ne ne
  ]

pub leaf-swaps : LeafSwapsAreGood
leaf-swaps publishes change entries s k y good w = let it = both publishes change entries s k y good w in record {
  targets = it.0.targets;
  good = it.0.good;
  step = it.0.step;
  content = follows publishes change entries s k y good w publishes w.says;
  linked = it.0.linked;
  linked_durable = it.0.linked_durable;
  shown = it.0.shown;
}
