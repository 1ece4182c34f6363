-- The leaf of another key stays while a leaf, or a node above, is made anew; and a merge gives room to the keys of both leaves.
use Rattle.std.proofs.Common.{◌≡◌, ◌≢◌, ◌⊎◌, ℕ, ◌+◌, ◌<◌, ◌==◌, ◌||◌, if◌then◌else◌, Bool, true, false, List, [], ◌∷◌, arith, refl, sym, ap, subst, ◌∙◌, inl, inr}
use Rattle.std.proofs.lemmas.Bool.Decides.{nat_tests}
use Rattle.bz_layout.specs.declared.config.Config.{Config}
use Rattle.bz_tree.proofs.Proved.{leaves_tile_the_keys}
use Rattle.bz_tree.proofs.TreeForms.{fits}
use Rattle.bz_tree.proofs.Trees.{among-first, among-later}
use Rattle.bz_tree.specs.Descent.{leaf_of}
use Rattle.bz_tree.specs.Form.{Fits, Hangs, Holds}
use Rattle.bz_tree.specs.Outcomes.{SameTree}
use Rattle.bz_tree.specs.Walk.{is_among, IsTree}
use Rattle.bz_slotted.specs.Page.{page}
use Rattle.bz_slotted.specs.Readers.{level_of}
use Rattle.bz_content.proofs.Proved.{consolidations_keep_the_content, merges_keep_the_content, quiet_swaps_keep_the_content, root_splits_keep_the_content, splits_keep_the_content}
use Rattle.bz_content.proofs.Reached.{level-at, level-is, root-below, root-stands}
use Rattle.bz_content.proofs.Sames.{node-same}
use Rattle.bz_content.specs.Changes.{SameNode}
use Rattle.bz_content.specs.Image.{Image, node, root}
use Rattle.bz_content.specs.Swaps.{form_in}
use Rattle.bz_content.specs.View.{view_of}
use Rattle.bz_leaves.specs.Neighbours.{leaf_page}
use Rattle.bz_stage.proofs.Anew.{leaf-anew}
use Rattle.bz_stage.proofs.Exchanges.{path-stays}
use Rattle.bz_stage.proofs.Paths.{leaf-on-path}
use Rattle.bz_stage.specs.Others.{LeafStays, LinksLeaveOtherLeaves, OthersStay, RoomStays, MergesGiveRoom}
use Rattle.bz_stage.specs.Rooms.{has_room}
use Rattle.bz_stage.specs.Stages.{frozen_stage, full_above, stage}
use Rattle.bz_stage.specs.Swaps.{IsRoomyLeaf}

-- a list without a slot
not-two : (a b k : ℕ) → k ≢ a → k ≢ b → is_among (a ∷ b ∷ []) k ≡ false
not-two a b k m n =
    let t : (a == k) ≡ false = grind (arith, nat_tests) in
    let u : (b == k) ≡ false = grind (arith, nat_tests) in rw (t, u) refl

not-three : (a b d k : ℕ) → k ≢ a → k ≢ b → k ≢ d → is_among (a ∷ b ∷ d ∷ []) k ≡ false
not-three a b d k m n o = let t : (a == k) ≡ false = grind (arith, nat_tests) in rw t (not-two b d k n o)

not-one : (a k : ℕ) → k ≢ a → is_among (a ∷ []) k ≡ false
not-one a k m = let t : (a == k) ≡ false = grind (arith, nat_tests) in rw t refl

-- the leaf of a key
module _ (c : Config) (x : Image) (key : List ℕ) (t : IsTree (view_of c x)) where
  g : Fits (view_of c x) (form_in c x)
  g = fits (view_of c x) t

  its : Holds (form_in c x) key (leaf_of (view_of c x) key)
  its = (leaves_tile_the_keys (view_of c x) t key (leaf_of (view_of c x) key)).1 refl

  below : leaf_of (view_of c x) key ≢ c.nodes
  below e = absurd (omega (arith, g.tall, g.height, its.leaf, ap (form_in c x).level e))

  -- it is no inner node
  no-inner : (p : ℕ) → 0 < (form_in c x).level p → leaf_of (view_of c x) key ≢ p
  no-inner p l e = absurd (omega (arith, l, its.leaf, ap (form_in c x).level e))

-- where slot and words are the same, the page is
stays : (c : Config) (x y : Image) (key : List ℕ) → leaf_of (view_of c y) key ≡ leaf_of (view_of c x) key → node c y.words (leaf_of (view_of c x) key) ≡ node c x.words (leaf_of (view_of c x) key) → LeafStays c x y key
stays c x y key slot words = record { slot = slot; words = words; page = ap (λ k. page (node c y.words k)) slot ∙ ap page words }

pub links : LinksLeaveOtherLeaves
links c x y p i to gone new key t s r far = stays c x y key slot (node-same c (leaf_of (view_of c x) key) x.words y.words same.words)
  where
    slot : leaf_of (view_of c y) key ≡ leaf_of (view_of c x) key
    slot =
        leaf-on-path (view_of c y) key
        ∙ path-stays (view_of c x) (view_of c y) gone new t r.content.tree refl r.slots key 0 t.tall (omega arith) (subst (λ j. is_among gone j ≡ false) (leaf-on-path (view_of c x) key) far)
        ∙ sym (leaf-on-path (view_of c x) key)

    same : SameNode c x y (leaf_of (view_of c x) key)
    same = s.others (leaf_of (view_of c x) key) (its c x key t).inside (below c x key t) (no-inner c x key t p s.inner) far

-- the parent of a slot is an inner node
parent : (c : Config) (x : Image) (a : ℕ) → IsTree (view_of c x) → (form_in c x).inside a ≡ true → a ≢ c.nodes → 0 < (form_in c x).level ((form_in c x).up a)
parent c x a t inside ne = let h : Hangs (view_of c x) (form_in c x) a = (fits (view_of c x) t).hangs a inside ne in h.inner

-- a leaf is not the superblock
leaf-below : (c : Config) (x : Image) (a : ℕ) → IsTree (view_of c x) → (form_in c x).level a ≡ 0 → a ≢ c.nodes
leaf-below c x a t l e = let h : Fits (view_of c x) (form_in c x) = fits (view_of c x) t in absurd (omega (arith, h.tall, h.height, l, ap (form_in c x).level e))

pub others-stay : OthersStay
others-stay = record {
  freeze = λ c x y key k t s ne.
      let kept : SameTree (view_of c x) (view_of c y) = (quiet_swaps_keep_the_content c x y k t s.on_leaf (inr (inr (inl s.restamps)))).0 in
      let same : SameNode c x y (leaf_of (view_of c x) key) = s.on_leaf.others (leaf_of (view_of c x) key) (its c x key t).inside (below c x key t) ne in
      stays c x y key (kept.leaf key) (node-same c (leaf_of (view_of c x) key) x.words y.words same.words);
  copy = λ c x y key old new t s ne.
      links c x y ((form_in c x).up old) ((form_in c x).index old) new (old ∷ []) (new ∷ []) key t s.link (consolidations_keep_the_content c x y old new t s) (not-one old (leaf_of (view_of c x) key) ne);
  split = λ c x y key a q l r m sep t s ne.
      links c x y ((form_in c x).up ((form_in c x).up a)) ((form_in c x).index ((form_in c x).up a)) q (a ∷ (form_in c x).up a ∷ []) (q ∷ l ∷ r ∷ []) key t s.link (splits_keep_the_content c x y a q l r m sep t s)
      (not-two a ((form_in c x).up a) (leaf_of (view_of c x) key) ne (no-inner c x key t ((form_in c x).up a) (parent c x a t s.inside s.not_top)));
  inner_split = λ c x y key a q l r m sep t s inner.
      links c x y ((form_in c x).up ((form_in c x).up a)) ((form_in c x).index ((form_in c x).up a)) q (a ∷ (form_in c x).up a ∷ []) (q ∷ l ∷ r ∷ []) key t s.link (splits_keep_the_content c x y a q l r m sep t s)
      (not-two a ((form_in c x).up a) (leaf_of (view_of c x) key) (no-inner c x key t a inner) (no-inner c x key t ((form_in c x).up a) (parent c x a t s.inside s.not_top)));
  root_split = λ c x y key q l r m sep t s inner.
      let level : level_of (node c x.words (root x.words)) ≡ (form_in c x).level (root x.words) = level-at c x (root x.words) (fits (view_of c x) t) (root-stands c x (fits (view_of c x) t)).inside (root-below c x (fits (view_of c x) t)) in
      links c x y c.nodes 0 q (root x.words ∷ []) (q ∷ l ∷ r ∷ []) key t s.link (root_splits_keep_the_content c x y q l r m sep t s)
      (not-one (root x.words) (leaf_of (view_of c x) key) (no-inner c x key t (root x.words) (omega (arith, level, inner))));
  merge = λ c x y key a b q m sep t s na nb.
      links c x y ((form_in c x).up ((form_in c x).up a)) ((form_in c x).index ((form_in c x).up a)) q (a ∷ b ∷ (form_in c x).up a ∷ []) (q ∷ m ∷ []) key t s.link (merges_keep_the_content c x y a b q m sep t s)
      (not-three a b ((form_in c x).up a) (leaf_of (view_of c x) key) na nb (no-inner c x key t ((form_in c x).up a) (parent c x a t s.inside (leaf-below c x a t s.leaf))));
}

pub room-stays : RoomStays
room-stays c x y key words s ready = go (has_room (leaf_page c x key) words) (leaf_page c x key).frozen refl refl ready
  where
    none : has_room (leaf_page c x key) words ≡ true → stage c y key words ≡ 0
    none e = let room : has_room (leaf_page c y key) words ≡ true = ap (λ p. has_room p words) s.page ∙ e in rw room refl

    go : (t f : Bool) → has_room (leaf_page c x key) words ≡ t → (leaf_page c x key).frozen ≡ f
        → (if t then 0 else (if f then frozen_stage (leaf_page c x key) (full_above c x key) else 1 + frozen_stage (leaf_page c x key) (full_above c x key))) ≡ 0 → stage c y key words ≡ 0
    go true f e q h = none e
    go false true e q h = absurd (omega (arith, h))
    go false false e q h = absurd (omega (arith, h))

two-cases : (q m k : ℕ) → is_among (q ∷ m ∷ []) k ≡ true → (k ≡ q) ⊎ (k ≡ m)
two-cases q m k e = go (q == k) (m == k) refl refl e
  where
    go : (t u : Bool) → (q == k) ≡ t → (m == k) ≡ u → t || (u || false) ≡ true → (k ≡ q) ⊎ (k ≡ m)
    go true u a b h = inl (grind (arith, nat_tests))
    go false true a b h = inr (grind (arith, nat_tests))
    go false false a b h = absurd (cc)

pub merges-give-room : MergesGiveRoom
merges-give-room c x y key words a b q m sep t s at roomy few =
    leaf-anew c x y key words (a ∷ b ∷ (form_in c x).up a ∷ []) (q ∷ m ∷ []) t (merges_keep_the_content c x y a b q m sep t s)
    (elim at [ inl e ↦ among-first a (leaf_of (view_of c x) key) (b ∷ (form_in c x).up a ∷ []) e | inr e ↦ among-later a (leaf_of (view_of c x) key) (b ∷ (form_in c x).up a ∷ []) (among-first b (leaf_of (view_of c x) key) ((form_in c x).up a ∷ []) e) ])
    (λ k e flat. elim (two-cases q m k e) [
      | inl z ↦ absurd (omega (arith, parent c x a t s.inside (leaf-below c x a t s.leaf), level-is c.nodes ((form_in c x).level ((form_in c x).up a)) (node c y.raw q) (node c y.words q) _ _ s.whole_q, flat, ap (λ j. level_of (node c y.words j)) z))
      | inr z ↦ subst (λ j. IsRoomyLeaf c y j) (sym z) roomy
    ]) few
